use Rattle.std.proofs.Common.{drop}
use Rattle.std.proofs.lemmas.List.{drop_all}
use Rattle.allocator.proofs.Constraining.{fits_all, fits_first, fits_next, fits_stops}
use Rattle.allocator.proofs.agreements.all_fit.Goals as goal

pub loop-one-init : goal.loop-one-init
loop-one-init c = fits_first c.args.claim c.args.picked.now c.args.agreements.now

pub loop-one-preserved : goal.loop-one-preserved
loop-one-preserved c = fits_next c.args.claim c.args.picked.now c.args.agreements.now c.loop-one.one-index c.one-item.result c.fits.result c.loop-one-test.true c.one-item.is c.fits.ensures c.if-not-fits.false c.loop-one.invariant

pub returns-then-not-fits : goal.returns-then-not-fits
returns-then-not-fits c = fits_stops c.args.claim c.args.picked.now c.args.agreements.now c.loop-one.one-index c.one-item.result c.fits.result c.loop-one-test.true c.one-item.is c.fits.ensures c.if-not-fits.true c.loop-one.invariant

pub returns : goal.returns
returns c = fits_all c.args.claim c.args.picked.now c.args.agreements.now (drop c.loop-one.one-index c.args.agreements.now) (drop_all c.loop-one.one-index c.args.agreements.now c.loop-one-test.false) c.loop-one.invariant
