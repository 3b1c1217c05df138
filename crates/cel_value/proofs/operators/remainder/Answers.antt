use Rattle.std.proofs.Common.{◌≡◌, ap, sym, ◌∙◌, Ok, int_div, w64, true}
use Rattle.std.proofs.lemmas.Int.{rem_is}
use Rattle.cel_value.specs.Values.{fits, int}
use Rattle.cel_value.proofs.Wide.{wide_quotient, not_zero}
use Rattle.cel_value.proofs.operators.remainder.Goals as goal

pub returns-then-fits : goal.returns-then-fits
returns-then-fits c =
    let q = wide_quotient c.args.left c.args.right c.ranges.left c.ranges.right in
    let t : fits (int_div c.args.left c.args.right) ≡ true = ap fits (sym q) ∙ sym c.fits.ensures ∙ c.if-fits.true in
    let r = rem_is w64 c.args.left c.args.right c.ranges.left c.ranges.right in
    rw (not_zero c.args.right c.if-right-eq0.false, t) (ap Ok (c.int.ensures ∙ ap int r))
