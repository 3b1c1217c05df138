use Rattle.std.proofs.Common.{rules, ◌-◌}
use Rattle.request_rows.specs.Wanted.{input_of}
use Rattle.alloc_rules.specs.Rows.{IsDue}
use Rattle.alloc_rules.proofs.Breaking.{each_part, until_broken, until_kept}
use Rattle.alloc_rules.proofs.agreeing.constraint_broken.Goals as goal

pub broken-requires : goal.broken-requires
broken-requires c = each_part (IsDue (input_of c.args.rows.now)) (c.end_of-end.result - c.loop-place.first) c.loop-place.first c.args.dues.now c.requires.dues

pub returns-in-Some : goal.returns-in-Some
returns-in-Some c =
    until_broken (input_of c.args.rows.now) c.args.dues.now c.args.claims.now c.loop-place.place c.loop-place.first c.end_of-end.result c.index-claims-place.result c.in-Some.found c.loop-place-test.true c.index-claims-place.is c.requires.dues c.end_of-end.ensures.is
    (search rules) c.loop-place.invariant

pub loop-place-preserved : goal.loop-place-preserved
loop-place-preserved c =
    until_kept (input_of c.args.rows.now) c.args.dues.now c.args.claims.now c.loop-place.place c.loop-place.first c.end_of-end.result c.index-claims-place.result c.loop-place-test.true c.index-claims-place.is c.requires.dues c.end_of-end.ensures.is
    (search rules) c.loop-place.invariant
