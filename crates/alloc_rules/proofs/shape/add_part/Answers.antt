use Rattle.std.proofs.Common.{rules, ◌∙◌, length, sym}
use Rattle.request_rows.specs.Wanted.{input_of}
use Rattle.request_rules.specs.Ways.{asked_at}
use Rattle.alloc_rules.proofs.Lists.{slice_rest}
use Rattle.alloc_rules.proofs.Shaping.{part_is}
use Rattle.alloc_rules.proofs.shape.add_part.Goals as goal

pub returns-clause-shaped : goal.returns-clause-shaped
returns-clause-shaped c =
    part_is (input_of c.args.rows.now) (asked_at (input_of c.args.rows.now) c.args.row) c.args.claim.now c.args.results.now c.args.dues.now.items c.add_results.new.dues.items _ c.row-asked.result.now c.has_broken.result c.sits.result
    (sym c.if-not-branch.false ∙ c.in_ok-add_results.ensures.found) (c.in_ok-add_results.ensures.dues c.if-not-branch.false)
    (slice_rest c.deref.result.now c.add_results.new.dues.items c.len-before.result (length c.args.dues.now.items) c.deref.ensures.value (search rules)) c.row-asked.ensures (c.has_broken.ensures ∙ c.requires.broken) c.sits.ensures
