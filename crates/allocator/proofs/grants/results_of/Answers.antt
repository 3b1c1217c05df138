use Rattle.std.proofs.Common.{List, ◌++◌, append-nil, sym, ap, ◌∙◌}
use Rattle.request_rules.specs.Rules as rules
use Rattle.request_rows.specs.Wanted.{input_of}
use Rattle.allocator.specs.Answered.{granted}
use Rattle.allocator.proofs.Placed.{placed_end}
use Rattle.allocator.proofs.grants.results_of.Goals as goal

pub returns : goal.returns
returns c =
    let v = input_of c.args.rows.now in
    sym (append-nil c.loop-at.results)
    ∙ ap (λ (ps : List rules.Pick). c.loop-at.results ++ granted v c.args.claim ps) (sym (placed_end v c.args.slots.now c.args.positions.now c.loop-at.at c.loop-at-test.false))
    ∙ c.loop-at.invariant
