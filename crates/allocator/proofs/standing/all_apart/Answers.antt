use Rattle.std.proofs.Common.{List, sym, ap, ◌∙◌}
use Rattle.std.specs.List.{list_all}
use Rattle.request_rules.specs.Rules as rules
use Rattle.request_rows.specs.Wanted.{input_of}
use Rattle.allocator.specs.Placing.{pick_seen}
use Rattle.allocator.proofs.Placed.{placed_end}
use Rattle.allocator.proofs.standing.all_apart.Goals as goal

pub returns : goal.returns
returns c =
    let v = input_of c.args.rows.now in
    sym (ap (λ (ps : List rules.Pick). list_all (λ q. rules.apart v q (pick_seen v c.args.pick)) ps) (placed_end v c.args.slots.now c.args.positions.now c.loop-at.at c.loop-at-test.false)) ∙ c.loop-at.invariant
