use Rattle.std.proofs.Common.{◌∙◌, ap}
use Rattle.allocations.specs.Lacking.{Dates, freed_for}
use Rattle.node_memo.proofs.PoolDates.{kept_same, room_same}
use Rattle.node_memo.proofs.dates.Dates.make_room.Goals as goal

pub invariant_of-self-2 : goal.invariant_of-self-2
invariant_of-self-2 c =
    kept_same c.self.inside.freed c.insert.new.self c.self.inside.latest c.self.inside.numbered c.self.invariant
    (λ p. room_same c.self.inside.freed c.insert.new.self c.args.pool.now c.in_ok-name.name p c.contains_key.result c.contains_key.ensures c.if-contains_key.false c.in_ok-name.ensures c.in_ok-insert.ensures.ok)

pub returns-clause-freed : goal.returns-clause-freed
returns-clause-freed c = λ p.
    room_same c.self.inside.freed c.insert.new.self c.args.pool.now c.in_ok-name.name p c.contains_key.result c.contains_key.ensures c.if-contains_key.false c.in_ok-name.ensures c.in_ok-insert.ensures.ok
    ∙ ap (λ (d : Dates). freed_for d p) c.self.view_is
