use Rattle.std.proofs.Common.{◌≡◌, ◌+◌, ◌≤◌, ◌++◌, length, map, sum, vec_len, vec_capacity}
use Rattle.std.specs.List.{flat_map}
use Rattle.crew.proofs.run.gather.Given as goal

abbrev pub invariant-loop-lane : goal.invariant-loop-lane
invariant-loop-lane g l =
    (goal.iterator-loop-lane g).can_next l.lane-iterator
    × (goal.iterator-loop-lane g).is_finite l.lane-iterator
    × (l.passes.items ++ map (λ x. x.pass) l.lane-iterator.rest.items ≡ map (λ x. x.pass) l.fn.lanes.items)
    × (l.all.items ++ flat_map (λ x. x.ends.items) l.lane-iterator.rest.items ≡ flat_map (λ x. x.ends.items) l.fn.lanes.items)
    × (vec_len l.passes + length l.lane-iterator.rest.items ≤ vec_capacity l.passes)
    × (vec_len l.all + sum (map (λ x. length x.ends.items) l.lane-iterator.rest.items) ≤ vec_capacity l.all)
