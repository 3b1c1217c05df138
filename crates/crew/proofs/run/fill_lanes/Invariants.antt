use Rattle.std.proofs.Common.{◌≡◌, ◌+◌, ◌≤◌, ◌++◌, All, [], length, map, vec_len, vec_capacity}
use Rattle.std.specs.Vec.Iter.{into_iter_items}
use Rattle.crew.proofs.run.fill_lanes.Given as goal

abbrev pub invariant-loop-list : goal.invariant-loop-list
invariant-loop-list g l =
    (goal.iterator-loop-list g).can_next l.list-iterator
    × (goal.iterator-loop-list g).is_finite l.list-iterator
    × (map (λ x. x.pass) l.lanes.items ++ into_iter_items l.passes ≡ l.fn.passes.items)
    × (map (λ x. into_iter_items x.jobs) l.lanes.items ++ map (λ v. v.items) l.list-iterator.rest.items ≡ map (λ v. v.items) l.fn.jobs.items)
    × All (λ x. x.ends.items ≡ []) l.lanes.items
    × All (λ e. e.items ≡ []) (into_iter_items l.each)
    × (map (λ e. vec_capacity e) (into_iter_items l.each) ≡ map (λ v. length v.items) l.list-iterator.rest.items)
    × (length (into_iter_items l.passes) ≡ length l.list-iterator.rest.items)
    × (vec_len l.lanes + length l.list-iterator.rest.items ≤ vec_capacity l.lanes)
