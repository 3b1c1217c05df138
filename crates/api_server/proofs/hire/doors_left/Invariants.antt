use Rattle.std.proofs.Common.{◌≡◌, ◌+◌, ◌≤◌, ◌++◌, ◌∷◌, [], All, length, map, vec_capacity, vec_len}
use Rattle.api_server.proofs.hire.doors_left.Given as goal

abbrev pub invariant-loop-list : goal.invariant-loop-list
invariant-loop-list g l =
    (goal.iterator-loop-list g).can_next l.list-iterator
    × (goal.iterator-loop-list g).is_finite l.list-iterator
    × (map (λ d. d ∷ []) l.doors.items ++ map (λ x. map (λ w. w.door) x.items) l.list-iterator.rest.items ≡ map (λ x. map (λ w. w.door) x.items) l.fn.lists.items)
    × All (λ x. length x.items ≡ 1) l.list-iterator.rest.items
    × (vec_len l.doors + length l.list-iterator.rest.items ≤ vec_capacity l.doors)
