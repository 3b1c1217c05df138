use Rattle.std.proofs.Common.{◌≡◌, ◌+◌, ◌≤◌, ◌++◌, length, map, vec_capacity, vec_len}
use Rattle.api_server.proofs.hire.doors_of.Given as goal

abbrev pub invariant-loop-visited : goal.invariant-loop-visited
invariant-loop-visited g l =
    (goal.iterator-loop-visited g).can_next l.visited-iterator
    × (goal.iterator-loop-visited g).is_finite l.visited-iterator
    × (l.doors.items ++ map (λ v. v.door) l.visited-iterator.rest.items ≡ map (λ v. v.door) l.fn.ends.items)
    × (vec_len l.doors + length l.visited-iterator.rest.items ≤ vec_capacity l.doors)
