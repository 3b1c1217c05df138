use Rattle.std.proofs.Common.{◌≡◌, ◌+◌, ◌≤◌, ◌++◌, All, [], length, map, vec_len, vec_capacity}
use Rattle.std.specs.Vec.Iter.{into_iter_items}
use Rattle.api_server.specs.Talks.{seen}
use Rattle.api_server.specs.Serving.{terms_of}
use Rattle.api_server.specs.Workers.{hired_as, hired_lists}
use Rattle.api_server.proofs.hire.hire.Given as goal

abbrev pub invariant-loop-door : goal.invariant-loop-door
invariant-loop-door g l =
    (goal.iterator-loop-door g).can_next l.door-iterator
    × (goal.iterator-loop-door g).is_finite l.door-iterator
    × (map (map (λ w. hired_as w.lock.now w.budget w.attempts w.worker w.workers w.connections (seen g.D.Door.share g.D.Door.in_service g.D.Door.served g.D.Door.ended g.D.Door.faults w.door))) (map (λ v. v.items) l.lists.items) ++ hired_lists l.lock (terms_of l.options) l.options.workers l.options.connections l.next (map (seen g.D.Door.share g.D.Door.in_service g.D.Door.served g.D.Door.ended g.D.Door.faults) l.door-iterator.rest.items)
    ≡ hired_lists l.lock (terms_of l.options) l.options.workers l.options.connections 0 (map (seen g.D.Door.share g.D.Door.in_service g.D.Door.served g.D.Door.ended g.D.Door.faults) l.fn.doors.items))
    × All (λ e. e.items ≡ []) (into_iter_items l.each)
    × All (λ e. 1 ≤ vec_capacity e) (into_iter_items l.each)
    × (length (into_iter_items l.each) ≡ length l.door-iterator.rest.items)
    × (vec_len l.lists + length l.door-iterator.rest.items ≤ vec_capacity l.lists)
    × (l.next + length l.door-iterator.rest.items ≡ length l.fn.doors.items)
