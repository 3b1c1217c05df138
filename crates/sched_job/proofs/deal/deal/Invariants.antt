use Rattle.std.proofs.Common.{ℕ, ◌≡◌, ◌+◌, ◌<◌, ◌++◌, List, length, map, slice_index_or}
use Rattle.sched_job.specs.declared.member.Member.{Member}
use Rattle.sched_job.specs.Dealt.{AreMembers, AreReady, dealt, works_in}
use Rattle.sched_job.proofs.deal.deal.Given as goal

abbrev pub invariant-loop-work : goal.invariant-loop-work
invariant-loop-work g l =
    (goal.iterator-loop-work g).can_next l.work-iterator
    × (goal.iterator-loop-work g).is_finite l.work-iterator
    × (length l.lists.items ≡ l.workers)
    × (l.next + length l.work-iterator.rest.items ≡ length l.fn.works.items)
    × AreReady l.work-iterator.rest.items
    × ((k : ℕ) (d : List (Member _)) → k < l.workers → works_in (slice_index_or (map (λ x. x.items) l.lists.items) k d) ++ dealt k l.workers l.next l.work-iterator.rest.items ≡ dealt k l.workers 0 l.fn.works.items)
    × ((k : ℕ) (d : List (Member _)) → k < l.workers → AreMembers l.lock l.budget (slice_index_or (map (λ x. x.items) l.lists.items) k d))
