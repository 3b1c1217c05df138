use Rattle.std.proofs.Common.{ℕ, ◌≡◌, ◌<◌, ◌≤◌, List, [], map, slice_index_or, vec_len, vec_capacity}
use Rattle.sched_job.specs.declared.member.Member.{Member}
use Rattle.sched_job.proofs.deal.empty_lists.Given as goal

abbrev pub invariant-loop : goal.invariant-loop
invariant-loop g l = (vec_len l.lists ≡ l.counter) × (l.counter ≤ l.count) × (l.count ≤ vec_capacity l.lists) × ((k : ℕ) (d : List (Member _)) → k < l.counter → slice_index_or (map (λ x. x.items) l.lists.items) k d ≡ [])
