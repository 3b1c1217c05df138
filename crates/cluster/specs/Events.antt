-- What each event does to the state, and what it leaves of its job.
use Rattle.std.specs.Prelude.{ℕ, Bool, ◌==◌, ◌&&◌}
use Rattle.cluster.specs.declared.entry.Event.{Event}
use Rattle.cluster.specs.declared.entry.Event.TheVariants.{Applied, Deleted, Reserved, Refused, Wrote, Conflict, Unreserved, Bound, VerdictGiven, Contended, Released, Adopted, Denied}
use Rattle.cluster.specs.declared.entry.Outcome.{Outcome}
use Rattle.cluster.specs.declared.entry.Outcome.TheVariants as outcome
use Rattle.cluster.specs.declared.entry.JobState.{JobState}
use Rattle.cluster.specs.declared.state.State.{State}
use Rattle.cluster.specs.JobState.{failures, has_failed, has_reserved, is_conflicted, is_fresh, may_try}
use Rattle.cluster.specs.Applied.{with_object, applied_leaves}
use Rattle.cluster.specs.Deleted.{without_object, deleted_leaves}
use Rattle.cluster.specs.Reserved.{with_reserved, reserved_leaves}
use Rattle.cluster.specs.Refused.{with_refusal, refused_leaves}
use Rattle.cluster.specs.Wrote.{with_written, wrote_leaves}
use Rattle.cluster.specs.Conflict.{with_conflict, conflict_leaves}
use Rattle.cluster.specs.Unreserved.{with_unreserved, unreserved_leaves}
use Rattle.cluster.specs.Bound.{with_bound, bound_leaves}
use Rattle.cluster.specs.VerdictGiven.{with_verdict, judged_leaves}
use Rattle.cluster.specs.Contended.{with_contention, contended_leaves}
use Rattle.cluster.specs.Released.{with_released, released_leaves}
use Rattle.cluster.specs.Adopted.{with_adopted, adopted_leaves}
use Rattle.cluster.specs.Denied.{with_denial, denied_leaves}

-- the state after an entry of a job at an index
abbrev pub after : ℕ → ℕ → Event → State → State
after index job (Applied object mode) s = with_object index object s
after index job (Deleted target) s = without_object target s
after index job (Reserved pod plan) s = with_reserved job pod plan s
after index job (Refused pod plan why) s = with_refusal s
after index job (Wrote pod claim seen) s = with_written index pod claim s
after index job (Conflict pod claim had now) s = with_conflict s
after index job (Unreserved pod) s = with_unreserved index pod s
after index job (Bound pod node) s = with_bound pod node s
after index job (VerdictGiven pod verdict) s = with_verdict s
after index job (Contended pod attempts) s = with_contention s
after index job (Released pod) s = with_released index pod s
after index job (Adopted claim status) s = with_adopted index claim status s
after index job (Denied command refusal) s = with_denial s

-- the job's state after its entry at an index
abbrev pub job_state_after : JobState → ℕ → Event → JobState
job_state_after st index (Applied object mode) = applied_leaves index
job_state_after st index (Deleted target) = deleted_leaves index
job_state_after st index (Reserved pod plan) = reserved_leaves st
job_state_after st index (Refused pod plan why) = refused_leaves st
job_state_after st index (Wrote pod claim seen) = wrote_leaves st
job_state_after st index (Conflict pod claim had now) = conflict_leaves st
job_state_after st index (Unreserved pod) = unreserved_leaves st
job_state_after st index (Bound pod node) = bound_leaves index
job_state_after st index (VerdictGiven pod verdict) = judged_leaves index
job_state_after st index (Contended pod attempts) = contended_leaves index
job_state_after st index (Released pod) = released_leaves index
job_state_after st index (Adopted claim status) = adopted_leaves index
job_state_after st index (Denied command refusal) = denied_leaves index

-- a job in this state may make the entry
abbrev pub allows : JobState → Event → Bool
allows st (Applied object mode) = is_fresh st
allows st (Deleted target) = is_fresh st
allows st (Reserved pod plan) = may_try st
allows st (Refused pod plan why) = may_try st
allows st (Wrote pod claim seen) = has_reserved st
allows st (Conflict pod claim had now) = has_reserved st
allows st (Unreserved pod) = is_conflicted st
allows st (Bound pod node) = has_reserved st
allows st (VerdictGiven pod verdict) = may_try st
allows st (Contended pod attempts) = has_failed st && (failures st == attempts)
allows st (Released pod) = is_fresh st
allows st (Adopted claim status) = is_fresh st
allows st (Denied command refusal) = may_try st

-- what became of a command, by the kind of its entry
abbrev pub outcome_of : Event → Outcome
outcome_of (Applied object mode) = outcome.Made
outcome_of (Deleted target) = outcome.Made
outcome_of (Reserved pod plan) = outcome.Made
outcome_of (Refused pod plan why) = outcome.Refused
outcome_of (Wrote pod claim seen) = outcome.Made
outcome_of (Conflict pod claim had now) = outcome.Conflicted
outcome_of (Unreserved pod) = outcome.Made
outcome_of (Bound pod node) = outcome.Made
outcome_of (VerdictGiven pod verdict) = outcome.Made
outcome_of (Contended pod attempts) = outcome.Made
outcome_of (Released pod) = outcome.Made
outcome_of (Adopted claim status) = outcome.Made
outcome_of (Denied command refusal) = outcome.Denied
