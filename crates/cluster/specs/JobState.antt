-- The state of a job.
use Rattle.std.specs.Prelude.{ℕ, Bool, true, false}
use Rattle.cluster.specs.declared.entry.JobState.{JobState}
use Rattle.cluster.specs.declared.entry.JobState.TheVariants as job_state

-- how many attempts of the job have failed
abbrev pub failures : JobState → ℕ
failures job_state.Fresh = 0
failures (job_state.Reserved k) = k
failures (job_state.Conflicted k) = k
failures (job_state.Failed k) = k
failures (job_state.Ended index) = 0

-- it has no entry
abbrev pub is_fresh : JobState → Bool
is_fresh job_state.Fresh = true
is_fresh (job_state.Reserved k) = false
is_fresh (job_state.Conflicted k) = false
is_fresh (job_state.Failed k) = false
is_fresh (job_state.Ended index) = false

-- an attempt may begin
abbrev pub may_try : JobState → Bool
may_try job_state.Fresh = true
may_try (job_state.Reserved k) = false
may_try (job_state.Conflicted k) = false
may_try (job_state.Failed k) = true
may_try (job_state.Ended index) = false

-- its last attempt has failed
abbrev pub has_failed : JobState → Bool
has_failed job_state.Fresh = false
has_failed (job_state.Reserved k) = false
has_failed (job_state.Conflicted k) = false
has_failed (job_state.Failed k) = true
has_failed (job_state.Ended index) = false

-- it has found another version of a claim
abbrev pub is_conflicted : JobState → Bool
is_conflicted job_state.Fresh = false
is_conflicted (job_state.Reserved k) = false
is_conflicted (job_state.Conflicted k) = true
is_conflicted (job_state.Failed k) = false
is_conflicted (job_state.Ended index) = false

abbrev pub has_reserved : JobState → Bool
has_reserved job_state.Fresh = false
has_reserved (job_state.Reserved k) = true
has_reserved (job_state.Conflicted k) = false
has_reserved (job_state.Failed k) = false
has_reserved (job_state.Ended index) = false
