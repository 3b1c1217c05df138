-- What a history leaves of the state and of each job.
use Rattle.std.specs.Prelude.{ℕ, ◌==◌, ◌+◌, ◌-◌, Option, None, slice_get, List, [], ◌∷◌, take, if◌then◌else◌}
use Rattle.cluster.specs.declared.entry.Entry.{Entry}
use Rattle.cluster.specs.declared.entry.JobState.{JobState}
use Rattle.cluster.specs.declared.entry.JobState.TheVariants.{Fresh}
use Rattle.cluster.specs.declared.state.State.{State}
use Rattle.cluster.specs.Events.{after, job_state_after}
use Rattle.cluster.specs.State.{empty_state}

-- What the entries es make of a, one after another, by what each does at its index; n entries are
-- before them.
unfoldable pub told : {A : Type 0} → (A → ℕ → Entry → A) → A → ℕ → List Entry → A
told step a n [] = a
told step a n (e ∷ es) = told step (step a (n + 1) e) (n + 1) es

abbrev pub next_state : State → ℕ → Entry → State
next_state s index e = after index e.job e.event s

-- the state after a history
unfoldable pub state_of : List Entry → State
state_of h = told next_state empty_state 0 h

-- the state after the first entries
abbrev pub state_at : List Entry → ℕ → State
state_at h index = state_of (take index h)

-- the entry at an index, from 1
abbrev pub entry_at : List Entry → ℕ → Option Entry
entry_at h index = if index == 0 then None else slice_get h (index - 1)

abbrev pub next_job_state : ℕ → JobState → ℕ → Entry → JobState
next_job_state job st index e = if e.job == job then job_state_after st index e.event else st

-- what the job's entries in a history leave
unfoldable pub job_state_of : List Entry → ℕ → JobState
job_state_of h job = told (next_job_state job) Fresh 0 h
