-- What a call makes of a job while others may add entries too, by the indices of the entries that it made.
use Rattle.std.specs.Prelude.{ℕ, ◌≡◌, ◌+◌, ◌≤◌, ◌<◌, List, [], ◌∷◌, ◌++◌, length}
use Rattle.object_fields.specs.declared.key.Key.{Key}
use Rattle.cluster.specs.declared.entry.Entry.{Entry}
use Rattle.cluster.specs.declared.entry.Event.{Event}
use Rattle.cluster.specs.declared.entry.Event.TheVariants.{Applied, Deleted, Reserved, Refused, Wrote, Conflict, Unreserved, Bound, VerdictGiven, Contended, Released, Adopted, Denied}
use Rattle.cluster.specs.declared.plan.Plan.{Plan}
use Rattle.cluster.specs.declared.plan.Verdict.{Verdict}
use Rattle.cluster.specs.History.{state_at}
use Rattle.plan_rules.specs.Plans.{PlanBy, VerdictBy}
use Rattle.turn_lock.specs.Places.{times}
use Rattle.histories.specs.Histories.{Each}
use Rattle.histories.specs.JobRuns.{Run, attempts_of, command_of}

-- The index of an attempt is neither before the call, nor before the last entry that the call made, nor past the entries.
pub record OwnTry (c : Run) (last : ℕ) (before : List Entry) (at : ℕ) : Type 0 where
  pub from : c.from ≤ at
  pub last_is : last ≤ at
  pub within : at ≤ length before

-- the plan is what searches within the budget find at its index
pub record OwnPlan (c : Run) (last : ℕ) (before : List Entry) (pod : Key) (plan : Plan) : Type 0 where
  pub try : OwnTry c last before plan.at
  pub by : PlanBy (state_at before plan.at) pod c.budget plan

-- the verdict is what searches within the budget return at its index
pub record OwnVerdict (c : Run) (last : ℕ) (before : List Entry) (pod : Key) (verdict : Verdict) : Type 0 where
  pub try : OwnTry c last before verdict.at
  pub by : VerdictBy (state_at before verdict.at) pod c.budget verdict

-- what an entry states of an attempt; a job is contended only after all its attempts
abbrev pub OwnTimed : Run → ℕ → List Entry → Event → Type 0
OwnTimed c last before (Applied object mode) = Unit {0}
OwnTimed c last before (Deleted target) = Unit {0}
OwnTimed c last before (Reserved pod plan) = OwnPlan c last before pod plan
OwnTimed c last before (Refused pod plan why) = OwnPlan c last before pod plan
OwnTimed c last before (Wrote pod claim seen) = Unit {0}
OwnTimed c last before (Conflict pod claim had now) = Unit {0}
OwnTimed c last before (Unreserved pod) = Unit {0}
OwnTimed c last before (Bound pod node) = Unit {0}
OwnTimed c last before (VerdictGiven pod verdict) = OwnVerdict c last before pod verdict
OwnTimed c last before (Contended pod failed) = attempts_of c.command ≤ failed
OwnTimed c last before (Released pod) = Unit {0}
OwnTimed c last before (Adopted claim status) = Unit {0}
OwnTimed c last before (Denied command refusal) = Unit {0}

-- The entry at an index is the job's, of its command, and comes after the call began and after the entry at `last`.
pub record MadeAt (c : Run) (h : List Entry) (last index : ℕ) : Type 0 where
  pub before : List Entry
  pub event : Event
  pub rest : List Entry
  pub is : h ≡ before ++ record { job = c.job; event = event } ∷ rest
  pub index_is : index ≡ length before + 1
  pub past : c.from < index
  pub later : last < index
  pub of_command : command_of (attempts_of c.command) event ≡ c.command
  pub timed : OwnTimed c last before event

-- the call made the entries at these indices, one after another
abbrev pub AllMade : Run → List Entry → ℕ → List ℕ → Type 0
AllMade c h last [] = Unit {0}
AllMade c h last (p ∷ ps) = MadeAt c h last p × AllMade c h p ps

-- the last of the indices, if there is one
abbrev pub last_of : ℕ → List ℕ → ℕ
last_of last [] = last
last_of last (p ∷ ps) = last_of p ps

-- each entry of the job is at one of the indices
abbrev pub AllIn : ℕ → List ℕ → List Entry → Type 0
AllIn job places h = Each (λ before e. e.job ≡ job → 0 < times (length before + 1) places) [] h

-- no entry past the first ones is the job's
abbrev pub NoneOf : ℕ → List Entry → List Entry → Type 0
NoneOf job before more = Each (λ b e. e.job ≡ job → ⊥) before more
