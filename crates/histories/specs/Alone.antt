-- A job that runs alone.
use Rattle.std.specs.Prelude.{ℕ, ◌≡◌, ◌≤◌, Bool, true, false, List, [], length}
use Rattle.cluster.specs.declared.entry.Entry.{Entry}
use Rattle.cluster.specs.declared.entry.Event.{Event}
use Rattle.cluster.specs.declared.entry.Event.TheVariants.{Applied, Deleted, Reserved, Refused, Wrote, Conflict, Unreserved, Bound, VerdictGiven, Contended, Released, Adopted, Denied}
use Rattle.histories.specs.Histories.{Each}

-- all entries past the first ones are the job's
abbrev pub Alone : ℕ → ℕ → List Entry → Type 0
Alone job from h = Each (λ before e. from ≤ length before → e.job ≡ job) [] h

-- the entry says that a plan is refused, a claim has another version, or what was reserved is given up, or that the job
-- is contended
abbrev pub is_setback : Event → Bool
is_setback (Applied object mode) = false
is_setback (Deleted target) = false
is_setback (Reserved pod plan) = false
is_setback (Refused pod plan why) = true
is_setback (Wrote pod claim seen) = false
is_setback (Conflict pod claim had now) = true
is_setback (Unreserved pod) = true
is_setback (Bound pod node) = false
is_setback (VerdictGiven pod verdict) = false
is_setback (Contended pod failed) = true
is_setback (Released pod) = false
is_setback (Adopted claim status) = false
is_setback (Denied command refusal) = false

-- no entry of the job is one
abbrev pub NeverSetBack : ℕ → List Entry → Type 0
NeverSetBack job h = Each (λ before e. e.job ≡ job → is_setback e.event ≡ false) [] h
