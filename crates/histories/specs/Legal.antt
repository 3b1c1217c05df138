-- Which histories are legal.
use Rattle.std.specs.Prelude.{ℕ, ◌≡◌, List, [], ◌∷◌, ◌++◌, true}
use Rattle.cluster.specs.declared.entry.Entry.{Entry}
use Rattle.cluster.specs.declared.entry.Event.{Event}
use Rattle.cluster.specs.declared.entry.Event.TheVariants.{Applied, Deleted, Reserved, Refused, Wrote, Conflict, Unreserved, Bound, VerdictGiven, Contended, Released, Adopted, Denied}
use Rattle.cluster.specs.Events.{allows}
use Rattle.cluster.specs.History.{job_state_of, state_of}
use Rattle.histories.specs.Applied.{MayApply}
use Rattle.histories.specs.Deleted.{MayDelete}
use Rattle.histories.specs.Reserved.{MayReserve}
use Rattle.histories.specs.Refused.{MayRefuse}
use Rattle.histories.specs.Wrote.{MayWrite}
use Rattle.histories.specs.Conflict.{MayConflict}
use Rattle.histories.specs.Unreserved.{MayUnreserve}
use Rattle.histories.specs.Bound.{MayBind}
use Rattle.histories.specs.VerdictGiven.{MayJudge}
use Rattle.histories.specs.Released.{MayRelease}
use Rattle.histories.specs.Adopted.{MayAdopt}
use Rattle.histories.specs.Denied.{MayDeny}

-- when an event of a job may be appended; that a job has failed as often as it says is for its state to allow
abbrev pub MayFollow : List Entry → ℕ → Event → Type 0
MayFollow before job (Applied object mode) = MayApply (state_of before) object mode
MayFollow before job (Deleted target) = MayDelete (state_of before) target
MayFollow before job (Reserved pod plan) = MayReserve before pod plan
MayFollow before job (Refused pod plan why) = MayRefuse before pod plan why
MayFollow before job (Wrote pod claim seen) = MayWrite (state_of before) pod job claim seen
MayFollow before job (Conflict pod claim had now) = MayConflict (state_of before) pod job claim had now
MayFollow before job (Unreserved pod) = MayUnreserve (state_of before) pod job
MayFollow before job (Bound pod node) = MayBind (state_of before) pod job node
MayFollow before job (VerdictGiven pod verdict) = MayJudge before pod verdict
MayFollow before job (Contended pod attempts) = Unit {0}
MayFollow before job (Released pod) = MayRelease (state_of before) pod
MayFollow before job (Adopted claim status) = MayAdopt (state_of before) claim status
MayFollow before job (Denied command refusal) = MayDeny (state_of before) command refusal

-- the entry may follow these
pub record Step (before : List Entry) (e : Entry) : Type 0 where
  pub allowed : allows (job_state_of before e.job) e.event ≡ true
  pub follows : MayFollow before e.job e.event

-- each of es may follow those before it
unfoldable pub LegalAfter : List Entry → List Entry → Type 0
LegalAfter before [] = Unit {0}
LegalAfter before (e ∷ es) = Step before e × LegalAfter (before ++ e ∷ []) es

-- each entry may follow those before it
unfoldable pub Legal : List Entry → Type 0
Legal h = LegalAfter [] h
