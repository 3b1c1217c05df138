-- What determines a history: the commands, the budget, and of each entry its job, its kind and the index of what it decides.
use Rattle.std.specs.Prelude.{ℕ, ◌≡◌, List, [], ◌∷◌, Option, None, Some, codes}
use Rattle.cluster.specs.declared.entry.Entry.{Entry}
use Rattle.cluster.specs.declared.entry.Event.{Event}
use Rattle.cluster.specs.declared.entry.Event.TheVariants.{Applied, Deleted, Reserved, Refused, Wrote, Conflict, Unreserved, Bound, VerdictGiven, Contended, Released, Adopted, Denied}
use Rattle.commands.specs.declared.command.Command.{Command}
use Rattle.histories.specs.Histories.{Each}
use Rattle.histories.specs.JobRuns.{JobKept, JobStep, Run}

-- the kind of an event, as its line prints it
abbrev pub kind_word : Event → List ℕ
kind_word (Applied object mode) = codes "applied"
kind_word (Deleted target) = codes "deleted"
kind_word (Reserved pod plan) = codes "reserved"
kind_word (Refused pod plan why) = codes "refused"
kind_word (Wrote pod claim seen) = codes "wrote"
kind_word (Conflict pod claim had now) = codes "conflict"
kind_word (Unreserved pod) = codes "unreserved"
kind_word (Bound pod node) = codes "bound"
kind_word (VerdictGiven pod verdict) = codes "verdict"
kind_word (Contended pod attempts) = codes "contended"
kind_word (Released pod) = codes "released"
kind_word (Adopted claim status) = codes "adopted"
kind_word (Denied command refusal) = codes "denied"

-- the index at which a plan or a verdict was made
abbrev pub decided_at : Event → Option ℕ
decided_at (Applied object mode) = None
decided_at (Deleted target) = None
decided_at (Reserved pod plan) = Some plan.at
decided_at (Refused pod plan why) = Some plan.at
decided_at (Wrote pod claim seen) = None
decided_at (Conflict pod claim had now) = None
decided_at (Unreserved pod) = None
decided_at (Bound pod node) = None
decided_at (VerdictGiven pod verdict) = Some verdict.at
decided_at (Contended pod attempts) = None
decided_at (Released pod) = None
decided_at (Adopted claim status) = None
decided_at (Denied command refusal) = None

-- two events are of one kind, and what they decide was decided at one index
pub record AreAlike (d e : Event) : Type 0 where
  pub kind : kind_word d ≡ kind_word e
  pub index : decided_at d ≡ decided_at e

-- two histories have entries of the same jobs, alike one after another
abbrev pub AllAlike : List Entry → List Entry → Type 0
AllAlike [] [] = Unit {0}
AllAlike [] (e ∷ es) = ⊥
AllAlike (d ∷ ds) [] = ⊥
AllAlike (d ∷ ds) (e ∷ es) = (d.job ≡ e.job) × AreAlike d.event e.event × AllAlike ds es

-- each entry is one of the run of its job, which has this command, with searches within the budget
abbrev pub RunBy : (ℕ → Command) → ℕ → List Entry → Type 0
RunBy commands budget h =
    Each (λ before e. (from : ℕ) × JobStep (record { job = e.job; command = commands e.job; from = from; budget = budget }) before e.event) [] h

-- the entries of the job are of its run, within the budget
pub record IsRunOf (runs : ℕ → Run) (limit number : ℕ) (h : List Entry) : Type 0 where
  pub job : (runs number).job ≡ number
  pub budget : (runs number).budget ≡ limit
  pub kept : JobKept (runs number) h
