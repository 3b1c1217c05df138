-- How a pod's scheduling begins.
use Rattle.std.specs.Prelude.{ℕ, ◌≡◌, None, Some, length}
use Rattle.object_fields.specs.declared.key.Key.{Key}
use Rattle.cluster.specs.declared.entry.Command.TheVariants.{Schedule}
use Rattle.cluster.specs.declared.entry.Event.TheVariants.{Denied}
use Rattle.cluster.specs.declared.entry.Outcome.TheVariants as outcome
use Rattle.cluster.specs.declared.entry.Refusal.{Refusal}
use Rattle.cluster.specs.declared.state.PodState.{PodState}
use Rattle.cluster.specs.Denied.{first_refusal}
use Rattle.cluster.specs.History.{state_of}
use Rattle.plan_rules.specs.Plans.{IsIdle}
use Rattle.ledger_core.specs.declared.ledger.Done.{Done}
use Rattle.ledger_core.specs.declared.ledger.Start.{Start}
use Rattle.ledger_core.specs.declared.ledger.Start.TheVariants as start
use Rattle.ledger_core.specs.Ledger.{History, appended}
use Rattle.ledger_core.specs.Snapshot.{Seen}

-- the command is denied by the first of its refusals that holds
pub record IsDenied (old new : History) (job : ℕ) (pod : Key) (done : Done) : Type 0 where
  pub refusal : Refusal
  pub due : first_refusal (state_of old.entries) (Schedule pod) ≡ Some refusal
  pub entry : new ≡ appended old job (Denied (Schedule pod) refusal)
  pub index : done.index ≡ length new.entries
  pub outcome : done.outcome ≡ outcome.Denied

-- None holds: the pod is there and Idle, and nothing changed. The snapshot is of the present state, and of the number of
-- entries.
pub record IsSeen (old new : History) (pod : Key) (seen : Seen) : Type 0 where
  pub unrefused : first_refusal (state_of old.entries) (Schedule pod) ≡ None
  pub same : new ≡ old
  pub index : seen.at ≡ length old.entries
  pub state_is : seen.state ≡ state_of old.entries
  pub state : PodState
  pub idle : IsIdle (state_of old.entries) pod state

abbrev pub Begins : History → History → ℕ → Key → Start → Type 0
Begins old new job pod (start.Denied done) = IsDenied old new job pod done
Begins old new job pod (start.Seen seen) = IsSeen old new pod seen
