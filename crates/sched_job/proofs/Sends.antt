-- The ledger, and what a job holds, may go to another thread. What holds a compiled selector has no lemma of its own,
-- since a selector holds trees, which hold trees, and a search that goes down to them runs out of steps; so it goes type
-- by type from below.
use denote.Param.Send.{IsSend, IsSync, sendable, view_send, view_sync}
use denote.Param.SendFields.{declared_send, declared_sync, variants_send}
use Rattle.std.proofs.Crossing.{crosses}
use Rattle.api_claim.proofs.types.ClaimStatus.TheSendSync as status
use Rattle.api_claim.proofs.types.ResourceClaim.TheSendSync as claim
use Rattle.api_cluster.proofs.types.DeviceClass.TheSendSync as class
use Rattle.api_cluster.proofs.types.Node.TheSendSync as node
use Rattle.api_cluster.proofs.types.Pod.TheSendSync as pod
use Rattle.api_slice.proofs.types.ResourceSlice.TheSendSync as slice
use Rattle.cel_tree.proofs.tree.Kind.TheLaws.TheKnot as tree
use Rattle.cluster.proofs.entry.Entry.TheSendSync as entry
use Rattle.cluster.proofs.object.Object.TheSendSync as object
use Rattle.cluster.proofs.state.Granted.TheSendSync as granted
use Rattle.cluster.proofs.state.PodState.TheSendSync as pod_state
use Rattle.cluster.proofs.users.Users.TheSendSync as users
use Rattle.counter_sets.proofs.held.Held.TheSendSync as held
use Rattle.counter_sets.proofs.shared.SharedTotals.TheSendSync as totals
use Rattle.dra_values.proofs.text.Text.TheSendSync as text
use Rattle.ledger_core.proofs.room.JobStates.TheSendSync as job_states
use Rattle.node_memo.proofs.dates.Dates.TheSendSync as dates
use Rattle.node_memo.proofs.memo.Memo.TheSendSync as memo
use Rattle.object_fields.proofs.key.Key.TheSendSync as key
use Rattle.engine_ports.proofs.decision.Decision.TheSendSync as decision
use Rattle.pool_view.proofs.inventory.Inventory.TheSendSync as inventory
use Rattle.shared_map.proofs.sharing.SharedMap.TheSendSync as shared_map
use Rattle.cluster.specs.contracts.kept.Kept as Kept
use Rattle.cluster.specs.contracts.ready.Ready as Ready
use Rattle.cluster.specs.contracts.ready.Ready.TheInside as ReadyInside
use Rattle.cluster.specs.contracts.state.ClaimState as ClaimState
use Rattle.cluster.specs.contracts.state.State as State
use Rattle.commands.specs.contracts.command.Command as Command
use Rattle.device_selector.specs.contracts.selector.DeviceSelector as Selector
use Rattle.ledger_core.specs.contracts.ledger.Ledger as Ledger
use Rattle.ledger_core.specs.contracts.ledger.Ledger.TheInside as LedgerInside
use Rattle.ledger_core.specs.contracts.snapshot.Snapshot as Snapshot
use Rattle.ledger_core.specs.contracts.snapshot.Snapshot.TheInside as SnapshotInside
use Rattle.ready_objects.specs.contracts.claim.ReadyClaim as ReadyClaim
use Rattle.ready_objects.specs.contracts.class.ReadyClass as ReadyClass
use Rattle.sched_job.specs.contracts.work.Stage as Stage
use Rattle.sched_job.specs.contracts.work.Work as Work

-- ---- objects whose selectors are compiled

selector_send : IsSend Selector.the_row
selector_send = search (crosses, tree.crosses, sendable) depth 60 fits 20000

selector_sync : IsSync Selector.the_row
selector_sync = search (crosses, tree.crosses, sendable) depth 60 fits 20000

claim_send : IsSend ReadyClaim.the_row
claim_send = search (selector_send, claim.the_send, crosses, sendable) depth 60 fits 20000

claim_sync : IsSync ReadyClaim.the_row
claim_sync = search (selector_sync, claim.the_sync, crosses, sendable) depth 60 fits 20000

class_send : IsSend ReadyClass.the_row
class_send = search (selector_send, class.the_send, crosses, sendable) depth 60 fits 20000

class_sync : IsSync ReadyClass.the_row
class_sync = search (selector_sync, class.the_sync, crosses, sendable) depth 60 fits 20000

-- ---- the ledger

ruleset in_claim = (claim_send, claim_sync, granted.the_send, granted.the_sync, users.the_send, users.the_sync, crosses, sendable)

claim_state_send : IsSend ClaimState.the_row
claim_state_send = search in_claim depth 60 fits 20000

claim_state_sync : IsSync ClaimState.the_row
claim_state_sync = search in_claim depth 60 fits 20000

state_send : IsSend State.the_row
state_send = declared_send State.the_type (
  search (inventory.the_send, inventory.the_sync, crosses, sendable) depth 60 fits 20000,
  (
    search (class_send, class_sync, text.the_send, text.the_sync, shared_map.the_send, crosses, sendable) depth 60 fits 20000,
    (
      search (claim_state_send, claim_state_sync, key.the_send, key.the_sync, shared_map.the_send, sendable) depth 60 fits 20000,
      (search (pod_state.the_send, pod_state.the_sync, key.the_send, key.the_sync, shared_map.the_send, sendable) depth 60 fits 20000, tt),
    ),
  ),
)

state_sync : IsSync State.the_row
state_sync = declared_sync State.the_type (
  search (inventory.the_send, inventory.the_sync, crosses, sendable) depth 60 fits 20000,
  (
    search (class_send, class_sync, text.the_send, text.the_sync, shared_map.the_sync, crosses, sendable) depth 60 fits 20000,
    (
      search (claim_state_send, claim_state_sync, key.the_send, key.the_sync, shared_map.the_sync, sendable) depth 60 fits 20000,
      (search (pod_state.the_send, pod_state.the_sync, key.the_send, key.the_sync, shared_map.the_sync, sendable) depth 60 fits 20000, tt),
    ),
  ),
)

pub ledger_send : IsSend Ledger.the_row
ledger_send = view_send _ _ _ _ _ (declared_send LedgerInside.the_type (
  search (entry.the_send, crosses, sendable) depth 60 fits 20000,
  (
    search (state_send, sendable) depth 60 fits 20000,
    (
      search (held.the_send, held.the_sync, crosses, sendable) depth 60 fits 20000,
      (
        search (totals.the_send, totals.the_sync, crosses, sendable) depth 60 fits 20000,
        (
          search (job_states.the_send, sendable) depth 60 fits 20000,
          (
            search sendable depth 60 fits 20000,
            (
              search (dates.the_send, dates.the_sync, crosses, sendable) depth 60 fits 20000,
              (
                search (memo.the_send, crosses, sendable) depth 60 fits 20000,
                (search sendable depth 60 fits 20000, tt),
              ),
            ),
          ),
        ),
      ),
    ),
  ),
))

-- ---- a job

snapshot_send : IsSend Snapshot.the_row
snapshot_send = view_send _ _ _ _ _ (declared_send SnapshotInside.the_type (
  search sendable depth 60 fits 20000,
  (
    search (state_send, sendable) depth 60 fits 20000,
    (
      search (held.the_send, held.the_sync, crosses, sendable) depth 60 fits 20000,
      (search (totals.the_send, totals.the_sync, crosses, sendable) depth 60 fits 20000, tt),
    ),
  ),
))

snapshot_sync : IsSync Snapshot.the_row
snapshot_sync = view_sync _ _ _ _ _ (declared_sync SnapshotInside.the_type (
  search sendable depth 60 fits 20000,
  (
    search (state_sync, sendable) depth 60 fits 20000,
    (
      search (held.the_send, held.the_sync, crosses, sendable) depth 60 fits 20000,
      (search (totals.the_send, totals.the_sync, crosses, sendable) depth 60 fits 20000, tt),
    ),
  ),
))

kept_send : IsSend Kept.the_row
kept_send = search (claim_send, claim_sync, class_send, class_sync, node.the_send, node.the_sync, slice.the_send, slice.the_sync, pod.the_send, pod.the_sync, crosses, sendable) depth 60 fits 20000

ready_send : IsSend Ready.the_row
ready_send = view_send _ _ _ _ _ (declared_send ReadyInside.the_type (
  search (object.the_send, sendable) depth 60 fits 20000,
  (search (kept_send, sendable) depth 60 fits 20000, tt),
))

command_send : IsSend Command.the_row
command_send = search (ready_send, status.the_send, crosses, sendable) depth 60 fits 20000

stage_send : IsSend Stage.the_row
stage_send = variants_send Stage.enum (
  tt,
  (
    (search (snapshot_send, snapshot_sync, crosses, sendable) depth 60 fits 20000, tt),
    ((search (decision.the_send, decision.the_sync, crosses, sendable) depth 60 fits 20000, tt), tt),
  ),
)

pub work_send : IsSend Work.the_row
work_send = declared_send Work.the_type (
  search sendable depth 60 fits 20000,
  (
    search (command_send, sendable) depth 60 fits 20000,
    (search (stage_send, sendable) depth 60 fits 20000, tt),
  ),
)
