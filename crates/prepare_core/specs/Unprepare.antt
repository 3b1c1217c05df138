-- How a claim is given up for a pod.
use Rattle.std.specs.Prelude.{◌≡◌, ◌⊎◌, ℕ, Bool, true, false, List, [], ◌∷◌, Option, Some, None, if◌then◌else◌}
use Rattle.object_fields.specs.declared.key.Key.{Key}
use Rattle.ckpt_journal.specs.declared.record.Claim.{Claim}
use Rattle.ckpt_journal.specs.declared.record.Record.{Record}
use Rattle.ckpt_journal.specs.declared.record.Record.TheVariants as item
use Rattle.ckpt_journal.specs.declared.record.Row.{Row}
use Rattle.ckpt_journal.specs.declared.record.RowState.{RowState}
use Rattle.ckpt_journal.specs.declared.record.RowState.TheVariants as state
use Rattle.prepare_core.specs.Calls.{call}
use Rattle.prepare_core.specs.Runs.{AskedAtMost, Run, asking, done, recording, refused}
use Rattle.prepare_core.specs.Table.{has_pod, row_of, with_pods, without_pod}
use Rattle.prepare_core.specs.declared.claim.ClaimForNode.{ClaimForNode}
use Rattle.prepare_core.specs.declared.driver.CallKind.TheVariants as kinds
use Rattle.prepare_core.specs.declared.driver.DriverCall.{DriverCall}
use Rattle.prepare_core.specs.declared.error.KubeletError.{KubeletError}
use Rattle.prepare_core.specs.declared.error.KubeletError.TheVariants.{Closed, Memory, NotPrepared}
use Rattle.prepare_core.specs.declared.way.WayBack.{WayBack}
use Rattle.prepare_core.specs.declared.way.WayBack.TheVariants.{Keep, Leave}

-- what the driver is told of a row's claim: all of the row, and the kubelet's node
abbrev pub for_node : List ℕ → Claim → ClaimForNode
for_node node k = record { uid = k.uid; key = k.key; node = Some node; pods = k.pods; devices = k.devices }

-- the record that sets a row of this state
abbrev pub set_record : RowState → Claim → Record
set_record state.Begun k = item.Begun k
set_record state.Prepared k = item.Prepared k
set_record state.Leaving k = item.Prepared k

-- a claim stays, in its present state, for the pods that are left, if any are
abbrev pub kept_for : List ℕ → RowState → Claim → List Key → WayBack
kept_for node s k [] = Leave (for_node node k)
kept_for node s k (p ∷ pods) = Keep (set_record s (with_pods (p ∷ pods) k))

abbrev pub back_by_state : List ℕ → Key → RowState → Claim → WayBack
back_by_state node pod state.Begun k = kept_for node state.Begun k (without_pod pod k.pods)
back_by_state node pod state.Prepared k = kept_for node state.Prepared k (without_pod pod k.pods)
back_by_state node pod state.Leaving k = Leave (for_node node k)

-- what is done about a row for the pod, if the row has it
abbrev pub back_by_row : List ℕ → Key → Option Row → Option WayBack
back_by_row node pod None = None
back_by_row node pod (Some r) = if has_pod pod r.claim.pods then Some (back_by_state node pod r.state r.claim) else None

abbrev pub back_records : List ℕ → Option WayBack → List Record
back_records uid None = []
back_records uid (Some (Keep kept)) = kept ∷ []
back_records uid (Some (Leave k)) = item.Leaving uid ∷ item.Gone uid ∷ []

-- what giving a claim up records
abbrev pub unprepare_records : List ℕ → Key → List ℕ → List Row → List Record
unprepare_records node pod uid rows = back_records uid (back_by_row node pod (row_of uid rows))

-- the claim is recorded as Leaving, the driver is asked, and the claim is recorded as Gone
abbrev pub leave_run : ℕ → List ℕ → List Row → ClaimForNode → Bool → Run (Unit {0})
leave_run half uid rows k ok = recording half rows (item.Leaving uid) (λ leaving. asking (call kinds.Unprepare k ok) leaving (recording half leaving (item.Gone uid) (done tt)))

abbrev pub back_run : ℕ → List ℕ → List Row → Bool → Option WayBack → Run (Unit {0})
back_run half uid rows ok None = refused NotPrepared rows
back_run half uid rows ok (Some (Keep kept)) = recording half rows kept (done tt)
back_run half uid rows ok (Some (Leave k)) = leave_run half uid rows k ok

-- what is made of a claim by a kubelet that has ended or not, on a node, with this table in halves of this size, if the
-- driver returns Ok or fails
abbrev pub unprepare_run : ℕ → Bool → List ℕ → List Row → Key → List ℕ → Bool → Run (Unit {0})
unprepare_run half ended node rows pod uid ok = if ended then refused Closed rows else back_run half uid rows ok (back_by_row node pod (row_of uid rows))

-- why nothing is done
abbrev pub IsBackRefusal : Bool → Option WayBack → KubeletError → Type 0
IsBackRefusal true way why = why ≡ Closed
IsBackRefusal false None why = (why ≡ NotPrepared) ⊎ (why ≡ Memory)
IsBackRefusal false (Some way) why = why ≡ Memory

-- the driver got no call, or one to take the row's claim back if the rule asks that
abbrev pub AskedBack : Option WayBack → Option (List DriverCall) → Option (List DriverCall) → Type 0
AskedBack None old new = new ≡ old
AskedBack (Some (Keep kept)) old new = new ≡ old
AskedBack (Some (Leave k)) old new = AskedAtMost true kinds.Unprepare k old new
