-- How a claim is prepared for a pod.
use Rattle.std.specs.Prelude.{◌≡◌, ℕ, Bool, true, ◌&&◌, ◌||◌, nat_eq, List, [], ◌∷◌, ◌++◌, is_none, Option, Some, None, if◌then◌else◌}
use Rattle.std.specs.Cmp.Lexicographic.{pointwise}
use Rattle.object_fields.specs.declared.key.Key.{Key}
use Rattle.ckpt_journal.specs.Plan.{is_full}
use Rattle.ckpt_journal.specs.declared.record.Claim.{Claim}
use Rattle.ckpt_journal.specs.declared.record.Record.{Record}
use Rattle.ckpt_journal.specs.declared.record.Record.TheVariants as item
use Rattle.ckpt_journal.specs.declared.record.Row.{Row}
use Rattle.ckpt_journal.specs.declared.record.RowState.{RowState}
use Rattle.ckpt_journal.specs.declared.record.RowState.TheVariants as state
use Rattle.prepare_core.specs.Calls.{call}
use Rattle.prepare_core.specs.Names.{names_of}
use Rattle.prepare_core.specs.Runs.{Run, asking, done, is_crowded, recording, refused}
use Rattle.prepare_core.specs.Table.{begun_pods, claim_with, has_pod, row_of, with_pods}
use Rattle.prepare_core.specs.declared.claim.ClaimForNode.{ClaimForNode}
use Rattle.prepare_core.specs.declared.driver.CallKind.TheVariants as kinds
use Rattle.prepare_core.specs.declared.error.KubeletError.{KubeletError}
use Rattle.prepare_core.specs.declared.error.KubeletError.TheVariants.{Closed, Full, NotAllocated, NotReserved, OtherNode}
use Rattle.prepare_core.specs.declared.way.Way.{Way}
use Rattle.prepare_core.specs.declared.way.Way.TheVariants.{Answer, Share, Ask}

-- ---- refusals

abbrev pub by_node : List ℕ → Key → List Key → Option (List ℕ) → Option KubeletError
by_node node pod pods None = Some NotAllocated
by_node node pod pods (Some on) = if has_pod pod pods then (if pointwise nat_eq on node then None else Some OtherNode) else Some NotReserved

-- why a claim isn't prepared for a pod on a node, in the order in which this is looked at
abbrev pub refusal : Bool → List ℕ → Key → ClaimForNode → Option KubeletError
refusal ended node pod c = if ended then Some Closed else by_node node pod c.pods c.node

-- ---- the three ways

-- Prepared with the pod: the names are returned. Prepared with others: this pod is added. Else the driver is asked.
abbrev pub way_by_state : Key → RowState → Claim → Way
way_by_state pod state.Prepared k = if has_pod pod k.pods then Answer (names_of k) else Share (with_pods (k.pods ++ pod ∷ []) k)
way_by_state pod state.Begun k = Ask
way_by_state pod state.Leaving k = Ask

abbrev pub way_by_row : Key → Option Row → Way
way_by_row pod None = Ask
way_by_row pod (Some r) = way_by_state pod r.state r.claim

-- ---- the records

-- the claim as its preparation begins: that handed in, with the pods that it is begun for
abbrev pub begun_claim : Key → ClaimForNode → List Row → Claim
begun_claim pod c rows = claim_with c (begun_pods pod (row_of c.uid rows))

abbrev pub records_by : Way → Claim → List Record
records_by (Answer names) k = []
records_by (Share shared) k = item.Prepared shared ∷ []
records_by Ask k = item.Begun k ∷ item.Prepared k ∷ []

-- what a preparation records
abbrev pub prepare_records : Key → ClaimForNode → List Row → List Record
prepare_records pod c rows = records_by (way_by_row pod (row_of c.uid rows)) (begun_claim pod c rows)

-- ---- the run

-- a claim that has no row, and the table takes no further one; or the journal is full for it
abbrev pub begins_full : ℕ → Key → ClaimForNode → List Row → Bool
begins_full half pod c rows = (is_none (row_of c.uid rows) && is_crowded rows) || is_full half rows (item.Begun (begun_claim pod c rows))

-- the claim is recorded as Begun, the driver is asked, and the claim is recorded as Prepared
abbrev pub ask_run : ℕ → ClaimForNode → Claim → List Row → Bool → Run (List (List ℕ))
ask_run half c k rows ok =
    if is_none (row_of c.uid rows) && is_crowded rows then refused Full rows else
    recording half rows (item.Begun k) (λ begun. asking (call kinds.Prepare c ok) begun (recording half begun (item.Prepared k) (done (names_of k))))

abbrev pub run_by_way : ℕ → ClaimForNode → Claim → List Row → Bool → Way → Run (List (List ℕ))
run_by_way half c k rows ok (Answer names) = done names rows
run_by_way half c k rows ok (Share shared) = recording half rows (item.Prepared shared) (done (names_of shared))
run_by_way half c k rows ok Ask = ask_run half c k rows ok

abbrev pub unless_refused : {A : Type 0} → Option KubeletError → List Row → Run A → Run A
unless_refused None rows run = run
unless_refused (Some e) rows run = refused e rows

-- the same if the claim isn't Prepared
abbrev pub anew_run : ℕ → Option KubeletError → List Row → Key → ClaimForNode → Bool → Run (List (List ℕ))
anew_run half refused rows pod c ok = unless_refused refused rows (ask_run half c (begun_claim pod c rows) rows ok)

-- what is made of a claim by a kubelet that has ended or not, on a node, with this table in halves of this size, if the
-- driver returns Ok or fails
abbrev pub prepare_run : ℕ → Bool → List ℕ → List Row → Key → ClaimForNode → Bool → Run (List (List ℕ))
prepare_run half ended node rows pod c ok =
    unless_refused (refusal ended node pod c) rows (run_by_way half c (begun_claim pod c rows) rows ok (way_by_row pod (row_of c.uid rows)))

-- ---- what stands afterwards

-- the claim is Prepared with the pod, and these are the names of its devices
pub record IsPrepared (pod : Key) (uid : List ℕ) (names : List (List ℕ)) (rows : List Row) : Type 0 where
  pub k : Claim
  pub row : row_of uid rows ≡ Some (record { state = state.Prepared; claim = k })
  pub has : has_pod pod k.pods ≡ true
  pub are : names ≡ names_of k
