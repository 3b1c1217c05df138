-- What is recorded of a claim that stays for other pods may be read again.
use Rattle.std.proofs.Common.{◌≡◌, Bool, true, false, not, if◌then◌else◌, List, [], ◌∷◌, ℕ, Option, Some, None, refl, subst}
use Rattle.std.specs.List.{AllByRecursion}
use Rattle.object_fields.specs.declared.key.Key.{Key}
use Rattle.ckpt_journal.specs.Format.{ClaimReadsBack, ReadsBack}
use Rattle.ckpt_journal.specs.Names.{KeyReadsBack}
use Rattle.ckpt_journal.specs.Table.{compact}
use Rattle.ckpt_journal.specs.declared.record.Claim.{Claim}
use Rattle.ckpt_journal.specs.declared.record.Record.{Record}
use Rattle.ckpt_journal.specs.declared.record.Row.{Row}
use Rattle.ckpt_journal.specs.declared.record.RowState.{RowState}
use Rattle.ckpt_journal.specs.declared.record.RowState.TheVariants as state
use Rattle.prepare_core.specs.Held.{IsSet}
use Rattle.prepare_core.specs.Table.{has_pod, row_of, same_key, with_pods, without_pod}
use Rattle.prepare_core.specs.Unprepare.{back_by_row, back_by_state, kept_for, set_record}
use Rattle.prepare_core.specs.declared.claim.ClaimForNode.{ClaimForNode}
use Rattle.prepare_core.specs.declared.way.WayBack.{WayBack}
use Rattle.prepare_core.specs.declared.way.WayBack.TheVariants.{Keep, Leave}
use Rattle.prepare_core.proofs.Begins.{row_reads}
use Rattle.prepare_core.proofs.Shares.{found_uid}

abbrev KeepReads : Option WayBack → Type 0
KeepReads None = Unit {0}
KeepReads (Some (Keep kept)) = ReadsBack kept
KeepReads (Some (Leave k)) = Unit {0}

left_by : (b : Bool) (p : Key) (pods : List Key) → KeyReadsBack p → AllByRecursion KeyReadsBack pods → AllByRecursion KeyReadsBack (if b then p ∷ pods else pods)
left_by true p pods one all = (one, all)
left_by false p pods one all = all

left_read : (pod : Key) (pods : List Key) → AllByRecursion KeyReadsBack pods → AllByRecursion KeyReadsBack (without_pod pod pods)
left_read pod [] all = tt
left_read pod (p ∷ pods) all = left_by (not (same_key p pod)) p (without_pod pod pods) all.0 (left_read pod pods all.1)

set_reads : (s : RowState) (k : Claim) → ClaimReadsBack k → ReadsBack (set_record s k)
set_reads state.Begun k reads = reads
set_reads state.Prepared k reads = reads
set_reads state.Leaving k reads = reads

kept_reads : (node : List ℕ) (s : RowState) (k : Claim) (pods : List Key) → ClaimReadsBack k → AllByRecursion KeyReadsBack pods → KeepReads (Some (kept_for node s k pods))
kept_reads node s k [] reads all = tt
kept_reads node s k (p ∷ pods) reads all = set_reads s (with_pods (p ∷ pods) k) (reads.0, (all, reads.1.1))

state_reads : (node : List ℕ) (pod : Key) (s : RowState) (k : Claim) → ClaimReadsBack k → KeepReads (Some (back_by_state node pod s k))
state_reads node pod state.Begun k reads = kept_reads node state.Begun k (without_pod pod k.pods) reads (left_read pod k.pods reads.1.0)
state_reads node pod state.Prepared k reads = kept_reads node state.Prepared k (without_pod pod k.pods) reads (left_read pod k.pods reads.1.0)
state_reads node pod state.Leaving k reads = tt

if_reads : (b : Bool) (way : WayBack) → KeepReads (Some way) → KeepReads (if b then Some way else None)
if_reads true way reads = reads
if_reads false way reads = tt

back_reads : (node : List ℕ) (pod : Key) (found : Option Row) → ((r : Row) → found ≡ Some r → ClaimReadsBack r.claim) → KeepReads (back_by_row node pod found)
back_reads node pod None reads = tt
back_reads node pod (Some r) reads = if_reads (has_pod pod r.claim.pods) (back_by_state node pod r.state r.claim) (state_reads node pod r.state r.claim (reads r refl))

pub keep_reads : (node : List ℕ) (pod : Key) (uid : List ℕ) (rows : List Row) (kept : Record) → AllByRecursion ReadsBack (compact rows) → back_by_row node pod (row_of uid rows) ≡ Some (Keep kept) → ReadsBack kept
keep_reads node pod uid rows kept reads is = subst KeepReads is (back_reads node pod (row_of uid rows) (λ r found. row_reads uid rows r reads found))

-- ---- a claim that is kept or left

abbrev KeepSets : Option WayBack → Type 0
KeepSets None = Unit {0}
KeepSets (Some (Keep kept)) = IsSet kept
KeepSets (Some (Leave k)) = Unit {0}

set_sets : (s : RowState) (k : Claim) → IsSet (set_record s k)
set_sets state.Begun k = tt
set_sets state.Prepared k = tt
set_sets state.Leaving k = tt

kept_sets : (node : List ℕ) (s : RowState) (k : Claim) (pods : List Key) → KeepSets (Some (kept_for node s k pods))
kept_sets node s k [] = tt
kept_sets node s k (p ∷ pods) = set_sets s (with_pods (p ∷ pods) k)

state_sets : (node : List ℕ) (pod : Key) (s : RowState) (k : Claim) → KeepSets (Some (back_by_state node pod s k))
state_sets node pod state.Begun k = kept_sets node state.Begun k (without_pod pod k.pods)
state_sets node pod state.Prepared k = kept_sets node state.Prepared k (without_pod pod k.pods)
state_sets node pod state.Leaving k = tt

if_sets : (b : Bool) (way : WayBack) → KeepSets (Some way) → KeepSets (if b then Some way else None)
if_sets true way sets = sets
if_sets false way sets = tt

back_sets : (node : List ℕ) (pod : Key) (found : Option Row) → KeepSets (back_by_row node pod found)
back_sets node pod None = tt
back_sets node pod (Some r) = if_sets (has_pod pod r.claim.pods) (back_by_state node pod r.state r.claim) (state_sets node pod r.state r.claim)

pub keep_sets : (node : List ℕ) (pod : Key) (found : Option Row) (kept : Record) → back_by_row node pod found ≡ Some (Keep kept) → IsSet kept
keep_sets node pod found kept is = subst KeepSets is (back_sets node pod found)

abbrev LeaveIsOf : List ℕ → Option WayBack → Type 0
LeaveIsOf uid None = Unit {0}
LeaveIsOf uid (Some (Keep kept)) = Unit {0}
LeaveIsOf uid (Some (Leave c)) = c.uid ≡ uid

kept_of : (node : List ℕ) (s : RowState) (k : Claim) (pods : List Key) → LeaveIsOf k.uid (Some (kept_for node s k pods))
kept_of node s k [] = refl
kept_of node s k (p ∷ pods) = tt

state_of : (node : List ℕ) (pod : Key) (s : RowState) (k : Claim) → LeaveIsOf k.uid (Some (back_by_state node pod s k))
state_of node pod state.Begun k = kept_of node state.Begun k (without_pod pod k.pods)
state_of node pod state.Prepared k = kept_of node state.Prepared k (without_pod pod k.pods)
state_of node pod state.Leaving k = refl

if_of : (uid : List ℕ) (b : Bool) (way : WayBack) → LeaveIsOf uid (Some way) → LeaveIsOf uid (if b then Some way else None)
if_of uid true way is = is
if_of uid false way is = tt

back_of : (uid node : List ℕ) (pod : Key) (found : Option Row) → ((r : Row) → found ≡ Some r → r.claim.uid ≡ uid) → LeaveIsOf uid (back_by_row node pod found)
back_of uid node pod None of = tt
back_of uid node pod (Some r) of =
    subst (λ (u : List ℕ). LeaveIsOf u (back_by_row node pod (Some r))) (of r refl)
    (if_of r.claim.uid (has_pod pod r.claim.pods) (back_by_state node pod r.state r.claim) (state_of node pod r.state r.claim))

pub leave_uid : (node : List ℕ) (pod : Key) (uid : List ℕ) (rows : List Row) (c : ClaimForNode) → back_by_row node pod (row_of uid rows) ≡ Some (Leave c) → c.uid ≡ uid
leave_uid node pod uid rows c is = subst (LeaveIsOf uid) is (back_of uid node pod (row_of uid rows) (found_uid uid rows))
