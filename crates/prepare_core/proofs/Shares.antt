-- A claim that is Prepared has the pod.
use Rattle.std.proofs.Common.{◌≡◌, ℕ, Bool, true, false, not, ◌||◌, if◌then◌else◌, IfOk, OnOk, List, [], ◌∷◌, ◌++◌, Option, Some, None, Result, Ok, Err, refl, sym, ◌∙◌, ap, subst}
use Rattle.std.proofs.lemmas.Bool.{and_from, true≢false}
use Rattle.std.proofs.lemmas.Cmp.{nat_list_eq_equiv}
use Rattle.std.specs.Cmp.Lexicographic.{same_text}
use Rattle.std.specs.Prelude.{nat_eq}
use Rattle.std.specs.Cmp.Lexicographic.{pointwise}
use Rattle.object_fields.specs.declared.key.Key.{Key}
use Rattle.ckpt_journal.specs.Format.{ClaimReadsBack, ReadsBack}
use Rattle.ckpt_journal.specs.Names.{KeyReadsBack}
use Rattle.ckpt_journal.specs.Table.{compact, is_of, row_after}
use Rattle.std.specs.List.{AllByRecursion}
use Rattle.ckpt_journal.specs.declared.record.Claim.{Claim}
use Rattle.ckpt_journal.specs.declared.record.Record.TheVariants as item
use Rattle.ckpt_journal.specs.declared.record.Row.{Row}
use Rattle.ckpt_journal.specs.declared.record.RowState.{RowState}
use Rattle.ckpt_journal.specs.declared.record.RowState.TheVariants as state
use Rattle.prepare_core.specs.Names.{names_of}
use Rattle.prepare_core.specs.Prepare.{IsPrepared, way_by_row, way_by_state}
use Rattle.prepare_core.specs.Runs.{AskedAtMost}
use Rattle.prepare_core.specs.Table.{begun_pods, is_prepared, is_prepared_row, is_prepared_state, has_pod, pods_of_row, row_of, same_key, with_pods}
use Rattle.prepare_core.specs.declared.claim.ClaimForNode.{ClaimForNode}
use Rattle.prepare_core.specs.declared.driver.CallKind.{CallKind}
use Rattle.prepare_core.specs.declared.driver.DriverCall.{DriverCall}
use Rattle.prepare_core.specs.declared.error.KubeletError.{KubeletError}
use Rattle.prepare_core.specs.declared.way.Way.{Way}
use Rattle.prepare_core.specs.declared.way.Way.TheVariants.{Answer, Share, Ask}
use Rattle.prepare_core.proofs.Begins.{joined, row_reads}
use Rattle.prepare_core.proofs.Found.{prepared_found}

-- ---- pods

own_key : (k : Key) → same_key k k ≡ true
own_key k = and_from (pointwise nat_eq k.namespace k.namespace) (pointwise nat_eq k.name k.name) (nat_list_eq_equiv.refl k.namespace) (nat_list_eq_equiv.refl k.name)

or_true : (b : Bool) → (b || true) ≡ true
or_true true = refl
or_true false = refl

has_last : (pod : Key) (pods : List Key) → has_pod pod (pods ++ pod ∷ []) ≡ true
has_last pod [] = ap (λ (b : Bool). b || false) (own_key pod)
has_last pod (p ∷ pods) = ap (λ (b : Bool). same_key p pod || b) (has_last pod pods) ∙ or_true (same_key p pod)

has_with : (pod : Key) (pods : List Key) (b : Bool) → has_pod pod pods ≡ b → has_pod pod (if b then pods else pods ++ pod ∷ []) ≡ true
has_with pod pods true is = is
has_with pod pods false is = has_last pod pods

one_has : (pod : Key) → has_pod pod (pod ∷ []) ≡ true
one_has pod = has_last pod []

row_has : (pod : Key) (s : RowState) (pods : List Key) → has_pod pod (pods_of_row pod s pods) ≡ true
row_has pod state.Begun pods = has_with pod pods (has_pod pod pods) refl
row_has pod state.Prepared pods = one_has pod
row_has pod state.Leaving pods = one_has pod

pub begun_has : (pod : Key) (found : Option Row) → has_pod pod (begun_pods pod found) ≡ true
begun_has pod None = one_has pod
begun_has pod (Some r) = row_has pod r.state r.claim.pods

-- ---- the row that is found

abbrev HasUid : List ℕ → Option Row → Type 0
HasUid uid None = Unit {0}
HasUid uid (Some r) = r.claim.uid ≡ uid

uid_by : (uid : List ℕ) (r : Row) (b : Bool) (other : Option Row) → is_of uid r ≡ b → HasUid uid other → HasUid uid (if b then Some r else other)
uid_by uid r true other is next = same_text r.claim.uid uid (sym is)
uid_by uid r false other is next = next

found_has : (uid : List ℕ) (rows : List Row) → HasUid uid (row_of uid rows)
found_has uid [] = tt
found_has uid (r ∷ rows) = uid_by uid r (is_of uid r) (row_of uid rows) refl (found_has uid rows)

pub found_uid : (uid : List ℕ) (rows : List Row) (r : Row) → row_of uid rows ≡ Some r → r.claim.uid ≡ uid
found_uid uid rows r is = subst (HasUid uid) is (found_has uid rows)

-- ---- a claim that is shared

abbrev IsShare : Way → Type 0
IsShare (Answer names) = ⊥
IsShare (Share k) = Unit {0}
IsShare Ask = ⊥

abbrev shared_or : Claim → Way → Claim
shared_or k (Answer names) = k
shared_or k (Share s) = s
shared_or k Ask = k

abbrev Shares : Key → Option Row → Claim → Type 0
Shares pod found s = (r : Row) × (found ≡ Some r) × (s ≡ with_pods (r.claim.pods ++ pod ∷ []) r.claim)

share_with : (pod : Key) (k s : Claim) (b : Bool) → (if b then Answer (names_of k) else Share (with_pods (k.pods ++ pod ∷ []) k)) ≡ Share s → s ≡ with_pods (k.pods ++ pod ∷ []) k
share_with pod k s true is = absurd (subst IsShare (sym is) tt)
share_with pod k s false is = sym (ap (shared_or k) is)

share_state : (pod : Key) (st : RowState) (k s : Claim) → way_by_state pod st k ≡ Share s → s ≡ with_pods (k.pods ++ pod ∷ []) k
share_state pod state.Prepared k s is = share_with pod k s (has_pod pod k.pods) is
share_state pod state.Begun k s is = absurd (subst IsShare (sym is) tt)
share_state pod state.Leaving k s is = absurd (subst IsShare (sym is) tt)

shares : (pod : Key) (found : Option Row) (s : Claim) → way_by_row pod found ≡ Share s → Shares pod found s
shares pod None s is = absurd (subst IsShare (sym is) tt)
shares pod (Some r) s is = (r, refl, share_state pod r.state r.claim s is)

more_read : (pod : Key) (k : Claim) → KeyReadsBack pod → ClaimReadsBack k → ClaimReadsBack (with_pods (k.pods ++ pod ∷ []) k)
more_read pod k one reads = (reads.0, (joined KeyReadsBack k.pods (pod ∷ []) reads.1.0 (one, tt), reads.1.1))

pub share_reads : (pod : Key) (uid : List ℕ) (rows : List Row) (s : Claim) → way_by_row pod (row_of uid rows) ≡ Share s → KeyReadsBack pod → AllByRecursion ReadsBack (compact rows) → ClaimReadsBack s
share_reads pod uid rows s is one reads =
    let x = shares pod (row_of uid rows) s is in
    subst ClaimReadsBack (sym x.2) (more_read pod x.0.claim one (row_reads uid rows x.0 reads x.1))

share_prepares : (pod : Key) (uid : List ℕ) (rows now : List Row) (s : Claim) (names : List (List ℕ)) → way_by_row pod (row_of uid rows) ≡ Share s
    → now ≡ row_after rows (item.Prepared s) → names ≡ names_of s → IsPrepared pod uid names now
share_prepares pod uid rows now s names is after are =
    let x = shares pod (row_of uid rows) s is in
    let same : s.uid ≡ uid = ap (λ (k : Claim). k.uid) x.2 ∙ found_uid uid rows x.0 x.1 in
    record {
      k = s;
      row = subst (λ (u : List ℕ). row_of u now ≡ Some (record { state = state.Prepared; claim = s })) same (prepared_found rows now s after);
      has = ap (λ (k : Claim). has_pod pod k.pods) x.2 ∙ has_last pod x.0.claim.pods;
      are = are;
    }

pub share_prepared : (pod : Key) (uid : List ℕ) (rows now : List Row) (s : Claim) (r : Result (List (List ℕ)) KubeletError) → way_by_row pod (row_of uid rows) ≡ Share s
    → OnOk r (now ≡ row_after rows (item.Prepared s)) → IfOk r (λ names. names ≡ names_of s) → IfOk r (λ names. IsPrepared pod uid names now)
share_prepared pod uid rows now s (Ok names) is after are = share_prepares pod uid rows now s names is after are
share_prepared pod uid rows now s (Err e) is after are = tt

-- ---- a claim that the driver prepared

pub anew_prepared : (pod : Key) (rows now : List Row) (k : Claim) (found : Option Row) (names : List (List ℕ)) → k.pods ≡ begun_pods pod found
    → now ≡ row_after rows (item.Prepared k) → names ≡ names_of k → IsPrepared pod k.uid names now
anew_prepared pod rows now k found names pods after are = record {
  k = k;
  row = prepared_found rows now k after;
  has = ap (has_pod pod) pods ∙ begun_has pod found;
  are = are;
}

-- ---- a claim about which the driver is asked

abbrev IsAsk : Way → Type 0
IsAsk (Answer names) = ⊥
IsAsk (Share k) = ⊥
IsAsk Ask = Unit {0}

ask_with : (pod : Key) (k : Claim) (b : Bool) → (if b then Answer (names_of k) else Share (with_pods (k.pods ++ pod ∷ []) k)) ≡ Ask → ⊥
ask_with pod k true is = subst IsAsk (sym is) tt
ask_with pod k false is = subst IsAsk (sym is) tt

ask_state : (pod : Key) (s : RowState) (k : Claim) → way_by_state pod s k ≡ Ask → is_prepared_state s ≡ false
ask_state pod state.Prepared k is = absurd (ask_with pod k (has_pod pod k.pods) is)
ask_state pod state.Begun k is = refl
ask_state pod state.Leaving k is = refl

ask_row : (pod : Key) (found : Option Row) → way_by_row pod found ≡ Ask → is_prepared_row found ≡ false
ask_row pod None is = refl
ask_row pod (Some r) is = ask_state pod r.state r.claim is

asked_by : (b : Bool) (kind : CallKind) (c : ClaimForNode) (old new : Option (List DriverCall)) → b ≡ false → AskedAtMost true kind c old new → AskedAtMost (not b) kind c old new
asked_by true kind c old new is asked = absurd (true≢false is)
asked_by false kind c old new is asked = asked

-- the driver got at most the call that the rule asks
pub asked_anew : (pod : Key) (uid : List ℕ) (rows : List Row) (kind : CallKind) (c : ClaimForNode) (old new : Option (List DriverCall)) → way_by_row pod (row_of uid rows) ≡ Ask
    → AskedAtMost true kind c old new → AskedAtMost (not (is_prepared uid rows)) kind c old new
asked_anew pod uid rows kind c old new is asked = asked_by (is_prepared uid rows) kind c old new (ask_row pod (row_of uid rows) is) asked
