-- What is recorded of a claim may be read again.
use Rattle.std.proofs.Common.{◌≡◌, Bool, true, false, List, [], ◌∷◌, ◌++◌, ℕ, Option, Some, None, if◌then◌else◌, refl, subst}
use Rattle.std.specs.List.{AllByRecursion}
use Rattle.object_fields.specs.declared.key.Key.{Key}
use Rattle.ckpt_journal.specs.Format.{ClaimReadsBack, ReadsBack}
use Rattle.ckpt_journal.specs.Names.{KeyReadsBack}
use Rattle.ckpt_journal.specs.Table.{compact, is_of, records_of}
use Rattle.ckpt_journal.specs.declared.record.Claim.{Claim}
use Rattle.ckpt_journal.specs.declared.record.Row.{Row}
use Rattle.ckpt_journal.specs.declared.record.RowState.{RowState}
use Rattle.ckpt_journal.specs.declared.record.RowState.TheVariants as state
use Rattle.prepare_core.specs.Prepare.{begun_claim}
use Rattle.prepare_core.specs.Readable.{IsReadable}
use Rattle.prepare_core.specs.Table.{begun_pods, has_pod, pods_of_row, row_of}
use Rattle.prepare_core.specs.declared.claim.ClaimForNode.{ClaimForNode}

pub joined : {X : Type 0} (P : X → Type 0) (xs ys : List X) → AllByRecursion P xs → AllByRecursion P ys → AllByRecursion P (xs ++ ys)
joined P [] ys p q = q
joined P (x ∷ xs) ys p q = (p.0, joined P xs ys p.1 q)

apart : {X : Type 0} (P : X → Type 0) (xs ys : List X) → AllByRecursion P (xs ++ ys) → AllByRecursion P xs × AllByRecursion P ys
apart P [] ys p = (tt, p)
apart P (x ∷ xs) ys p = let rest = apart P xs ys p.1 in ((p.0, rest.0), rest.1)

one_reads : (s : RowState) (k : Claim) → AllByRecursion ReadsBack (records_of s k) → ClaimReadsBack k
one_reads state.Begun k p = p.0
one_reads state.Prepared k p = p.0
one_reads state.Leaving k p = p.0

abbrev IfRowReads : Option Row → Type 0
IfRowReads None = Unit {0}
IfRowReads (Some r) = ClaimReadsBack r.claim

abbrev IsNoRow : Option Row → Type 0
IsNoRow None = Unit {0}
IsNoRow (Some r) = ⊥

found_by : (b : Bool) (r s : Row) (other : Option Row) → (if b then Some r else other) ≡ Some s → ClaimReadsBack r.claim → (other ≡ Some s → ClaimReadsBack s.claim) → ClaimReadsBack s.claim
found_by true r s other is reads next = subst IfRowReads is reads
found_by false r s other is reads next = next is

-- a row of a table whose records read back
pub row_reads : (uid : List ℕ) (rows : List Row) (r : Row) → AllByRecursion ReadsBack (compact rows) → row_of uid rows ≡ Some r → ClaimReadsBack r.claim
row_reads uid [] r reads is = absurd (subst IsNoRow is tt)
row_reads uid (r ∷ rows) s reads is =
    let parts = apart ReadsBack (records_of r.state r.claim) (compact rows) reads in
    found_by (is_of uid r) r s (row_of uid rows) is (one_reads r.state r.claim parts.0) (row_reads uid rows s parts.1)

with_reads : (b : Bool) (pods more : List Key) → AllByRecursion KeyReadsBack pods → AllByRecursion KeyReadsBack more → AllByRecursion KeyReadsBack (if b then pods else more)
with_reads true pods more p q = p
with_reads false pods more p q = q

row_pods_read : (pod : Key) (s : RowState) (pods : List Key) → KeyReadsBack pod → AllByRecursion KeyReadsBack pods → AllByRecursion KeyReadsBack (pods_of_row pod s pods)
row_pods_read pod state.Begun pods one all = with_reads (has_pod pod pods) pods (pods ++ pod ∷ []) all (joined KeyReadsBack pods (pod ∷ []) all (one, tt))
row_pods_read pod state.Prepared pods one all = (one, tt)
row_pods_read pod state.Leaving pods one all = (one, tt)

pods_read : (pod : Key) (found : Option Row) → KeyReadsBack pod → ((r : Row) → found ≡ Some r → ClaimReadsBack r.claim) → AllByRecursion KeyReadsBack (begun_pods pod found)
pods_read pod None one reads = (one, tt)
pods_read pod (Some r) one reads = row_pods_read pod r.state r.claim.pods one (reads r refl).1.0

pub begun_reads : (pod : Key) (c : ClaimForNode) (rows : List Row) → IsReadable pod c → AllByRecursion ReadsBack (compact rows) → ClaimReadsBack (begun_claim pod c rows)
begun_reads pod c rows is reads = (is.key, (pods_read pod (row_of c.uid rows) is.pod (λ r found. row_reads c.uid rows r reads found), is.devices))
