-- What a call on the kubelet came to, and its line, are the turn of its claim.
use Rattle.std.proofs.Common.{ℕ, ◌+◌, ◌-◌, ◌^◌, ◌≤◌, ◌≡◌, ◌∙◌, Bool, true, false, List, ◌++◌, refl, sym, ap, subst, arith, if◌then◌else◌}
use Rattle.std.specs.Prelude.{Option, None, Some, Result, Ok, Err, IfOk, OnOk, IsErrOf, is_ok, min}
use Rattle.std.specs.Option.{option_map}
use Rattle.dra_ports.specs.Causes.{Rose}
use Rattle.ckpt_journal.specs.declared.record.Row.{Row}
use Rattle.journal_text.specs.Journal.{kubelet_line}
use Rattle.prepare_core.specs.Runs.{Follows, IsRun, Run, refused}
use Rattle.prepare_core.specs.declared.driver.DriverCall.{DriverCall}
use Rattle.prepare_core.specs.declared.error.KubeletError.{KubeletError}
use Rattle.prepare_core.specs.declared.error.KubeletError.TheVariants.{NotAllocated, NotReserved, OtherNode, DriverFault, DiskFault, Full, Closed, NotPrepared, Memory, NotAJournal}
use Rattle.pod_prepare.specs.Commands.{Asked, IsTurn, RoseBy, failed, prepare_by, prepare_turn, turn_of, unprepare_by, unprepare_turn}
use Rattle.pod_prepare.specs.Lines.{EndsCommand, IsLineOf}
use Rattle.pod_prepare.specs.ForNode.{ReadsBack, for_node}
use Rattle.pod_prepare.specs.Texts.{prepared_text, unprepared_text}
use Rattle.object_fields.specs.declared.key.Key.{Key}
use Rattle.pool_view.specs.Names.{at_key}
use Rattle.cluster.specs.declared.state.ClaimState.{ClaimState}
use Rattle.cluster.specs.declared.state.State.{State}
use Rattle.ckpt_journal.specs.Names.{KeyReadsBack}
use Rattle.prepare_core.specs.Prepare.{prepare_run}
use Rattle.prepare_core.specs.Readable.{IsReadable}
use Rattle.prepare_core.specs.Unprepare.{unprepare_run}
use Rattle.prepare_core.specs.declared.claim.ClaimForNode.{ClaimForNode}
use Rattle.api_print.specs.Metadata.{uid_text}
use Rattle.pod_prepare.proofs.Failing.{FailsAtMost}
use Rattle.pod_prepare.proofs.Going.{asked_none, rose_none}

-- the run with one result of the driver
by_run : {A : Type 0} (job : ℕ) (words : Result A KubeletError → List ℕ) (run : Bool → Run A) (ok : Bool) (r : Result A KubeletError) (rows : List Row) (text : List ℕ) (goes : Bool) (a b : Option (List DriverCall)) (f g : ℕ)
    → IsRun (run ok) r rows a b → IsLineOf job words r text goes → RoseBy (failed (run ok).calls) f g → IsTurn (λ o. turn_of job words (run o)) rows text goes a b f g
by_run job words run ok r rows text goes a b f g is line counted = record {
  ok = ok;
  table = sym is.rows;
  printed = line.line ∙ ap (λ r. kubelet_line job (words r)) (sym is.result);
  on = line.on ∙ ap (λ r. is_ok r) (sym is.result);
  asked = is.calls;
  counted = counted;
}

-- the count stays if no call failed
stays : {A : Type 0} (run : Run A) (f g : ℕ) → FailsAtMost true run → g ≡ f → RoseBy (failed run.calls) f g
stays run f g few same = omega (arith, few, same)

rises : {A : Type 0} (run : Run A) (f g : ℕ) → FailsAtMost false run → Rose f g → RoseBy (failed run.calls) f g
rises run f g few rose = omega (arith, few, rose)

pub turned : {A : Type 0} (job : ℕ) (words : Result A KubeletError → List ℕ) (run : Bool → Run A) (r : Result A KubeletError) (rows : List Row) (text : List ℕ) (goes : Bool) (a b : Option (List DriverCall)) (f g : ℕ)
    → ((ok : Bool) → FailsAtMost ok (run ok)) → Follows run r rows a b → (IsErrOf r DriverFault → Rose f g) → ((IsErrOf r DriverFault → ⊥) → g ≡ f) → IsLineOf job words r text goes
    → IsTurn (λ o. turn_of job words (run o)) rows text goes a b f g
turned job words run (Ok x) rows text goes a b f g few is rose same line = by_run job words run true (Ok x) rows text goes a b f g is line (stays (run true) f g (few true) (same (λ e. absurd (cc))))
turned job words run (Err Memory) rows text goes a b f g few is rose same line = absurd (line.told Memory refl tt)
turned job words run (Err DiskFault) rows text goes a b f g few is rose same line = absurd (line.told DiskFault refl tt)
turned job words run (Err DriverFault) rows text goes a b f g few is rose same line = by_run job words run false (Err DriverFault) rows text goes a b f g is line (rises (run false) f g (few false) (rose refl))
turned job words run (Err NotAllocated) rows text goes a b f g few is rose same line = by_run job words run true (Err NotAllocated) rows text goes a b f g is line (stays (run true) f g (few true) (same (λ e. absurd (cc))))
turned job words run (Err NotReserved) rows text goes a b f g few is rose same line = by_run job words run true (Err NotReserved) rows text goes a b f g is line (stays (run true) f g (few true) (same (λ e. absurd (cc))))
turned job words run (Err OtherNode) rows text goes a b f g few is rose same line = by_run job words run true (Err OtherNode) rows text goes a b f g is line (stays (run true) f g (few true) (same (λ e. absurd (cc))))
turned job words run (Err Full) rows text goes a b f g few is rose same line = by_run job words run true (Err Full) rows text goes a b f g is line (stays (run true) f g (few true) (same (λ e. absurd (cc))))
turned job words run (Err Closed) rows text goes a b f g few is rose same line = by_run job words run true (Err Closed) rows text goes a b f g is line (stays (run true) f g (few true) (same (λ e. absurd (cc))))
turned job words run (Err NotPrepared) rows text goes a b f g few is rose same line = by_run job words run true (Err NotPrepared) rows text goes a b f g is line (stays (run true) f g (few true) (same (λ e. absurd (cc))))
turned job words run (Err (NotAJournal at)) rows text goes a b f g few is rose same line = by_run job words run true (Err (NotAJournal at)) rows text goes a b f g is line (stays (run true) f g (few true) (same (λ e. absurd (cc))))

-- ---- of a claim of a state

pub if_ok : {A E : Type 0} (r : Result A E) (P Q : A → Type 0) → ((x : A) → P x → Q x) → IfOk r P → IfOk r Q
if_ok (Ok x) P Q f p = f x p
if_ok (Err e) P Q f p = tt

pub if_ok_two : {A E : Type 0} (r : Result A E) (P Q R : A → Type 0) → ((x : A) → P x → Q x → R x) → IfOk r P → IfOk r Q → IfOk r R
if_ok_two (Ok x) P Q R f p q = f x p q
if_ok_two (Err e) P Q R f p q = tt

pub on_ok : {A E : Type 0} (r : Result A E) (P : A → Type 0) (Q : Type 0) → ((x : A) → P x → Q) → IfOk r P → OnOk r Q
on_ok (Ok x) P Q f p = f x p
on_ok (Err e) P Q f p = tt

-- one that isn't there
prepare_absent : (half : ℕ) (node : List ℕ) (rows : List Row) (pod k : Key) (job : ℕ) (o : Option ClaimState) (text : List ℕ) (goes : Bool) (a : Option (List DriverCall)) (f : ℕ) → o ≡ None → IsLineOf job (prepared_text pod k) (Err NotAllocated) text goes
    → IsTurn (λ ok. turn_of job (prepared_text pod k) (prepare_by half node rows pod k ok o)) rows text goes a a f f
prepare_absent half node rows pod k job (Some c) text goes a f is line = absurd (cc)
prepare_absent half node rows pod k job None text goes a f is line =
    by_run job (prepared_text pod k) (λ ok. refused NotAllocated rows) true (Err NotAllocated) rows text goes a a f f (record { result = refl; rows = refl; calls = asked_none a }) line (rose_none f)

pub not_there : (x : Asked) (rows : List Row) (pod k : Key) (text : List ℕ) (goes : Bool) (a : Option (List DriverCall)) (f : ℕ) → at_key x.state.claims k ≡ None → IsLineOf x.job (prepared_text pod k) (Err NotAllocated) text goes
    → IsTurn (prepare_turn x pod rows k) rows text goes a a f f
not_there x rows pod k text goes a f is line = prepare_absent x.half x.node rows pod k x.job (at_key x.state.claims k) text goes a f is line

unprepare_absent : (half : ℕ) (node : List ℕ) (rows : List Row) (pod k : Key) (job : ℕ) (o : Option ClaimState) (text : List ℕ) (goes : Bool) (a : Option (List DriverCall)) (f : ℕ) → o ≡ None → IsLineOf job (unprepared_text pod k) (Err NotPrepared) text goes
    → IsTurn (λ ok. turn_of job (unprepared_text pod k) (unprepare_by half node rows pod ok o)) rows text goes a a f f
unprepare_absent half node rows pod k job (Some c) text goes a f is line = absurd (cc)
unprepare_absent half node rows pod k job None text goes a f is line =
    by_run job (unprepared_text pod k) (λ ok. refused NotPrepared rows) true (Err NotPrepared) rows text goes a a f f (record { result = refl; rows = refl; calls = asked_none a }) line (rose_none f)

pub none_prepared : (x : Asked) (rows : List Row) (pod k : Key) (text : List ℕ) (goes : Bool) (a : Option (List DriverCall)) (f : ℕ) → at_key x.state.claims k ≡ None → IsLineOf x.job (unprepared_text pod k) (Err NotPrepared) text goes
    → IsTurn (unprepare_turn x pod rows k) rows text goes a a f f
none_prepared x rows pod k text goes a f is line = unprepare_absent x.half x.node rows pod k x.job (at_key x.state.claims k) text goes a f is line

-- one that is there
pub prepare_there : (x : Asked) (rows next : List Row) (pod k : Key) (c : ClaimState) (told : ClaimForNode) (text : List ℕ) (goes : Bool) (a b : Option (List DriverCall)) (f g : ℕ) → at_key x.state.claims k ≡ Some c → told ≡ for_node k c
    → IsTurn (λ ok. turn_of x.job (prepared_text pod k) (prepare_run x.half false x.node rows pod told ok)) next text goes a b f g → IsTurn (prepare_turn x pod rows k) next text goes a b f g
prepare_there x rows next pod k c told text goes a b f g is same t =
    subst (λ (o : Option ClaimState). IsTurn (λ ok. turn_of x.job (prepared_text pod k) (prepare_by x.half x.node rows pod k ok o)) next text goes a b f g) (sym is)
    (subst (λ (d : ClaimForNode). IsTurn (λ ok. turn_of x.job (prepared_text pod k) (prepare_run x.half false x.node rows pod d ok)) next text goes a b f g) same t)

pub unprepare_there : (x : Asked) (rows next : List Row) (pod k : Key) (c : ClaimState) (uid : List ℕ) (text : List ℕ) (goes : Bool) (a b : Option (List DriverCall)) (f g : ℕ) → at_key x.state.claims k ≡ Some c → uid ≡ uid_text c.claim.uid
    → IsTurn (λ ok. turn_of x.job (unprepared_text pod k) (unprepare_run x.half false x.node rows pod uid ok)) next text goes a b f g → IsTurn (unprepare_turn x pod rows k) next text goes a b f g
unprepare_there x rows next pod k c uid text goes a b f g is same t =
    subst (λ (o : Option ClaimState). IsTurn (λ ok. turn_of x.job (unprepared_text pod k) (unprepare_by x.half x.node rows pod ok o)) next text goes a b f g) (sym is)
    (subst (λ (u : List ℕ). IsTurn (λ ok. turn_of x.job (unprepared_text pod k) (unprepare_run x.half false x.node rows pod u ok)) next text goes a b f g) same t)

-- the claim that is told reads back
pub told_reads : (s : State) (pod k : Key) (c : ClaimState) (told : ClaimForNode) → ReadsBack s → KeyReadsBack pod → at_key s.claims k ≡ Some c → told ≡ for_node k c → IsReadable pod told
told_reads s pod k c told reads readable is same =
    subst (λ (d : ClaimForNode). IsReadable pod d) (sym same) (record { pod = readable; key = reads.claims k c is; devices = reads.devices k c is })

pub ok_then : {A E : Type 0} (r : Result A E) (x : A) (Q : Type 0) → r ≡ Ok x → OnOk r Q → Q
ok_then (Ok y) x Q is q = q
ok_then (Err e) x Q is q = absurd (cc)

pub if_then : {A E : Type 0} (r : Result A E) (x : A) (P : A → Type 0) → r ≡ Ok x → IfOk r P → P x
if_then (Ok y) x P is p = let same : y ≡ x = cc (is) in subst P same p
if_then (Err e) x P is p = absurd (cc)

pub no_error : {A E : Type 0} (r : Result A E) (x : A) (e : E) → r ≡ Ok x → IsErrOf r e → ⊥
no_error (Ok y) x e is err = absurd (cc)
no_error (Err d) x e is err = absurd (cc)

pub is_on : (b : Bool) → (if b then false else true) ≡ false → b ≡ true
is_on true e = refl
is_on false e = absurd (cc)

pub is_off : (b : Bool) → (if b then false else true) ≡ true → b ≡ false
is_off true e = absurd (cc)
is_off false e = refl
