-- What a command of the kubelet shows.
use Rattle.std.proofs.Common.{ℕ, ◌≡◌, ◌∙◌, ◌+◌, List, [], ◌++◌, refl, sym, ap, subst, arith, append-nil}
use Rattle.std.specs.Prelude.{Bool, Option, None, Some, Result, Ok, Err, IfOk, IfErr, OnOk, OnErr, IfSome}
use Rattle.std.specs.Option.{option_map}
use Rattle.object_fields.specs.declared.key.Key.{Key}
use Rattle.dra_ports.specs.DiskContent.{Content}
use Rattle.cluster.specs.declared.entry.Entry.{Entry}
use Rattle.cluster.specs.declared.state.State.{State}
use Rattle.cluster.specs.History.{state_of}
use Rattle.commands.specs.declared.given.Given.{Given}
use Rattle.commands.specs.declared.given.Given.TheVariants as given
use Rattle.ckpt_journal.specs.Standing.{Keeps}
use Rattle.ckpt_journal.specs.declared.record.Row.{Row}
use Rattle.prepare_core.specs.declared.driver.DriverCall.{DriverCall}
use Rattle.pod_prepare.specs.Commands.{Asked, DidFrom, Done, Prepares, RoseBy, Unprepares}
use Rattle.pod_prepare.specs.Opening.{HasOpened, Table}
use Rattle.pod_prepare.specs.Reopening.{DidReopen}
use Rattle.pod_prepare.specs.Words.{TellsStill, tells}
use Rattle.replay_core.specs.declared.options.ReplayOptions.{ReplayOptions}
use Rattle.replay_core.specs.Kubelet.{DoesPod, DoesReopen, Node, Setting, Shown, opened}
use Rattle.replay_core.specs.Lines.{BeginsHere, ShownBy}

-- no call more
pub none_asked : (calls : Option (List DriverCall)) → calls ≡ option_map (λ before. before ++ []) calls
none_asked None = refl
none_asked (Some xs) = ap (λ (l : List DriverCall). Some l) (sym (append-nil xs))

pub none_failed : (n : ℕ) → RoseBy 0 n n
none_failed n = omega arith

-- what it has, once it is opened
opened_is : (x : Setting) (old : Option Table) (found : Option Content) → HasOpened old found x.start → opened x old ≡ x.start
opened_is x None found o = refl
opened_is x (Some had) found o = sym o

begins_here : (old new : Option Table) (table : Table) (found : Option Content) (start : Table) → new ≡ Some table → HasOpened old found start → BeginsHere old new found start
begins_here old None table found start is o = absurd (cc)
begins_here None (Some t) table found start is o = o
begins_here (Some had) (Some t) table found start is o = tt

not_closed : {A : Type 0} (new : Option Table) (table : Table) → new ≡ Some table → new ≡ None → A
not_closed new table is none = absurd (cc)

-- ---- the claims of a pod

does_pod : (command : Asked → Key → List Row → Done → Type 0) (told : Bool) (node : List ℕ) (job : ℕ) (pod : Key) (before : List Entry) (old : Option Table) (found : Option Content) (new : Option Table) (text : List ℕ)
    (calls_old calls_new : Option (List DriverCall)) (faults_old faults_new : ℕ) → (d : DidFrom command node (state_of before) job pod old found new text calls_old calls_new faults_old faults_new)
    → DoesPod command (record { told = told; node = node; start = d.start }) job pod before (opened (record { told = told; node = node; start = d.start }) old) (record { text = text; table = new; calls = d.did.done.calls })
does_pod command told node job pod before old found new text calls_old calls_new faults_old faults_new d =
    let x : Setting = record { told = told; node = node; start = d.start } in
    let shown : Shown = record { text = text; table = new; calls = d.did.done.calls } in
    subst (λ (t : Table). DoesPod command x job pod before t shown) (sym (opened_is x old found d.opened)) (record {
      done = d.did.done;
      does = d.did.does;
      text = d.did.printed;
      table = d.table ∙ ap (λ (r : List Row). Some (record { half = d.start.half; rows = r })) d.did.table;
      calls = refl;
    })

pub prepared_shown : (options : ReplayOptions) (n : ℕ) (before : List Entry) (pod : Key) (x y : Node) (text : List ℕ)
    → DidFrom Prepares options.node (state_of before) (n + 1) pod x.table x.content y.table text x.calls y.calls x.faults y.faults → TellsStill x.content y.content → IfSome y.table (λ t. IfSome y.content (Keeps t.rows))
    → ShownBy options n before [] (given.Prepare pod) x y text
prepared_shown options n before pod x y text d still kept = record {
  start = d.start;
  calls = d.did.done.calls;
  shows = does_pod Prepares (tells x.content) options.node (n + 1) pod before x.table x.content y.table text x.calls y.calls x.faults y.faults d;
  opened = begins_here x.table y.table (record { half = d.start.half; rows = d.rows }) x.content d.start d.table d.opened;
  asked = d.did.asked;
  counted = d.did.counted;
  still = still;
  kept = kept;
  untouched = not_closed y.table (record { half = d.start.half; rows = d.rows }) d.table;
}

pub unprepared_shown : (options : ReplayOptions) (n : ℕ) (before : List Entry) (pod : Key) (x y : Node) (text : List ℕ)
    → DidFrom Unprepares options.node (state_of before) (n + 1) pod x.table x.content y.table text x.calls y.calls x.faults y.faults → TellsStill x.content y.content → IfSome y.table (λ t. IfSome y.content (Keeps t.rows))
    → ShownBy options n before [] (given.Unprepare pod) x y text
unprepared_shown options n before pod x y text d still kept = record {
  start = d.start;
  calls = d.did.done.calls;
  shows = does_pod Unprepares (tells x.content) options.node (n + 1) pod before x.table x.content y.table text x.calls y.calls x.faults y.faults d;
  opened = begins_here x.table y.table (record { half = d.start.half; rows = d.rows }) x.content d.start d.table d.opened;
  asked = d.did.asked;
  counted = d.did.counted;
  still = still;
  kept = kept;
  untouched = not_closed y.table (record { half = d.start.half; rows = d.rows }) d.table;
}

-- ---- opened again

pub reopened_shown : (options : ReplayOptions) (n : ℕ) (before : List Entry) (x y : Node) (text : List ℕ)
    → DidReopen (n + 1) x.table x.content y.table text → y.calls ≡ x.calls → y.faults ≡ x.faults → TellsStill x.content y.content → IfSome y.table (λ t. IfSome y.content (Keeps t.rows))
    → ShownBy options n before [] given.Reopen x y text
reopened_shown options n before x y text d calls faults still kept =
    let setting : Setting = record { told = tells x.content; node = options.node; start = d.reopened.start } in
    let shown : Shown = record { text = text; table = y.table; calls = [] } in
    record {
      start = d.reopened.start;
      calls = [];
      shows = subst (λ (t : Table). DoesReopen setting (n + 1) t shown) (sym (opened_is setting x.table x.content d.reopened.opened)) (record {
        again = d.again;
        reopened = d.reopened.again;
        text = d.printed;
        table = d.table;
        calls = refl;
      });
      opened = begins_here x.table y.table d.again x.content d.reopened.start d.table d.reopened.opened;
      asked = calls ∙ none_asked x.calls;
      counted = subst (λ (f : ℕ). RoseBy 0 x.faults f) (sym faults) (none_failed x.faults);
      still = still;
      kept = kept;
      untouched = not_closed y.table d.again d.table;
    }

-- ---- results of calls: what holds if there is a text

pub prepared_by : {V E Going : Type 0} (r : Result V E) (items : V → List ℕ) (options : ReplayOptions) (n : ℕ) (before : List Entry) (pod : Key) (command : Given) (x y : Node) (node : List ℕ) (s : State)
    → command ≡ given.Prepare pod → node ≡ options.node → s ≡ state_of before
    → IfOk r (λ v. DidFrom Prepares node s (n + 1) pod x.table x.content y.table (items v) x.calls y.calls x.faults y.faults) → OnOk r (TellsStill x.content y.content) → OnOk r Going
    → (Going → IfSome y.table (λ t. IfSome y.content (Keeps t.rows))) → IfOk r (λ v. ShownBy options n before [] command x y (items v))
prepared_by (Ok v) items options n before pod command x y node s is same state did still going keeps =
    let d = subst (λ (m : List ℕ). DidFrom Prepares m s (n + 1) pod x.table x.content y.table (items v) x.calls y.calls x.faults y.faults) same did in
    let e = subst (λ (t : State). DidFrom Prepares options.node t (n + 1) pod x.table x.content y.table (items v) x.calls y.calls x.faults y.faults) state d in
    subst (λ (c : Given). ShownBy options n before [] c x y (items v)) (sym is) (prepared_shown options n before pod x y (items v) e still (keeps going))
prepared_by (Err e) items options n before pod command x y node s is same state did still going keeps = tt

pub unprepared_by : {V E Going : Type 0} (r : Result V E) (items : V → List ℕ) (options : ReplayOptions) (n : ℕ) (before : List Entry) (pod : Key) (command : Given) (x y : Node) (node : List ℕ) (s : State)
    → command ≡ given.Unprepare pod → node ≡ options.node → s ≡ state_of before
    → IfOk r (λ v. DidFrom Unprepares node s (n + 1) pod x.table x.content y.table (items v) x.calls y.calls x.faults y.faults) → OnOk r (TellsStill x.content y.content) → OnOk r Going
    → (Going → IfSome y.table (λ t. IfSome y.content (Keeps t.rows))) → IfOk r (λ v. ShownBy options n before [] command x y (items v))
unprepared_by (Ok v) items options n before pod command x y node s is same state did still going keeps =
    let d = subst (λ (m : List ℕ). DidFrom Unprepares m s (n + 1) pod x.table x.content y.table (items v) x.calls y.calls x.faults y.faults) same did in
    let e = subst (λ (t : State). DidFrom Unprepares options.node t (n + 1) pod x.table x.content y.table (items v) x.calls y.calls x.faults y.faults) state d in
    subst (λ (c : Given). ShownBy options n before [] c x y (items v)) (sym is) (unprepared_shown options n before pod x y (items v) e still (keeps going))
unprepared_by (Err e) items options n before pod command x y node s is same state did still going keeps = tt

pub reopened_by : {V E Going : Type 0} (r : Result V E) (items : V → List ℕ) (options : ReplayOptions) (n : ℕ) (before : List Entry) (command : Given) (x y : Node)
    → command ≡ given.Reopen → IfOk r (λ v. DidReopen (n + 1) x.table x.content y.table (items v)) → y.calls ≡ x.calls → y.faults ≡ x.faults → OnOk r (TellsStill x.content y.content) → OnOk r Going
    → (Going → IfSome y.table (λ t. IfSome y.content (Keeps t.rows))) → IfOk r (λ v. ShownBy options n before [] command x y (items v))
reopened_by (Ok v) items options n before command x y is did calls faults still going keeps =
    subst (λ (c : Given). ShownBy options n before [] c x y (items v)) (sym is) (reopened_shown options n before x y (items v) did calls faults still (keeps going))
reopened_by (Err e) items options n before command x y is did calls faults still going keeps = tt

pub if_then : {A E : Type 0} (r : Result A E) (x : A) (P : A → Type 0) → r ≡ Ok x → IfOk r P → P x
if_then (Ok y) x P is p = let same : y ≡ x = cc (is) in subst P same p
if_then (Err e) x P is p = absurd (cc)

pub on_err_then : {A E : Type 0} (r : Result A E) (e : E) (Q : Type 0) → r ≡ Err e → OnErr r Q → Q
on_err_then (Ok x) e Q is q = absurd (cc)
on_err_then (Err d) e Q is q = q

pub if_err_then : {A E : Type 0} (r : Result A E) (P Q : E → Type 0) → ((e : E) → P e → Q e) → IfErr r P → IfErr r Q
if_err_then (Ok x) P Q f p = tt
if_err_then (Err e) P Q f p = f e p

pub on_ok_then : {A E : Type 0} (r : Result A E) (P Q : Type 0) → (P → Q) → OnOk r P → OnOk r Q
on_ok_then (Ok x) P Q f p = f p
on_ok_then (Err e) P Q f p = tt
