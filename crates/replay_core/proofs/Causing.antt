-- Why a replay has its status.
use Rattle.std.proofs.Common.{ℕ, zero, suc, ◌+◌, ◌≡◌, ◌∙◌, ◌⊎◌, inl, inr, true, false, List, [], ◌∷◌, ◌++◌, refl, sym, ap, subst, arith, append_assoc}
use Rattle.std.specs.Prelude.{Option, None, Some, Result, Ok, Err, IfSome}
use Rattle.dra_ports.specs.DiskContent.{Content}
use Rattle.cluster.specs.declared.entry.Entry.{Entry}
use Rattle.commands.specs.declared.given.Given.{Given}
use Rattle.commands.specs.declared.given.Given.TheVariants as given
use Rattle.ckpt_journal.specs.Table.{tabled}
use Rattle.ckpt_journal.specs.declared.record.Record.{Record}
use Rattle.pod_prepare.specs.Opening.{BeginsWith, IsFoundIn, IsNoJournal, IsRefusedDisk, Table}
use Rattle.pod_prepare.specs.Words.{TellsStill, tells}
use Rattle.replay_core.specs.declared.options.ReplayOptions.{ReplayOptions}
use Rattle.replay_core.specs.declared.status.Status.{Status}
use Rattle.replay_core.specs.declared.status.Status.TheVariants as status
use Rattle.replay_core.specs.Causes.{EndsBy, FindsNone, HasNoRoom, HoldsJournal, HoldsNone, IsFaultless, MayOpen, ReachesFirst, ReachesLimit}
use Rattle.replay_core.specs.Forms.{is_of_kubelet, kubelet_count, width}
use Rattle.replay_core.specs.Kubelet.{IsShown, Node, Setting, ShowFrom, Shown, Shows}
use Rattle.replay_core.specs.Replay.{Ends, EndsAt, EndsAtCheckpoint, EndsFull, HasNone, IsDone, IsRun}
use Rattle.replay_core.specs.Script.{Ending, Clean, Bad, Long, Script, commands_of, most_input, prepend, script_of}
use Rattle.replay_core.proofs.Running.{commands_joined, none_among}
use Rattle.replay_core.proofs.Showing.{run_stays_open}

-- ---- a command of the kubelet that was done has opened it

opens_here : (x : Setting) (n : ℕ) (before segment : List Entry) (g : Given) (table : Option Table) (shown : Shown) → is_of_kubelet g ≡ true → Shows x n before segment g table shown → (u : Table) × (shown.table ≡ Some u)
opens_here x n before segment (given.One c) table shown of shows = absurd (cc)
opens_here x n before segment (given.Together cs) table shown of shows = absurd (cc)
opens_here x n before segment (given.Prepare pod) table shown of does = (_, does.table)
opens_here x n before segment (given.Unprepare pod) table shown of does = (_, does.table)
opens_here x n before segment given.Reopen table shown of does = (does.again, does.table)

-- and what follows leaves it open
first_opens : (x : Setting) (g : Given) (gs : List Given) (n : ℕ) (before after : List Entry) (table : Option Table) (shown : Shown) → ShowFrom x n before (g ∷ gs) after table shown → is_of_kubelet g ≡ true → (u : Table) × (shown.table ≡ Some u)
unfolding ShowFrom
first_opens x g gs n before after table shown f of =
    let o = opens_here x n before f.segment g table f.first of f.shows in
    let r = run_stays_open x gs (n + width g) (before ++ f.segment) after o.0 f.rest (subst (λ (y : Option Table). ShowFrom x (n + width g) (before ++ f.segment) gs after y f.rest) o.1 f.follows) in
    (r.0, ap (λ (s : Shown). s.table) f.is ∙ r.1)

-- so the kubelet is open after commands of which one is the kubelet's
run_opens : (x : Setting) (gs : List Given) (n : ℕ) (before after : List Entry) (table : Option Table) (shown : Shown) → ShowFrom x n before gs after table shown → (kubelet_count gs ≡ 0 → ⊥) → (u : Table) × (shown.table ≡ Some u)
unfolding ShowFrom
run_opens x [] n before after table shown f some = absurd (some refl)
run_opens x (given.One c ∷ gs) n before after table shown f some =
    let r = run_opens x gs (n + 1) (before ++ f.segment) after f.first.table f.rest f.follows (λ none. some (omega (arith, none))) in
    (r.0, ap (λ (s : Shown). s.table) f.is ∙ r.1)
run_opens x (given.Together cs ∷ gs) n before after table shown f some =
    let r = run_opens x gs (n + width (given.Together cs)) (before ++ f.segment) after f.first.table f.rest f.follows (λ none. some (omega (arith, none))) in
    (r.0, ap (λ (s : Shown). s.table) f.is ∙ r.1)
run_opens x (given.Prepare pod ∷ gs) n before after table shown f some = first_opens x (given.Prepare pod) gs n before after table shown f refl
run_opens x (given.Unprepare pod ∷ gs) n before after table shown f some = first_opens x (given.Unprepare pod) gs n before after table shown f refl
run_opens x (given.Reopen ∷ gs) n before after table shown f some = first_opens x given.Reopen gs n before after table shown f refl

-- so the disk was empty, or a journal
found_in : (bytes : List ℕ) (t : Table) (at : ℕ) → IsFoundIn bytes t → IsNoJournal at bytes → ⊥
found_in [] t at found none = none
found_in (b ∷ bytes) t at found none =
    let e : tabled (Err at) ≡ Ok t.rows = subst (λ (r : Result (List Record) ℕ). tabled r ≡ Ok t.rows) none found.table in
    absurd (cc)

begins_in : (content : Option Content) (t : Table) (at : ℕ) → BeginsWith content t → HoldsNone at content → ⊥
begins_in None t at begins none = none
begins_in (Some c) t at begins none = found_in c.bytes t at begins none

opened_holds : (name : List ℕ) (found now : Node) (gs : List Given) (h : List Entry) (text : List ℕ) → IsShown name found now gs h text → (kubelet_count gs ≡ 0 → ⊥) → (at : ℕ) → HoldsNone at found.content → ⊥
opened_holds name found now gs h text s some at none =
    let o = run_opens (record { told = tells found.content; node = name; start = s.start }) gs 0 [] h None (record { text = text; table = now.table; calls = s.calls }) s.shows some in
    begins_in found.content s.start at (subst (λ (t : Option Table). IfSome t (λ _. BeginsWith found.content s.start)) o.1 s.opened) none

is_zero : (n : ℕ) → ((n ≡ 0 → ⊥) → ⊥) → n ≡ 0
is_zero zero h = refl
is_zero (suc n) h = absurd (h (λ e. absurd (cc)))

-- ---- why a replay ended

-- all commands of the script were done
record Whole (options : ReplayOptions) (bytes : List ℕ) (disk : Option Content) (s : Status) : Type 0 where
  pub is : EndsBy (script_of options.attempts bytes).ending s
  pub history : List Entry
  pub run : IsRun options (script_of options.attempts bytes).commands history
  pub usable : (at : ℕ) → FindsNone options bytes at disk → ⊥

-- the limit of the history was reached
record Reached (options : ReplayOptions) (bytes : List ℕ) (disk : Option Content) (s : Status) : Type 0 where
  pub is : s ≡ status.Limit options.entries
  pub reaches : ReachesLimit options bytes
  pub early : (at : ℕ) → HoldsNone at disk → kubelet_count (commands_of reaches.done) ≡ 0

-- the disk was no journal
record Refused (options : ReplayOptions) (bytes : List ℕ) (disk : Option Content) (s : Status) : Type 0 where
  pub at : ℕ
  pub is : s ≡ status.Checkpoint at
  pub needs : HasNone options.attempts (Some bytes) → ⊥
  pub refused : IsRefusedDisk at None disk

abbrev Caused : ReplayOptions → List ℕ → Option Content → Status → Type 0
Caused options bytes disk s = Whole options bytes disk s ⊎ ((s ≡ status.Memory) ⊎ (Reached options bytes disk s ⊎ Refused options bytes disk s))

whole_of : (options : ReplayOptions) (bytes : List ℕ) (found now : Node) (done : List (ℕ × Given)) (h : List Entry) (text : List ℕ) (ending : Ending) (s : Status)
    → script_of options.attempts bytes ≡ record { commands = done; ending = ending } → IsDone options found now done h text → EndsBy ending s → Whole options bytes found.content s
whole_of options bytes found now done h text ending s script so ends =
    let same : (script_of options.attempts bytes).commands ≡ done = ap (λ (x : Script). x.commands) script in
    record {
      is = subst (λ (e : Ending). EndsBy e s) (sym (ap (λ (x : Script). x.ending) script)) ends;
      history = h;
      run = subst (λ (cs : List (ℕ × Given)). IsRun options cs h) (sym same) so.run;
      usable = λ at finds. opened_holds options.node found now (commands_of done) h text so.shown
          (λ none. finds.needs (subst (λ (cs : List (ℕ × Given)). kubelet_count (commands_of cs) ≡ 0) (sym same) none)) at finds.holds;
    }

reached_of : (options : ReplayOptions) (bytes : List ℕ) (count : ℕ) (before after : Option (List ℕ)) (found now : Node) → EndsFull options count (Some bytes) before after found now → Reached options bytes found.content (status.Limit count)
reached_of options bytes count before after found now e =
    let script = e.script bytes refl in
    record {
      is = ap status.Limit (e.count_is ∙ sym e.part.full);
      reaches = record { done = e.done; at = e.at; command = e.command; rest = script.0; script = script.1; history = e.history; part = e.part };
      early = λ at none. is_zero (kubelet_count (commands_of e.done)) (λ some. opened_holds options.node found now (commands_of e.done) e.part.before e.text e.shown some at none);
    }

-- what a kubelet finds that is opened here is what was found at first
refused_first : (at : ℕ) (table : Option Table) (between found : Option Content) → TellsStill found between → (table ≡ None → between ≡ found) → IsRefusedDisk at table between → IsRefusedDisk at None found
refused_first at None between found still same refused = subst (λ (c : Option Content). IsRefusedDisk at None c) (same refl) refused
refused_first at (Some t) None None still same refused = tt
refused_first at (Some t) None (Some c) still same refused = absurd (cc)
refused_first at (Some t) (Some c) found still same refused = absurd refused

refused_of : (options : ReplayOptions) (bytes : List ℕ) (offset : ℕ) (before after : Option (List ℕ)) (found now : Node) → EndsAtCheckpoint options offset (Some bytes) before after found now → Refused options bytes found.content (status.Checkpoint offset)
refused_of options bytes offset before after found now e =
    let script = e.ends.script bytes refl in
    let one : List (ℕ × Given) = (e.ends.at, e.ends.command) ∷ [] in
    let are : commands_of (script_of options.attempts bytes).commands ≡ commands_of e.ends.done ++ e.ends.command ∷ commands_of script.0.commands =
    ap (λ (x : Script). commands_of x.commands) script.1
    ∙ commands_joined (e.ends.done ++ one) script.0.commands
    ∙ ap (λ (l : List Given). l ++ commands_of script.0.commands) (commands_joined e.ends.done one)
    ∙ append_assoc (commands_of e.ends.done) (commands_of one) (commands_of script.0.commands) in
    record {
      at = offset;
      is = refl;
      needs = λ none.
          let a = none_among (commands_of (script_of options.attempts bytes).commands) (commands_of e.ends.done) e.ends.command (commands_of script.0.commands) are none in
          let clash : true ≡ false = sym e.ends.is ∙ a.1 in
          absurd (cc);
      refused = refused_first offset e.ends.between.table e.ends.between.content found.content e.still e.as_found e.no_journal;
    }

limited : (options : ReplayOptions) (bytes : List ℕ) (count : ℕ) (before after : Option (List ℕ)) (found now : Node)
    → EndsFull options count (Some bytes) before after found now ⊎ ((count ≡ most_input) × EndsAt options Long (Some bytes) before after found now) → Caused options bytes found.content (status.Limit count)
limited options bytes count before after found now (inl e) = inr (inr (inl (reached_of options bytes count before after found now e)))
limited options bytes count before after found now (inr (is, e)) = inl (whole_of options bytes found now e.done e.history e.text Long (status.Limit count) (e.script bytes refl) e.so (ap status.Limit is))

caused : (options : ReplayOptions) (bytes : List ℕ) (left_now before after : Option (List ℕ)) (found now : Node) (s : Status) → Ends options (Some bytes) left_now before after found now s → IsFaultless s → Caused options bytes found.content s
caused options bytes left_now before after found now status.Done e f = inl (whole_of options bytes found now e.done e.history e.text Clean status.Done (e.script bytes refl) e.so refl)
caused options bytes left_now before after found now status.Usage e f = absurd e
caused options bytes left_now before after found now (status.Document at why) e f = inl (whole_of options bytes found now e.done e.history e.text (Bad at why) (status.Document at why) (e.script bytes refl) e.so refl)
caused options bytes left_now before after found now status.Memory e f = inr (inl refl)
caused options bytes left_now before after found now status.Read e f = absurd (f.read refl)
caused options bytes left_now before after found now status.Write e f = absurd (f.write refl)
caused options bytes left_now before after found now status.Disk e f = absurd (f.disk refl)
caused options bytes left_now before after found now (status.Limit count) e f = limited options bytes count before after found now e
caused options bytes left_now before after found now (status.Checkpoint at) e f = inr (inr (inr (refused_of options bytes at before after found now e)))
caused options bytes left_now before after found now status.Door e f = absurd e

-- ---- the laws

holds_one : (at : ℕ) (disk : Option Content) → HoldsJournal disk → IsRefusedDisk at None disk → ⊥
holds_one at None holds refused = holds
holds_one at (Some c) holds refused = holds at refused

opens_one : (options : ReplayOptions) (bytes : List ℕ) (disk : Option Content) (s : Status) → MayOpen options bytes disk → Refused options bytes disk s → ⊥
opens_one options bytes disk s (inl none) r = r.needs none
opens_one options bytes disk s (inr holds) r = holds_one r.at disk holds r.refused

same_in : (a b : ℕ) (bytes : List ℕ) → IsNoJournal a bytes → IsNoJournal b bytes → a ≡ b
same_in a b [] first second = absurd first
same_in a b (x ∷ bytes) first second = let e : Err a ≡ Err b = sym first ∙ second in cc

same_offset : (a b : ℕ) (disk : Option Content) → IsRefusedDisk a None disk → HoldsNone b disk → a ≡ b
same_offset a b None refused none = absurd none
same_offset a b (Some c) refused none = same_in a b c.bytes refused none

complete_by : (options : ReplayOptions) (bytes : List ℕ) (disk : Option Content) (s : Status) → Caused options bytes disk s → (ReachesLimit options bytes → ⊥) → MayOpen options bytes disk → EndsBy (script_of options.attempts bytes).ending s ⊎ (s ≡ status.Memory)
complete_by options bytes disk s (inl w) room may = inl w.is
complete_by options bytes disk s (inr (inl m)) room may = inr m
complete_by options bytes disk s (inr (inr (inl r))) room may = absurd (room r.reaches)
complete_by options bytes disk s (inr (inr (inr r))) room may = absurd (opens_one options bytes disk s may r)

limit_by : (options : ReplayOptions) (bytes : List ℕ) (disk : Option Content) (s : Status) → Caused options bytes disk s → HasNoRoom options bytes → MayOpen options bytes disk → (s ≡ status.Limit options.entries) ⊎ (s ≡ status.Memory)
limit_by options bytes disk s (inl w) room may = absurd (room w.history w.run)
limit_by options bytes disk s (inr (inl m)) room may = inr m
limit_by options bytes disk s (inr (inr (inl r))) room may = inl r.is
limit_by options bytes disk s (inr (inr (inr r))) room may = absurd (opens_one options bytes disk s may r)

checkpoint_by : (options : ReplayOptions) (bytes : List ℕ) (disk : Option Content) (s : Status) (at : ℕ) → Caused options bytes disk s → FindsNone options bytes at disk → (ReachesFirst options bytes → ⊥) → (s ≡ status.Checkpoint at) ⊎ (s ≡ status.Memory)
checkpoint_by options bytes disk s at (inl w) finds first = absurd (w.usable at finds)
checkpoint_by options bytes disk s at (inr (inl m)) finds first = inr m
checkpoint_by options bytes disk s at (inr (inr (inl r))) finds first = absurd (first (record { reaches = r.reaches; before = r.early at finds.holds }))
checkpoint_by options bytes disk s at (inr (inr (inr r))) finds first = inl (r.is ∙ ap status.Checkpoint (same_offset r.at at disk r.refused finds.holds))

pub complete : (options : ReplayOptions) (bytes : List ℕ) (left_now before after : Option (List ℕ)) (found now : Node) (s : Status)
    → Ends options (Some bytes) left_now before after found now s → IsFaultless s → (ReachesLimit options bytes → ⊥) → MayOpen options bytes found.content → EndsBy (script_of options.attempts bytes).ending s ⊎ (s ≡ status.Memory)
complete options bytes left_now before after found now s e f = complete_by options bytes found.content s (caused options bytes left_now before after found now s e f)

pub limit : (options : ReplayOptions) (bytes : List ℕ) (left_now before after : Option (List ℕ)) (found now : Node) (s : Status)
    → Ends options (Some bytes) left_now before after found now s → IsFaultless s → HasNoRoom options bytes → MayOpen options bytes found.content → (s ≡ status.Limit options.entries) ⊎ (s ≡ status.Memory)
limit options bytes left_now before after found now s e f = limit_by options bytes found.content s (caused options bytes left_now before after found now s e f)

pub checkpoint : (options : ReplayOptions) (bytes : List ℕ) (left_now before after : Option (List ℕ)) (found now : Node) (s : Status) (at : ℕ)
    → Ends options (Some bytes) left_now before after found now s → IsFaultless s → FindsNone options bytes at found.content → (ReachesFirst options bytes → ⊥) → (s ≡ status.Checkpoint at) ⊎ (s ≡ status.Memory)
checkpoint options bytes left_now before after found now s at e f = checkpoint_by options bytes found.content s at (caused options bytes left_now before after found now s e f)
