-- What one command comes to, whose lines are printed whole or in part.
use Rattle.std.proofs.Common.{ℕ, ◌≡◌, ◌∙◌, ◌+◌, inl, inr, true, false, List, [], ◌∷◌, ◌++◌, length, refl, sym, ap, subst, append-nil}
use Rattle.std.specs.Prelude.{Option, None, Some, IfSome, drop}
use Rattle.std.specs.Io.KnownBytes.{Appends}
use Rattle.dra_ports.specs.Prefixes.{AppendsPrefix}
use Rattle.dra_ports.specs.DiskContent.{Content}
use Rattle.dra_ports.specs.declared.error.PortError.{PortError}
use Rattle.dra_ports.specs.declared.error.PortError.TheVariants as port
use Rattle.cluster.specs.declared.entry.Entry.{Entry}
use Rattle.sched_job.specs.Ledgers.{History}
use Rattle.commands.specs.declared.given.Given.{Given}
use Rattle.commands.specs.declared.given.Given.TheVariants as given
use Rattle.journal_text.specs.Journal.{lines_from}
use Rattle.ckpt_journal.specs.Standing.{Keeps}
use Rattle.pod_prepare.specs.Opening.{Table}
use Rattle.pod_prepare.specs.Words.{tells}
use Rattle.replay_core.specs.declared.options.ReplayOptions.{ReplayOptions}
use Rattle.replay_core.specs.declared.status.Status.{Status}
use Rattle.replay_core.specs.declared.status.Status.TheVariants as status
use Rattle.replay_core.specs.declared.work.Work.{Work}
use Rattle.replay_core.specs.Forms.{is_of_kubelet, width}
use Rattle.replay_core.specs.Kubelet.{Node, Shown, Shows, Setting, entries_shown}
use Rattle.replay_core.specs.Lines.{BeginsHere, Did, JobsShort, JobsStop, PrintedShort, RanNext, RanPrinted, ShownBy, ShownNext, Stops, new_lines, output_status}
use Rattle.replay_core.proofs.Asking.{none_asked, none_failed}
use Rattle.replay_core.proofs.Showing.{asked_on_none}
use Rattle.replay_core.proofs.Orders.{ran_nothing}

-- ---- commands of the kubelet

one_wide : (c : Given) → is_of_kubelet c ≡ true → width c ≡ 1
one_wide (given.One command) is = absurd (cc)
one_wide (given.Together commands) is = absurd (cc)
one_wide (given.Prepare pod) is = refl
one_wide (given.Unprepare pod) is = refl
one_wide given.Reopen is = refl

-- its lines were printed
pub kubelet_did : (options : ReplayOptions) (c : Given) (old new : Work) (x y : Node) (before after : Option (List ℕ)) (text : List ℕ) → is_of_kubelet c ≡ true → new ≡ record old { commands = old.commands + 1 }
    → ShownBy options old.commands old.ledger.entries [] c x y text → Appends before after text → Did options c old new x y before after
kubelet_did options c old new x y before after text kubelet is shown printed =
    subst (λ (w : Work). Did options c old w x y before after) (sym is) (record {
      ran = ran_nothing old.commands c options.budget old.ledger kubelet;
      counted = ap (λ (n : ℕ). old.commands + n) (sym (one_wide c kubelet));
      text = text;
      shown = record { segment = []; grown = sym (append-nil old.ledger.entries); by = shown };
      printed = printed;
    })

-- or a prefix of them
kubelet_short : (options : ReplayOptions) (c : Given) (old new : Work) (x y : Node) (before after : Option (List ℕ)) (text : List ℕ) → is_of_kubelet c ≡ true → new ≡ record old { commands = old.commands + 1 }
    → ShownBy options old.commands old.ledger.entries [] c x y text → AppendsPrefix before after text → PrintedShort options c old new x y before after
kubelet_short options c old new x y before after text kubelet is shown printed =
    subst (λ (w : Work). PrintedShort options c old w x y before after) (sym is) (inl (record {
      ran = ran_nothing old.commands c options.budget old.ledger kubelet;
      text = text;
      shown = record { segment = []; grown = sym (append-nil old.ledger.entries); by = shown };
      printed = printed;
    }))

short_by : (options : ReplayOptions) (c : Given) (old new : Work) (x y : Node) (before after : Option (List ℕ)) (e : PortError) → PrintedShort options c old new x y before after → Stops options c old new x y before after (output_status e)
short_by options c old new x y before after port.Failed short = short
short_by options c old new x y before after port.Memory short = inr short

pub kubelet_unwritten : (options : ReplayOptions) (c : Given) (old new : Work) (x y : Node) (before after : Option (List ℕ)) (text : List ℕ) (e : PortError) (s : Status) → s ≡ output_status e → is_of_kubelet c ≡ true → new ≡ record old { commands = old.commands + 1 }
    → ShownBy options old.commands old.ledger.entries [] c x y text → AppendsPrefix before after text → Stops options c old new x y before after s
kubelet_unwritten options c old new x y before after text e s status kubelet is shown printed =
    subst (λ (t : Status). Stops options c old new x y before after t) (sym status)
    (short_by options c old new x y before after e (kubelet_short options c old new x y before after text kubelet is shown printed))

-- ---- jobs

drop_prefix : (xs ys : List Entry) → drop (length xs) (xs ++ ys) ≡ ys
drop_prefix [] ys = refl
drop_prefix (x ∷ xs) ys = drop_prefix xs ys

-- what isn't asked shows its entries alone
shows_entries : (x : Setting) (n : ℕ) (before segment : List Entry) (c : Given) (table : Option Table) (shown : Shown) → is_of_kubelet c ≡ false → shown ≡ entries_shown before segment table → Shows x n before segment c table shown
shows_entries x n before segment (given.One command) table shown not is = is
shows_entries x n before segment (given.Together commands) table shown not is = is
shows_entries x n before segment (given.Prepare pod) table shown not is = absurd (cc)
shows_entries x n before segment (given.Unprepare pod) table shown not is = absurd (cc)
shows_entries x n before segment given.Reopen table shown not is = absurd (cc)

begins_nowhere : (table : Option Table) (found : Option Content) (start : Table) → BeginsHere table table found start
begins_nowhere None found start = tt
begins_nowhere (Some t) found start = tt

jobs_shown : (options : ReplayOptions) (c : Given) (old new : Work) (x : Node) → is_of_kubelet c ≡ false → RanNext options c old new → IfSome x.table (λ t. IfSome x.content (Keeps t.rows))
    → ShownNext options c old new x x (new_lines old.ledger new.ledger)
jobs_shown options c old new x not ran kept =
    let start : Table = record { half = 0; rows = [] } in
    let setting : Setting = record { told = tells x.content; node = options.node; start = start } in
    let shown : Shown = record { text = new_lines old.ledger new.ledger; table = x.table; calls = [] } in
    let grown : new.ledger.entries ≡ old.ledger.entries ++ ran.segment = ap (λ (h : History). h.entries) ran.is in
    let rest : drop (length old.ledger.entries) new.ledger.entries ≡ ran.segment = ap (drop (length old.ledger.entries)) grown ∙ drop_prefix old.ledger.entries ran.segment in
    record {
      segment = ran.segment;
      grown = grown;
      by = record {
        start = start;
        calls = [];
        shows = shows_entries setting old.commands old.ledger.entries ran.segment c x.table shown not (ap (λ (es : List Entry). record { text = lines_from (length old.ledger.entries) es; table = x.table; calls = [] }) rest);
        opened = begins_nowhere x.table x.content start;
        asked = none_asked x.calls;
        counted = none_failed x.faults;
        still = refl;
        kept = kept;
        untouched = λ closed. refl;
      };
    }

pub jobs_did : (options : ReplayOptions) (c : Given) (old new : Work) (x : Node) (before after : Option (List ℕ)) → is_of_kubelet c ≡ false → RanPrinted options c old new before after → IfSome x.table (λ t. IfSome x.content (Keeps t.rows))
    → Did options c old new x x before after
jobs_did options c old new x before after not did kept = record {
  ran = did.ran;
  counted = did.counted;
  text = new_lines old.ledger new.ledger;
  shown = jobs_shown options c old new x not did.ran kept;
  printed = did.printed;
}

jobs_short : (options : ReplayOptions) (c : Given) (old new : Work) (x : Node) (before after : Option (List ℕ)) → is_of_kubelet c ≡ false → JobsShort options c old new before after → IfSome x.table (λ t. IfSome x.content (Keeps t.rows))
    → PrintedShort options c old new x x before after
jobs_short options c old new x before after not (inl short) kept = inl (record {
  ran = short.ran;
  text = new_lines old.ledger new.ledger;
  shown = jobs_shown options c old new x not short.ran kept;
  printed = short.printed;
})
jobs_short options c old new x before after not (inr short) kept = inr (record { count = short.count; met = short.met; same = refl; printed = short.printed })

-- why they weren't done, whatever the kubelet is
pub jobs_stopped : (options : ReplayOptions) (c : Given) (old new : Work) (x : Node) (before after : Option (List ℕ)) (s : Status) → is_of_kubelet c ≡ false → IfSome x.table (λ t. IfSome x.content (Keeps t.rows)) → JobsStop options c old new before after s
    → Stops options c old new x x before after s
jobs_stopped options c old new x before after status.Done not kept stop = stop
jobs_stopped options c old new x before after status.Usage not kept stop = stop
jobs_stopped options c old new x before after (status.Document index why) not kept stop = stop
jobs_stopped options c old new x before after status.Memory not kept (inl printed) = inl (printed, asked_on_none x)
jobs_stopped options c old new x before after status.Memory not kept (inr short) = inr (jobs_short options c old new x before after not short kept)
jobs_stopped options c old new x before after status.Read not kept stop = stop
jobs_stopped options c old new x before after status.Write not kept short = jobs_short options c old new x before after not short kept
jobs_stopped options c old new x before after status.Disk not kept stop = absurd stop
jobs_stopped options c old new x before after (status.Limit n) not kept met = record { met = met.met; same = refl; printed = met.printed }
jobs_stopped options c old new x before after (status.Checkpoint offset) not kept stop = absurd stop
jobs_stopped options c old new x before after status.Door not kept stop = absurd stop
