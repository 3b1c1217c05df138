-- One turn of a replay.
use Rattle.std.proofs.Common.{ℕ, ◌+◌, ◌^◌, ◌<◌, ◌≤◌, ◌≡◌, ◌∙◌, List, [], ◌∷◌, ◌++◌, refl, sym, ap, subst, arith, inl, inr}
use Rattle.std.specs.Prelude.{Option, None, Some, Ok, Err}
use Rattle.std.specs.Io.KnownBytes.{Consumes, IsAtEnd, prepend_known}
use Rattle.doc_split.specs.declared.error.DocError.{DocError}
use Rattle.doc_split.specs.declared.error.DocError.TheVariants as doc
use Rattle.doc_split.specs.Answers.{Answers, EndsSo, IsNext, document_of}
use Rattle.doc_split.specs.declared.doc.Doc.{Doc}
use Rattle.doc_split.specs.Documents as documents
use Rattle.doc_split.specs.Limits.{the_limits}
use Rattle.doc_split.specs.Split.{Split, remaining}
use Rattle.cluster.specs.declared.entry.Entry.{Entry}
use Rattle.cluster.specs.declared.entry.JobState.TheVariants.{Fresh}
use Rattle.sched_job.specs.Ledgers.{History}
use Rattle.histories.specs.Legal.{Legal, LegalAfter}
use Rattle.cluster.specs.History.{job_state_of}
use Rattle.commands.specs.declared.given.Given.{Given}
use Rattle.commands.specs.Readings.{reading}
use Rattle.commands.specs.Readings as readings
use Rattle.dra_ports.specs.declared.disk.Disk.{Ghosts}
use Rattle.pod_prepare.specs.Words.{disk_of}
use Rattle.pod_prepare.specs.declared.lazy.LazyKubelet.{LazyKubelet}
use Rattle.pod_prepare.specs.declared.lazy.LazyKubelet.TheVariants.{Closed}
use Rattle.replay_core.specs.declared.options.ReplayOptions.{ReplayOptions}
use Rattle.replay_core.specs.declared.status.Status.{Status}
use Rattle.replay_core.specs.declared.work.Work.{Work}
use Rattle.replay_core.specs.Forms.{kubelet_count}
use Rattle.replay_core.specs.Script.{Script, add_commands, at_each, commands_of, most_input, prepend, script_of}
use Rattle.replay_core.specs.Jobs.{RunFrom, RunOf}
use Rattle.replay_core.specs.Kubelet.{IsShown, Node}
use Rattle.replay_core.specs.Lines.{Summarized, input_status}
use Rattle.replay_core.specs.Replay.{Ends, EndsShort, HasNone, IsRun}
use Rattle.replay_core.specs.Progress.{IsReady, IsSound, Progress}
use Rattle.replay_core.specs.Turns.{DocumentDid, DocumentStops}
use Rattle.replay_core.proofs.Known.{appends_none}
use Rattle.replay_core.proofs.Ending.{OnceLaw, TellsDocument, document_moves, document_stops, ends_at, memory_short, over_document, read_short, summary_ends, tells_document, tells_none}
use Rattle.replay_core.proofs.Running.{commands_each, commands_joined, kubelet_joined}
use Rattle.replay_core.proofs.Scripts.{document_is}
use Rattle.replay_core.proofs.Showing.{asked_on_none, shown_none}

-- where the bytes that are pending and those that are left are none, none are left
pub left_at_end : (pending : List ℕ) (left : Option (List ℕ)) → IsAtEnd (prepend_known pending left) → IsAtEnd left
left_at_end pending None end = tt
left_at_end [] (Some xs) end = end
left_at_end (b ∷ bs) (Some xs) end = absurd (cc)

next_of : (a b : Split) (left_a left_b : Option (List ℕ)) (o : Option Doc) (d : Doc) → o ≡ Some d → Answers the_limits a b left_a left_b (Ok o) → IsNext the_limits a b left_a left_b (document_of d)
next_of a b left_a left_b o d e answers = subst (λ (x : Option Doc). Answers the_limits a b left_a left_b (Ok x)) e answers

-- a document was next, and was done
pub step_on : OnceLaw → (options : ReplayOptions) (left before was written : Option (List ℕ)) (found x y : Node) (a b : Split) (left_a left_b : Option (List ℕ)) (work work_now : Work) (o : Option Doc) (d : Doc) → o ≡ Some d
    → Answers the_limits a b left_a left_b (Ok o) → DocumentDid options d.at d.bytes.items work work_now x y was written → Progress options found x left (remaining a left_a) before was a.at work
    → Progress options found y left (remaining b left_b) before written b.at work_now
step_on once options left before was written found x y a b left_a left_b work work_now o d e answers did p =
    let n = next_of a b left_a left_b o d e answers in
    over_document once options left before was written found x y a b left_a left_b work work_now (document_of d) p n
    (document_moves options found x y before was written p.done d.at d.bytes.items work work_now p.standing did)

-- it wasn't
pub step_ends : (options : ReplayOptions) (left before was written : Option (List ℕ)) (found x y : Node) (a b : Split) (left_a left_b : Option (List ℕ)) (work work_now : Work) (o : Option Doc) (d : Doc) (s : Status) → o ≡ Some d
    → Answers the_limits a b left_a left_b (Ok o) → DocumentStops options d.at d.bytes.items work work_now x y was written s → IsSound work_now.ledger → Progress options found x left (remaining a left_a) before was a.at work
    → Ends options left left_b before written found y s
step_ends options left before was written found x y a b left_a left_b work work_now o d s e answers stops sound p =
    let n = next_of a b left_a left_b o d e answers in
    document_stops options left left_b before was written found x y p.done d.at d.bytes.items work work_now s p.standing
    (tells_document options left before was found x a b left_a left_b work (document_of d) p n) sound stops

-- there was none, to the end
pub end_of : (a b : Split) (left_a left_b : Option (List ℕ)) (o : Option Doc) → o ≡ None → Answers the_limits a b left_a left_b (Ok o) → EndsSo the_limits a b left_a left_b documents.Clean
end_of a b left_a left_b o e answers = subst (λ (x : Option Doc). Answers the_limits a b left_a left_b (Ok x)) e answers

pub end_ends : (options : ReplayOptions) (left before was written : Option (List ℕ)) (found x : Node) (a b : Split) (left_a left_b : Option (List ℕ)) (work : Work) (o : Option Doc) (s : Status) → o ≡ None
    → Answers the_limits a b left_a left_b (Ok o) → Summarized work was written s → Progress options found x left (remaining a left_a) before was a.at work → Ends options left left_b before written found x s
end_ends options left before was written found x a b left_a left_b work o s e answers printed p =
    let n = end_of a b left_a left_b o e answers in
    summary_ends options left left_b before was written found x p.done work s p.standing (tells_none options left before was found x a left_a work documents.Clean p n.none) printed

-- there is no next document
pub none_ends : (options : ReplayOptions) (left before written : Option (List ℕ)) (found x : Node) (a b : Split) (left_a left_b : Option (List ℕ)) (work : Work) (e : DocError) → Progress options found x left (remaining a left_a) before written a.at work
    → Answers the_limits a b left_a left_b (Err e) → Ends options left left_b before written found x (input_status e)
none_ends options left before written found x a b left_a left_b work doc.ReadFault p n = read_short options left left_b before written found x a left_a work p n
none_ends options left before written found x a b left_a left_b work (doc.Unclosed at) p n = ends_at options left before written found x a left_a work (documents.Unclosed at) p n.none
none_ends options left before written found x a b left_a left_b work (doc.Stray at) p n = ends_at options left before written found x a left_a work (documents.Stray at) p n
none_ends options left before written found x a b left_a left_b work (doc.TooLong at) p n = ends_at options left before written found x a left_a work (documents.TooLong at) p n
none_ends options left before written found x a b left_a left_b work doc.Memory p n = memory_short options left (remaining a left_a) before written found x a.at work p
none_ends options left before written found x a b left_a left_b work doc.Input p n = inr (refl, ends_at options left before written found x a left_a work documents.Long p n)

-- ---- an input that asks for nothing of the kubelet

sum_none : (a b c : ℕ) → a + (b + c) ≡ 0 → b ≡ 0
sum_none a b c none = omega (arith, none)

none_in : (attempts : ℕ) (script : Script) (done : List (ℕ × Given)) (at : ℕ) (document : List ℕ) (cs : List Given) (rest : Script) → kubelet_count (commands_of script.commands) ≡ 0
    → script ≡ prepend done (add_commands at (reading attempts document) rest) → reading attempts document ≡ readings.Asks cs → kubelet_count cs ≡ 0
none_in attempts script done at document cs rest none is asks =
    let all : script.commands ≡ (done ++ at_each at cs) ++ rest.commands = ap (λ (s : Script). s.commands) (is ∙ document_is done at (reading attempts document) cs rest asks) in
    let parts : commands_of ((done ++ at_each at cs) ++ rest.commands) ≡ (commands_of done ++ cs) ++ commands_of rest.commands =
    commands_joined (done ++ at_each at cs) rest.commands
    ∙ ap (λ (l : List Given). l ++ commands_of rest.commands) (commands_joined done (at_each at cs) ∙ ap (λ (l : List Given). commands_of done ++ l) (commands_each at cs)) in
    let count : kubelet_count (commands_of script.commands) ≡ kubelet_count ((commands_of done ++ cs) ++ commands_of rest.commands) = ap (λ (l : List (ℕ × Given)). kubelet_count (commands_of l)) all ∙ ap kubelet_count parts in
    omega (arith, none, count, kubelet_joined (commands_of done ++ cs) (commands_of rest.commands), kubelet_joined (commands_of done) cs)

none_of : (options : ReplayOptions) (left : Option (List ℕ)) (done : List (ℕ × Given)) (at : ℕ) (document : List ℕ) (cs : List Given) → HasNone options.attempts left → TellsDocument options left done at document → reading options.attempts document ≡ readings.Asks cs → kubelet_count cs ≡ 0
none_of options None done at document cs none tells asks = absurd none
none_of options (Some bytes) done at document cs none tells asks =
    let t = tells bytes refl in none_in options.attempts (script_of options.attempts bytes) done at document cs t.0 none t.1 asks

-- none of its documents does
pub step_quiet : (options : ReplayOptions) (left before was : Option (List ℕ)) (found x : Node) (a b : Split) (left_a left_b : Option (List ℕ)) (work : Work) (o : Option Doc) (d : Doc) → o ≡ Some d
    → Answers the_limits a b left_a left_b (Ok o) → Progress options found x left (remaining a left_a) before was a.at work → HasNone options.attempts left
    → (cs : List Given) → reading options.attempts d.bytes.items ≡ readings.Asks cs → kubelet_count cs ≡ 0
step_quiet options left before was found x a b left_a left_b work o d e answers p none cs asks =
    none_of options left p.done d.at d.bytes.items cs none (tells_document options left before was found x a b left_a left_b work (document_of d) p (next_of a b left_a left_b o d e answers)) asks

-- a kubelet that wasn't opened gives back its disk
pub same_disk : {D : Type 0} {ghosts : Ghosts D} (k was : LazyKubelet D ghosts) (disk back : D) → k ≡ was → was ≡ Closed disk → back ≡ disk_of k → back ≡ disk
same_disk k was disk back is first closed = closed ∙ ap disk_of (is ∙ first)

-- ---- the beginning

empty_run : (options : ReplayOptions) → IsRun options [] []
unfolding Legal LegalAfter RunOf RunFrom
empty_run limit = record { within = omega arith; legal = tt; run = refl }

begins_with : (left : Option (List ℕ)) → Consumes left (prepend_known [] left) []
begins_with None = tt
begins_with (Some xs) = refl

-- nothing was taken, and nothing done
pub progress_begins : (options : ReplayOptions) (left before : Option (List ℕ)) (found : Node) (work : Work) → found.table ≡ None → options.entries < 2 ^ 48 → ((job : ℕ) → job_state_of [] job ≡ Fresh) → work.commands ≡ 0
    → work.ledger ≡ record { entries = []; limit = options.entries } → Progress options found found left (prepend_known [] left) before before 0 work
progress_begins options left before found work closed small law none ledger =
    let entries : work.ledger.entries ≡ [] = ap (λ (h : History). h.entries) ledger in
    record {
      taken = [];
      consumed = begins_with left;
      done = [];
      script = λ ended more. refl;
      standing = record {
        run = subst (λ (h : List Entry). IsRun options [] h) (sym entries) (empty_run options);
        text = [];
        shown = subst (λ (h : List Entry). IsShown options.node found found [] h []) (sym entries) (shown_none options.node found closed);
        still = refl;
        untouched = λ closed. refl;
        count_is = none;
        fresh = λ job above. ap (λ (h : List Entry). job_state_of h job) entries ∙ law job;
        few = omega (arith, none);
        small = subst (λ (n : ℕ). n < 2 ^ 48) (sym (ap (λ (h : History). h.limit) ledger)) small;
        printed = appends_none before;
        limit_is = ap (λ (h : History). h.limit) ledger;
      };
      alone = omega arith;
    }

-- one command of the kubelet may be done within the limit of an input
pub ready_at : (options : ReplayOptions) (left now before written : Option (List ℕ)) (found x : Node) (at : ℕ) (work : Work) → Progress options found x left now before written at work → at ≤ most_input → IsReady work 1
ready_at options left now before written found x at work p within =
    let s = p.standing in
    record {
      fresh = s.fresh;
      without = kubelet_count (commands_of p.done);
      few = s.few;
      room = omega (arith, p.alone, within);
      sound = omega (arith, s.run.within, s.limit_is);
      small = s.small;
    }

-- nothing was done, and nothing written
pub nothing_done : (options : ReplayOptions) (left before : Option (List ℕ)) (found : Node) → found.table ≡ None → EndsShort options left before before found found
nothing_done options left before found closed =
    let shown = shown_none options.node found closed in
    record {
      text = [];
      between = found;
      due = inl (record { done = []; script = λ bytes e. (script_of options.attempts bytes, refl); history = []; so = record { run = empty_run options; shown = shown } });
      asked = asked_on_none found;
      counted = shown.counted;
      written = (0, appends_none before);
    }
