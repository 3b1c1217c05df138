-- How a replay goes on, and how it ends.
use Rattle.std.proofs.Common.{ℕ, ◌+◌, ◌≤◌, ◌≡◌, ◌∙◌, List, [], ◌∷◌, ◌++◌, length, true, false, refl, sym, ap, subst, arith, append_assoc, inl, inr}
use Rattle.std.specs.Prelude.{Option, Some, drop}
use Rattle.std.specs.Io.KnownBytes.{Appends}
use Rattle.dra_ports.specs.Prefixes.{AppendsPrefix}
use Rattle.doc_split.specs.Answers.{HasNone, IsCut, IsNext, NoneWhole}
use Rattle.doc_split.specs.Documents.{Document, Documents}
use Rattle.doc_split.specs.Documents as documents
use Rattle.doc_split.specs.Limits.{the_limits}
use Rattle.doc_split.specs.Split.{Split, remaining}
use Rattle.cluster.specs.declared.entry.Entry.{Entry}
use Rattle.sched_job.specs.Ledgers.{History}
use Rattle.journal_text.specs.Journal.{lines_from, summary_of}
use Rattle.commands.specs.declared.given.Given.{Given}
use Rattle.commands.specs.Readings.{reading}
use Rattle.commands.specs.Readings as readings
use Rattle.replay_core.specs.declared.options.ReplayOptions.{ReplayOptions}
use Rattle.replay_core.specs.declared.status.Status.{Status}
use Rattle.replay_core.specs.declared.status.Status.TheVariants as status
use Rattle.replay_core.specs.declared.work.Work.{Work}
use Rattle.replay_core.specs.Script.{Clean, Cut, Bad, Script, add_commands, at_each, commands_of, ending_of, nothing, prepend, script_by, script_from, script_of}
use Rattle.replay_core.specs.Forms.{kubelet_count}
use Rattle.replay_core.specs.Jobs.{SegmentBegun}
use Rattle.replay_core.specs.Kubelet.{AskedOn, IsShown, Node}
use Rattle.replay_core.specs.Lines.{EndedByBytes, EndedByDisk, MetNext, MetPrinted, PrintedShort, Stops, Summarized, new_lines}
use Rattle.replay_core.specs.Replay.{Ends, EndsAt, EndsAtCheckpoint, EndsAtKubelet, EndsFull, EndsRead, EndsShort, EndsShortAll, IsDone, IsPart, Tells, TellsFirst}
use Rattle.replay_core.specs.Progress.{IsSound, Progress, Standing}
use Rattle.replay_core.specs.Turns.{DocumentDid, DocumentStops, Unread}
use Rattle.replay_core.proofs.Known.{appends_prefix, appends_kept, appends_more, consumes_more, prefix_all, rest_of}
use Rattle.replay_core.proofs.Running.{commands_each, commands_joined, done_more, kubelet_joined}
use Rattle.replay_core.proofs.Scripts.{document_is, document_is_none, next_script, prepend_more, prepend_nothing, prepend_up_to, tells_by}
use Rattle.replay_core.proofs.Showing.{asked_on_none, counted_on}

-- the script as far as it was done, and then a document and something more
abbrev pub TellsDocument : ReplayOptions → Option (List ℕ) → List (ℕ × Given) → ℕ → List ℕ → Type 0
TellsDocument options left done at document = (bytes : List ℕ) → left ≡ Some bytes → (rest : Script) × (script_of options.attempts bytes ≡ prepend done (add_commands at (reading options.attempts document) rest))

-- a document that was done
pub record Moved (options : ReplayOptions) (found y : Node) (before next : Option (List ℕ)) (done : List (ℕ × Given)) (at : ℕ) (document : List ℕ) (old new : Work) : Type 0 where
  pub commands : List Given
  pub asks : reading options.attempts document ≡ readings.Asks commands
  pub standing : Standing options found y before next (done ++ at_each at commands) new
  pub script : (rest : Script) → prepend done (add_commands at (reading options.attempts document) rest) ≡ prepend (done ++ at_each at commands) rest

pub document_moves : (options : ReplayOptions) (found x y : Node) (before now next : Option (List ℕ)) (done : List (ℕ × Given)) (at : ℕ) (document : List ℕ) (old new : Work)
    → Standing options found x before now done old → DocumentDid options at document old new x y now next → Moved options found y before next done at document old new
document_moves options found x y before now next done at document old new s (cs, is, did) = record {
  commands = cs;
  asks = is;
  standing = did.standing found before done s;
  script = λ rest. document_is done at (reading options.attempts document) cs rest is;
}

-- the commands done so far, and what they show
pub so_far : (options : ReplayOptions) (found x : Node) (before now : Option (List ℕ)) (done : List (ℕ × Given)) (work : Work) → (s : Standing options found x before now done work) → IsDone options found x done work.ledger.entries s.text
so_far options found x before now done work s = record { run = s.run; shown = s.shown }

-- what isn't done leaves the commands before it
short_lines : (options : ReplayOptions) (left before now next : Option (List ℕ)) (found x y : Node) (done : List (ℕ × Given)) (old : Work) → Standing options found x before now done old → TellsFirst options left done → AskedOn x y → Appends now next []
    → EndsShort options left before next found y
unfolding so_far
short_lines options left before now next found x y done old s tells asked kept = record {
  text = s.text;
  between = x;
  due = inl (record { done = done; script = tells; history = old.ledger.entries; so = so_far options found x before now done old s });
  asked = asked;
  counted = counted_on s.shown.calls found x y s.shown.counted asked;
  written = prefix_all before next s.text (appends_kept before now next s.text s.printed kept);
}

part_of : (options : ReplayOptions) (found x : Node) (before now : Option (List ℕ)) (done : List (ℕ × Given)) (c : Given) (old new : Work) (n : ℕ) → Standing options found x before now done old → IsSound new.ledger → MetNext options c old new n
    → IsPart options done c new.ledger.entries
part_of options found x before now done c old new n s sound met =
    let grown : new.ledger.entries ≡ old.ledger.entries ++ met.segment = ap (λ (h : History). h.entries) met.is in
    let same : new.ledger.limit ≡ old.ledger.limit = ap (λ (h : History). h.limit) met.is in
    record {
      before = old.ledger.entries;
      segment = met.segment;
      is = grown;
      legal = sound.legal;
      run = s.run.run;
      begun = subst (λ (k : ℕ). SegmentBegun k c options.budget old.ledger.entries met.segment) s.count_is met.begun;
      full = omega (arith, same, s.limit_is, met.full, met.count_is, sound.within);
    }

drop_prefix : (xs ys : List Entry) → drop (length xs) (xs ++ ys) ≡ ys
drop_prefix [] ys = refl
drop_prefix (x ∷ xs) ys = drop_prefix xs ys

-- the lines of the entries that are new
part_lines : (options : ReplayOptions) (c : Given) (old new : Work) (n : ℕ) → (met : MetNext options c old new n) → new_lines old.ledger new.ledger ≡ lines_from (length old.ledger.entries) met.segment
part_lines options c old new n met =
    ap (λ (h : List Entry). lines_from (length old.ledger.entries) (drop (length old.ledger.entries) h)) (ap (λ (h : History). h.entries) met.is)
    ∙ ap (lines_from (length old.ledger.entries)) (drop_prefix old.ledger.entries met.segment)

-- a command of which a prefix of the lines is printed
short_command : (options : ReplayOptions) (left before now next : Option (List ℕ)) (found x y : Node) (done : List (ℕ × Given)) (at : ℕ) (c : Given) (old new : Work) → Standing options found x before now done old
    → TellsFirst options left (done ++ (at, c) ∷ []) → IsSound new.ledger → PrintedShort options c old new x y now next → EndsShortAll options left before next found y
unfolding part_of
short_command options left before now next found x y done at c old new s tells sound (inl ran) =
    let so = done_more options found x y done at c old new s.text ran.text (so_far options found x before now done old s) s.still s.untouched s.count_is s.limit_is sound ran.ran ran.shown in
    record {
      ends = record {
        text = s.text ++ ran.text;
        between = y;
        due = inl (record { done = done ++ (at, c) ∷ []; script = tells; history = new.ledger.entries; so = so });
        asked = asked_on_none y;
        counted = so.shown.counted;
        written = appends_prefix before now next s.text ran.text s.printed ran.printed;
      };
      all = refl;
    }
short_command options left before now next found x y done at c old new s tells sound (inr met) =
    let shown = subst (λ (z : Node). IsShown options.node found z (commands_of done) old.ledger.entries s.text) (sym met.same) s.shown in
    record {
      ends = record {
        text = s.text ++ new_lines old.ledger new.ledger;
        between = y;
        due = inr (inl (record {
          done = done;
          at = at;
          command = c;
          script = tells;
          history = new.ledger.entries;
          part = part_of options found x before now done c old new met.count s sound met.met;
          first = s.text;
          shown = shown;
          is = ap (λ (t : List ℕ). s.text ++ t) (part_lines options c old new met.count met.met);
        }));
        asked = asked_on_none y;
        counted = shown.counted;
        written = appends_prefix before now next s.text (new_lines old.ledger new.ledger) s.printed met.printed;
      };
      all = refl;
    }

full_command : (options : ReplayOptions) (left before now next : Option (List ℕ)) (found x y : Node) (done : List (ℕ × Given)) (at : ℕ) (c : Given) (old new : Work) (n : ℕ) → Standing options found x before now done old
    → TellsFirst options left (done ++ (at, c) ∷ []) → IsSound new.ledger → MetPrinted options c old new x y now next n → EndsFull options n left before next found y
unfolding part_of
full_command options left before now next found x y done at c old new n s tells sound met = record {
  done = done;
  at = at;
  command = c;
  script = tells;
  history = new.ledger.entries;
  part = part_of options found x before now done c old new n s sound met.met;
  text = s.text;
  shown = subst (λ (z : Node). IsShown options.node found z (commands_of done) old.ledger.entries s.text) (sym met.same) s.shown;
  count_is = sym met.met.count_is;
  written = subst (λ (t : List ℕ). Appends before next (s.text ++ t)) (part_lines options c old new n met.met)
      (appends_more before now next s.text (new_lines old.ledger new.ledger) s.printed met.printed);
}

-- a command of the kubelet that the disk ended
kubelet_command : (options : ReplayOptions) (left before now next : Option (List ℕ)) (found x y : Node) (done : List (ℕ × Given)) (at : ℕ) (c : Given) (old new : Work) → Standing options found x before now done old
    → TellsFirst options left (done ++ (at, c) ∷ []) → EndedByDisk c old new x y now next → EndsAtKubelet options left before next found y
unfolding so_far
kubelet_command options left before now next found x y done at c old new s tells e = record {
  done = done;
  at = at;
  command = c;
  script = tells;
  is = e.is;
  history = old.ledger.entries;
  text = s.text;
  between = x;
  so = so_far options found x before now done old s;
  asked = e.ended.asked;
  counted = counted_on s.shown.calls found x y s.shown.counted e.ended.asked;
  written = appends_kept before now next s.text s.printed e.ended.printed;
}

checkpoint_command : (options : ReplayOptions) (offset : ℕ) (left before now next : Option (List ℕ)) (found x y : Node) (done : List (ℕ × Given)) (at : ℕ) (c : Given) (old new : Work) → Standing options found x before now done old
    → TellsFirst options left (done ++ (at, c) ∷ []) → EndedByBytes offset c old new x y now next → EndsAtCheckpoint options offset left before next found y
unfolding kubelet_command
checkpoint_command options offset left before now next found x y done at c old new s tells e = record {
  ends = kubelet_command options left before now next found x y done at c old new s tells e.ended;
  no_journal = e.found.no_journal;
  opens = e.found.opens;
  still = s.still;
  as_found = s.untouched;
  unasked = e.found.unasked;
}

-- a prefix of what the script begins with
tells_before : (options : ReplayOptions) (left : Option (List ℕ)) (done more : List (ℕ × Given)) → TellsFirst options left (done ++ more) → TellsFirst options left done
tells_before options left done more tells bytes e = let t = tells bytes e in (prepend more t.0, t.1 ∙ sym (prepend_more done more t.0))

-- the script as far as a command of a document
tells_up_to : (options : ReplayOptions) (left : Option (List ℕ)) (done : List (ℕ × Given)) (at : ℕ) (document : List ℕ) (cs prefix : List Given) (c : Given) (back : List Given) → TellsDocument options left done at document
    → reading options.attempts document ≡ readings.Asks cs → cs ≡ prefix ++ c ∷ back → TellsFirst options left ((done ++ at_each at prefix) ++ (at, c) ∷ [])
tells_up_to options left done at document cs prefix c back tells is are bytes e =
    let t = tells bytes e in (
      prepend (at_each at back) t.0,
      t.1 ∙ document_is done at (reading options.attempts document) cs t.0 is
          ∙ ap (λ (l : List Given). prepend (done ++ at_each at l) t.0) are
          ∙ prepend_up_to done at prefix c back t.0,
    )

-- a command that wasn't done
command_stops : (options : ReplayOptions) (left left_now before now next : Option (List ℕ)) (found x y : Node) (done : List (ℕ × Given)) (at : ℕ) (c : Given) (old new : Work) (s : Status)
    → Standing options found x before now done old → TellsFirst options left (done ++ (at, c) ∷ []) → IsSound new.ledger → Stops options c old new x y now next s → Ends options left left_now before next found y s
command_stops options left left_now before now next found x y done at c old new status.Done standing tells sound stops = absurd stops
command_stops options left left_now before now next found x y done at c old new status.Usage standing tells sound stops = absurd stops
command_stops options left left_now before now next found x y done at c old new (status.Document index why) standing tells sound stops = absurd stops
command_stops options left left_now before now next found x y done at c old new status.Memory standing tells sound (inl kept) =
    short_lines options left before now next found x y done old standing (tells_before options left done ((at, c) ∷ []) tells) kept.1 kept.0
command_stops options left left_now before now next found x y done at c old new status.Memory standing tells sound (inr short) =
    (short_command options left before now next found x y done at c old new standing tells sound short).ends
command_stops options left left_now before now next found x y done at c old new status.Read standing tells sound stops = absurd stops
command_stops options left left_now before now next found x y done at c old new status.Write standing tells sound short =
    short_command options left before now next found x y done at c old new standing tells sound short
command_stops options left left_now before now next found x y done at c old new status.Disk standing tells sound ended =
    kubelet_command options left before now next found x y done at c old new standing tells ended
command_stops options left left_now before now next found x y done at c old new (status.Limit n) standing tells sound met =
    inl (full_command options left before now next found x y done at c old new n standing tells sound met)
command_stops options left left_now before now next found x y done at c old new (status.Checkpoint offset) standing tells sound ended =
    checkpoint_command options offset left before now next found x y done at c old new standing tells ended
command_stops options left left_now before now next found x y done at c old new status.Door standing tells sound stops = absurd stops

-- a document whose commands aren't known
unread_ends : (options : ReplayOptions) (left left_now before now next : Option (List ℕ)) (found x : Node) (done : List (ℕ × Given)) (at : ℕ) (document : List ℕ) (old : Work) (s : Status)
    → Standing options found x before now done old → TellsDocument options left done at document → Unread options.attempts at document now next s → Ends options left left_now before next found x s
unread_ends options left left_now before now next found x done at document old status.Done standing tells unread = absurd unread
unread_ends options left left_now before now next found x done at document old status.Usage standing tells unread = absurd unread
unread_ends options left left_now before now next found x done at document old (status.Document index why) standing tells unread = record {
  done = done;
  script = λ bytes e. let t = tells bytes e in t.1 ∙ document_is_none done at (reading options.attempts document) why t.0 unread.refused ∙ ap (λ (k : ℕ). record { commands = done; ending = Bad k why }) (sym unread.place_is);
  history = old.ledger.entries;
  text = standing.text;
  so = so_far options found x before now done old standing;
  written = appends_kept before now next standing.text standing.printed unread.printed;
}
unread_ends options left left_now before now next found x done at document old status.Memory standing tells kept =
    short_lines options left before now next found x x done old standing (λ bytes e. let t = tells bytes e in (add_commands at (reading options.attempts document) t.0, t.1)) (asked_on_none x) kept
unread_ends options left left_now before now next found x done at document old status.Read standing tells unread = absurd unread
unread_ends options left left_now before now next found x done at document old status.Write standing tells unread = absurd unread
unread_ends options left left_now before now next found x done at document old status.Disk standing tells unread = absurd unread
unread_ends options left left_now before now next found x done at document old (status.Limit n) standing tells unread = absurd unread
unread_ends options left left_now before now next found x done at document old (status.Checkpoint index) standing tells unread = absurd unread
unread_ends options left left_now before now next found x done at document old status.Door standing tells unread = absurd unread

-- a document that wasn't done
pub document_stops : (options : ReplayOptions) (left left_now before now next : Option (List ℕ)) (found x y : Node) (done : List (ℕ × Given)) (at : ℕ) (document : List ℕ) (old new : Work) (s : Status)
    → Standing options found x before now done old → TellsDocument options left done at document → IsSound new.ledger → DocumentStops options at document old new x y now next s → Ends options left left_now before next found y s
document_stops options left left_now before now next found x y done at document old new s standing tells sound (inl unread) =
    subst (λ (z : Node). Ends options left left_now before next found z s) (sym unread.0)
    (unread_ends options left left_now before now next found x done at document old s standing tells unread.2)
document_stops options left left_now before now next found x y done at document old new s standing tells sound (inr (cs, is, stopped)) =
    command_stops options left left_now before stopped.between next found stopped.node y (done ++ at_each at stopped.prefix) at stopped.command stopped.work new s
    (stopped.done.standing found before done standing)
    (tells_up_to options left done at document cs stopped.prefix stopped.command stopped.back tells is stopped.are) sound stopped.stops

-- what the script is where a document is next
pub tells_document : (options : ReplayOptions) (left before written : Option (List ℕ)) (found x : Node) (a b : Split) (left_a left_b : Option (List ℕ)) (work : Work) (doc : Document) → (p : Progress options found x left (remaining a left_a) before written a.at work)
    → IsNext the_limits a b left_a left_b doc → TellsDocument options left p.done doc.at doc.bytes
tells_document options left before written found x a b left_a left_b work doc p n bytes e =
    let r = tells_by options.attempts left (remaining a left_a) p.taken p.done (λ more. script_from options.attempts true a.at more) p.consumed (λ more. p.script true more) bytes e in
    let q = rest_of (remaining a left_a) (remaining b left_b) n.taken r.0 n.consumed r.2 in
    (script_from options.attempts true b.at q.0, r.1 ∙ ap (λ (l : List ℕ). prepend p.done (script_from options.attempts true a.at l)) q.1 ∙ ap (prepend p.done) (next_script options.attempts a b left_a left_b doc n true q.0))

-- a document asks for one command of the kubelet at most, which the law of a function states
abbrev pub OnceLaw : Type 0
OnceLaw = (attempts : ℕ) (bytes : List ℕ) (cs : List Given) → reading attempts bytes ≡ readings.Asks cs → kubelet_count cs ≤ 1

kubelet_each : (done : List (ℕ × Given)) (at : ℕ) (cs : List Given) → kubelet_count (commands_of (done ++ at_each at cs)) ≡ kubelet_count (commands_of done) + kubelet_count cs
kubelet_each done at cs =
    ap kubelet_count (commands_joined done (at_each at cs) ∙ ap (λ (l : List Given). commands_of done ++ l) (commands_each at cs)) ∙ kubelet_joined (commands_of done) cs

-- over a document
pub over_document : OnceLaw → (options : ReplayOptions) (left before was written : Option (List ℕ)) (found x y : Node) (a b : Split) (left_a left_b : Option (List ℕ)) (work work_now : Work) (doc : Document)
    → (p : Progress options found x left (remaining a left_a) before was a.at work) → IsNext the_limits a b left_a left_b doc → Moved options found y before written p.done doc.at doc.bytes work work_now
    → Progress options found y left (remaining b left_b) before written b.at work_now
over_document once options left before was written found x y a b left_a left_b work work_now doc p n m = record {
  taken = p.taken ++ n.taken;
  consumed = consumes_more left (remaining a left_a) (remaining b left_b) p.taken n.taken p.consumed n.consumed;
  done = p.done ++ at_each doc.at m.commands;
  script = λ ended more.
      ap (script_from options.attempts ended 0) (append_assoc p.taken n.taken more)
      ∙ p.script ended (n.taken ++ more)
      ∙ ap (prepend p.done) (next_script options.attempts a b left_a left_b doc n ended more)
      ∙ m.script (script_from options.attempts ended b.at more);
  standing = m.standing;
  alone = omega (arith, kubelet_each p.done doc.at m.commands, once options.attempts doc.bytes m.commands m.asks, p.alone, n.moves);
}

-- out of memory between two commands
pub memory_short : (options : ReplayOptions) (left now before written : Option (List ℕ)) (found x : Node) (at : ℕ) (work : Work) → Progress options found x left now before written at work → EndsShort options left before written found x
unfolding so_far
memory_short options left now before written found x at work p = record {
  text = p.standing.text;
  between = x;
  due = inl (record {
    done = p.done;
    script = λ bytes e. let t = tells_by options.attempts left now p.taken p.done (λ more. script_from options.attempts true at more) p.consumed (λ more. p.script true more) bytes e in (script_from options.attempts true at t.0, t.1);
    history = work.ledger.entries;
    so = so_far options found x before written p.done work p.standing;
  });
  asked = asked_on_none x;
  counted = p.standing.shown.counted;
  written = prefix_all before written p.standing.text p.standing.printed;
}

none_within : (attempts at : ℕ) (taken : List ℕ) → NoneWhole the_limits at taken → script_from attempts false at taken ≡ nothing Cut
none_within attempts at taken (inl e) = ap (script_by attempts false) e
none_within attempts at taken (inr (index, e)) = ap (script_by attempts false) e

-- an error of the input
pub read_short : (options : ReplayOptions) (left left_now before written : Option (List ℕ)) (found x : Node) (a : Split) (left_a : Option (List ℕ)) (work : Work) → Progress options found x left (remaining a left_a) before written a.at work
    → IsCut the_limits a left_a left_now → EndsRead options left left_now before written found x
read_short options left left_now before written found x a left_a work p cut = record {
  taken = p.taken ++ cut.taken;
  consumed = consumes_more left (remaining a left_a) left_now p.taken cut.taken p.consumed cut.consumed;
  done = p.done;
  script = p.script false cut.taken ∙ ap (prepend p.done) (none_within options.attempts a.at cut.taken cut.none_whole) ∙ prepend_nothing p.done Cut;
  history = work.ledger.entries;
  text = p.standing.text;
  so = so_far options found x before written p.done work p.standing;
  written = p.standing.printed;
}

-- what the script is where there are no more documents
pub tells_none : (options : ReplayOptions) (left before written : Option (List ℕ)) (found x : Node) (a : Split) (left_a : Option (List ℕ)) (work : Work) (ending : documents.Ending) → (p : Progress options found x left (remaining a left_a) before written a.at work)
    → HasNone the_limits a left_a ending → Tells options left (record { commands = p.done; ending = ending_of true ending })
tells_none options left before written found x a left_a work ending p none bytes e =
    let t = tells_by options.attempts left (remaining a left_a) p.taken p.done (λ more. script_from options.attempts true a.at more) p.consumed (λ more. p.script true more) bytes e in
    t.1 ∙ ap (λ (d : Documents). prepend p.done (script_by options.attempts true d)) (none t.0 t.2) ∙ prepend_nothing p.done (ending_of true ending)

pub ends_at : (options : ReplayOptions) (left before written : Option (List ℕ)) (found x : Node) (a : Split) (left_a : Option (List ℕ)) (work : Work) (ending : documents.Ending) → Progress options found x left (remaining a left_a) before written a.at work
    → HasNone the_limits a left_a ending → EndsAt options (ending_of true ending) left before written found x
ends_at options left before written found x a left_a work ending p none = record {
  done = p.done;
  script = tells_none options left before written found x a left_a work ending p none;
  history = work.ledger.entries;
  text = p.standing.text;
  so = so_far options found x before written p.done work p.standing;
  written = p.standing.printed;
}

short_text : (options : ReplayOptions) (left before now next : Option (List ℕ)) (found x : Node) (done : List (ℕ × Given)) (work : Work) → Standing options found x before now done work
    → Tells options left (record { commands = done; ending = Clean }) → AppendsPrefix now next (summary_of work.ledger.entries work.commands) → EndsShortAll options left before next found x
unfolding so_far
short_text options left before now next found x done work standing tells printed = record {
  ends = record {
    text = standing.text ++ summary_of work.ledger.entries work.commands;
    between = x;
    due = inr (inr (record {
      done = done;
      script = tells;
      history = work.ledger.entries;
      lines = standing.text;
      so = so_far options found x before now done work standing;
      is = ap (λ (k : ℕ). standing.text ++ summary_of work.ledger.entries k) standing.count_is;
    }));
    asked = asked_on_none x;
    counted = standing.shown.counted;
    written = appends_prefix before now next standing.text (summary_of work.ledger.entries work.commands) standing.printed printed;
  };
  all = refl;
}

-- the summary after the lines
pub summary_ends : (options : ReplayOptions) (left left_now before now next : Option (List ℕ)) (found x : Node) (done : List (ℕ × Given)) (work : Work) (s : Status) → Standing options found x before now done work
    → Tells options left (record { commands = done; ending = Clean }) → Summarized work now next s → Ends options left left_now before next found x s
summary_ends options left left_now before now next found x done work status.Done standing tells printed = record {
  done = done;
  script = tells;
  history = work.ledger.entries;
  text = standing.text;
  so = so_far options found x before now done work standing;
  written = subst (λ (k : ℕ). Appends before next (standing.text ++ summary_of work.ledger.entries k)) standing.count_is
      (appends_more before now next standing.text (summary_of work.ledger.entries work.commands) standing.printed printed);
}
summary_ends options left left_now before now next found x done work status.Usage standing tells printed = absurd printed
summary_ends options left left_now before now next found x done work (status.Document at why) standing tells printed = absurd printed
summary_ends options left left_now before now next found x done work status.Memory standing tells printed = (short_text options left before now next found x done work standing tells printed).ends
summary_ends options left left_now before now next found x done work status.Read standing tells printed = absurd printed
summary_ends options left left_now before now next found x done work status.Write standing tells printed = short_text options left before now next found x done work standing tells printed
summary_ends options left left_now before now next found x done work status.Disk standing tells printed = absurd printed
summary_ends options left left_now before now next found x done work (status.Limit n) standing tells printed = absurd printed
summary_ends options left left_now before now next found x done work (status.Checkpoint at) standing tells printed = absurd printed
summary_ends options left left_now before now next found x done work status.Door standing tells printed = absurd printed
