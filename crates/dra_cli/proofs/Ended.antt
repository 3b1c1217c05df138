-- How the replay of a generated script ends.
use Rattle.std.proofs.Common.{ℕ, ◌≡◌, ◌∙◌, ◌≤◌, ◌+◌, ◌++◌, inl, inr, List, [], ◌∷◌, true, false, map, length, append_assoc, refl, sym, ap, subst, arith, Option, None, Some}
use Rattle.dra_ports.specs.Causes.{Rose}
use Rattle.cluster.specs.declared.entry.Entry.{Entry}
use Rattle.commands.specs.declared.command.Command.{Command}
use Rattle.commands.specs.declared.given.Given.{Given}
use Rattle.commands.specs.declared.given.Given.TheVariants.{One}
use Rattle.histories.specs.Legal.{Legal}
use Rattle.journal_text.specs.Journal.{summary_of}
use Rattle.script_commands.specs.Commands.{commands_of as asked_of}
use Rattle.script_gen.specs.Script.{script_of as generated}
use Rattle.replay_core.specs.Forms.{count_of, is_of_kubelet}
use Rattle.replay_core.specs.Jobs.{RunOf, SegmentBegun}
use Rattle.pod_prepare.specs.Words.{tells}
use Rattle.replay_core.specs.Kubelet.{Node, ShowFrom}
use Rattle.replay_core.specs.Replay.{Ends, EndsAt, EndsDone, IsPart}
use Rattle.replay_core.specs.Script.{Bad, Clean, Ending, Long, Script, commands_of, prepend, script_of}
use Rattle.replay_core.specs.declared.status.Status.{Status}
use Rattle.replay_core.specs.declared.status.Status.TheVariants as status
use Rattle.dra_cli.specs.Exercise.{IsText, exercise_options, script_commands}
use Rattle.dra_cli.proofs.Counting.{Counted, Laws, all_counted, count_ones, part_counted}
use Rattle.dra_cli.proofs.Lines.{OneLine, shown_ends}
use Rattle.dra_cli.proofs.Script.{IsScript}
use Rattle.dra_cli.proofs.Small.{AllSmall, most_of, script_most, script_small}

-- ---- a prefix of commands that are asked for one by one

record SplitAt (done : List Given) (command : Given) (all : List Command) : Type 0 where
  pub first : List Command
  pub next : Command
  pub rest : List Command
  pub is : all ≡ first ++ next ∷ rest
  pub done_is : done ≡ map One first
  pub command_is : command ≡ One next

head_is : (x y : Given) (xs ys : List Given) → x ∷ xs ≡ y ∷ ys → x ≡ y
head_is x y xs ys h = cc

tail_is : (x y : Given) (xs ys : List Given) → x ∷ xs ≡ y ∷ ys → xs ≡ ys
tail_is x y xs ys h = cc

one_before : (d c : Given) (a : Command) (done : List Given) (all : List Command) → d ≡ One a → SplitAt done c all → SplitAt (d ∷ done) c (a ∷ all)
one_before d c a done all is s =
    record { first = a ∷ s.first; next = s.next; rest = s.rest; is = ap (λ l. a ∷ l) s.is; done_is = ap (λ g. g ∷ done) is ∙ ap (λ l. One a ∷ l) s.done_is; command_is = s.command_is }

split_at : (done : List Given) (command : Given) (rest : List Given) (all : List Command) → done ++ command ∷ rest ≡ map One all → SplitAt done command all
split_at [] c rest [] h = absurd (cc)
split_at [] c rest (a ∷ all) h = record { first = []; next = a; rest = all; is = refl; done_is = refl; command_is = head_is _ _ _ _ h }
split_at (d ∷ done) c rest [] h = absurd (cc)
split_at (d ∷ done) c rest (a ∷ all) h = one_before d c a done all (head_is _ _ _ _ h) (split_at done c rest all (tail_is _ _ _ _ h))

seconds : (xs ys : List (ℕ × Given)) → commands_of (xs ++ ys) ≡ commands_of xs ++ commands_of ys
seconds [] ys = refl
seconds (x ∷ xs) ys = ap (λ l. x.1 ∷ l) (seconds xs ys)

first_commands : (script rest : Script) (done : List (ℕ × Given)) (at : ℕ) (command : Given) (all : List Command) → script ≡ prepend (done ++ (at, command) ∷ []) rest → commands_of script.commands ≡ map One all → SplitAt (commands_of done) command all
first_commands script rest done at command all is h =
    split_at (commands_of done) command (commands_of rest.commands) all
    (sym (ap (λ (s : Script). commands_of s.commands) is ∙ ap commands_of (append_assoc done ((at, command) ∷ []) rest.commands) ∙ seconds done ((at, command) ∷ rest.commands)) ∙ h)

-- ---- the limit isn't met

small_first : (cs ds : List Command) → AllSmall (cs ++ ds) → AllSmall cs × AllSmall ds
small_first [] ds h = (tt, h)
small_first (c ∷ cs) ds h = let r = small_first cs ds h.1 in ((h.0, r.0), r.1)

most_first : (cs ds : List Command) → most_of (cs ++ ds) ≡ most_of cs + most_of ds
most_first [] ds = omega arith
most_first (c ∷ cs) ds = omega (arith, most_first cs ds)

part_few : Laws → (budget : ℕ) (all first rest : List Command) (next : Command) (before segment : List Entry) → all ≡ first ++ next ∷ rest → AllSmall all → Legal (before ++ segment) → RunOf budget (map One first) before → SegmentBegun (length first) (One next) budget before segment
    → length (before ++ segment) ≤ most_of all
part_few laws budget all first rest next before segment is small legal run begun =
    let parts = small_first first (next ∷ rest) (subst AllSmall is small) in
    let counted : Counted (length first) (most_of first) before = all_counted laws budget first before parts.0 (laws.prefix before segment legal) run in
    let ends = part_counted laws budget (length first) (most_of first) next before segment parts.1.0 counted legal begun in
    omega (arith, ends.within, most_first first (next ∷ rest), ap most_of is)

not_full : Laws → (from pods : ℕ) → pods ≤ 100000 → (done : List (ℕ × Given)) (command : Given) (h : List Entry) → SplitAt (commands_of done) command (asked_of 32 from pods) → IsPart exercise_options done command h → ⊥
not_full laws from pods few done command h s part =
    let legal : Legal (part.before ++ part.segment) = subst Legal part.is part.legal in
    let run : RunOf 100000 (map One s.first) part.before = subst (λ gs. RunOf 100000 gs part.before) s.done_is part.run in
    let count : count_of (commands_of done) ≡ length s.first = ap count_of s.done_is ∙ count_ones s.first in
    let begun : SegmentBegun (length s.first) (One s.next) 100000 part.before part.segment =
    subst (λ n. SegmentBegun n (One s.next) 100000 part.before part.segment) count (subst (λ g. SegmentBegun (count_of (commands_of done)) g 100000 part.before part.segment) s.command_is part.begun) in
    let most = part_few laws 100000 (asked_of 32 from pods) s.first s.rest s.next part.before part.segment s.is (script_small 32 from pods) legal run begun in
    omega (arith, few, most, script_most 32 from pods, part.full, ap length part.is)

-- ---- each status

-- what the replay of a script with this status has written
abbrev pub Came : ℕ → ℕ → List ℕ → Status → Type 0
Came from pods bytes status.Done = IsText from pods bytes
Came from pods bytes status.Usage = ⊥
Came from pods bytes (status.Document at why) = ⊥
Came from pods bytes status.Memory = Unit {0}
Came from pods bytes status.Read = ⊥
Came from pods bytes status.Write = ⊥
Came from pods bytes status.Disk = ⊥
Came from pods bytes (status.Limit count) = ⊥
Came from pods bytes (status.Checkpoint at) = ⊥
Came from pods bytes status.Door = ⊥

never_rises : Rose 0 0 → ⊥
never_rises h = omega (arith, h)

not_bad : (at : ℕ) (why : _) → Clean ≡ Bad at why → ⊥
not_bad at why h = cc

not_long : Clean ≡ Long → ⊥
not_long h = cc

not_kubelet : (g : Given) (c : Command) → g ≡ One c → is_of_kubelet g ≡ true → ⊥
not_kubelet g c is h = no (sym (ap is_of_kubelet is) ∙ h)
  where
    no : false ≡ true → ⊥
    no e = cc

-- the ending of the script isn't another
ends_otherwise : (from pods : ℕ) (left before after : Option (List ℕ)) (found now : Node) (ending : Ending) → IsScript (script_of 32 (generated from pods)) (asked_of 32 from pods) Clean → left ≡ Some (generated from pods) → EndsAt exercise_options ending left before after found now → Clean ≡ ending
ends_otherwise from pods left before after found now ending script is e = sym script.ends ∙ ap (λ (s : Script). s.ending) (e.script (generated from pods) is)

done_text : OneLine → (from pods : ℕ) (bytes : List ℕ) (found now : Node) → IsScript (script_of 32 (generated from pods)) (asked_of 32 from pods) Clean → EndsDone exercise_options (Some (generated from pods)) (Some []) (Some bytes) found now → IsText from pods bytes
done_text law from pods bytes found now script e =
    let same : script_commands from pods ≡ commands_of e.done = ap (λ (s : Script). commands_of s.commands) (e.script (generated from pods) refl) in
    let ones : commands_of e.done ≡ map One (asked_of 32 from pods) = sym same ∙ script.commands in
    record {
      lines = e.text;
      ended = shown_ends law _ 0 [] (asked_of 32 from pods) e.history None _ (subst (λ gs. ShowFrom (record { told = tells found.content; node = []; start = e.so.shown.start }) 0 [] gs e.history None (record { text = e.text; table = now.table; calls = e.so.shown.calls })) ones e.so.shown.shows);
      summary = summary_of e.history (count_of (commands_of e.done));
      of_run = record { history = e.history; legal = e.so.run.legal; run = subst (λ gs. RunOf 100000 gs e.history) (sym same) e.so.run.run; is = ap (λ gs. summary_of e.history (count_of gs)) (sym same) };
      is = e.written;
    }

pub came : Laws → OneLine → (from pods : ℕ) (bytes : List ℕ) (left_now : Option (List ℕ)) (found now : Node) (s : Status) → pods ≤ 100000 → IsScript (script_of 32 (generated from pods)) (asked_of 32 from pods) Clean
    → Ends exercise_options (Some (generated from pods)) left_now (Some []) (Some bytes) found now s → (s ≡ status.Read → Rose 0 0) → (s ≡ status.Write → Rose 0 0) → (s ≡ status.Disk → Rose 0 0) → Came from pods bytes s
came laws law from pods bytes left_now found now status.Done few script e read write disk = done_text law from pods bytes found now script e
came laws law from pods bytes left_now found now status.Usage few script e read write disk = e
came laws law from pods bytes left_now found now (status.Document at why) few script e read write disk = absurd (not_bad at why (ends_otherwise from pods _ _ _ found now (Bad at why) script refl e))
came laws law from pods bytes left_now found now status.Memory few script e read write disk = tt
came laws law from pods bytes left_now found now status.Read few script e read write disk = absurd (never_rises (read refl))
came laws law from pods bytes left_now found now status.Write few script e read write disk = absurd (never_rises (write refl))
came laws law from pods bytes left_now found now status.Disk few script e read write disk = absurd (never_rises (disk refl))
came laws law from pods bytes left_now found now (status.Limit count) few script (inl full) read write disk =
    let told = full.script (generated from pods) refl in
    absurd (not_full laws from pods few full.done full.command full.history (first_commands (script_of 32 (generated from pods)) told.0 full.done full.at full.command (asked_of 32 from pods) told.1 script.commands) full.part)
came laws law from pods bytes left_now found now (status.Limit count) few script (inr long) read write disk = absurd (not_long (ends_otherwise from pods _ _ _ found now Long script refl long.1))
came laws law from pods bytes left_now found now (status.Checkpoint at) few script e read write disk =
    let told = e.ends.script (generated from pods) refl in
    let s = first_commands (script_of 32 (generated from pods)) told.0 e.ends.done e.ends.at e.ends.command (asked_of 32 from pods) told.1 script.commands in
    absurd (not_kubelet e.ends.command s.next s.command_is e.ends.is)
came laws law from pods bytes left_now found now status.Door few script e read write disk = e

pub only_memory : (from pods : ℕ) (bytes : List ℕ) (s : Status) → Came from pods bytes s → (s ≡ status.Done → ⊥) → s ≡ status.Memory
only_memory from pods bytes status.Done c other = absurd (other refl)
only_memory from pods bytes status.Usage c other = absurd c
only_memory from pods bytes (status.Document at why) c other = absurd c
only_memory from pods bytes status.Memory c other = refl
only_memory from pods bytes status.Read c other = absurd c
only_memory from pods bytes status.Write c other = absurd c
only_memory from pods bytes status.Disk c other = absurd c
only_memory from pods bytes (status.Limit count) c other = absurd c
only_memory from pods bytes (status.Checkpoint at) c other = absurd c
only_memory from pods bytes status.Door c other = absurd c
