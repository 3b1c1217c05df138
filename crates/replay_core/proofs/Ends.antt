-- What a replay printed determines its history.
use Rattle.std.proofs.Common.{ℕ, ◌≡◌, ◌∙◌, ◌++◌, ◌+◌, ◌<◌, ◌^◌, List, [], ◌∷◌, None, Some, length, refl, sym, ap, subst, append-nil, arith}
use Rattle.std.proofs.lemmas.List.{append_cancel_left}
use Rattle.cluster.specs.declared.entry.Entry.{Entry}
use Rattle.commands.specs.declared.command.Command.{Command}
use Rattle.commands.specs.declared.given.Given.{Given}
use Rattle.histories.specs.Determined.{RunBy}
use Rattle.histories.specs.Legal.{Legal}
use Rattle.journal_text.specs.Journal.{lines_from, summary_of}
use Rattle.journal_laws.specs.Rows.{HasEntries}
use Rattle.journal_laws.specs.Told.{JobsFit}
use Rattle.replay_core.specs.declared.options.ReplayOptions.{ReplayOptions}
use Rattle.replay_core.specs.Forms.{count_of, width}
use Rattle.replay_core.specs.Jobs.{AllOwn, RunOf, SegmentBegun}
use Rattle.replay_core.specs.Kubelet.{IsShown, Node}
use Rattle.replay_core.specs.Replay.{EndsDone, EndsFull, IsDone, IsPart}
use Rattle.replay_core.specs.Script.{Clean, Script, commands_of, prepend, script_of}
use Rattle.replay_core.specs.Numbered.{command_at}
use Rattle.replay_core.proofs.Printed.{Rows, shown_told}

-- the laws below
pub record Laws : Type 0 where
  pub rows : Rows
  pub same : (text other own others : List ℕ) → HasEntries text own → HasEntries other others → text ≡ other → own ≡ others
  pub summary : (h : List Entry) (n : ℕ) → HasEntries (summary_of h n) []
  pub by_commands : (budget : ℕ) (gs more : List Given) (h : List Entry) → RunOf budget gs h → RunBy (command_at (gs ++ more)) budget h
  pub jobs : (budget : ℕ) (gs : List Given) (h : List Entry) → RunOf budget gs h → AllOwn 0 (count_of gs) h
  pub part : (budget : ℕ) (gs more : List Given) (g : Given) (before segment : List Entry) → RunOf budget gs before → SegmentBegun (count_of gs) g budget before segment → RunBy (command_at (gs ++ g ∷ more)) budget (before ++ segment)
  pub part_jobs : (budget : ℕ) (gs : List Given) (g : Given) (before segment : List Entry) → RunOf budget gs before → SegmentBegun (count_of gs) g budget before segment → AllOwn 0 (count_of gs + width g) (before ++ segment)
  pub whole : (commands : ℕ → Command) (budget : ℕ) (h g : List Entry) → Legal h → Legal g → RunBy commands budget h → RunBy commands budget g → length h < 2 ^ 64 → JobsFit h → JobsFit g → lines_from 0 h ≡ lines_from 0 g → h ≡ g

own_fit : (most : ℕ) (es : List Entry) → most < 2 ^ 64 → AllOwn 0 most es → JobsFit es
unfolding AllOwn
own_fit most [] less own = tt
own_fit most (e ∷ es) less own = (omega (arith, own.1, less), own_fit most es less own.2)

same_histories : Laws → (commands : ℕ → Command) (budget m n : ℕ) (h g : List Entry) → Legal h → Legal g → RunBy commands budget h → RunBy commands budget g → AllOwn 0 m h → AllOwn 0 n g → m < 2 ^ 64 → n < 2 ^ 64 → length h < 2 ^ 64
    → lines_from 0 h ≡ lines_from 0 g → h ≡ g
same_histories law commands budget m n h g legal legally runs run own owns few less size same = law.whole commands budget h g legal legally runs run size (own_fit m h few own) (own_fit n g less owns) same

done_entries : Laws → (options : ReplayOptions) (done : List (ℕ × Given)) (h : List Entry) (text : List ℕ) (found left : Node) → IsDone options found left done h text → HasEntries text (lines_from 0 h)
unfolding RunOf
done_entries law options done h text found left d =
    let t = shown_told law.rows options.budget _ 0 [] (commands_of done) h None _ d.run.run d.shown.shows in
    subst (λ l. HasEntries text (lines_from 0 l)) (sym t.1) t.2

pub done_lines : Laws → (options others : ReplayOptions) (done rest : List (ℕ × Given)) (h g : List Entry) (text other : List ℕ) (found left found_also left_also : Node) → IsDone options found left done h text → IsDone others found_also left_also rest g other
    → text ≡ other → lines_from 0 h ≡ lines_from 0 g
done_lines law options others done rest h g text other found left found_also left_also d e same =
    law.same text other (lines_from 0 h) (lines_from 0 g) (done_entries law options done h text found left d) (done_entries law others rest g other found_also left_also e) same

by_lines : Laws → (options others : ReplayOptions) (done : List (ℕ × Given)) (h g : List Entry) (text other : List ℕ) (found left found_also left_also : Node) → options.budget ≡ others.budget → IsDone options found left done h text → IsDone others found_also left_also done g other
    → count_of (commands_of done) < 2 ^ 64 → options.entries < 2 ^ 64 → lines_from 0 h ≡ lines_from 0 g → h ≡ g
by_lines law options others done h g text other found left found_also left_also budget d e few less same =
    let gs = commands_of done in
    let run : RunOf options.budget gs g = subst (λ b. RunOf b gs g) (sym budget) e.run.run in
    same_histories law (command_at (gs ++ [])) options.budget (count_of gs) (count_of gs) h g d.run.legal e.run.legal (law.by_commands options.budget gs [] h d.run.run) (law.by_commands options.budget gs [] g run) (law.jobs options.budget gs h d.run.run)
    (law.jobs options.budget gs g run) few few (omega (arith, d.run.within, less)) same

pub done_same : Laws → (options others : ReplayOptions) (done : List (ℕ × Given)) (h g : List Entry) (text other : List ℕ) (found left found_also left_also : Node) → options.budget ≡ others.budget → IsDone options found left done h text → IsDone others found_also left_also done g other
    → text ≡ other → count_of (commands_of done) < 2 ^ 64 → options.entries < 2 ^ 64 → h ≡ g
done_same law options others done h g text other found left found_also left_also budget d e same few less =
    by_lines law options others done h g text other found left found_also left_also budget d e few less
    (done_lines law options others done done h g text other found left found_also left_also d e same)

-- ---- the whole output

with_summary : Laws → (options : ReplayOptions) (done : List (ℕ × Given)) (h : List Entry) (text : List ℕ) (found left : Node) (n : ℕ) → IsDone options found left done h text → HasEntries (text ++ summary_of h n) (lines_from 0 h)
with_summary law options done h text found left n d =
    subst (λ l. HasEntries (text ++ summary_of h n) l) (append-nil (lines_from 0 h))
    (law.rows.more text (summary_of h n) (lines_from 0 h) [] (done_entries law options done h text found left d) (law.summary h n))

same_commands : (a b : Script) → a ≡ b → a.commands ≡ b.commands
same_commands a b e = cc

same_script : (m n : ℕ) (bytes : List ℕ) (xs ys : List (ℕ × Given)) → m ≡ n → script_of m bytes ≡ record { commands = xs; ending = Clean } → script_of n bytes ≡ record { commands = ys; ending = Clean } → xs ≡ ys
same_script m n bytes xs ys e f g = same_commands (record { commands = xs; ending = Clean }) (record { commands = ys; ending = Clean }) (sym f ∙ ap (λ k. script_of k bytes) e ∙ g)

pub whole_same : Laws → (options others : ReplayOptions) (bytes before after : List ℕ) (found now found_also now_also : Node) (x : EndsDone options (Some bytes) (Some before) (Some after) found now) (y : EndsDone others (Some bytes) (Some before) (Some after) found_also now_also)
    → options.budget ≡ others.budget → options.attempts ≡ others.attempts → count_of (commands_of x.done) < 2 ^ 64 → options.entries < 2 ^ 64 → x.history ≡ y.history
whole_same law options others bytes before after found now found_also now_also x y budget attempts few less =
    let m = count_of (commands_of x.done) in
    let n = count_of (commands_of y.done) in
    let commands : x.done ≡ y.done = same_script options.attempts others.attempts bytes x.done y.done attempts (x.script bytes refl) (y.script bytes refl) in
    let texts : x.text ++ summary_of x.history m ≡ y.text ++ summary_of y.history n =
    append_cancel_left before (x.text ++ summary_of x.history m) (y.text ++ summary_of y.history n) (sym x.written ∙ y.written) in
    let lines =
    law.same (x.text ++ summary_of x.history m) (y.text ++ summary_of y.history n) (lines_from 0 x.history) (lines_from 0 y.history)
    (with_summary law options x.done x.history x.text found now m x.so) (with_summary law others y.done y.history y.text found_also now_also n y.so) texts in
    by_lines law options others x.done x.history y.history x.text y.text found now found_also now_also budget x.so (subst (λ d. IsDone others found_also now_also d y.history y.text) (sym commands) y.so) few less lines

-- ---- the limit of entries

script_parts : (done : List (ℕ × Given)) (at : ℕ) (c : Given) (rest : List (ℕ × Given)) → commands_of ((done ++ (at, c) ∷ []) ++ rest) ≡ commands_of done ++ c ∷ commands_of rest
script_parts [] at c rest = refl
script_parts (d ∷ done) at c rest = ap (λ l. d.1 ∷ l) (script_parts done at c rest)

script_is : (done : List (ℕ × Given)) (at : ℕ) (c : Given) (rest s : Script) → s ≡ prepend (done ++ (at, c) ∷ []) rest → commands_of s.commands ≡ commands_of done ++ c ∷ commands_of rest.commands
script_is done at c rest s e = ap (λ (t : Script). commands_of t.commands) e ∙ script_parts done at c rest.commands

part_run : Laws → (options : ReplayOptions) (done : List (ℕ × Given)) (at : ℕ) (c : Given) (h : List Entry) (s rest : Script) → IsPart options done c h → s ≡ prepend (done ++ (at, c) ∷ []) rest → RunBy (command_at (commands_of s.commands)) options.budget h
part_run law options done at c h s rest p is =
    let gs = commands_of done in
    let run : RunBy (command_at (gs ++ c ∷ commands_of rest.commands)) options.budget (p.before ++ p.segment) = law.part options.budget gs (commands_of rest.commands) c p.before p.segment p.run p.begun in
    subst (λ (all : List Given). RunBy (command_at all) options.budget h) (sym (script_is done at c rest s is))
    (subst (λ (l : List Entry). RunBy (command_at (gs ++ c ∷ commands_of rest.commands)) options.budget l) (sym p.is) run)

part_own : Laws → (options : ReplayOptions) (done : List (ℕ × Given)) (c : Given) (h : List Entry) → IsPart options done c h → AllOwn 0 (count_of (commands_of done) + width c) h
part_own law options done c h p = subst (λ (l : List Entry). AllOwn 0 (count_of (commands_of done) + width c) l) (sym p.is) (law.part_jobs options.budget (commands_of done) c p.before p.segment p.run p.begun)

part_entries : Laws → (options : ReplayOptions) (done : List (ℕ × Given)) (c : Given) (h : List Entry) (text : List ℕ) (found left : Node) (p : IsPart options done c h) → IsShown options.node found left (commands_of done) p.before text
    → HasEntries (text ++ lines_from (length p.before) p.segment) (lines_from 0 h)
unfolding RunOf
part_entries law options done c h text found left p shown =
    let t = shown_told law.rows options.budget _ 0 [] (commands_of done) p.before None _ p.run shown.shows in
    let first : HasEntries text (lines_from 0 p.before) = subst (λ l. HasEntries text (lines_from 0 l)) (sym t.1) t.2 in
    let start : length p.before ≡ 0 + length p.before = omega arith in
    let lines : lines_from 0 p.before ++ lines_from (length p.before) p.segment ≡ lines_from 0 h =
    ap (λ m. lines_from 0 p.before ++ lines_from m p.segment) start ∙ sym (law.rows.lines 0 p.before p.segment) ∙ ap (λ l. lines_from 0 l) (sym p.is) in
    subst (λ l. HasEntries (text ++ lines_from (length p.before) p.segment) l) lines
    (law.rows.more text (lines_from (length p.before) p.segment) (lines_from 0 p.before) (lines_from (length p.before) p.segment) first (law.rows.entries (length p.before) p.segment))

both_runs : (m n : ℕ) (bytes : List ℕ) (budget other : ℕ) (g : List Entry) → m ≡ n → budget ≡ other → RunBy (command_at (commands_of (script_of n bytes).commands)) other g → RunBy (command_at (commands_of (script_of m bytes).commands)) budget g
both_runs m n bytes budget other g e f run =
    subst (λ (k : ℕ). RunBy (command_at (commands_of (script_of k bytes).commands)) budget g) (sym e) (subst (λ (b : ℕ). RunBy (command_at (commands_of (script_of n bytes).commands)) b g) (sym f) run)

pub full_same : Laws → (options others : ReplayOptions) (bytes before after : List ℕ) (m n : ℕ) (found now found_also now_also : Node) (x : EndsFull options m (Some bytes) (Some before) (Some after) found now)
    (y : EndsFull others n (Some bytes) (Some before) (Some after) found_also now_also) → options.budget ≡ others.budget → options.attempts ≡ others.attempts
    → count_of (commands_of x.done) + width x.command < 2 ^ 64 → count_of (commands_of y.done) + width y.command < 2 ^ 64 → options.entries < 2 ^ 64 → x.history ≡ y.history
full_same law options others bytes before after m n found now found_also now_also x y budget attempts few fewer less =
    let f = x.script bytes refl in
    let g = y.script bytes refl in
    let s = script_of options.attempts bytes in
    let t = script_of others.attempts bytes in
    let texts : x.text ++ lines_from (length x.part.before) x.part.segment ≡ y.text ++ lines_from (length y.part.before) y.part.segment =
    append_cancel_left before (x.text ++ lines_from (length x.part.before) x.part.segment) (y.text ++ lines_from (length y.part.before) y.part.segment) (sym x.written ∙ y.written) in
    let lines =
    law.same (x.text ++ lines_from (length x.part.before) x.part.segment) (y.text ++ lines_from (length y.part.before) y.part.segment) (lines_from 0 x.history) (lines_from 0 y.history)
    (part_entries law options x.done x.command x.history x.text found now x.part x.shown) (part_entries law others y.done y.command y.history y.text found_also now_also y.part y.shown) texts in
    same_histories law (command_at (commands_of s.commands)) options.budget (count_of (commands_of x.done) + width x.command) (count_of (commands_of y.done) + width y.command) x.history y.history x.part.legal y.part.legal
    (part_run law options x.done x.at x.command x.history s f.0 x.part f.1)
    (both_runs options.attempts others.attempts bytes options.budget others.budget y.history attempts budget (part_run law others y.done y.at y.command y.history t g.0 y.part g.1))
    (part_own law options x.done x.command x.history x.part) (part_own law others y.done y.command y.history y.part) few fewer (omega (arith, x.part.full, less)) lines
