-- The lines of entries in what a run of commands prints.
use Rattle.std.proofs.Common.{ℕ, ◌≡◌, ◌∙◌, ◌++◌, ◌+◌, ◌<◌, ◌≤◌, List, [], ◌∷◌, Bool, true, false, Option, None, Some, length, length-append, refl, sym, ap, subst, append_assoc, append-nil, arith}
use Rattle.std.specs.Prelude.{codes}
use Rattle.std.proofs.lemmas.List.{append_cancel_left}
use Rattle.object_fields.specs.declared.key.Key.{Key}
use Rattle.cluster.specs.declared.entry.Entry.{Entry}
use Rattle.cluster.specs.declared.state.PodState.{PodState}
use Rattle.cluster.specs.History.{state_of}
use Rattle.cluster.specs.State.{claims_of}
use Rattle.ckpt_journal.specs.declared.record.Row.{Row}
use Rattle.commands.specs.declared.given.Given.{Given}
use Rattle.commands.specs.declared.given.Given.TheVariants as given
use Rattle.journal_text.specs.Journal.{kubelet_line, lines_from}
use Rattle.journal_laws.specs.Rows.{HasEntries}
use Rattle.pool_view.specs.Names.{at_key}
use Rattle.pod_prepare.specs.Commands.{Asked, Does, Done, Next, OfPod, Turn, asked_of, prepare_turn, unprepare_turn}
use Rattle.pod_prepare.specs.Opening.{Table}
use Rattle.pod_prepare.specs.Texts.{absent_text, reopened_text}
use Rattle.replay_core.specs.Forms.{members, width}
use Rattle.replay_core.specs.Jobs.{AllOwn, RunFrom}
use Rattle.replay_core.specs.Kubelet.{Setting, ShowFrom, Shown, Shows, opened}

-- what texts of lines have
pub record Rows : Type 0 where
  pub none : HasEntries [] []
  pub more : (text other own others : List ℕ) → HasEntries text own → HasEntries other others → HasEntries (text ++ other) (own ++ others)
  pub entries : (n : ℕ) (es : List Entry) → HasEntries (lines_from n es) (lines_from n es)
  pub lines : (n : ℕ) (xs ys : List Entry) → lines_from n (xs ++ ys) ≡ lines_from n xs ++ lines_from (n + length xs) ys
  pub kubelet : (job : ℕ) (text : List ℕ) → HasEntries (kubelet_line job text) []

-- ---- the kubelet

-- the texts of all turns are such
abbrev Quiet : (List Row → Key → Bool → Turn) → Type 0
Quiet turn = (rows : List Row) (k : Key) (ok : Bool) → HasEntries (turn rows k ok).text []

next_quiet : Rows → (b : Bool) (t : Turn) (later : List Row → Done → Type 0) (done : Done) → HasEntries t.text [] → ((rows : List Row) (rest : Done) → later rows rest → HasEntries rest.text []) → Next b t later done → HasEntries done.text []
next_quiet law true t later done h all next =
    subst (λ (d : Done). HasEntries d.text []) (sym next.2) (law.more t.text next.0.text [] [] h (all t.rows next.0 next.1))
next_quiet law false t later done h all next = subst (λ (d : Done). HasEntries d.text []) (sym next) h

does_quiet : Rows → (turn : List Row → Key → Bool → Turn) (ks : List Key) (rows : List Row) (done : Done) → Quiet turn → Does turn ks rows done → HasEntries done.text []
unfolding Does
does_quiet law turn [] rows done quiet h = subst (λ (d : Done). HasEntries d.text []) (sym h) law.none
does_quiet law turn (k ∷ ks) rows done quiet h =
    next_quiet law (turn rows k h.0).goes (turn rows k h.0) (Does turn ks) done (quiet rows k h.0) (λ r rest later. does_quiet law turn ks r rest quiet later) h.1

pod_quiet : Rows → (job : ℕ) (word : List ℕ) (pod : Key) (turn : List Row → Key → Bool → Turn) (o : Option PodState) (rows : List Row) (done : Done) → Quiet turn → OfPod job word pod turn o rows done → HasEntries done.text []
pod_quiet law job word pod turn None rows done quiet h = subst (λ (d : Done). HasEntries d.text []) (sym h) (law.kubelet job (absent_text word pod))
pod_quiet law job word pod turn (Some p) rows done quiet h = does_quiet law turn (claims_of p) rows done quiet h

prepare_quiet : Rows → (x : Asked) (pod : Key) → Quiet (prepare_turn x pod)
prepare_quiet law x pod rows k ok = law.kubelet x.job _

unprepare_quiet : Rows → (x : Asked) (pod : Key) → Quiet (unprepare_turn x pod)
unprepare_quiet law x pod rows k ok = law.kubelet x.job _

-- ---- a command

abbrev text_of : Shown → List ℕ
text_of shown = shown.text

empty : (n : ℕ) (es : List Entry) → AllOwn n 0 es → es ≡ []
unfolding AllOwn
empty n [] own = refl
empty n (e ∷ es) own = absurd (omega (arith, own.0, own.1))

none_own : (n : ℕ) (es : List Entry) (text : List ℕ) → es ≡ [] → HasEntries text [] → HasEntries text (lines_from n es)
unfolding lines_from
none_own n es text is h = subst (λ l. HasEntries text (lines_from n l)) (sym is) h

shows_entries : Rows → (x : Setting) (n : ℕ) (before segment : List Entry) (g : Given) (table : Option Table) (shown : Shown) → AllOwn n (length (members g)) segment → Shows x n before segment g table shown → HasEntries shown.text (lines_from (length before) segment)
shows_entries law x n before segment (given.One c) table shown own h = subst (λ (s : Shown). HasEntries s.text (lines_from (length before) segment)) (sym h) (law.entries (length before) segment)
shows_entries law x n before segment (given.Together cs) table shown own h = subst (λ (s : Shown). HasEntries s.text (lines_from (length before) segment)) (sym h) (law.entries (length before) segment)
shows_entries law x n before segment (given.Prepare pod) table shown own h =
    let asked = asked_of (opened x table).half x.node (state_of before) (n + 1) in
    let quiet = pod_quiet law (n + 1) (codes "prepare-refused") pod (prepare_turn asked pod) (at_key (state_of before).pods pod) (opened x table).rows h.done (prepare_quiet law asked pod) h.does in
    none_own (length before) segment shown.text (empty n segment own) (subst (λ t. HasEntries t []) (sym h.text) quiet)
shows_entries law x n before segment (given.Unprepare pod) table shown own h =
    let asked = asked_of (opened x table).half x.node (state_of before) (n + 1) in
    let quiet = pod_quiet law (n + 1) (codes "unprepare-refused") pod (unprepare_turn asked pod) (at_key (state_of before).pods pod) (opened x table).rows h.done (unprepare_quiet law asked pod) h.does in
    none_own (length before) segment shown.text (empty n segment own) (subst (λ t. HasEntries t []) (sym h.text) quiet)
shows_entries law x n before segment given.Reopen table shown own h =
    none_own (length before) segment shown.text (empty n segment own) (subst (λ t. HasEntries t []) (sym h.text) (law.kubelet (n + 1) (reopened_text (length h.again.rows))))

-- ---- the segments of a run are those that are shown

abbrev AllPast : ℕ → List Entry → Type 0
AllPast n [] = Unit {0}
AllPast n (e ∷ es) = (n < e.job) × AllPast n es

abbrev AllUpTo : ℕ → List Entry → Type 0
AllUpTo n [] = Unit {0}
AllUpTo n (e ∷ es) = (e.job ≤ n) × AllUpTo n es

own_past : (n count : ℕ) (es : List Entry) → AllOwn n count es → AllPast n es
unfolding AllOwn
own_past n count [] own = tt
own_past n count (e ∷ es) own = (own.0, own_past n count es own.2)

own_up : (n count most : ℕ) (es : List Entry) → n + count ≤ most → AllOwn n count es → AllUpTo most es
unfolding AllOwn
own_up n count most [] le own = tt
own_up n count most (e ∷ es) le own = (omega (arith, own.1, le), own_up n count most es le own.2)

past_lower : (m n : ℕ) (es : List Entry) → m ≤ n → AllPast n es → AllPast m es
past_lower m n [] le h = tt
past_lower m n (e ∷ es) le h = (omega (arith, le, h.0), past_lower m n es le h.1)

past_join : (n : ℕ) (xs ys : List Entry) → AllPast n xs → AllPast n ys → AllPast n (xs ++ ys)
past_join n [] ys h g = g
past_join n (x ∷ xs) ys h g = (h.0, past_join n xs ys h.1 g)

first_entry : (d e : Entry) (ds es : List Entry) → d ∷ ds ≡ e ∷ es → d ≡ e
first_entry d e ds es same = cc

later_entries : (d e : Entry) (ds es : List Entry) → d ∷ ds ≡ e ∷ es → ds ≡ es
later_entries d e ds es same = cc

longer : (d e : Entry) (ds es : List Entry) → d ≡ e → ds ≡ es → d ∷ ds ≡ e ∷ es
longer d e ds es same more = cc

past_first : (n : ℕ) (e : Entry) (es xs : List Entry) → AllPast n xs → xs ≡ e ∷ es → n < e.job
past_first n e es xs h is = (subst (AllPast n) is h).0

-- the entries up to a number and those past it are told apart
segment_same : (n : ℕ) (a b r s : List Entry) → AllUpTo n a → AllUpTo n b → AllPast n r → AllPast n s → a ++ r ≡ b ++ s → a ≡ b
segment_same n [] [] r s f g h i same = refl
segment_same n [] (e ∷ b) r s f g h i same = let past = past_first n e (b ++ s) r h same in absurd (omega (arith, past, g.0))
segment_same n (d ∷ a) [] r s f g h i same = let past = past_first n d (a ++ r) s i (sym same) in absurd (omega (arith, past, f.0))
segment_same n (d ∷ a) (e ∷ b) r s f g h i same =
    longer d e a b (first_entry d e (a ++ r) (b ++ s) same) (segment_same n a b r s f.1 g.1 h i (later_entries d e (a ++ r) (b ++ s) same))

-- what follows these entries is past n
abbrev Goes : ℕ → List Entry → List Entry → Type 0
Goes n before after = (rest : List Entry) × (after ≡ before ++ rest) × AllPast n rest

members_few : (g : Given) → length (members g) ≤ width g
members_few (given.One command) = omega arith
members_few (given.Together commands) = omega arith
members_few (given.Prepare pod) = omega arith
members_few (given.Unprepare pod) = omega arith
members_few given.Reopen = omega arith

goes_more : (n wide : ℕ) (before segment after : List Entry) → AllPast n segment → Goes (n + wide) (before ++ segment) after → Goes n before after
goes_more n wide before segment after h next =
    (segment ++ next.0, next.1 ∙ append_assoc before segment next.0, past_join n segment next.0 h (past_lower n (n + wide) next.0 (omega arith) next.2))

run_goes : (budget n : ℕ) (before : List Entry) (gs : List Given) (after : List Entry) → RunFrom budget n before gs after → Goes n before after
unfolding RunFrom
run_goes budget n before [] after run = ([], run ∙ sym (append-nil before), tt)
run_goes budget n before (g ∷ gs) after run =
    goes_more n (width g) before run.0 after (own_past n (length (members g)) run.0 run.1.own) (run_goes budget (n + width g) (before ++ run.0) gs after run.2)

show_goes : (x : Setting) (n : ℕ) (before : List Entry) (gs : List Given) (after : List Entry) (table : Option Table) (shown : Shown) → ShowFrom x n before gs after table shown → Goes n before after
unfolding ShowFrom
show_goes x n before [] after table shown h = ([], h.0 ∙ sym (append-nil before), tt)
show_goes x n before (g ∷ gs) after table shown h =
    goes_more n (width g) before h.segment after (own_past n (width g) h.segment h.own) (show_goes x (n + width g) (before ++ h.segment) gs after h.first.table h.rest h.follows)

segments_meet : (n wide : ℕ) (before a b after : List Entry) → AllUpTo (n + wide) a → AllUpTo (n + wide) b → Goes (n + wide) (before ++ a) after → Goes (n + wide) (before ++ b) after → a ≡ b
segments_meet n wide before a b after f g run show =
    segment_same (n + wide) a b run.0 show.0 f g run.2 show.2
    (append_cancel_left before (a ++ run.0) (b ++ show.0) (sym (append_assoc before a run.0) ∙ sym run.1 ∙ show.1 ∙ append_assoc before b show.0))

-- ---- all commands

-- what follows these entries has its lines in the text
abbrev Told : List Entry → List Entry → List ℕ → Type 0
Told before after text = (rest : List Entry) × (after ≡ before ++ rest) × HasEntries text (lines_from (length before) rest)

shown_none : Rows → (before after : List Entry) (text : List ℕ) → after ≡ before → text ≡ [] → Told before after text
unfolding lines_from
shown_none law before after text is blank = ([], is ∙ sym (append-nil before), subst (λ t. HasEntries t []) (sym blank) law.none)

shown_more : Rows → (before segment after : List Entry) (text more : List ℕ) → HasEntries text (lines_from (length before) segment) → Told (before ++ segment) after more → Told before after (text ++ more)
shown_more law before segment after text more h next =
    let lines : lines_from (length before) segment ++ lines_from (length (before ++ segment)) next.0 ≡ lines_from (length before) (segment ++ next.0) =
    ap (λ m. lines_from (length before) segment ++ lines_from m next.0) (length-append before segment) ∙ sym (law.lines (length before) segment next.0) in (
      segment ++ next.0,
      next.1 ∙ append_assoc before segment next.0,
      subst (λ l. HasEntries (text ++ more) l) lines (law.more text more (lines_from (length before) segment) (lines_from (length (before ++ segment)) next.0) h next.2),
    )

own_members : (n : ℕ) (g : Given) (a b : List Entry) → a ≡ b → AllOwn n (length (members g)) a → AllOwn n (length (members g)) b
own_members n g a b same own = subst (λ l. AllOwn n (length (members g)) l) same own

pub shown_told : Rows → (budget : ℕ) (x : Setting) (n : ℕ) (before : List Entry) (gs : List Given) (after : List Entry) (table : Option Table) (shown : Shown) → RunFrom budget n before gs after → ShowFrom x n before gs after table shown → Told before after shown.text
unfolding RunFrom ShowFrom
shown_told law budget x n before [] after table shown run h = shown_none law before after shown.text h.0 (ap text_of h.1)
shown_told law budget x n before (g ∷ gs) after table shown run h =
    let few = members_few g in
    let same : run.0 ≡ h.segment =
    segments_meet n (width g) before run.0 h.segment after (own_up n (length (members g)) (n + width g) run.0 (omega (arith, few)) run.1.own) (own_up n (width g) (n + width g) h.segment (omega arith) h.own)
    (run_goes budget (n + width g) (before ++ run.0) gs after run.2) (show_goes x (n + width g) (before ++ h.segment) gs after h.first.table h.rest h.follows) in
    let own = own_members n g run.0 h.segment same run.1.own in
    let later = shown_told law budget x (n + width g) (before ++ h.segment) gs after h.first.table h.rest (subst (λ l. RunFrom budget (n + width g) (before ++ l) gs after) same run.2) h.follows in
    subst (λ t. Told before after t) (sym (ap text_of h.is))
    (shown_more law before h.segment after h.first.text h.rest.text (shows_entries law x n before h.segment g table h.first own h.shows) later)
