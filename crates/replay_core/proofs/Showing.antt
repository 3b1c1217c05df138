-- What a run of commands shows, one command more.
use Rattle.std.proofs.Common.{ℕ, ◌+◌, ◌-◌, ◌^◌, ◌≤◌, ◌≡◌, ◌∙◌, Bool, true, false, List, [], ◌∷◌, ◌++◌, refl, sym, ap, subst, arith, append_assoc, append-nil, if◌then◌else◌}
use Rattle.std.specs.Prelude.{Option, None, Some, IfSome, min}
use Rattle.std.specs.Option.{option_map}
use Rattle.dra_ports.specs.DiskContent.{Content}
use Rattle.ckpt_journal.specs.Standing.{Keeps}
use Rattle.cluster.specs.declared.entry.Entry.{Entry}
use Rattle.commands.specs.declared.given.Given.{Given}
use Rattle.commands.specs.declared.given.Given.TheVariants as given
use Rattle.prepare_core.specs.declared.driver.DriverCall.{DriverCall}
use Rattle.pod_prepare.specs.Commands.{RoseBy, failed}
use Rattle.pod_prepare.specs.Opening.{BeginsWith, Table}
use Rattle.pod_prepare.specs.Words.{TellsStill, tells}
use Rattle.replay_core.specs.declared.options.ReplayOptions.{ReplayOptions}
use Rattle.replay_core.specs.Forms.{count_of, width}
use Rattle.replay_core.specs.Jobs.{AllOwn}
use Rattle.replay_core.specs.Kubelet.{AskedOn, IsShown, Node, Setting, ShowFrom, Shown, Shows}
use Rattle.replay_core.specs.Lines.{BeginsHere, ShownBy}

-- ---- calls and counts

pub asked_none : (calls : Option (List DriverCall)) → calls ≡ option_map (λ c. c ++ []) calls
asked_none None = refl
asked_none (Some c) = ap (λ (l : List DriverCall). Some l) (sym (append-nil c))

pub asked_joined : (a b c : Option (List DriverCall)) (x y : List DriverCall) → b ≡ option_map (λ l. l ++ x) a → c ≡ option_map (λ l. l ++ y) b → c ≡ option_map (λ l. l ++ (x ++ y)) a
asked_joined None b c x y p q = q ∙ ap (λ (o : Option (List DriverCall)). option_map (λ l. l ++ y) o) p
asked_joined (Some l) b c x y p q = q ∙ ap (λ (o : Option (List DriverCall)). option_map (λ l. l ++ y) o) p ∙ ap (λ (m : List DriverCall). Some m) (append_assoc l x y)

by_ok : (b : Bool) (n m k : ℕ) → n ≡ m + k → (if b then n else 1 + n) ≡ (if b then m else 1 + m) + k
by_ok true n m k e = e
by_ok false n m k e = omega (arith, e)

failed_joined : (xs ys : List DriverCall) → failed (xs ++ ys) ≡ failed xs + failed ys
failed_joined [] ys = omega arith
failed_joined (x ∷ xs) ys = by_ok x.ok (failed (xs ++ ys)) (failed xs) (failed ys) (failed_joined xs ys)

-- a count that stays
pub rose_none : (n : ℕ) → RoseBy 0 n n
rose_none n = omega arith

rose_joined : (m n a b c : ℕ) → RoseBy m a b → RoseBy n b c → RoseBy (m + n) a c
rose_joined m n a b c p q = omega (arith, p, q)

counted_joined : (xs ys : List DriverCall) (a b c : ℕ) → RoseBy (failed xs) a b → RoseBy (failed ys) b c → RoseBy (failed (xs ++ ys)) a c
counted_joined xs ys a b c p q = subst (λ (n : ℕ). RoseBy n a c) (sym (failed_joined xs ys)) (rose_joined (failed xs) (failed ys) a b c p q)

-- the driver got no more calls
pub asked_on_none : (x : Node) → AskedOn x x
asked_on_none x = record { more = []; are = asked_none x.calls; counted = rose_none x.faults }

rose_on : (n a b c : ℕ) → RoseBy n a b → RoseBy 0 b c → RoseBy n a c
rose_on n a b c p q = omega (arith, p, q)

-- what was counted of a run stays counted
pub counted_on : (calls : List DriverCall) (found x y : Node) → RoseBy (failed calls) found.faults x.faults → AskedOn x y → RoseBy (failed calls) found.faults y.faults
counted_on calls found x y counted asked = rose_on (failed calls) found.faults x.faults y.faults counted asked.counted

-- ---- a kubelet that is open, or isn't

abbrev as_shown : List ℕ → Option Table → List DriverCall → Shown
as_shown text table calls = record { text = text; table = table; calls = calls }

abbrev setting : Bool → List ℕ → Table → Setting
setting told node start = record { told = told; node = node; start = start }

-- a command that finds the kubelet open leaves it open
pub stays_open : (x : Setting) (n : ℕ) (before segment : List Entry) (g : Given) (t : Table) (shown : Shown) → Shows x n before segment g (Some t) shown → (u : Table) × (shown.table ≡ Some u)
stays_open x n before segment (given.One c) t shown is = (t, ap (λ (s : Shown). s.table) is)
stays_open x n before segment (given.Together cs) t shown is = (t, ap (λ (s : Shown). s.table) is)
stays_open x n before segment (given.Prepare pod) t shown does = (record { half = t.half; rows = does.done.rows }, does.table)
stays_open x n before segment (given.Unprepare pod) t shown does = (record { half = t.half; rows = does.done.rows }, does.table)
stays_open x n before segment given.Reopen t shown does = (does.again, does.table)

-- so it wasn't open before one that leaves it closed
pub was_closed : (x : Setting) (n : ℕ) (before segment : List Entry) (g : Given) (table : Option Table) (shown : Shown) → Shows x n before segment g table shown → shown.table ≡ None → table ≡ None
was_closed x n before segment g None shown shows none = refl
was_closed x n before segment g (Some t) shown shows none = let o = stays_open x n before segment g t shown shows in let e : None ≡ Some o.0 = sym none ∙ o.1 in absurd (cc)

pub run_stays_open : (x : Setting) (gs : List Given) (n : ℕ) (before after : List Entry) (t : Table) (shown : Shown) → ShowFrom x n before gs after (Some t) shown → (u : Table) × (shown.table ≡ Some u)
unfolding ShowFrom
run_stays_open x [] n before after t shown f = (t, ap (λ (s : Shown). s.table) f.1)
run_stays_open x (g ∷ gs) n before after t shown f =
    let o = stays_open x n before f.segment g t f.first f.shows in
    let r = run_stays_open x gs (n + width g) (before ++ f.segment) after o.0 f.rest (subst (λ (y : Option Table). ShowFrom x (n + width g) (before ++ f.segment) gs after y f.rest) o.1 f.follows) in
    (r.0, ap (λ (s : Shown). s.table) f.is ∙ r.1)

first_closed : (x : Setting) (gs : List Given) (n : ℕ) (before after : List Entry) (table : Option Table) (rest : Shown) → rest.table ≡ None → ShowFrom x n before gs after table rest → table ≡ None
first_closed x gs n before after None rest none f = refl
first_closed x gs n before after (Some t) rest none f = let o = run_stays_open x gs n before after t rest f in let e : None ≡ Some o.0 = sym none ∙ o.1 in absurd (cc)

-- where a command doesn't open the kubelet, it doesn't matter what it would begin with
closed_shows : (told : Bool) (node : List ℕ) (a b : Table) (n : ℕ) (before segment : List Entry) (g : Given) (shown : Shown) → shown.table ≡ None → Shows (setting told node a) n before segment g None shown → Shows (setting told node b) n before segment g None shown
closed_shows told node a b n before segment (given.One c) shown none is = is
closed_shows told node a b n before segment (given.Together cs) shown none is = is
closed_shows told node a b n before segment (given.Prepare pod) shown none does = let t : Table = record { half = a.half; rows = does.done.rows } in let e : None ≡ Some t = sym none ∙ does.table in absurd (cc)
closed_shows told node a b n before segment (given.Unprepare pod) shown none does = let t : Table = record { half = a.half; rows = does.done.rows } in let e : None ≡ Some t = sym none ∙ does.table in absurd (cc)
closed_shows told node a b n before segment given.Reopen shown none does = let e : None ≡ Some does.again = sym none ∙ does.table in absurd (cc)

-- nor if it was open before
open_shows : (told : Bool) (node : List ℕ) (a b : Table) (n : ℕ) (before segment : List Entry) (g : Given) (t : Table) (shown : Shown) → Shows (setting told node a) n before segment g (Some t) shown → Shows (setting told node b) n before segment g (Some t) shown
open_shows told node a b n before segment (given.One c) t shown is = is
open_shows told node a b n before segment (given.Together cs) t shown is = is
open_shows told node a b n before segment (given.Prepare pod) t shown does = record { done = does.done; does = does.does; text = does.text; table = does.table; calls = does.calls }
open_shows told node a b n before segment (given.Unprepare pod) t shown does = record { done = does.done; does = does.does; text = does.text; table = does.table; calls = does.calls }
open_shows told node a b n before segment given.Reopen t shown does = record { again = does.again; reopened = does.reopened; text = does.text; table = does.table; calls = does.calls }

-- the same of a run
closed_run : (told : Bool) (node : List ℕ) (a b : Table) (gs : List Given) (n : ℕ) (before after : List Entry) (shown : Shown) → shown.table ≡ None → ShowFrom (setting told node a) n before gs after None shown → ShowFrom (setting told node b) n before gs after None shown
unfolding ShowFrom
closed_run told node a b [] n before after shown none f = f
closed_run told node a b (g ∷ gs) n before after shown none f =
    let rest_none : f.rest.table ≡ None = sym (ap (λ (s : Shown). s.table) f.is) ∙ none in
    let first_none : f.first.table ≡ None = first_closed (setting told node a) gs (n + width g) (before ++ f.segment) after f.first.table f.rest rest_none f.follows in
    let was : ShowFrom (setting told node a) (n + width g) (before ++ f.segment) gs after None f.rest =
    subst (λ (y : Option Table). ShowFrom (setting told node a) (n + width g) (before ++ f.segment) gs after y f.rest) first_none f.follows in
    record {
      segment = f.segment;
      own = f.own;
      first = f.first;
      shows = closed_shows told node a b n before f.segment g f.first first_none f.shows;
      rest = f.rest;
      follows = subst (λ (y : Option Table). ShowFrom (setting told node b) (n + width g) (before ++ f.segment) gs after y f.rest) (sym first_none)
          (closed_run told node a b gs (n + width g) (before ++ f.segment) after f.rest rest_none was);
      is = f.is;
    }

-- ---- one command more

abbrev joined : Shown → Shown → Shown
joined a b = as_shown (a.text ++ b.text) b.table (a.calls ++ b.calls)

show_more : (x : Setting) (n : ℕ) (before : List Entry) (gs : List Given) (mid : List Entry) (table : Option Table) (shown : Shown) (c : Given) (segment : List Entry) (next : Shown)
    → ShowFrom x n before gs mid table shown → AllOwn (n + count_of gs) (width c) segment → Shows x (n + count_of gs) mid segment c shown.table next → ShowFrom x n before (gs ++ c ∷ []) (mid ++ segment) table (joined shown next)
unfolding ShowFrom
show_more x n before [] mid table shown c segment next f own shows =
    let zero : n + 0 ≡ n = omega arith in
    let kept : shown.table ≡ table = ap (λ (s : Shown). s.table) f.1 in
    record {
      segment = segment;
      own = subst (λ (k : ℕ). AllOwn k (width c) segment) zero own;
      first = next;
      shows = subst (λ (h : List Entry). Shows x n h segment c table next) f.0
          (subst (λ (t : Option Table). Shows x n mid segment c t next) kept
          (subst (λ (k : ℕ). Shows x k mid segment c shown.table next) zero shows));
      rest = as_shown [] next.table [];
      follows = (ap (λ (h : List Entry). h ++ segment) f.0, refl);
      is = ap (λ (s : Shown). joined s next) f.1
          ∙ ap (λ (t : List ℕ). as_shown t next.table next.calls) (sym (append-nil next.text))
          ∙ ap (λ (cs : List DriverCall). as_shown (next.text ++ []) next.table cs) (sym (append-nil next.calls));
    }
show_more x n before (g ∷ gs) mid table shown c segment next f own shows =
    let there : n + count_of (g ∷ gs) ≡ n + width g + count_of gs = omega arith in
    let kept : shown.table ≡ f.rest.table = ap (λ (s : Shown). s.table) f.is in
    let R : Shown = joined f.rest next in
    record {
      segment = f.segment;
      own = f.own;
      first = f.first;
      shows = f.shows;
      rest = R;
      follows = show_more x (n + width g) (before ++ f.segment) gs mid f.first.table f.rest c segment next f.follows
          (subst (λ (k : ℕ). AllOwn k (width c) segment) there own)
          (subst (λ (t : Option Table). Shows x (n + width g + count_of gs) mid segment c t next) kept
          (subst (λ (k : ℕ). Shows x k mid segment c shown.table next) there shows));
      is = ap (λ (s : Shown). joined s next) f.is
          ∙ ap (λ (t : List ℕ). as_shown t next.table ((f.first.calls ++ f.rest.calls) ++ next.calls)) (append_assoc f.first.text f.rest.text next.text)
          ∙ ap (λ (cs : List DriverCall). as_shown (f.first.text ++ (f.rest.text ++ next.text)) next.table cs) (append_assoc f.first.calls f.rest.calls next.calls);
    }

-- ---- what a kubelet begins with

begins_here : (a b : Option Table) (found left : Option Content) (start : Table) → a ≡ None → found ≡ left → BeginsHere a b found start → IfSome b (λ _. BeginsWith left start)
begins_here None None found left start none same begins = tt
begins_here None (Some t) found left start none same begins = subst (λ (c : Option Content). BeginsWith c start) same begins
begins_here (Some u) b found left start none same begins = absurd (cc)

began_before : (a b : Option Table) (t : Table) (P : Type 0) → a ≡ Some t → IfSome a (λ _. P) → IfSome b (λ _. P)
began_before a None t P is began = tt
began_before None (Some u) t P is began = absurd (cc)
began_before (Some v) (Some u) t P is began = began

-- a run, and a command that shows what it shows with the same beginning
record Begun (told : Bool) (node : List ℕ) (found : Option Content) (gs : List Given) (h segment : List Entry) (c : Given) (n : ℕ) (x y : Option Table) (text next : List ℕ) (calls more : List DriverCall) : Type 0 where
  pub start : Table
  pub run : ShowFrom (setting told node start) 0 [] gs h None (as_shown text x calls)
  pub shows : Shows (setting told node start) n h segment c x (as_shown next y more)
  pub opened : IfSome y (λ _. BeginsWith found start)

begun_by : (options : ReplayOptions) (found x y : Node) (gs : List Given) (h segment : List Entry) (c : Given) (n : ℕ) (text next : List ℕ) (t : Option Table) → x.table ≡ t
    → (s : IsShown options.node found x gs h text) → TellsStill found.content x.content → (x.table ≡ None → x.content ≡ found.content) → (by : ShownBy options n h segment c x y next)
    → Begun (tells found.content) options.node found.content gs h segment c n x.table y.table text next s.calls by.calls
begun_by options found x y gs h segment c n text next None none s still untouched by = record {
  start = by.start;
  run = subst (λ (u : Option Table). ShowFrom (setting (tells found.content) options.node by.start) 0 [] gs h None (as_shown text u s.calls)) (sym none)
      (closed_run (tells found.content) options.node s.start by.start gs 0 [] h (as_shown text None s.calls) refl
      (subst (λ (u : Option Table). ShowFrom (setting (tells found.content) options.node s.start) 0 [] gs h None (as_shown text u s.calls)) none s.shows));
  shows = subst (λ (b : Bool). Shows (setting b options.node by.start) n h segment c x.table (as_shown next y.table by.calls)) still by.shows;
  opened = begins_here x.table y.table x.content found.content by.start none (untouched none) by.opened;
}
begun_by options found x y gs h segment c n text next (Some t) there s still untouched by = record {
  start = s.start;
  run = s.shows;
  shows = subst (λ (u : Option Table). Shows (setting (tells found.content) options.node s.start) n h segment c u (as_shown next y.table by.calls)) (sym there)
      (open_shows (tells found.content) options.node by.start s.start n h segment c t (as_shown next y.table by.calls)
      (subst (λ (u : Option Table). Shows (setting (tells found.content) options.node by.start) n h segment c u (as_shown next y.table by.calls)) there
      (subst (λ (b : Bool). Shows (setting b options.node by.start) n h segment c x.table (as_shown next y.table by.calls)) still by.shows)));
  opened = began_before x.table y.table t (BeginsWith found.content s.start) there s.opened;
}

-- what commands show, and then one more
pub shown_more : (options : ReplayOptions) (found x y : Node) (gs : List Given) (h segment : List Entry) (c : Given) (n : ℕ) (text next : List ℕ) → n ≡ count_of gs → AllOwn n (width c) segment
    → IsShown options.node found x gs h text → TellsStill found.content x.content → (x.table ≡ None → x.content ≡ found.content) → ShownBy options n h segment c x y next
    → IsShown options.node found y (gs ++ c ∷ []) (h ++ segment) (text ++ next)
shown_more options found x y gs h segment c n text next count own s still untouched by =
    let b = begun_by options found x y gs h segment c n text next x.table refl s still untouched by in
    let there : n ≡ 0 + count_of gs = omega (arith, count) in
    record {
      start = b.start;
      calls = s.calls ++ by.calls;
      shows = show_more (setting (tells found.content) options.node b.start) 0 [] gs h None (as_shown text x.table s.calls) c segment (as_shown next y.table by.calls)
          b.run (subst (λ (k : ℕ). AllOwn k (width c) segment) there own)
          (subst (λ (k : ℕ). Shows (setting (tells found.content) options.node b.start) k h segment c x.table (as_shown next y.table by.calls)) there b.shows);
      opened = b.opened;
      asked = asked_joined found.calls x.calls y.calls s.calls by.calls s.asked by.asked;
      counted = counted_joined s.calls by.calls found.faults x.faults y.faults s.counted by.counted;
      kept = by.kept;
    }

-- a node whose kubelet isn't open is as it was found
pub untouched_more : (options : ReplayOptions) (found x y : Node) (h segment : List Entry) (c : Given) (n : ℕ) (next : List ℕ) → (x.table ≡ None → x.content ≡ found.content) → ShownBy options n h segment c x y next
    → y.table ≡ None → y.content ≡ found.content
untouched_more options found x y h segment c n next untouched by none =
    by.untouched none ∙ untouched (was_closed (record { told = tells x.content; node = options.node; start = by.start }) n h segment c x.table (as_shown next y.table by.calls) by.shows none)

-- no command shows nothing
pub shown_none : (name : List ℕ) (found : Node) → found.table ≡ None → IsShown name found found [] [] []
unfolding ShowFrom
shown_none name found none = record {
  start = record { half = 0; rows = [] };
  calls = [];
  shows = (refl, ap (λ (u : Option Table). as_shown [] u []) none);
  opened = subst (λ (u : Option Table). IfSome u (λ _. BeginsWith found.content (record { half = 0; rows = [] }))) (sym none) tt;
  asked = asked_none found.calls;
  counted = rose_none found.faults;
  kept = subst (λ (u : Option Table). IfSome u (λ t. IfSome found.content (Keeps t.rows))) (sym none) tt;
}
