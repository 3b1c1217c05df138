-- The counters that are kept after those of a slice were added.
use Rattle.std.proofs.Common.{◌≡◌, ℕ, ℤ, List, [], ◌∷◌, Bool, true, false, Option, None, Some, refl, sym, ap, ◌∙◌, if◌then◌else◌, ◌&&◌, ◌||◌, cond}
use Rattle.std.specs.BTreeMap.{insert_entry}
use Rattle.std.specs.Cmp.Lexicographic.{same_text}
use Rattle.std.specs.List.{find, list_any}
use Rattle.std.specs.Option.{is_some, option_and_then, option_map}
use Rattle.api_slice.specs.declared.types.CounterSet.{CounterSet}
use Rattle.api_slice.specs.declared.types.ResourceSlice.{ResourceSlice}
use Rattle.pool_view.specs.Names.{at_name, text_cmp, text_eq}
use Rattle.pool_view.specs.Pools.{set_named}
use Rattle.request_rules.specs.Draws.{CounterId, counter_value, is_of_pool, natural, or_value}
use Rattle.counter_sets.specs.Totals.{KeptCounters, PoolCounters, SetCounters, Tabled, counter_at, counter_in, drawn_in, drawn_kept, grown_set, grown_sets, or_empty, pool_in, pools_with, undrawn, value_kept, value_of, with_counters, with_grown, with_room, with_set, with_sets, with_slice}
use Rattle.counter_sets.specs.declared.added.GrownSet.{GrownSet}
use Rattle.counter_sets.specs.declared.counter.Counter.{Counter}
use Rattle.counter_sets.proofs.Names.{moved_if, moved_name}
use Rattle.counter_sets.proofs.Putting.{added_at, at_head, found, or_else, or_none, put_at}

-- ---- counters of a set

counter_step : (t : Bool) (x : ℤ) (o : Option Counter) (p : Option ℤ) → or_else (or_else o (found t (undrawn x) None)) (option_map undrawn p) ≡ or_else o (option_map undrawn (found t x p))
counter_step true x None p = refl
counter_step true x (Some k) p = refl
counter_step false x None p = refl
counter_step false x (Some k) p = refl

counters_at : (es : List (List ℕ × ℤ)) (counters : SetCounters) (k : List ℕ) → at_name (with_counters es counters) k ≡ or_else (at_name counters k) (option_map undrawn (at_name es k))
counters_at [] counters k = or_none (at_name counters k)
counters_at (e ∷ es) counters k =
    counters_at es (if is_some (at_name counters e.0) then counters else insert_entry text_cmp counters e.0 (undrawn e.1)) k
    ∙ ap (λ (o : Option Counter). or_else o (option_map undrawn (at_name es k))) (added_at (is_some (at_name counters e.0)) e.0 k (undrawn e.1) counters refl)
    ∙ counter_step (text_eq e.0 k) e.1 (at_name counters k) (at_name es k)
    ∙ sym (ap (λ (q : Option ℤ). or_else (at_name counters k) (option_map undrawn q)) (at_head e es k))

-- ---- sets of a pool

abbrev grows : List ℕ → GrownSet → Bool
grows k g = text_eq g.name k

abbrev empty_if : Bool → Option SetCounters
empty_if b = if b then Some [] else None

room_step : (t r : Bool) (o : Option SetCounters) → or_else (or_else o (found t [] None)) (empty_if r) ≡ or_else o (empty_if (t || r))
room_step true r None = refl
room_step true r (Some x) = refl
room_step false r None = refl
room_step false r (Some x) = refl

room_at : (gs : List GrownSet) (sets : PoolCounters) (k : List ℕ) → at_name (with_room gs sets) k ≡ or_else (at_name sets k) (empty_if (list_any (grows k) gs))
room_at [] sets k = or_none (at_name sets k)
room_at (g ∷ gs) sets k =
    room_at gs (with_set g.name sets) k
    ∙ ap (λ (o : Option SetCounters). or_else o (empty_if (list_any (grows k) gs))) (added_at (is_some (at_name sets g.name)) g.name k [] sets refl)
    ∙ room_step (text_eq g.name k) (list_any (grows k) gs) (at_name sets k)

abbrev grown_to : Option GrownSet → SetCounters → SetCounters
grown_to None counters = counters
grown_to (Some g) counters = g.counters

grown_step : (t : Bool) (g : GrownSet) (o : Option GrownSet) (w : Option SetCounters)
    → option_map (moved_if t (λ counters. g.counters)) (option_map (grown_to o) w) ≡ option_map (grown_to (cond t (Some g) o)) w
grown_step t g o None = refl
grown_step true g o (Some x) = refl
grown_step false g o (Some x) = refl

none_grown : (w : Option SetCounters) → w ≡ option_map (grown_to None) w
none_grown None = refl
none_grown (Some x) = refl

grown_at : (gs : List GrownSet) (sets : PoolCounters) (k : List ℕ) → at_name (with_grown gs sets) k ≡ option_map (grown_to (find (grows k) gs)) (at_name sets k)
grown_at [] sets k = none_grown (at_name sets k)
grown_at (g ∷ gs) sets k =
    moved_name g.name k (λ counters. g.counters) (with_grown gs sets)
    ∙ ap (option_map (moved_if (text_eq g.name k) (λ counters. g.counters))) (grown_at gs sets k)
    ∙ grown_step (text_eq g.name k) g (find (grows k) gs) (at_name sets k)

found_step : (t : Bool) (s : CounterSet) (f : CounterSet → GrownSet) (o : Option GrownSet) (p : Option CounterSet) → o ≡ option_map f p → cond t (Some (f s)) o ≡ option_map f (cond t (Some s) p)
found_step true s f o p e = refl
found_step false s f o p e = e

grown_found : (sets : PoolCounters) (ss : List CounterSet) (k : List ℕ) → find (grows k) (grown_sets ss sets) ≡ option_map (grown_set sets) (set_named ss k)
grown_found sets [] k = refl
grown_found sets (s ∷ ss) k =
    found_step (text_eq s.name k) s (grown_set sets) (find (grows k) (grown_sets ss sets)) (set_named ss k) (grown_found sets ss k)

any_step : (t r : Bool) (s : CounterSet) (o : Option CounterSet) → r ≡ is_some o → (t || r) ≡ is_some (cond t (Some s) o)
any_step true r s o e = refl
any_step false r s o e = e

grown_any : (sets : PoolCounters) (ss : List CounterSet) (k : List ℕ) → list_any (grows k) (grown_sets ss sets) ≡ is_some (set_named ss k)
grown_any sets [] k = refl
grown_any sets (s ∷ ss) k = any_step (text_eq s.name k) (list_any (grows k) (grown_sets ss sets)) s (set_named ss k) (grown_any sets ss k)

named_step : (t : Bool) (s u : CounterSet) (o : Option CounterSet) (k : List ℕ) → text_eq s.name k ≡ t → cond t (Some s) o ≡ Some u → (o ≡ Some u → u.name ≡ k) → u.name ≡ k
named_step true s u o k is e later =
    let same : s ≡ u = cc in
    ap (λ (v : CounterSet). v.name) (sym same) ∙ same_text s.name k (sym is)
named_step false s u o k is e later = later e

named_is : (ss : List CounterSet) (k : List ℕ) (u : CounterSet) → set_named ss k ≡ Some u → u.name ≡ k
named_is [] k u e = absurd (cc)
named_is (s ∷ ss) k u e = named_step (text_eq s.name k) s u (set_named ss k) k refl e (named_is ss k u)

abbrev of_set : Option CounterSet → Option SetCounters → Option SetCounters
of_set None w = w
of_set (Some s) w = Some (with_counters s.counters (or_empty w))

none_put : (w : Option SetCounters) → option_map (grown_to None) (or_else w None) ≡ w
none_put None = refl
none_put (Some x) = refl

some_put : (g : GrownSet) (w : Option SetCounters) → option_map (grown_to (Some g)) (or_else w (Some [])) ≡ Some g.counters
some_put g None = refl
some_put g (Some x) = refl

sets_by : (sets : PoolCounters) (k : List ℕ) (f : Option CounterSet) → ((u : CounterSet) → f ≡ Some u → u.name ≡ k)
    → option_map (grown_to (option_map (grown_set sets) f)) (or_else (at_name sets k) (empty_if (is_some f))) ≡ of_set f (at_name sets k)
sets_by sets k None named = none_put (at_name sets k)
sets_by sets k (Some s) named =
    some_put (grown_set sets s) (at_name sets k) ∙ ap (λ (n : List ℕ). Some (with_counters s.counters (or_empty (at_name sets n)))) (named s refl)

sets_at : (ss : List CounterSet) (sets : PoolCounters) (k : List ℕ) → at_name (with_sets ss sets) k ≡ of_set (set_named ss k) (at_name sets k)
sets_at ss sets k =
    grown_at (grown_sets ss sets) (with_room (grown_sets ss sets) sets) k
    ∙ ap (option_map (grown_to (find (grows k) (grown_sets ss sets)))) (room_at (grown_sets ss sets) sets k)
    ∙ ap (λ (o : Option GrownSet). option_map (grown_to o) (or_else (at_name sets k) (empty_if (list_any (grows k) (grown_sets ss sets))))) (grown_found sets ss k)
    ∙ ap (λ (b : Bool). option_map (grown_to (option_map (grown_set sets) (set_named ss k))) (or_else (at_name sets k) (empty_if b))) (grown_any sets ss k)
    ∙ sets_by sets k (set_named ss k) (named_is ss k)

abbrev new_in : List CounterSet → List ℕ → List ℕ → Option Counter
new_in ss set k = option_map undrawn (option_and_then (λ (s : CounterSet). at_name s.counters k) (set_named ss set))

counter_by : (f : Option CounterSet) (w : Option SetCounters) (k : List ℕ)
    → at_name (or_empty (of_set f w)) k ≡ or_else (at_name (or_empty w) k) (option_map undrawn (option_and_then (λ (s : CounterSet). at_name s.counters k) f))
counter_by None w k = or_none (at_name (or_empty w) k)
counter_by (Some s) w k = counters_at s.counters (or_empty w) k

counters_added : (ss : List CounterSet) (sets : PoolCounters) (set k : List ℕ) → counter_in (with_sets ss sets) set k ≡ or_else (counter_in sets set k) (new_in ss set k)
counters_added ss sets set k = ap (λ (o : Option SetCounters). at_name (or_empty o) k) (sets_at ss sets set) ∙ counter_by (set_named ss set) (at_name sets set) k

-- ---- a slice

abbrev pool_grown : Bool → ResourceSlice → PoolCounters → PoolCounters
pool_grown b x sets = if b then with_sets x.counters sets else sets

pool_step : (b : Bool) (x : ResourceSlice) (pools : Tabled PoolCounters) (pool : List ℕ)
    → or_empty (at_name (if b then pools_with x.pool.name x.counters pools else pools) pool) ≡ pool_grown (b && text_eq x.pool.name pool) x (or_empty (at_name pools pool))
pool_step true x pools pool = put_at x.pool.name pool (λ sets. with_sets x.counters sets) pools
pool_step false x pools pool = refl

pool_with : (x : ResourceSlice) (kept : KeptCounters) (c : CounterId) → pool_in (with_slice x kept) c.driver c.pool ≡ pool_grown (is_of_pool x c) x (pool_in kept c.driver c.pool)
unfolding with_slice
pool_with x kept c =
    ap (λ (pools : Tabled PoolCounters). or_empty (at_name pools c.pool)) (put_at x.driver c.driver (λ pools. pools_with x.pool.name x.counters pools) kept)
    ∙ pool_step (text_eq x.driver c.driver) x (or_empty (at_name kept c.driver)) c.pool

abbrev new_of : Bool → ResourceSlice → CounterId → Option Counter
new_of b x c = if b then new_in x.counters c.set c.counter else None

counter_if : (b : Bool) (x : ResourceSlice) (sets : PoolCounters) (c : CounterId) → counter_in (pool_grown b x sets) c.set c.counter ≡ or_else (counter_in sets c.set c.counter) (new_of b x c)
counter_if true x sets c = counters_added x.counters sets c.set c.counter
counter_if false x sets c = or_none (counter_in sets c.set c.counter)

counter_with : (x : ResourceSlice) (kept : KeptCounters) (c : CounterId) → counter_at (with_slice x kept) c ≡ or_else (counter_at kept c) (new_of (is_of_pool x c) x c)
counter_with x kept c =
    ap (λ (sets : PoolCounters). counter_in sets c.set c.counter) (pool_with x kept c) ∙ counter_if (is_of_pool x c) x (pool_in kept c.driver c.pool) c

value_new : (q : Option ℤ) → value_kept (option_map undrawn q) ≡ option_map natural q
value_new None = refl
value_new (Some z) = refl

value_if : (b : Bool) (q : Option ℤ) → value_kept (if b then option_map undrawn q else None) ≡ (if b then option_map natural q else None)
value_if true q = value_new q
value_if false q = refl

value_step : (o p : Option Counter) → value_kept (or_else o p) ≡ or_value (value_kept o) (value_kept p)
value_step None p = refl
value_step (Some k) p = refl

-- the values of the slice's counters are kept besides
pub value_more : (x : ResourceSlice) (kept : KeptCounters) (c : CounterId) → value_of (with_slice x kept) c ≡ or_value (value_of kept c) (counter_value x c)
unfolding value_of counter_value
value_more x kept c =
    ap value_kept (counter_with x kept c)
    ∙ value_step (counter_at kept c) (new_of (is_of_pool x c) x c)
    ∙ ap (or_value (value_kept (counter_at kept c))) (value_if (is_of_pool x c) (option_and_then (λ s. at_name s.counters c.counter) (set_named x.counters c.set)))

drawn_new : (b : Bool) (q : Option ℤ) → drawn_kept (if b then option_map undrawn q else None) ≡ 0
drawn_new true None = refl
drawn_new true (Some z) = refl
drawn_new false q = refl

drawn_step : (o p : Option Counter) → drawn_kept p ≡ 0 → drawn_kept (or_else o p) ≡ drawn_kept o
drawn_step None p e = e
drawn_step (Some k) p e = refl

-- nothing more is drawn
pub drawn_same : (x : ResourceSlice) (kept : KeptCounters) (c : CounterId) → drawn_in (with_slice x kept) c ≡ drawn_in kept c
unfolding drawn_in
drawn_same x kept c =
    ap drawn_kept (counter_with x kept c)
    ∙ drawn_step (counter_at kept c) (new_of (is_of_pool x c) x c) (drawn_new (is_of_pool x c) (option_and_then (λ s. at_name s.counters c.counter) (set_named x.counters c.set)))

pub value_after : (x : ResourceSlice) (old new : KeptCounters) → new ≡ with_slice x old → (c : CounterId) → value_of new c ≡ or_value (value_of old c) (counter_value x c)
value_after x old new e c = ap (λ (t : KeptCounters). value_of t c) e ∙ value_more x old c

pub drawn_after : (x : ResourceSlice) (old new : KeptCounters) → new ≡ with_slice x old → (c : CounterId) → drawn_in new c ≡ drawn_in old c
drawn_after x old new e c = ap (λ (t : KeptCounters). drawn_in t c) e ∙ drawn_same x old c
