-- How a device's draws change what is drawn from each counter.
use Rattle.std.proofs.Common.{◌≡◌, ℕ, zero, suc, ◌+◌, ◌-◌, ◌==◌, ◌≤◌, ◌<◌, ℤ, pos, negsuc, List, [], ◌∷◌, Bool, true, false, Option, None, Some, refl, sym, ap, ap₂, ◌∙◌, arith, if◌then◌else◌, ◌&&◌, min, map}
use Rattle.std.specs.List.{flat_map, list_all, sum_by}
use Rattle.std.specs.Option.{is_some, option_map}
use Rattle.std.specs.Cmp.Lexicographic.{same_text}
use Rattle.std.proofs.lemmas.Bool.{and_parts}
use Rattle.std.proofs.lemmas.Bool.Decides.{nat_tests}
use Rattle.std.proofs.lemmas.List.Folds.{list_all-append}
use Rattle.std.proofs.lemmas.List.Sums.{sum_by-append, sum_by-cons}
use Rattle.std.proofs.lemmas.Cmp.{nat_list_eq_equiv}
use Rattle.quantity.specs.Range.{most}
use Rattle.api_slice.specs.declared.types.CounterConsumption.{CounterConsumption}
use Rattle.api_slice.specs.declared.types.ResourceSlice.{ResourceSlice}
use Rattle.pool_view.specs.Names.{at_name, text_eq}
use Rattle.pool_view.specs.Pools.{Offered}
use Rattle.request_rules.specs.Draws.{CounterId, Draw, counter_eq, counter_for, draws_from, draws_of, drawn_at, drawn_from, has_enough, is_covered, is_of_pool, is_within, natural}
use Rattle.counter_sets.specs.Totals.{KeptCounters, PoolCounters, SetCounters, Tabled, changed_at, counter_at, counter_in, counter_moved, covers_all, covers_counter, covers_sets, drawn_in, drawn_kept, has_room, keeps, moved, moved_by, moved_counter, moved_counters, moved_pools, moved_sets, or_empty, pool_in, sum_from, sum_most, sum_of, value_kept, value_of}
use Rattle.counter_sets.specs.declared.change.Change.{Change}
use Rattle.counter_sets.specs.declared.change.Change.TheVariants as change
use Rattle.counter_sets.specs.declared.counter.Counter.{Counter}
use Rattle.counter_sets.proofs.Names.{moved_if, moved_name, within}

-- ---- a counter after a change

-- with something else drawn from it
abbrev pub redrawn : (ℕ → ℕ) → Counter → Counter
redrawn f k = record k { drawn = f k.drawn }

pub no_change : (o : Option Counter) → o ≡ option_map (redrawn (λ n. n)) o
no_change None = refl
no_change (Some k) = refl

pub redrawn_twice : (f g : ℕ → ℕ) (o : Option Counter) → option_map (redrawn f) (option_map (redrawn g) o) ≡ option_map (redrawn (λ n. f (g n))) o
redrawn_twice f g None = refl
redrawn_twice f g (Some k) = refl

pub redrawn_if : (b : Bool) (f : ℕ → ℕ) (o : Option Counter) → option_map (moved_if b (redrawn f)) o ≡ option_map (redrawn (moved_if b f)) o
redrawn_if b f None = refl
redrawn_if true f (Some k) = refl
redrawn_if false f (Some k) = refl

pub redrawn_ifs : (b d : Bool) (f : ℕ → ℕ) (o : Option Counter) → option_map (moved_if b (moved_if d (redrawn f))) o ≡ option_map (redrawn (moved_if (b && d) f)) o
redrawn_ifs b d f None = refl
redrawn_ifs true true f (Some k) = refl
redrawn_ifs true false f (Some k) = refl
redrawn_ifs false d f (Some k) = refl

abbrev pub all_moved : Change → List ℕ → List (List ℕ × ℤ) → ℕ → ℕ
all_moved change k [] n = n
all_moved change k (e ∷ es) n = all_moved change k es (moved_if (text_eq e.0 k) (λ m. moved change m (natural e.1)) n)

counters_moved : (change : Change) (k : List ℕ) (es : List (List ℕ × ℤ)) (counters : SetCounters)
    → at_name (moved_counters change es counters) k ≡ option_map (redrawn (all_moved change k es)) (at_name counters k)
counters_moved change k [] counters = no_change (at_name counters k)
counters_moved change k (e ∷ es) counters =
    counters_moved change k es (moved_counter change e.0 (natural e.1) counters)
    ∙ ap (option_map (redrawn (all_moved change k es)))
    (moved_name e.0 k (λ c. counter_moved change (natural e.1) c) counters ∙ redrawn_if (text_eq e.0 k) (λ m. moved change m (natural e.1)) (at_name counters k))
    ∙ redrawn_twice (all_moved change k es) (moved_if (text_eq e.0 k) (λ m. moved change m (natural e.1))) (at_name counters k)

abbrev all_sets : Change → List ℕ → List ℕ → List CounterConsumption → ℕ → ℕ
all_sets change set k [] n = n
all_sets change set k (c ∷ cs) n = all_sets change set k cs (moved_if (text_eq c.set set) (all_moved change k c.amounts) n)

pub set_moved : (change : Change) (set k name : List ℕ) (es : List (List ℕ × ℤ)) (sets : PoolCounters)
    → counter_in (changed_at name (λ counters. moved_counters change es counters) sets) set k
    ≡ option_map (moved_if (text_eq name set) (redrawn (all_moved change k es))) (counter_in sets set k)
set_moved change set k name es sets =
    ap (λ (o : Option SetCounters). at_name (or_empty o) k) (moved_name name set (λ counters. moved_counters change es counters) sets)
    ∙ within (text_eq name set) (λ counters. moved_counters change es counters) (redrawn (all_moved change k es)) (λ t. at_name t k) (at_name sets set) refl (counters_moved change k es)

sets_moved : (change : Change) (set k : List ℕ) (cs : List CounterConsumption) (sets : PoolCounters)
    → counter_in (moved_sets change cs sets) set k ≡ option_map (redrawn (all_sets change set k cs)) (counter_in sets set k)
sets_moved change set k [] sets = no_change (counter_in sets set k)
sets_moved change set k (c ∷ cs) sets =
    sets_moved change set k cs (changed_at c.set (λ counters. moved_counters change c.amounts counters) sets)
    ∙ ap (option_map (redrawn (all_sets change set k cs)))
    (set_moved change set k c.set c.amounts sets ∙ redrawn_if (text_eq c.set set) (all_moved change k c.amounts) (counter_in sets set k))
    ∙ redrawn_twice (all_sets change set k cs) (moved_if (text_eq c.set set) (all_moved change k c.amounts)) (counter_in sets set k)

-- what is seen of the pools of a driver
abbrev pub seen_in : CounterId → Tabled PoolCounters → Option Counter
seen_in c pools = counter_in (or_empty (at_name pools c.pool)) c.set c.counter

pools_moved : (change : Change) (o : Offered) (c : CounterId) (pools : Tabled PoolCounters)
    → seen_in c (moved_pools change o.slice.pool.name o.device.consumes pools)
    ≡ option_map (moved_if (text_eq o.slice.pool.name c.pool) (redrawn (all_sets change c.set c.counter o.device.consumes))) (seen_in c pools)
pools_moved change o c pools =
    ap (λ (s : Option PoolCounters). counter_in (or_empty s) c.set c.counter) (moved_name o.slice.pool.name c.pool (λ sets. moved_sets change o.device.consumes sets) pools)
    ∙ within (text_eq o.slice.pool.name c.pool) (λ sets. moved_sets change o.device.consumes sets) (redrawn (all_sets change c.set c.counter o.device.consumes)) (λ t. counter_in t c.set c.counter)
    (at_name pools c.pool) refl (sets_moved change c.set c.counter o.device.consumes)

abbrev all_draws : Change → Offered → CounterId → ℕ → ℕ
all_draws change o c = moved_if (is_of_pool o.slice c) (all_sets change c.set c.counter o.device.consumes)

at_moved : (change : Change) (o : Offered) (kept : KeptCounters) (c : CounterId)
    → counter_at (moved_by change o kept) c ≡ option_map (redrawn (all_draws change o c)) (counter_at kept c)
at_moved change o kept c =
    ap (λ (p : Option (Tabled PoolCounters)). seen_in c (or_empty p)) (moved_name o.slice.driver c.driver (λ pools. moved_pools change o.slice.pool.name o.device.consumes pools) kept)
    ∙ within (text_eq o.slice.driver c.driver) (λ pools. moved_pools change o.slice.pool.name o.device.consumes pools)
    (moved_if (text_eq o.slice.pool.name c.pool) (redrawn (all_sets change c.set c.counter o.device.consumes))) (seen_in c)
    (at_name kept c.driver) refl (pools_moved change o c)
    ∙ redrawn_ifs (text_eq o.slice.driver c.driver) (text_eq o.slice.pool.name c.pool) (all_sets change c.set c.counter o.device.consumes) (counter_at kept c)

pub value_redrawn : (f : ℕ → ℕ) (o : Option Counter) → value_kept (option_map (redrawn f) o) ≡ value_kept o
value_redrawn f None = refl
value_redrawn f (Some k) = refl

-- a change keeps the counters and their values
pub same_value : (change : Change) (o : Offered) (kept : KeptCounters) (c : CounterId) → value_of (moved_by change o kept) c ≡ value_of kept c
unfolding value_of
same_value change o kept c = ap value_kept (at_moved change o kept c) ∙ value_redrawn (all_draws change o c) (counter_at kept c)

-- ---- what a device draws from a counter

abbrev pub draw_at : ResourceSlice → List ℕ → List ℕ × ℤ → Draw
draw_at x set e = record { counter = counter_for x set e.0; amount = natural e.1 }

no_amounts : (b : Bool) → ◌≡◌ {A = ℕ} 0 (if b then 0 else 0)
no_amounts true = refl
no_amounts false = refl

amount_step : (b p d t : Bool) (a s : ℕ) → (if b && (p && (d && t)) then a else 0) + (if (b && p) && d then s else 0) ≡ (if (b && p) && d then (if t then a else 0) + s else 0)
amount_step true true true true a s = refl
amount_step true true true false a s = refl
amount_step true true false t a s = refl
amount_step true false d t a s = refl
amount_step false p d t a s = refl

amounts_drawn : (x : ResourceSlice) (set : List ℕ) (c : CounterId) (es : List (List ℕ × ℤ))
    → sum_by (drawn_at c) (map (λ e. draw_at x set e) es) ≡ (if is_of_pool x c && text_eq set c.set then sum_of c.counter es else 0)
amounts_drawn x set c [] = no_amounts (is_of_pool x c && text_eq set c.set)
amounts_drawn x set c (e ∷ es) =
    sum_by-cons (drawn_at c) (draw_at x set e) (map (λ e. draw_at x set e) es)
    ∙ ap (λ (n : ℕ). drawn_at c (draw_at x set e) + n) (amounts_drawn x set c es)
    ∙ amount_step (text_eq x.driver c.driver) (text_eq x.pool.name c.pool) (text_eq set c.set) (text_eq e.0 c.counter) (natural e.1) (sum_of c.counter es)

consumed_step : (b d : Bool) (a s : ℕ) → (if b && d then a else 0) + (if b then s else 0) ≡ (if b then (if d then a else 0) + s else 0)
consumed_step true true a s = refl
consumed_step true false a s = refl
consumed_step false d a s = refl

consumed_drawn : (x : ResourceSlice) (c : CounterId) (cs : List CounterConsumption)
    → sum_by (drawn_at c) (flat_map (draws_from x) cs) ≡ (if is_of_pool x c then sum_from c.set c.counter cs else 0)
consumed_drawn x c [] = no_amounts (is_of_pool x c)
consumed_drawn x c (u ∷ us) =
    sum_by-append (drawn_at c) (draws_from x u) (flat_map (draws_from x) us)
    ∙ ap₂ (λ (n m : ℕ). n + m) (amounts_drawn x u.set c u.amounts) (consumed_drawn x c us)
    ∙ consumed_step (is_of_pool x c) (text_eq u.set c.set) (sum_of c.counter u.amounts) (sum_from c.set c.counter us)

-- it is the sum of the amounts for that counter, where the slice is one of the counter's pool
pub drawn_is : (c : CounterId) (o : Offered) → drawn_from c o ≡ (if is_of_pool o.slice c then sum_from c.set c.counter o.device.consumes else 0)
unfolding drawn_from draws_of
drawn_is c o = consumed_drawn o.slice c o.device.consumes

-- ---- returns

given_step : (b : Bool) (n a s : ℕ) → (if b then n - a else n) - s ≡ n - ((if b then a else 0) + s)
given_step true n a s = omega arith
given_step false n a s = omega arith

amounts_given : (k : List ℕ) (es : List (List ℕ × ℤ)) (n : ℕ) → all_moved change.Return k es n ≡ n - sum_of k es
amounts_given k [] n = omega arith
amounts_given k (e ∷ es) n =
    amounts_given k es (moved_if (text_eq e.0 k) (λ m. moved change.Return m (natural e.1)) n) ∙ given_step (text_eq e.0 k) n (natural e.1) (sum_of k es)

moved_if_is : (b : Bool) (f g : ℕ → ℕ) (n : ℕ) → f n ≡ g n → moved_if b f n ≡ moved_if b g n
moved_if_is true f g n e = e
moved_if_is false f g n e = refl

sets_given : (set k : List ℕ) (cs : List CounterConsumption) (n : ℕ) → all_sets change.Return set k cs n ≡ n - sum_from set k cs
sets_given set k [] n = omega arith
sets_given set k (c ∷ cs) n =
    sets_given set k cs (moved_if (text_eq c.set set) (all_moved change.Return k c.amounts) n)
    ∙ ap (λ (m : ℕ). m - sum_from set k cs) (moved_if_is (text_eq c.set set) (all_moved change.Return k c.amounts) (λ m. m - sum_of k c.amounts) n (amounts_given k c.amounts n))
    ∙ given_step (text_eq c.set set) n (sum_of k c.amounts) (sum_from set k cs)

given_from : (b : Bool) (f : ℕ → ℕ) (s : ℕ) (w : Option Counter) → ((n : ℕ) → f n ≡ n - s) → drawn_kept (option_map (redrawn (moved_if b f)) w) ≡ drawn_kept w - (if b then s else 0)
given_from b f s None h = omega arith
given_from true f s (Some k) h = h k.drawn
given_from false f s (Some k) h = omega arith

-- what a return leaves
pub given_back : (o : Offered) (kept : KeptCounters) (c : CounterId) → drawn_in (moved_by change.Return o kept) c ≡ drawn_in kept c - drawn_from c o
unfolding drawn_in
given_back o kept c =
    ap drawn_kept (at_moved change.Return o kept c)
    ∙ given_from (is_of_pool o.slice c) (all_sets change.Return c.set c.counter o.device.consumes) (sum_from c.set c.counter o.device.consumes) (counter_at kept c) (sets_given c.set c.counter o.device.consumes)
    ∙ ap (λ (s : ℕ). drawn_kept (counter_at kept c) - s) (sym (drawn_is c o))

-- ---- draws

zero_from : (a : ℕ) → (a == 0) ≡ true → a ≡ 0
zero_from a e = grind (arith, nat_tests)

more_from : (a : ℕ) → (a == 0) ≡ false → 0 < a
more_from a e = grind (arith, nat_tests)

draw_by : (b : Bool) (n a : ℕ) → (a == 0) ≡ b → (0 < a → n + a ≤ sum_most) → (if b then n else min (n + a) sum_most) ≡ n + a
draw_by true n a e h = omega (arith, zero_from a e)
draw_by false n a e h = omega (arith, h (more_from a e))

draw_step : (n a : ℕ) → (0 < a → n + a ≤ sum_most) → moved change.Draw n a ≡ n + a
draw_step n a h = draw_by (a == 0) n a refl h

left_step : (b : Bool) (n a s : ℕ) → (0 < (if b then a else 0) + s → n + ((if b then a else 0) + s) ≤ sum_most)
    → moved_if b (λ m. moved change.Draw m a) n ≡ n + (if b then a else 0)
left_step true n a s h = draw_step n a (λ p. omega (arith, h (omega arith)))
left_step false n a s h = omega arith

pub left_fits : (n a s m : ℕ) → (0 < a + s → n + (a + s) ≤ sum_most) → m ≡ n + a → 0 < s → m + s ≤ sum_most
left_fits n a s m h e p = omega (arith, h (omega arith))

pub together : (n a s : ℕ) → (n + a) + s ≡ n + (a + s)
together n a s = omega arith

amounts_taken : (k : List ℕ) (es : List (List ℕ × ℤ)) (n : ℕ) → (0 < sum_of k es → n + sum_of k es ≤ sum_most) → all_moved change.Draw k es n ≡ n + sum_of k es
amounts_taken k [] n h = omega arith
amounts_taken k (e ∷ es) n h =
    let step = left_step (text_eq e.0 k) n (natural e.1) (sum_of k es) h in
    amounts_taken k es (moved_if (text_eq e.0 k) (λ m. moved change.Draw m (natural e.1)) n)
    (left_fits n (if text_eq e.0 k then natural e.1 else 0) (sum_of k es) (moved_if (text_eq e.0 k) (λ m. moved change.Draw m (natural e.1)) n) h step)
    ∙ ap (λ (m : ℕ). m + sum_of k es) step
    ∙ together n (if text_eq e.0 k then natural e.1 else 0) (sum_of k es)

set_step : (b : Bool) (n a s : ℕ) (f : ℕ → ℕ) → ((0 < a → n + a ≤ sum_most) → f n ≡ n + a) → (0 < (if b then a else 0) + s → n + ((if b then a else 0) + s) ≤ sum_most)
    → moved_if b f n ≡ n + (if b then a else 0)
set_step true n a s f g h = g (λ p. omega (arith, h (omega arith)))
set_step false n a s f g h = omega arith

sets_taken : (set k : List ℕ) (cs : List CounterConsumption) (n : ℕ) → (0 < sum_from set k cs → n + sum_from set k cs ≤ sum_most) → all_sets change.Draw set k cs n ≡ n + sum_from set k cs
sets_taken set k [] n h = omega arith
sets_taken set k (c ∷ cs) n h =
    let step = set_step (text_eq c.set set) n (sum_of k c.amounts) (sum_from set k cs) (all_moved change.Draw k c.amounts) (amounts_taken k c.amounts n) h in
    sets_taken set k cs (moved_if (text_eq c.set set) (all_moved change.Draw k c.amounts) n)
    (left_fits n (if text_eq c.set set then sum_of k c.amounts else 0) (sum_from set k cs) (moved_if (text_eq c.set set) (all_moved change.Draw k c.amounts) n) h step)
    ∙ ap (λ (m : ℕ). m + sum_from set k cs) step
    ∙ together n (if text_eq c.set set then sum_of k c.amounts else 0) (sum_from set k cs)

taken_from : (b : Bool) (f : ℕ → ℕ) (s : ℕ) (w : Option Counter) → ((n : ℕ) → (0 < s → n + s ≤ sum_most) → f n ≡ n + s)
    → (is_some (value_kept w) ≡ false → (if b then s else 0) ≡ 0) → (0 < (if b then s else 0) → drawn_kept w + (if b then s else 0) ≤ sum_most)
    → drawn_kept (option_map (redrawn (moved_if b f)) w) ≡ drawn_kept w + (if b then s else 0)
taken_from b f s None h none fits = omega (arith, none refl)
taken_from true f s (Some k) h none fits = h k.drawn fits
taken_from false f s (Some k) h none fits = omega arith

-- what a draw leaves, where the counters are kept and the sums fit
pub taken : (o : Offered) (kept : KeptCounters) (c : CounterId) → (keeps kept c ≡ false → drawn_from c o ≡ 0)
    → (0 < drawn_from c o → drawn_in kept c + drawn_from c o ≤ sum_most) → drawn_in (moved_by change.Draw o kept) c ≡ drawn_in kept c + drawn_from c o
unfolding drawn_in value_of
taken o kept c none fits =
    let is = drawn_is c o in
    ap drawn_kept (at_moved change.Draw o kept c)
    ∙ taken_from (is_of_pool o.slice c) (all_sets change.Draw c.set c.counter o.device.consumes) (sum_from c.set c.counter o.device.consumes) (counter_at kept c)
    (sets_taken c.set c.counter o.device.consumes) (λ n. sym is ∙ none n) (rw is at fits)
    ∙ ap (λ (s : ℕ). drawn_kept (counter_at kept c) + s) (sym is)

-- ---- what is covered has room

same_counter_parts : (d e p q s t n m : List ℕ) → d ≡ e → p ≡ q → s ≡ t → n ≡ m
    → ◌≡◌ {A = CounterId} (record { driver = d; pool = p; set = s; counter = n }) (record { driver = e; pool = q; set = t; counter = m })
same_counter_parts d e p q s t n m f g h k = cc

same_from_counter_eq : (a b : CounterId) → counter_eq a b ≡ true → a ≡ b
same_from_counter_eq a b e =
    let outer = and_parts (text_eq a.driver b.driver) (text_eq a.pool b.pool && (text_eq a.set b.set && text_eq a.counter b.counter)) e in
    let middle = and_parts (text_eq a.pool b.pool) (text_eq a.set b.set && text_eq a.counter b.counter) outer.1 in
    let inner = and_parts (text_eq a.set b.set) (text_eq a.counter b.counter) middle.1 in
    same_counter_parts a.driver b.driver a.pool b.pool a.set b.set a.counter b.counter (same_text a.driver b.driver (sym outer.0)) (same_text a.pool b.pool (sym middle.0))
    (same_text a.set b.set (sym inner.0)) (same_text a.counter b.counter (sym inner.1))

draws_by : (P : CounterId → Bool) (c : CounterId) (d : Draw) (s : ℕ) (b : Bool) → counter_eq d.counter c ≡ b → P d.counter ≡ true → 0 < (if b then d.amount else 0) + s
    → (0 < s → P c ≡ true) → P c ≡ true
draws_by P c d s true e p more next = ap P (sym (same_from_counter_eq d.counter c e)) ∙ p
draws_by P c d s false e p more next = next (omega (arith, more))

some_draw : (P : CounterId → Bool) (c : CounterId) (ds : List Draw) → list_all (λ d. P d.counter) ds ≡ true → 0 < sum_by (drawn_at c) ds → P c ≡ true
some_draw P c [] all more = absurd (omega arith)
some_draw P c (d ∷ ds) all more =
    let both = and_parts (P d.counter) (list_all (λ (e : Draw). P e.counter) ds) all in
    draws_by P c d (sum_by (drawn_at c) ds) (counter_eq d.counter c) refl both.0 (rw (sum_by-cons (drawn_at c) d ds) at more) (some_draw P c ds both.1)

natural_most : (z : ℤ) → natural z ≤ most
natural_most (pos n) = omega arith
natural_most (negsuc n) = omega arith

within_most : (w : Option Counter) (n : ℕ) → is_within (value_kept w) n ≡ true → n ≤ sum_most
within_most None n e = absurd (cc)
within_most (Some k) n e = grind (arith, nat_tests, natural_most k.value)

within_some : (v : Option ℕ) (n : ℕ) → is_within v n ≡ true → is_some v ≡ true
within_some None n e = absurd (cc)
within_some (Some v) n e = refl

enough : (kept : KeptCounters) (o : Offered) (c : CounterId) → is_covered (value_of kept) (drawn_in kept) o ≡ true → 0 < drawn_from c o → has_enough (value_of kept) (drawn_in kept) o c ≡ true
unfolding is_covered drawn_from
enough kept o c covered more = some_draw (has_enough (value_of kept) (drawn_in kept) o) c (draws_of o) covered more

covered_room : (kept : KeptCounters) (o : Offered) (c : CounterId) → is_covered (value_of kept) (drawn_in kept) o ≡ true → 0 < drawn_from c o → drawn_in kept c + drawn_from c o ≤ sum_most
unfolding value_of
covered_room kept o c covered more = within_most (counter_at kept c) (drawn_in kept c + drawn_from c o) (enough kept o c covered more)

none_by : (n : ℕ) (b : Bool) → (0 < n → b ≡ true) → b ≡ false → n ≡ 0
none_by zero b h e = refl
none_by (suc n) b h e = absurd (let t = h (omega arith) in cc)

-- what is covered is kept
covered_kept : (kept : KeptCounters) (o : Offered) (c : CounterId) → is_covered (value_of kept) (drawn_in kept) o ≡ true → keeps kept c ≡ false → drawn_from c o ≡ 0
covered_kept kept o c covered out =
    none_by (drawn_from c o) (keeps kept c) (λ more. within_some (value_of kept c) (drawn_in kept c + drawn_from c o) (enough kept o c covered more)) out

-- what a draw leaves that was covered
pub drawn_more : (o : Offered) (kept : KeptCounters) (c : CounterId) → is_covered (value_of kept) (drawn_in kept) o ≡ true
    → drawn_in (moved_by change.Draw o kept) c ≡ drawn_in kept c + drawn_from c o
drawn_more o kept c covered = taken o kept c (covered_kept kept o c covered) (covered_room kept o c covered)

-- ---- covers

pub same_self : (x : ResourceSlice) (set name : List ℕ) → is_of_pool x (counter_for x set name) ≡ true
same_self x set name = ap₂ (λ (a b : Bool). a && b) (nat_list_eq_equiv.refl x.driver) (nat_list_eq_equiv.refl x.pool.name)

-- what a device draws from a counter of its pool
pub drawn_own : (o : Offered) (set name : List ℕ) → drawn_from (counter_for o.slice set name) o ≡ sum_from set name o.device.consumes
drawn_own o set name =
    drawn_is (counter_for o.slice set name) o ∙ ap (λ (b : Bool). if b then sum_from set name o.device.consumes else 0) (same_self o.slice set name)

capped : (w : Option Counter) (s : ℕ) → is_within (value_kept w) (drawn_kept w + s) ≡ has_room w (min s sum_most)
capped None s = refl
capped (Some k) s = grind (arith, nat_tests, natural_most k.value)

-- the sets of the device's pool
abbrev pub sets_at : KeptCounters → Offered → PoolCounters
sets_at kept o = pool_in kept o.slice.driver o.slice.pool.name

pub counter_covered : (o : Offered) (kept : KeptCounters) (set name : List ℕ)
    → has_enough (value_of kept) (drawn_in kept) o (counter_for o.slice set name) ≡ covers_counter (or_empty (at_name (sets_at kept o) set)) o set name
unfolding covers_counter value_of drawn_in
counter_covered o kept set name =
    let w : Option Counter = counter_in (sets_at kept o) set name in
    ap (λ (s : ℕ). is_within (value_kept w) (drawn_kept w + s)) (drawn_own o set name) ∙ capped w (sum_from set name o.device.consumes)

all_covered : (o : Offered) (kept : KeptCounters) (set : List ℕ) (es : List (List ℕ × ℤ))
    → list_all (λ d. has_enough (value_of kept) (drawn_in kept) o d.counter) (map (λ e. draw_at o.slice set e) es) ≡ covers_all (or_empty (at_name (sets_at kept o) set)) o set es
unfolding covers_all
all_covered o kept set [] = refl
all_covered o kept set (e ∷ es) = ap₂ (λ (a b : Bool). a && b) (counter_covered o kept set e.0) (all_covered o kept set es)

consumed_covered : (o : Offered) (kept : KeptCounters) (cs : List CounterConsumption)
    → list_all (λ d. has_enough (value_of kept) (drawn_in kept) o d.counter) (flat_map (draws_from o.slice) cs)
    ≡ list_all (λ (c : CounterConsumption). covers_all (or_empty (at_name (sets_at kept o) c.set)) o c.set c.amounts) cs
consumed_covered o kept [] = refl
consumed_covered o kept (c ∷ cs) =
    list_all-append (λ (d : Draw). has_enough (value_of kept) (drawn_in kept) o d.counter) (draws_from o.slice c) (flat_map (draws_from o.slice) cs)
    ∙ ap₂ (λ (a b : Bool). a && b) (all_covered o kept c.set c.amounts) (consumed_covered o kept cs)

-- what is covered set by set is covered
pub covered_is : (o : Offered) (kept : KeptCounters) → covers_sets (sets_at kept o) o ≡ is_covered (value_of kept) (drawn_in kept) o
unfolding covers_sets is_covered draws_of
covered_is o kept = sym (consumed_covered o kept o.device.consumes)
