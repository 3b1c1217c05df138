-- Totals where a slice is put or removed.
use Rattle.std.proofs.Common.{ℕ, ◌+◌, ◌≤◌, ◌≡◌, ◌∙◌, List, [], ◌∷◌, Bool, true, false, ◌&&◌, cond, Option, None, Some, Result, Ok, Err, refl, sym, ap, subst, arith}
use Rattle.std.specs.Prelude.{IfOk, IfSome}
use Rattle.std.specs.List.{filter, sum_by}
use Rattle.std.specs.Cmp.Lexicographic.{same_text}
use Rattle.std.proofs.lemmas.Bool.{and_from, and_parts}
use Rattle.std.proofs.lemmas.List.Sums.{sum_by-cons}
use Rattle.api_slice.specs.declared.types.Device.{Device}
use Rattle.api_slice.specs.declared.types.ResourceSlice.{ResourceSlice}
use Rattle.pool_view.specs.declared.inventory.Inventory.{Inventory}
use Rattle.pool_view.specs.declared.stored.Stored.{Stored}
use Rattle.pool_view.specs.Differing.{offers}
use Rattle.pool_view.specs.Inventory.{with_slice, without_slice}
use Rattle.pool_view.specs.Names.{at_name, text_eq}
use Rattle.pool_view.specs.OnePool.{AreInOrder, IsElsewhere, is_in}
use Rattle.pool_view.specs.Pools.{Offered, offered_by}
use Rattle.pool_view.specs.Usable.{counted_slices, is_counted, usable_slices}
use Rattle.request_rules.specs.Draws.{CounterId, counter_eq, counter_for, counter_value, draws_from, draws_of, drawn_at, drawn_from, is_of_pool, natural, or_value, value_among, value_in}
use Rattle.counter_sets.specs.Holding.{Holders}
use Rattle.counter_sets.specs.Totals.{KeptCounters, drawn_in, sum_most, value_of}
use Rattle.pool_totals.specs.declared.recount.PoolTotals.{PoolTotals}
use Rattle.pool_totals.specs.Counting.{AreCounted, draws_among, is_taken}
use Rattle.pool_totals.specs.Recounting.{AreCountedFor, IsCounted, IsOld, IsReplaced, drawn_taken, is_recounted, value_taken}
use Rattle.pool_totals.proofs.Counted.{none_at, values_counted}
use Rattle.pool_totals.proofs.Draws.{held_none, no_flat_sum, no_map_sum}

-- ---- what the slices of a counter's pool have of it

values_by : (b : Bool) (x : ResourceSlice) (fs xs : List ResourceSlice) (c : CounterId) → is_of_pool x c ≡ b → value_among fs c ≡ value_among xs c → value_among (cond b (x ∷ fs) fs) c ≡ or_value (counter_value x c) (value_among xs c)
unfolding counter_value
values_by true x fs xs c e h = ap (or_value (counter_value x c)) h
values_by false x fs xs c e h = h ∙ sym (ap (λ (b : Bool). or_value (cond b (value_in x.counters c.set c.counter) None) (value_among xs c)) e)

values_in : (c : CounterId) (xs : List ResourceSlice) → value_among (filter (is_in c.driver c.pool) xs) c ≡ value_among xs c
values_in c [] = refl
values_in c (x ∷ xs) = values_by (is_of_pool x c) x (filter (is_in c.driver c.pool) xs) xs c refl (values_in c xs)

-- a device draws nothing from a counter of another pool
both_ways : (a b : Bool) → (a && b) ≡ false → a ≡ true → b ≡ true → ⊥
both_ways a b e f g = absurd (let wrong = sym (and_from a b f g) ∙ e in cc)

not_of : (x : ResourceSlice) (set name : List ℕ) (c : CounterId) → is_of_pool x c ≡ false → counter_eq (counter_for x set name) c ≡ true → ⊥
not_of x set name c away same =
    let one = and_parts (text_eq x.driver c.driver) (text_eq x.pool.name c.pool && (text_eq set c.set && text_eq name c.counter)) same in
    let two = and_parts (text_eq x.pool.name c.pool) (text_eq set c.set && text_eq name c.counter) one.1 in
    both_ways (text_eq x.driver c.driver) (text_eq x.pool.name c.pool) away one.0 two.0

draws_nothing : (x : ResourceSlice) (c : CounterId) (d : Device) → is_of_pool x c ≡ false → drawn_from c (offered_by x d) ≡ 0
unfolding drawn_from draws_of
draws_nothing x c d away =
    no_flat_sum (drawn_at c) (draws_from x) d.consumes
    (λ j k at.
    no_map_sum (drawn_at c) (λ e. record { counter = counter_for x k.set e.0; amount = natural e.1 }) k.amounts
    (λ n e there. none_at (counter_eq (counter_for x k.set e.0) c) (natural e.1) (not_of x k.set e.0 c away)))

none_of : (chosen : Offered → Bool) (x : ResourceSlice) (c : CounterId) → is_of_pool x c ≡ false → sum_by (drawn_from c) (filter chosen (offers x)) ≡ 0
none_of chosen x c away = held_none (drawn_from c) chosen x x.devices (λ i d at. draws_nothing x c d away)

more_both : (s a b m n : ℕ) → m ≡ s + a → n ≡ s + b → a ≡ b → m ≡ n
more_both s a b m n e f g = omega (arith, e, f, g)

head_both : (k : Bool) (chosen : Offered → Bool) (c : CounterId) (x : ResourceSlice) (ys xs : List ResourceSlice) → draws_among chosen ys c ≡ draws_among chosen xs c → draws_among chosen (cond k (x ∷ ys) ys) c ≡ draws_among chosen (cond k (x ∷ xs) xs) c
head_both true chosen c x ys xs h =
    more_both (sum_by (drawn_from c) (filter chosen (offers x))) (draws_among chosen ys c) (draws_among chosen xs c) (draws_among chosen (x ∷ ys) c) (draws_among chosen (x ∷ xs) c)
    (sum_by-cons (λ y. sum_by (drawn_from c) (filter chosen (offers y))) x ys) (sum_by-cons (λ y. sum_by (drawn_from c) (filter chosen (offers y))) x xs) h
head_both false chosen c x ys xs h = h

more_none : (s a b n : ℕ) → n ≡ s + b → s ≡ 0 → a ≡ b → a ≡ n
more_none s a b n e f g = omega (arith, e, f, g)

head_none : (k : Bool) (chosen : Offered → Bool) (c : CounterId) (x : ResourceSlice) (ys xs : List ResourceSlice) → is_of_pool x c ≡ false → draws_among chosen ys c ≡ draws_among chosen xs c
    → draws_among chosen ys c ≡ draws_among chosen (cond k (x ∷ xs) xs) c
head_none true chosen c x ys xs away h =
    more_none (sum_by (drawn_from c) (filter chosen (offers x))) (draws_among chosen ys c) (draws_among chosen xs c) (draws_among chosen (x ∷ xs) c) (sum_by-cons (λ y. sum_by (drawn_from c) (filter chosen (offers y))) x xs)
    (none_of chosen x c away) h
head_none false chosen c x ys xs away h = h

draws_by : (b : Bool) (chosen : Offered → Bool) (c : CounterId) (x : ResourceSlice) (ys xs : List ResourceSlice) → is_of_pool x c ≡ b → draws_among chosen (filter is_counted ys) c ≡ draws_among chosen (filter is_counted xs) c
    → draws_among chosen (filter is_counted (cond b (x ∷ ys) ys)) c ≡ draws_among chosen (filter is_counted (x ∷ xs)) c
draws_by true chosen c x ys xs e h = head_both (is_counted x) chosen c x (filter is_counted ys) (filter is_counted xs) h
draws_by false chosen c x ys xs e h = head_none (is_counted x) chosen c x (filter is_counted ys) (filter is_counted xs) e h

draws_in : (chosen : Offered → Bool) (c : CounterId) (xs : List ResourceSlice) → draws_among chosen (filter is_counted (filter (is_in c.driver c.pool) xs)) c ≡ draws_among chosen (filter is_counted xs) c
draws_in chosen c [] = refl
draws_in chosen c (x ∷ xs) = draws_by (is_of_pool x c) chosen c x (filter (is_in c.driver c.pool) xs) xs refl (draws_in chosen c xs)

-- ---- where the counter's pool has the same usable slices

abbrev SamePool : CounterId → Inventory → Inventory → Type 0
SamePool c i j = filter (is_in c.driver c.pool) (usable_slices i) ≡ filter (is_in c.driver c.pool) (usable_slices j)

same_value : (c : CounterId) (i j : Inventory) → SamePool c i j → value_among (usable_slices i) c ≡ value_among (usable_slices j) c
same_value c i j same = sym (values_in c (usable_slices i)) ∙ ap (λ (xs : List ResourceSlice). value_among xs c) same ∙ values_in c (usable_slices j)

same_draws : (chosen : Offered → Bool) (c : CounterId) (i j : Inventory) → SamePool c i j → draws_among chosen (counted_slices i) c ≡ draws_among chosen (counted_slices j) c
unfolding counted_slices
same_draws chosen c i j same =
    sym (draws_in chosen c (usable_slices i)) ∙ ap (λ (xs : List ResourceSlice). draws_among chosen (filter is_counted xs) c) same ∙ draws_in chosen c (usable_slices j)

carried : (c : CounterId) (i j : Inventory) (h : Holders) (kept : KeptCounters) → SamePool c i j → IsCounted i h kept c → IsCounted j h kept c
carried c i j h kept same counted = record {
  value_is = counted.value_is ∙ same_value c i j same;
  drawn_is = counted.drawn_is ∙ same_draws (is_taken h) c i j same;
  fits = λ chosen. subst (λ (n : ℕ). n ≤ sum_most) (same_draws chosen c i j same) (counted.fits chosen);
}

of_all : (c : CounterId) (i : Inventory) (h : Holders) (kept : KeptCounters) → AreCounted i h kept → IsCounted i h kept c
of_all c i h kept counted = record { value_is = counted.value_is c; drawn_is = counted.drawn_is c; fits = λ chosen. counted.fits chosen c }

of_each : (i : Inventory) (h : Holders) (kept : KeptCounters) → ((c : CounterId) → IsCounted i h kept c) → AreCounted i h kept
of_each i h kept each = record { value_is = λ c. (each c).value_is; drawn_is = λ c. (each c).drawn_is; fits = λ chosen c. (each c).fits chosen }

seen_same : (c : CounterId) (i : Inventory) (h : Holders) (kept new : KeptCounters) → value_of new c ≡ value_of kept c → drawn_in new c ≡ drawn_in kept c → IsCounted i h kept c → IsCounted i h new c
seen_same c i h kept new value drawn counted = record { value_is = value ∙ counted.value_is; drawn_is = drawn ∙ counted.drawn_is; fits = counted.fits }

-- ---- a pool that was counted anew

at_pool : (x : ResourceSlice) (c : CounterId) (us vs : List ResourceSlice) → is_of_pool x c ≡ true → filter (is_in x.driver x.pool.name) us ≡ filter (is_in x.driver x.pool.name) vs → filter (is_in c.driver c.pool) us ≡ filter (is_in c.driver c.pool) vs
at_pool x c us vs of same =
    let both = and_parts (text_eq x.driver c.driver) (text_eq x.pool.name c.pool) of in
    subst (λ (d : List ℕ). filter (is_in d c.pool) us ≡ filter (is_in d c.pool) vs) (same_text x.driver c.driver (sym both.0))
    (subst (λ (p : List ℕ). filter (is_in x.driver p) us ≡ filter (is_in x.driver p) vs) (same_text x.pool.name c.pool (sym both.1)) same)

pub anew : (i j : Inventory) (h : Holders) (x : ResourceSlice) (kept : KeptCounters) → filter (is_in x.driver x.pool.name) (usable_slices i) ≡ filter (is_in x.driver x.pool.name) (usable_slices j) → AreCounted j h kept → AreCountedFor i h x kept
anew i j h x kept same counted =
    record { each = λ c of. carried c j i h kept (sym (at_pool x c (usable_slices i) (usable_slices j) of same)) (of_all c j h kept counted) }

-- the same of what a count returns, for a pool whose names these are
pub anew_if : {E : Type 0} (r : Result KeptCounters E) (i j : Inventory) (h : Holders) (x : ResourceSlice) (d p : List ℕ) → d ≡ x.driver → p ≡ x.pool.name
    → filter (is_in d p) (usable_slices i) ≡ filter (is_in d p) (usable_slices j) → IfOk r (AreCounted j h) → IfOk r (AreCountedFor i h x)
anew_if (Ok t) i j h x d p e f same counted =
    anew i j h x t
    (subst (λ (n : List ℕ). filter (is_in n x.pool.name) (usable_slices i) ≡ filter (is_in n x.pool.name) (usable_slices j)) e
    (subst (λ (n : List ℕ). filter (is_in d n) (usable_slices i) ≡ filter (is_in d n) (usable_slices j)) f same)) counted
anew_if (Err e) i j h x d p a b same counted = tt

-- ---- a pool without counters

none_of_pool : (x : ResourceSlice) (c : CounterId) (us : List ResourceSlice) → is_of_pool x c ≡ true → filter is_counted (filter (is_in x.driver x.pool.name) us) ≡ [] → filter is_counted (filter (is_in c.driver c.pool) us) ≡ []
none_of_pool x c us of none =
    let both = and_parts (text_eq x.driver c.driver) (text_eq x.pool.name c.pool) of in
    subst (λ (d : List ℕ). filter is_counted (filter (is_in d c.pool) us) ≡ []) (same_text x.driver c.driver (sym both.0))
    (subst (λ (p : List ℕ). filter is_counted (filter (is_in x.driver p) us) ≡ []) (same_text x.pool.name c.pool (sym both.1)) none)

no_value : (c : CounterId) (us : List ResourceSlice) → filter is_counted (filter (is_in c.driver c.pool) us) ≡ [] → value_among us c ≡ None
no_value c us none = sym (values_in c us) ∙ sym (values_counted (filter (is_in c.driver c.pool) us) c) ∙ ap (λ (xs : List ResourceSlice). value_among xs c) none

no_draw : (chosen : Offered → Bool) (c : CounterId) (i : Inventory) → filter is_counted (filter (is_in c.driver c.pool) (usable_slices i)) ≡ [] → draws_among chosen (counted_slices i) c ≡ 0
unfolding counted_slices
no_draw chosen c i none = sym (draws_in chosen c (usable_slices i)) ∙ ap (λ (xs : List ResourceSlice). draws_among chosen xs c) none

none_fit : (n m : ℕ) → n ≡ 0 → n ≤ m
none_fit n m e = omega (arith, e)

-- nothing is counted of it
pub uncounted : (i : Inventory) (h : Holders) (x : ResourceSlice) (kept : KeptCounters) → filter is_counted (filter (is_in x.driver x.pool.name) (usable_slices i)) ≡ [] → ((c : CounterId) → value_of kept c ≡ None) → ((c : CounterId) → drawn_in kept c ≡ 0)
    → AreCountedFor i h x kept
uncounted i h x kept none value drawn = record {
  each = λ c of.
      let here = none_of_pool x c (usable_slices i) of none in record {
        value_is = value c ∙ sym (no_value c (usable_slices i) here);
        drawn_is = drawn c ∙ sym (no_draw (is_taken h) c i here);
        fits = λ chosen. none_fit (draws_among chosen (counted_slices i) c) sum_most (no_draw chosen c i here);
      };
}

-- the same for a pool whose names these are
pub uncounted_of : (i : Inventory) (h : Holders) (x : ResourceSlice) (kept : KeptCounters) (d p : List ℕ) → d ≡ x.driver → p ≡ x.pool.name → filter is_counted (filter (is_in d p) (usable_slices i)) ≡ []
    → ((c : CounterId) → value_of kept c ≡ None) → ((c : CounterId) → drawn_in kept c ≡ 0) → AreCountedFor i h x kept
uncounted_of i h x kept d p e f none value drawn =
    uncounted i h x kept
    (subst (λ (n : List ℕ). filter is_counted (filter (is_in n x.pool.name) (usable_slices i)) ≡ []) e
    (subst (λ (n : List ℕ). filter is_counted (filter (is_in d n) (usable_slices i)) ≡ []) f none)) value drawn

-- what is known of the pools where slices change
abbrev PutElsewhere : Type 0
PutElsewhere = (i : Inventory) (k : ℕ) (x : ResourceSlice) (d p : List ℕ) → AreInOrder i → is_in d p x ≡ false → IsElsewhere d p x.name i → filter (is_in d p) (usable_slices (with_slice k x i)) ≡ filter (is_in d p) (usable_slices i)

abbrev RemovedElsewhere : Type 0
RemovedElsewhere = (i : Inventory) (n d p : List ℕ) → AreInOrder i → IsElsewhere d p n i → filter (is_in d p) (usable_slices (without_slice n i)) ≡ filter (is_in d p) (usable_slices i)

old_elsewhere : (o : Option (Stored ResourceSlice)) (q : Option PoolTotals) (c : CounterId) → IsOld o q → is_recounted q c ≡ false → IfSome o (λ s. is_in c.driver c.pool s.object ≡ false)
old_elsewhere None q c is away = tt
old_elsewhere (Some s) None c is away = absurd is
old_elsewhere (Some s) (Some q) c is away = ap (λ (y : ResourceSlice). is_of_pool y c) (sym is) ∙ away

both_in : (x y : ResourceSlice) (c : CounterId) → is_in x.driver x.pool.name y ≡ true → is_in c.driver c.pool y ≡ is_of_pool x c
both_in x y c of =
    let both = and_parts (text_eq y.driver x.driver) (text_eq y.pool.name x.pool.name) of in
    ap (λ (d : List ℕ). text_eq d c.driver && text_eq y.pool.name c.pool) (same_text y.driver x.driver (sym both.0))
    ∙ ap (λ (p : List ℕ). text_eq x.driver c.driver && text_eq p c.pool) (same_text y.pool.name x.pool.name (sym both.1))

replaced_elsewhere : (x : ResourceSlice) (o : Option (Stored ResourceSlice)) (q : Option PoolTotals) (c : CounterId) → IsReplaced x o q → is_recounted q c ≡ false → is_of_pool x c ≡ false → IfSome o (λ s. is_in c.driver c.pool s.object ≡ false)
replaced_elsewhere x None q c is away other = tt
replaced_elsewhere x (Some s) None c is away other = both_in x s.object c is ∙ other
replaced_elsewhere x (Some s) (Some q) c is away other = ap (λ (y : ResourceSlice). is_of_pool y c) (sym is) ∙ away

taken_at : (i : Inventory) (h : Holders) (q : Option PoolTotals) → IfSome q (λ p. AreCountedFor i h p.slice p.totals) → (c : CounterId) → is_recounted q c ≡ true → IfSome q (λ p. IsCounted i h p.totals c)
taken_at i h None g c of = tt
taken_at i h (Some q) g c of = g.each c of

-- ---- the counters of pools are taken

taken_by : (b : Bool) (i : Inventory) (h : Holders) (o : Option PoolTotals) (kept new : KeptCounters) (c : CounterId) → is_recounted o c ≡ b → (is_recounted o c ≡ true → IfSome o (λ p. IsCounted i h p.totals c)) → (is_recounted o c ≡ false → IsCounted i h kept c)
    → value_of new c ≡ value_taken o (value_of kept c) c → drawn_in new c ≡ drawn_taken o (drawn_in kept c) c → IsCounted i h new c
taken_by b i h None kept new c e anew others value drawn = seen_same c i h kept new value drawn (others refl)
taken_by true i h (Some p) kept new c e anew others value drawn =
    seen_same c i h p.totals new (value ∙ ap (λ (b : Bool). cond b (value_of p.totals c) (value_of kept c)) e) (drawn ∙ ap (λ (b : Bool). cond b (drawn_in p.totals c) (drawn_in kept c)) e) (anew e)
taken_by false i h (Some p) kept new c e anew others value drawn =
    seen_same c i h kept new (value ∙ ap (λ (b : Bool). cond b (value_of p.totals c) (value_of kept c)) e) (drawn ∙ ap (λ (b : Bool). cond b (drawn_in p.totals c) (drawn_in kept c)) e) (others e)

-- a slice is put: the counters of its pool are taken, and then those of the slice that it replaces
pub put_counted : (i : Inventory) (h : Holders) (kept mid new : KeptCounters) (k : ℕ) (x : ResourceSlice) (p : PoolTotals) (q : Option PoolTotals) → PutElsewhere → AreInOrder i → AreCounted i h kept
    → p.slice ≡ x → AreCountedFor (with_slice k x i) h x p.totals → IsReplaced x (at_name i.slices x.name) q → IfSome q (λ q. AreCountedFor (with_slice k x i) h q.slice q.totals)
    → ((c : CounterId) → value_of mid c ≡ value_taken (Some p) (value_of kept c) c) → ((c : CounterId) → drawn_in mid c ≡ drawn_taken (Some p) (drawn_in kept c) c)
    → ((c : CounterId) → value_of new c ≡ value_taken q (value_of mid c) c) → ((c : CounterId) → drawn_in new c ≡ drawn_taken q (drawn_in mid c) c)
    → AreCounted (with_slice k x i) h new
put_counted i h kept mid new k x p q away order counted is mine there others value drawn value_then drawn_then =
    let put : Inventory = with_slice k x i in
    of_each put h new
    (λ c.
    let own : is_of_pool x c ≡ is_of_pool p.slice c = ap (λ (y : ResourceSlice). is_of_pool y c) (sym is) in
    taken_by (is_recounted q c) put h q mid new c refl (taken_at put h q others c)
    (λ second.
    taken_by (is_of_pool p.slice c) put h (Some p) kept mid c refl (λ of. mine.each c (own ∙ of))
    (λ first.
    carried c i put h kept (sym (away i k x c.driver c.pool order (own ∙ first) (replaced_elsewhere x (at_name i.slices x.name) q c there second (own ∙ first)))) (of_all c i h kept counted))
    (value c) (drawn c))
    (value_then c) (drawn_then c))

-- a slice is removed, if it is there: the counters of its pool are taken
pub removed_counted : (i : Inventory) (h : Holders) (kept new : KeptCounters) (n : List ℕ) (q : Option PoolTotals) → RemovedElsewhere → AreInOrder i → AreCounted i h kept
    → IsOld (at_name i.slices n) q → IfSome q (λ q. AreCountedFor (without_slice n i) h q.slice q.totals)
    → ((c : CounterId) → value_of new c ≡ value_taken q (value_of kept c) c) → ((c : CounterId) → drawn_in new c ≡ drawn_taken q (drawn_in kept c) c)
    → AreCounted (without_slice n i) h new
removed_counted i h kept new n q away order counted there others value drawn =
    let left : Inventory = without_slice n i in
    of_each left h new
    (λ c.
    taken_by (is_recounted q c) left h q kept new c refl (taken_at left h q others c)
    (λ second. carried c i left h kept (sym (away i n c.driver c.pool order (old_elsewhere (at_name i.slices n) q c there second))) (of_all c i h kept counted)) (value c) (drawn c))
