-- What the held devices of slices draw, added slice after slice.
use Rattle.std.proofs.Common.{ℕ, ◌+◌, ◌<◌, ◌≤◌, ◌≡◌, ◌∙◌, List, [], ◌∷◌, false, Option, None, Some, drop, get_or, is_some, length, refl, sym, ap, subst, arith}
use Rattle.std.proofs.lemmas.List.Sums.{sum_by-cons}
use Rattle.api_slice.specs.declared.types.ResourceSlice.{ResourceSlice}
use Rattle.pool_view.specs.Usable.{counted_slices, usable_slices}
use Rattle.pool_view.specs.declared.inventory.Inventory.{Inventory}
use Rattle.request_rules.specs.Draws.{CounterId, counter_value, drawn_by, or_value, value_among}
use Rattle.counter_sets.specs.Holding.{Holders, offered_held}
use Rattle.counter_sets.specs.Totals.{KeptCounters, drawn_in, keeps, sum_most, value_of}
use Rattle.pool_totals.specs.Adding.{AreUndrawn, HasRoom, IsAdding, held_draws}
use Rattle.pool_totals.proofs.Counted.{AreThere, no_held_draws, value_counted}
use Rattle.pool_totals.proofs.Places.{item_at}

-- ---- the counters of slices

-- those of the slices that are left are to be added
pub record IsFilling (all left : List ResourceSlice) (kept : KeptCounters) : Type 0 where
  pub value_is : (c : CounterId) → or_value (value_of kept c) (value_among left c) ≡ value_among all c
  pub none : (c : CounterId) → drawn_in kept c ≡ 0

pub filling_at : (xs : List ResourceSlice) (i : ℕ) (x y : ResourceSlice) (now : KeptCounters) → i < length xs → x ≡ get_or xs i x → y ≡ x → IsFilling xs (drop i xs) now → IsFilling xs (y ∷ drop (i + 1) xs) now
filling_at xs i x y now lt is same f =
    subst (λ (z : ResourceSlice). IsFilling xs (z ∷ drop (i + 1) xs) now) (sym same) (subst (λ (l : List ResourceSlice). IsFilling xs l now) (item_at xs i x lt is) f)

or_nothing : (o : Option ℕ) → or_value o None ≡ o
or_nothing None = refl
or_nothing (Some n) = refl

or_later : (a b r : Option ℕ) → or_value (or_value a b) r ≡ or_value a (or_value b r)
or_later None b r = refl
or_later (Some n) b r = refl

pub fills_none : (xs : List ResourceSlice) (kept : KeptCounters) → ((c : CounterId) → value_of kept c ≡ None) → ((c : CounterId) → drawn_in kept c ≡ 0) → IsFilling xs xs kept
fills_none xs kept none zero = record { value_is = λ c. ap (λ (o : Option ℕ). or_value o (value_among xs c)) (none c); none = zero }

pub fills_next : (all left : List ResourceSlice) (x : ResourceSlice) (now new : KeptCounters) → IsFilling all (x ∷ left) now → ((c : CounterId) → value_of new c ≡ or_value (value_of now c) (counter_value x c)) → ((c : CounterId) → drawn_in new c ≡ drawn_in now c)
    → IsFilling all left new
fills_next all left x now new f value same = record {
  value_is = λ c. ap (λ (o : Option ℕ). or_value o (value_among left c)) (value c) ∙ or_later (value_of now c) (counter_value x c) (value_among left c) ∙ f.value_is c;
  none = λ c. same c ∙ f.none c;
}

pub filled : (all : List ResourceSlice) (kept : KeptCounters) → IsFilling all [] kept → AreUndrawn all kept
filled all kept f = record { value_is = λ c. sym (or_nothing (value_of kept c)) ∙ f.value_is c; none = f.none }

-- ---- what held devices draw

first_draws : (h : Holders) (x : ResourceSlice) (xs : List ResourceSlice) (c : CounterId) → held_draws h (x ∷ xs) c ≡ drawn_by c (offered_held h x) + held_draws h xs c
first_draws h x xs c = sum_by-cons (λ y. drawn_by c (offered_held h y)) x xs

pub room_at : (h : Holders) (xs : List ResourceSlice) (i : ℕ) (x y : ResourceSlice) (now : KeptCounters) → i < length xs → x ≡ get_or xs i x → y ≡ x → HasRoom h (drop i xs) now → HasRoom h (y ∷ drop (i + 1) xs) now
room_at h xs i x y now lt is same room =
    subst (λ (z : ResourceSlice). HasRoom h (z ∷ drop (i + 1) xs) now) (sym same) (subst (λ (l : List ResourceSlice). HasRoom h l now) (item_at xs i x lt is) room)

pub adding_at : (h : Holders) (xs : List ResourceSlice) (i : ℕ) (x y : ResourceSlice) (old now : KeptCounters) → i < length xs → x ≡ get_or xs i x → y ≡ x → IsAdding h xs (drop i xs) old now → IsAdding h xs (y ∷ drop (i + 1) xs) old now
adding_at h xs i x y old now lt is same adding =
    subst (λ (z : ResourceSlice). IsAdding h xs (z ∷ drop (i + 1) xs) old now) (sym same) (subst (λ (l : List ResourceSlice). IsAdding h xs l old now) (item_at xs i x lt is) adding)

no_first : (a s n : ℕ) → n ≡ a + s → n ≡ 0 → a ≡ 0
no_first a s n e f = omega (arith, e, f)

no_rest : (a s n : ℕ) → n ≡ a + s → n ≡ 0 → s ≡ 0
no_rest a s n e f = omega (arith, e, f)

-- the counters that the next slice's devices draw from are kept
pub kept_here : (h : Holders) (x : ResourceSlice) (xs : List ResourceSlice) (now : KeptCounters) → HasRoom h (x ∷ xs) now → (c : CounterId) → keeps now c ≡ false → drawn_by c (offered_held h x) ≡ 0
kept_here h x xs now room c none = no_first (drawn_by c (offered_held h x)) (held_draws h xs c) (held_draws h (x ∷ xs) c) (first_draws h x xs c) (room.all_kept c none)

fits_by : (m a s n : ℕ) → m + n ≤ sum_most → n ≡ a + s → m + a ≤ sum_most
fits_by m a s n h e = omega (arith, h, e)

-- and what they draw fits
pub fits_here : (h : Holders) (x : ResourceSlice) (xs : List ResourceSlice) (now : KeptCounters) → HasRoom h (x ∷ xs) now → (c : CounterId) → drawn_in now c + drawn_by c (offered_held h x) ≤ sum_most
fits_here h x xs now room c = fits_by (drawn_in now c) (drawn_by c (offered_held h x)) (held_draws h xs c) (held_draws h (x ∷ xs) c) (room.fits c) (first_draws h x xs c)

room_by : (m k a s n : ℕ) → m + n ≤ sum_most → n ≡ a + s → k ≡ m + a → k + s ≤ sum_most
room_by m k a s n h e f = omega (arith, h, e, f)

pub room_next : (h : Holders) (x : ResourceSlice) (xs : List ResourceSlice) (now new : KeptCounters) → HasRoom h (x ∷ xs) now → ((c : CounterId) → value_of new c ≡ value_of now c) → ((c : CounterId) → drawn_in new c ≡ drawn_in now c + drawn_by c (offered_held h x))
    → HasRoom h xs new
room_next h x xs now new room same more = record {
  all_kept = λ c none. no_rest (drawn_by c (offered_held h x)) (held_draws h xs c) (held_draws h (x ∷ xs) c) (first_draws h x xs c) (room.all_kept c (ap is_some (sym (same c)) ∙ none));
  fits = λ c. room_by (drawn_in now c) (drawn_in new c) (drawn_by c (offered_held h x)) (held_draws h xs c) (held_draws h (x ∷ xs) c) (room.fits c) (first_draws h x xs c) (more c);
}

pub adds_none : (h : Holders) (xs : List ResourceSlice) (kept : KeptCounters) → IsAdding h xs xs kept kept
adds_none h xs kept = record { same = λ c. refl; drawn = λ c. refl }

drawn_next : (m k a s n t : ℕ) → m + n ≡ t → n ≡ a + s → k ≡ m + a → k + s ≡ t
drawn_next m k a s n t h e g = omega (arith, h, e, g)

pub adds_next : (h : Holders) (x : ResourceSlice) (all xs : List ResourceSlice) (old now new : KeptCounters) → IsAdding h all (x ∷ xs) old now → ((c : CounterId) → value_of new c ≡ value_of now c)
    → ((c : CounterId) → drawn_in new c ≡ drawn_in now c + drawn_by c (offered_held h x)) → IsAdding h all xs old new
adds_next h x all xs old now new adding same more = record {
  same = λ c. same c ∙ adding.same c;
  drawn = λ c. drawn_next (drawn_in now c) (drawn_in new c) (drawn_by c (offered_held h x)) (held_draws h xs c) (held_draws h (x ∷ xs) c) (drawn_in old c + held_draws h all c) (adding.drawn c) (first_draws h x xs c) (more c);
}

-- ---- the counted slices of an inventory

value_is : (i : Inventory) (xs : List ResourceSlice) (kept : KeptCounters) (c : CounterId) → xs ≡ counted_slices i → AreUndrawn xs kept → value_of kept c ≡ value_among (usable_slices i) c
value_is i xs kept c e fresh = fresh.value_is c ∙ ap (λ (l : List ResourceSlice). value_among l c) e ∙ value_counted i c

pub none_left : (i : Inventory) (h : Holders) (xs : List ResourceSlice) (kept : KeptCounters) (c : CounterId) → AreThere i → xs ≡ counted_slices i → AreUndrawn xs kept → keeps kept c ≡ false → held_draws h xs c ≡ 0
none_left i h xs kept c are e fresh none = ap (λ (l : List ResourceSlice). held_draws h l c) e ∙ no_held_draws i h c are (ap is_some (sym (value_is i xs kept c e fresh)) ∙ none)
