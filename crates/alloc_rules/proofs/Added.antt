-- Totals to which the devices of results are added, one after another.
use Rattle.std.proofs.Common.{ℕ, zero, ◌+◌, ◌<◌, ◌≤◌, ◌≡◌, ◌∙◌, List, [], ◌∷◌, ◌++◌, Bool, false, cond, Option, None, Some, get_or, is_some, length, map, suc, take, refl, sym, ap, subst, arith, append_assoc, append-nil}
use Rattle.std.specs.List.{Contains, slice_get, sum_by}
use Rattle.object_fields.specs.declared.key.DeviceId.{DeviceId}
use Rattle.object_fields.specs.declared.key.Key.{Key}
use Rattle.pool_view.specs.Pools.{Offered}
use Rattle.pool_view.specs.Usable.{node_devices, usable_slices}
use Rattle.pool_view.specs.declared.inventory.Inventory.{Inventory}
use Rattle.request_rules.specs.Draws.{CounterId, drawn, drawn_from, value_among}
use Rattle.counter_sets.specs.Totals.{KeptCounters, drawn_in, keeps, sum_most, value_of}
use Rattle.cluster.specs.declared.state.State.{State}
use Rattle.request_rows.specs.Wanted as rows
use Rattle.request_rows.specs.Wanted.{RowsFields}
use Rattle.request_rules.specs.Input.{SearchInput}
use Rattle.request_rules.specs.Lists.{Each}
use Rattle.request_rules.specs.Rules.{amount, draws}
use Rattle.node_inputs.specs.Apart.{AreListed}
use Rattle.pool_totals.specs.Drawn.{AreDrawn, AreDrawnByBoth}
use Rattle.plan_rules.specs.Chosen.{Due, pick_of}
use Rattle.alloc_rules.specs.Rows.{AreRowsOf, DueFields, IsDue, due_seen, pairs_of}
use Rattle.plan_rules.specs.Standing.{held, held_behind, held_from}
use Rattle.alloc_rules.proofs.Lists.{here, take_next}
use Rattle.alloc_rules.proofs.SoFar.{first_none, later_none}
use Rattle.alloc_rules.proofs.Summing.{DrawsOn, due_more}
use Rattle.alloc_rules.proofs.Totalled.{IdsDiffer, alone_in, drawing_at, due_at, due_sum, offered_in, results_sum}

-- They have what the pairs draw and what the results that are done do.
pub record IsDrawing (i : Inventory) (pairs : List (DeviceId × Key)) (ds : List Due) (kept : KeptCounters) : Type 0 where
  pub value_is : (c : CounterId) → value_of kept c ≡ value_among (usable_slices i) c
  pub drawn_is : (c : CounterId) → drawn_in kept c ≡ drawn (usable_slices i) (pairs ++ pairs_of ds) c

take_none : {X : Type 0} (xs : List X) → take 0 xs ≡ []
take_none [] = refl
take_none (x ∷ xs) = refl

pub draws_none : (i : Inventory) (pairs : List (DeviceId × Key)) (v : SearchInput) (ds : List DueFields) (kept : KeptCounters) → AreDrawn i pairs kept → IsDrawing i pairs (map (due_seen v) (take 0 ds)) kept
draws_none i pairs v ds kept h = record {
  value_is = h.value_is;
  drawn_is = λ c.
      h.drawn_is c ∙ ap (λ (l : List (DeviceId × Key)). drawn (usable_slices i) l c) (sym (append-nil pairs))
      ∙ ap (λ (l : List DueFields). drawn (usable_slices i) (pairs ++ pairs_of (map (due_seen v) l)) c) (sym (take_none ds));
}

-- ---- the device of a result

same_some : (o : Option Offered) (a b : Offered) → o ≡ Some a → o ≡ Some b → a ≡ b
same_some o a b e f = cc

pub draws_on : (i : Inventory) (v : SearchInput) (d : DueFields) (o : Offered) → AreListed v.devices (usable_slices i) → IdsDiffer i → IsDue v d → slice_get v.devices d.position ≡ Some o → DrawsOn i (due_seen v d) o
draws_on i v d o listed ids h at =
    let p = due_at v d h in
    let same : p.device ≡ o = same_some (slice_get v.devices d.position) p.device o (ap (slice_get v.devices) (omega (arith, p.sum)) ∙ p.at) at in
    subst (λ (x : Offered). DrawsOn i (due_seen v d) x) same
    (record { alone = alone_in i p.device ids (offered_in i p.device (listed.in_slices p.place p.device p.at) (listed.in_slice p.place p.device p.at)); is = p.is })

-- ---- the next result

free_at : (pairs : List (DeviceId × Key)) (before ds : List Due) (k : ℕ) (d : Due) → held_from pairs before ds ≡ None → slice_get ds k ≡ Some d → held_behind pairs (before ++ take k ds) d ≡ None
free_at pairs before [] k d none at = absurd (cc)
free_at pairs before (e ∷ ds) zero d none at =
    let same : e ≡ d = cc in
    ap (λ (l : List Due). held_behind pairs l d) (append-nil before) ∙ ap (λ (x : Due). held_behind pairs before x) (sym same) ∙ first_none (held_behind pairs before e) (held_from pairs (before ++ e ∷ []) ds) none
free_at pairs before (e ∷ ds) (suc k) d none at =
    ap (λ (l : List Due). held_behind pairs l d) (sym (append_assoc before (e ∷ []) (take k ds)))
    ∙ free_at pairs (before ++ e ∷ []) ds k d (later_none (held_behind pairs before e) (held_from pairs (before ++ e ∷ []) ds) none) at

mapped_at : {X Y : Type 0} (f : X → Y) (xs : List X) (j : ℕ) (x : X) → slice_get xs j ≡ Some x → slice_get (map f xs) j ≡ Some (f x)
mapped_at f [] j x e = absurd (cc)
mapped_at f (y ∷ ys) zero x e = let same : y ≡ x = cc in ap (λ z. Some (f z)) same
mapped_at f (y ∷ ys) (suc j) x e = mapped_at f ys j x e

mapped_end : {X Y : Type 0} (f : X → Y) (xs : List X) (x : X) → map f (xs ++ x ∷ []) ≡ map f xs ++ f x ∷ []
mapped_end f [] x = refl
mapped_end f (y ∷ ys) x = ap (λ l. f y ∷ l) (mapped_end f ys x)

mapped_take : {X Y : Type 0} (f : X → Y) (xs : List X) (k : ℕ) → take k (map f xs) ≡ map f (take k xs)
mapped_take f [] zero = refl
mapped_take f [] (suc k) = refl
mapped_take f (x ∷ xs) zero = refl
mapped_take f (x ∷ xs) (suc k) = ap (λ l. f x ∷ l) (mapped_take f xs k)

-- it draws what the next one's device does, unless that has admin access
next_sum : (i : Inventory) (pairs : List (DeviceId × Key)) (v : SearchInput) (ds : List DueFields) (k : ℕ) (d : DueFields) (o : Offered) (c : CounterId) → AreListed v.devices (usable_slices i) → IdsDiffer i → IsDue v d → held pairs (map (due_seen v) ds) ≡ None
    → k < length ds → d ≡ get_or ds k d → slice_get v.devices d.position ≡ Some o
    → drawn (usable_slices i) (pairs ++ pairs_of (map (due_seen v) (take (k + 1) ds))) c ≡ drawn (usable_slices i) (pairs ++ pairs_of (map (due_seen v) (take k ds))) c + cond d.result.admin 0 (drawn_from c o)
next_sum i pairs v ds k d o c listed ids due free lt is at =
    ap (λ (l : List Due). drawn (usable_slices i) (pairs ++ pairs_of l) c) (ap (map (due_seen v)) (take_next ds k d lt is) ∙ mapped_end (due_seen v) (take k ds) d)
    ∙ due_more i pairs (map (due_seen v) (take k ds)) c (due_seen v d) o (draws_on i v d o listed ids due at)
    (ap (λ (l : List Due). held_behind pairs l (due_seen v d)) (sym (mapped_take (due_seen v) ds k)) ∙ free_at pairs [] (map (due_seen v) ds) k (due_seen v d) free (mapped_at (due_seen v) ds k d (here ds k d lt is)))

pub draws_next : (i : Inventory) (pairs : List (DeviceId × Key)) (v : SearchInput) (ds : List DueFields) (k : ℕ) (d : DueFields) (o : Offered) (now new : KeptCounters) → AreListed v.devices (usable_slices i) → IdsDiffer i → IsDue v d → held pairs (map (due_seen v) ds) ≡ None
    → k < length ds → d ≡ get_or ds k d → slice_get v.devices d.position ≡ Some o → IsDrawing i pairs (map (due_seen v) (take k ds)) now → ((c : CounterId) → value_of new c ≡ value_of now c)
    → ((c : CounterId) → drawn_in new c ≡ drawn_in now c + cond d.result.admin 0 (drawn_from c o)) → IsDrawing i pairs (map (due_seen v) (take (k + 1) ds)) new
draws_next i pairs v ds k d o now new listed ids due free lt is at h value more = record {
  value_is = λ c. value c ∙ h.value_is c;
  drawn_is = λ c. more c ∙ ap (λ (n : ℕ). n + cond d.result.admin 0 (drawn_from c o)) (h.drawn_is c) ∙ sym (next_sum i pairs v ds k d o c listed ids due free lt is at);
}

-- what any devices draw fits
abbrev pub Fits : Inventory → Type 0
Fits i = (pairs : List (DeviceId × Key)) (c : CounterId) → drawn (usable_slices i) pairs c ≤ sum_most

fits_by : (m n a t : ℕ) → m ≡ n → t ≡ n + a → t ≤ sum_most → m + a ≤ sum_most
fits_by m n a t e f h = omega (arith, e, f, h)

pub draws_fit : (i : Inventory) (pairs : List (DeviceId × Key)) (v : SearchInput) (ds : List DueFields) (k : ℕ) (d : DueFields) (o : Offered) (now : KeptCounters) (c : CounterId) → Fits i → AreListed v.devices (usable_slices i) → IdsDiffer i → IsDue v d
    → held pairs (map (due_seen v) ds) ≡ None → k < length ds → d ≡ get_or ds k d → slice_get v.devices d.position ≡ Some o → IsDrawing i pairs (map (due_seen v) (take k ds)) now → d.result.admin ≡ false → drawn_in now c + drawn_from c o ≤ sum_most
draws_fit i pairs v ds k d o now c fits listed ids due free lt is at h own =
    fits_by (drawn_in now c) (drawn (usable_slices i) (pairs ++ pairs_of (map (due_seen v) (take k ds))) c) (drawn_from c o) (drawn (usable_slices i) (pairs ++ pairs_of (map (due_seen v) (take (k + 1) ds))) c) (h.drawn_is c)
    (next_sum i pairs v ds k d o c listed ids due free lt is at
    ∙ ap (λ (b : Bool). drawn (usable_slices i) (pairs ++ pairs_of (map (due_seen v) (take k ds))) c + cond b 0 (drawn_from c o)) own)
    (fits (pairs ++ pairs_of (map (due_seen v) (take (k + 1) ds))) c)

-- the device is one of the usable slices'
abbrev pub There : Inventory → Type 0
There i = (o : Offered) (c : CounterId) → Contains (usable_slices i) o.slice → Contains o.slice.devices o.device → is_some (value_among (usable_slices i) c) ≡ false → drawn_from c o ≡ 0

pub draws_there : (i : Inventory) (pairs : List (DeviceId × Key)) (v : SearchInput) (ds : List Due) (d : DueFields) (o : Offered) (now : KeptCounters) (c : CounterId) → There i → AreListed v.devices (usable_slices i) → slice_get v.devices d.position ≡ Some o → IsDrawing i pairs ds now
    → keeps now c ≡ false → drawn_from c o ≡ 0
draws_there i pairs v ds d o now c there listed at h none =
    there o c (listed.in_slices d.position o at) (listed.in_slice d.position o at) (ap is_some (sym (h.value_is c)) ∙ none)

-- ---- as the code has them

pub listed_rows : (s : State) (j : Inventory) (node : List ℕ) (r : RowsFields) → j ≡ s.inventory → AreRowsOf s node r → AreListed (node_devices j node) (usable_slices j) → AreListed (rows.input_of r).devices (usable_slices s.inventory)
listed_rows s j node r f are listed =
    subst (λ (l : List Offered). AreListed l (usable_slices s.inventory)) (sym are.devices) (subst (λ (k : Inventory). AreListed (node_devices k node) (usable_slices k)) f listed)

-- ---- all of them

sums : (a p n s t : ℕ) → a ≡ p + s → n ≡ s → t ≡ a → t ≡ p + n
sums a p n s t e f g = omega (arith, e, f, g)

pub drawn_by_both : (i : Inventory) (pairs : List (DeviceId × Key)) (v : SearchInput) (ds : List DueFields) (now : KeptCounters) → Fits i → AreListed v.devices (usable_slices i) → IdsDiffer i → Each (IsDue v) ds → held pairs (map (due_seen v) ds) ≡ None
    → IsDrawing i pairs (map (due_seen v) ds) now → AreDrawnByBoth i pairs (pairs_of (map (due_seen v) ds)) now
drawn_by_both i pairs v ds now fits listed ids each free h = record {
  value_is = h.value_is;
  drawn_is = λ c.
      let none : drawn (usable_slices i) (pairs ++ pairs_of []) c ≡ drawn (usable_slices i) pairs c = ap (λ (l : List (DeviceId × Key)). drawn (usable_slices i) l c) (append-nil pairs) in
      sums (drawn (usable_slices i) (pairs ++ pairs_of (map (due_seen v) ds)) c) (drawn (usable_slices i) pairs c) (drawn (usable_slices i) (pairs_of (map (due_seen v) ds)) c)
      (sum_by (λ p. amount c (draws v p)) (map (pick_of v) (map (due_seen v) ds))) (drawn_in now c)
      (due_sum i v pairs c [] (map (due_seen v) ds) (drawing_at i v v c ds refl listed ids each) free
      ∙ ap (λ (n : ℕ). n + sum_by (λ p. amount c (draws v p)) (map (pick_of v) (map (due_seen v) ds))) none) (results_sum i v v c ds pairs refl listed ids each free) (h.drawn_is c);
  most = λ c. subst (λ (n : ℕ). n ≤ sum_most) (sym (h.drawn_is c)) (fits (pairs ++ pairs_of (map (due_seen v) ds)) c);
}

take_all : {X : Type 0} (xs : List X) (i : ℕ) → length xs ≤ i → take i xs ≡ xs
take_all [] zero h = refl
take_all [] (suc i) h = refl
take_all (x ∷ xs) zero h = absurd (omega (arith, h))
take_all {X} (x ∷ xs) (suc i) h = ap (λ (l : List X). x ∷ l) (take_all xs i (omega (arith, h)))

pub draws_all : (i : Inventory) (pairs : List (DeviceId × Key)) (v : SearchInput) (ds : List DueFields) (k : ℕ) (now : KeptCounters) → Fits i → AreListed v.devices (usable_slices i) → IdsDiffer i → Each (IsDue v) ds → held pairs (map (due_seen v) ds) ≡ None
    → length ds ≤ k → IsDrawing i pairs (map (due_seen v) (take k ds)) now → AreDrawnByBoth i pairs (pairs_of (map (due_seen v) ds)) now
draws_all i pairs v ds k now fits listed ids each free end h =
    drawn_by_both i pairs v ds now fits listed ids each free (subst (λ (l : List DueFields). IsDrawing i pairs (map (due_seen v) l) now) (take_all ds k end) h)
