-- The indices of names: the items at them, and the indices with one more name.
use Rattle.std.proofs.Common.{◌≡◌, ◌∙◌, ℕ, suc, ◌≤◌, ◌<◌, Bool, true, false, ◌||◌, cond, List, [], ◌∷◌, ◌++◌, length, Option, Some, None, is_some, option_map, option_and_then, option_copied, ap, refl, subst, sym, if◌then◌else◌}
use Rattle.std.proofs.lemmas.Map.Text.{is_eq-slice_cmp}
use Rattle.std.proofs.lemmas.Option.{slice_get_past, slice_get-get_or}
use Rattle.std.proofs.lemmas.Slice.Eq.{bytes_eq-Decides}
use Rattle.std.specs.BTreeMap.{insert_entry, is_at}
use Rattle.std.specs.Cmp.Lexicographic.{slice_cmp}
use Rattle.std.specs.Borrow.{Bor}
use Rattle.std.specs.List.{HoldsAt, find, list_any, slice_get}
use Rattle.std.specs.Map.{lookup}
use Rattle.std.specs.Option.{MatchOption}
use Rattle.std.specs.Ordering.{is_eq, match_ordering, nat_cmp}
use Rattle.std.specs.declared.cmp.Ordering.TheVariants.{Less, Equal, Greater}
use Rattle.std.specs.Str.{bytes_eq}
use Rattle.object_fields.specs.Places.{AreFirstPlaces, first_place, with_place}

-- ---- the item at the first index

at_next : {A : Type 0} (x : A) (xs : List A) (o : Option ℕ) → option_and_then (slice_get (x ∷ xs)) (option_map suc o) ≡ option_and_then (slice_get xs) o
at_next x xs None = refl
at_next x xs (Some i) = refl

pub found : {A : Type 0} (test : A → Bool) (xs : List A) → option_and_then (slice_get xs) (first_place test xs) ≡ find test xs
found test [] = refl
found {A = A} test (x ∷ xs) =
    elim (test x) as (λ b. option_and_then (slice_get (x ∷ xs)) (if b then Some 0 else option_map suc (first_place test xs)) ≡ cond b (Some x) (find test xs)) [
      | true ↦ refl
      | false ↦ at_next x xs (first_place test xs) ∙ found test xs
    ]

is_next : (o : Option ℕ) → is_some (option_map suc o) ≡ is_some o
is_next None = refl
is_next (Some i) = refl

pub found_any : {A : Type 0} (test : A → Bool) (xs : List A) → is_some (first_place test xs) ≡ list_any test xs
found_any test [] = refl
found_any test (x ∷ xs) =
    elim (test x) as (λ b. is_some (if b then Some 0 else option_map suc (first_place test xs)) ≡ (b || list_any test xs)) [
      | true ↦ refl
      | false ↦ is_next (first_place test xs) ∙ found_any test xs
    ]

-- ---- one more item

-- the first of two that is there
abbrev pub first_of : {A : Type 0} → Option A → Option A → Option A
first_of None b = b
first_of (Some x) b = Some x

next_of : (o : Option ℕ) (b : Bool) (n : ℕ) → option_map suc (first_of o (cond b (Some n) None)) ≡ first_of (option_map suc o) (cond b (Some (suc n)) None)
next_of None true n = refl
next_of None false n = refl
next_of (Some i) b n = refl

pub one_more : {A : Type 0} (test : A → Bool) (xs : List A) (y : A) → first_place test (xs ++ y ∷ []) ≡ first_of (first_place test xs) (cond (test y) (Some (length xs)) None)
one_more test [] y =
    let first : Option ℕ = Some 0 in
    elim (test y) as (λ b. (if b then first else option_map suc None) ≡ cond b first None) [
      | true ↦ refl
      | false ↦ refl
    ]
one_more test (x ∷ xs) y =
    elim (test x) as (λ b. (if b then Some 0 else option_map suc (first_place test (xs ++ y ∷ []))) ≡ first_of (if b then Some 0 else option_map suc (first_place test xs)) (cond (test y) (Some (suc (length xs))) None)) [
      | true ↦ refl
      | false ↦ ap (option_map suc) (one_more test xs y) ∙ next_of (first_place test xs) (test y) (length xs)
    ]

-- ---- a look-up behind an insertion

same_test : {X : Type 0} (a : Bool) (v w : X) (rest : Option X) → cond a (Some v) rest ≡ cond a (Some v) (cond a (Some w) rest)
same_test true v w rest = refl
same_test false v w rest = refl

two_tests : {X : Type 0} (a b : Bool) (v w : X) (rest : Option X) → (a ≡ true → b ≡ true → ⊥) → cond a (Some w) (cond b (Some v) rest) ≡ cond b (Some v) (cond a (Some w) rest)
two_tests true true v w rest h = absurd (h refl refl)
two_tests true false v w rest h = refl
two_tests false b v w rest h = refl

not_equal : (k e : List ℕ) → slice_cmp nat_cmp k e ≡ Greater → k ≡ e → ⊥
not_equal k e h same =
    let t : is_eq (slice_cmp nat_cmp k e) ≡ true = is_eq-slice_cmp k e ∙ (bytes_eq-Decides k e).1 same in
    let f : is_eq (slice_cmp nat_cmp k e) ≡ false = ap is_eq h in
    let no_value : true ≡ false = sym t ∙ f in cc

pub looked_up : {X : Type 0} (m k : List ℕ) (v : X) (es : List (List ℕ × X)) → lookup (is_at (slice_cmp nat_cmp m)) (insert_entry (slice_cmp nat_cmp) es k v) ≡ cond (bytes_eq m k) (Some v) (lookup (is_at (slice_cmp nat_cmp m)) es)
looked_up m k v [] = ap (λ b. cond b (Some v) None) (is_eq-slice_cmp m k)
looked_up {X = X} m k v (e ∷ es) =
    let T : List ℕ → Bool = is_at (slice_cmp nat_cmp m) in
    (elim (slice_cmp nat_cmp k e.0) as (λ o. slice_cmp nat_cmp k e.0 ≡ o → lookup T (match_ordering o ((k, v) ∷ e ∷ es) ((e.0, v) ∷ es) (e ∷ insert_entry (slice_cmp nat_cmp) es k v)) ≡ cond (bytes_eq m k) (Some v) (lookup T (e ∷ es))) [
      | Less ↦ λ h. ap (λ b. cond b (Some v) (lookup T (e ∷ es))) (is_eq-slice_cmp m k)
      | Equal ↦ λ h.
          let same : k ≡ e.0 = (bytes_eq-Decides k e.0).0 (sym (is_eq-slice_cmp k e.0) ∙ ap is_eq h) in
          same_test (T e.0) v e.1 (lookup T es) ∙ ap (λ b. cond b (Some v) (lookup T (e ∷ es))) (is_eq-slice_cmp m e.0 ∙ ap (bytes_eq m) (sym same))
      | Greater ↦ λ h.
          ap (cond (T e.0) (Some e.1)) (looked_up m k v es) ∙ two_tests (T e.0) (bytes_eq m k) v e.1 (lookup T es) (λ a b.
          not_equal k e.0 h (sym ((bytes_eq-Decides m k).0 b) ∙ (bytes_eq-Decides m e.0).0 (sym (is_eq-slice_cmp m e.0) ∙ a)))
    ]) refl

-- ---- the indices with one more name

flipped : (a b : List ℕ) → bytes_eq a b ≡ bytes_eq b a
flipped a b =
    (elim (bytes_eq a b) as (λ x. bytes_eq a b ≡ x → x ≡ bytes_eq b a) [
      | true ↦ λ h. sym ((bytes_eq-Decides b a).1 (sym ((bytes_eq-Decides a b).0 h)))
      | false ↦ λ h. (elim (bytes_eq b a) as (λ y. bytes_eq b a ≡ y → false ≡ y) [
        | true ↦ λ k. sym h ∙ (bytes_eq-Decides a b).1 (sym ((bytes_eq-Decides b a).0 k))
        | false ↦ λ k. refl
      ]) refl
    ]) refl

had : (o : Option ℕ) (b : Bool) (n i : ℕ) → (b ≡ true → o ≡ Some i) → o ≡ first_of o (cond b (Some n) None)
had (Some j) b n i h = refl
had None true n i h = absurd (let k : None ≡ Some i = h refl in let no_value : ⊥ = cc in no_value)
had None false n i h = refl

had_not : (o : Option ℕ) (b : Bool) (n : ℕ) → (b ≡ true → o ≡ None) → cond b (Some n) o ≡ first_of o (cond b (Some n) None)
had_not None b n h = refl
had_not (Some j) true n h = absurd (let k : Some j ≡ None = h refl in let no_value : ⊥ = cc in no_value)
had_not (Some j) false n h = refl

-- a name that has an index already keeps it
pub placed : {A : Type 0} (name_of : A → List ℕ) (xs : List A) (y : A) (places : List (List ℕ × ℕ)) → AreFirstPlaces name_of xs places → AreFirstPlaces name_of (xs ++ y ∷ []) (with_place places (name_of y) (length xs))
placed {A = A} name_of xs y places known = λ m.
    let T : List ℕ → Bool = is_at (slice_cmp nat_cmp m) in
    let n : List ℕ = name_of y in
    let f : A → Bool = λ x. bytes_eq (name_of x) m in
    let after : first_place f (xs ++ y ∷ []) ≡ first_of (first_place f xs) (cond (bytes_eq n m) (Some (length xs)) None) = one_more f xs y in
    (elim (lookup (is_at (slice_cmp nat_cmp n)) places) as (λ o. lookup (is_at (slice_cmp nat_cmp n)) places ≡ o → lookup T (if is_some o then places else insert_entry (slice_cmp nat_cmp) places n (length xs)) ≡ first_place f (xs ++ y ∷ [])) [
      | Some i ↦ λ h. known m ∙ had (first_place f xs) (bytes_eq n m) (length xs) i (λ b. sym (known m) ∙ ap (λ q. lookup (is_at (slice_cmp nat_cmp q)) places) (sym ((bytes_eq-Decides n m).0 b)) ∙ h) ∙ sym after
      | None ↦ λ h. looked_up m n (length xs) places ∙ ap (λ b. cond b (Some (length xs)) (lookup T places)) (flipped m n) ∙ ap (cond (bytes_eq n m) (Some (length xs))) (known m) ∙ had_not (first_place f xs) (bytes_eq n m) (length xs) (λ b. sym (known m) ∙ ap (λ q. lookup (is_at (slice_cmp nat_cmp q)) places) (sym ((bytes_eq-Decides n m).0 b)) ∙ h) ∙ sym after
    ]) refl

pub all_placed : {A : Type 0} (name_of : A → List ℕ) (xs ys : List A) (y : A) (places more : List (List ℕ × ℕ)) (name : List ℕ) (place : ℕ) → AreFirstPlaces name_of xs places → more ≡ with_place places name place → name ≡ name_of y → place ≡ length xs → ys ≡ xs ++ y ∷ [] → AreFirstPlaces name_of ys more
all_placed name_of xs ys y places more name place known is named at all =
    let e : more ≡ with_place places (name_of y) (length xs) = is ∙ ap (λ n. with_place places n place) named ∙ ap (with_place places (name_of y)) at in
    subst (λ zs. AreFirstPlaces name_of zs more) (sym all) (subst (AreFirstPlaces name_of (xs ++ y ∷ [])) (sym e) (placed name_of xs y places known))

-- ---- the item at an index

pub got_at : {A : Type 0} (xs : List A) (i : ℕ) (r : Option (Bor A)) → MatchOption r (length xs ≤ i) (λ x. (i < length xs) × HoldsAt (λ y. x.now ≡ y) xs i) → option_copied r ≡ slice_get xs i
got_at xs i None h = sym (slice_get_past xs i h)
got_at xs i (Some x) h = sym (slice_get-get_or xs i x.now h.0 ∙ ap Some (sym (h.1 x.now)))
