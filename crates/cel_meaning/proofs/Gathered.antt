-- The values of comprehensions and literals are within their bounds of weight and number.
use Rattle.std.proofs.Common.{◌≡◌, ℕ, zero, suc, ◌+◌, ◌*◌, ◌≤◌, List, [], ◌∷◌, length, sum_by, Bool, true, false, Option, Some, None, IfSome, IfOk, Result, Ok, sym, ap, refl, arith, if◌then◌else◌}
use Rattle.std.proofs.lemmas.List.Sums.{sum_by-cons}
use Rattle.std.proofs.Math.Nat.{mul-zero, mul-suc}
use Rattle.cel_tree.specs.declared.tree.Span.{Span}
use Rattle.cel_tree.specs.declared.types.Scalar.{Scalar}
use Rattle.cel_tree.specs.declared.types.CelType.{CelType}
use Rattle.cel_tree.specs.declared.calls.Comprehension.{Comprehension}
use Rattle.cel_tree.specs.declared.calls.Comprehension.TheVariants.{All, Exists, ExistsOne, Filter, Map}
use Rattle.cel_tree.specs.declared.calls.Arguments.{Arguments}
use Rattle.cel_tree.specs.declared.fault.Fault.{Fault}
use Rattle.cel_tree.specs.Types.{bool}
use Rattle.cel_tree.specs.Faults.{comprehension_type}
use Rattle.cel_tree.specs.Estimate.{Bounds, gathered_weight}
use Rattle.cel_value.specs.declared.error.EvalError.{EvalError}
use Rattle.cel_value.specs.declared.value.Single.{Single}
use Rattle.cel_value.specs.declared.value.Value.{Value}
use Rattle.cel_value.specs.declared.value.Value.TheVariants as value
use Rattle.cel_value.specs.Values.{◌>>=◌, single_in, single_weight}
use Rattle.cel_value.specs.Device.{Device}
use Rattle.cel_meaning.specs.Folds.{Body, Maker, holds, as_single, kept, by_filter, by_map, by_test_and_map, with_kept, gathered, list_value, comprehended}
use Rattle.cel_meaning.specs.HasKind.{Every, no_more, first}
use Rattle.cel_meaning.proofs.Every.{on, after, either, ok_if}
use Rattle.cel_meaning.proofs.OfFolds.{one_is}
use Rattle.cel_meaning.proofs.AtMost.{AtMost, is_fixed, fixed}
use Rattle.cel_meaning.proofs.OfWeight.{Range}

-- ---- elements that are kept

-- what is kept of elements: no more than there are, with that weight together
pub record Kept (w n : ℕ) (ys : List Single) : Type 0 where
  pub together : sum_by single_weight ys ≤ w
  pub number : length ys ≤ n

one_more : (y : Option Single) (ys : List Single) (m w n : ℕ) → IfSome y (λ z. single_weight z ≤ m) → Kept w n ys → Kept (m + w) (suc n) (with_kept y ys)
one_more (Some y) ys m w n p h = record { together = omega (arith, p, h.together, sum_by-cons single_weight y ys); number = omega (arith, h.number) }
one_more None ys m w n p h = record { together = omega (arith, h.together); number = omega (arith, h.number) }

-- the weights of what each element may become
pub gathered_most : (P : Single → Type 0) (f : Single → ℕ) (make : Maker) → ((x : Single) → P x → IfOk (make x) (λ y. IfSome y (λ z. single_weight z ≤ f x))) →
    {xs : List Single} → Every P xs → IfOk (gathered make xs) (Kept (sum_by f xs) (length xs))
gathered_most P f make g no_more = record { together = omega arith; number = omega arith }
gathered_most P f make g (first {x = x} {xs = xs} p ps) =
    on (λ y. IfSome y (λ z. single_weight z ≤ f x)) (Kept (sum_by f (x ∷ xs)) (suc (length xs))) (make x) (λ y. gathered make xs >>= λ ys. Ok (with_kept y ys)) (g x p)
    (λ y q. on (Kept (sum_by f xs) (length xs)) (Kept (sum_by f (x ∷ xs)) (suc (length xs))) (gathered make xs) (λ ys. Ok (with_kept y ys)) (gathered_most P f make g ps)
    (λ ys h. rw (sum_by-cons f x xs) (one_more y ys (f x) (sum_by f xs) (length xs) q h)))

kept_most : (x : Single) (b : Bool) → IfSome (kept x b) (λ z. single_weight z ≤ single_weight x)
kept_most x true = omega arith
kept_most x false = tt

filter_most : (test : Body) (x : Single) → IfOk (by_filter test x) (λ y. IfSome y (λ z. single_weight z ≤ single_weight x))
filter_most test x = after (λ y. IfSome y (λ z. single_weight z ≤ single_weight x)) (holds test x) (λ b. Ok (kept x b)) (kept_most x)

in_most : (d : Device) (w n : ℕ) (v : Value) → AtMost d w n v → IfOk (single_in v) (λ z. single_weight z ≤ w)
in_most d w n (value.Single x) h = h.weight
in_most d w n (value.List xs) h = tt
in_most d w n (value.Map es) h = tt
in_most d w n (value.Domains f) h = tt
in_most d w n (value.Entries f domain) h = tt

pub as_single_most : (d : Device) (w n : ℕ) (r : Result Value EvalError) → IfOk r (AtMost d w n) → IfOk (as_single r) (λ z. single_weight z ≤ w)
as_single_most d w n r h = on (AtMost d w n) (λ z. single_weight z ≤ w) r single_in h (in_most d w n)

map_most : (d : Device) (w n : ℕ) (f : Body) (x : Single) → IfOk (f x) (AtMost d w n) → IfOk (by_map f x) (λ y. IfSome y (λ z. single_weight z ≤ w))
map_most d w n f x h = on (λ z. single_weight z ≤ w) (λ y. IfSome y (λ z. single_weight z ≤ w)) (as_single (f x)) (λ y. Ok (Some y)) (as_single_most d w n (f x) h) (λ y p. p)

test_and_map_most : (d : Device) (w n : ℕ) (test f : Body) (x : Single) → IfOk (f x) (AtMost d w n) → IfOk (by_test_and_map test f x) (λ y. IfSome y (λ z. single_weight z ≤ w))
test_and_map_most d w n test f x h =
    after (λ y. IfSome y (λ z. single_weight z ≤ w)) (holds test x) (λ b. if b then by_map f x else Ok None)
    (λ b. either (λ y. IfSome y (λ z. single_weight z ≤ w)) b (by_map f x) (Ok None) (map_most d w n f x h) tt)

sum_same : {A : Type 0} (w : ℕ) (xs : List A) → sum_by (λ x. w) xs ≡ length xs * w
sum_same w [] = omega arith
sum_same w (x ∷ xs) = omega (arith, sum_by-cons (λ x. w) x xs, sum_same w xs)

list_most : (d : Device) (w n : ℕ) (make : Maker) (xs : List Single) (u m : ℕ) → IfOk (gathered make xs) (Kept u m) → 1 + u ≤ w → m ≤ n → IfOk (list_value make xs) (AtMost d w n)
list_most d w n make xs u m h p q =
    on (Kept u m) (AtMost d w n) (gathered make xs) (λ ys. Ok (value.List ys)) h
    (λ ys k. record { weight = omega (arith, k.together, p); number = omega (arith, k.number, q) })

-- ---- comprehensions

-- bodies within their bounds, if P holds for the variable's value
pub data Bodies (d : Device) (P : Single → Type 0) : List Body → List Bounds → Type 0 where
  no_body : Bodies d P [] []
  body : {f : Body} {fs : List Body} {b : Bounds} {bs : List Bounds} → ((x : Single) → P x → IfOk (f x) (AtMost d b.weight b.number)) → Bodies d P fs bs → Bodies d P (f ∷ fs) (b ∷ bs)

pub mul_le : (m n w : ℕ) → m ≤ n → m * w ≤ n * w
mul_le m n zero h = rw (mul-zero m, mul-zero n) (omega arith)
mul_le m n (suc w) h = rw (mul-suc m w, mul-suc n w) (omega (arith, h, mul_le m n w h))

filtered : (d : Device) (test : Body) (range : Bounds) (k : CelType) (xs : List Single) → Range k range.weight range.number xs → {P : Single → Type 0} → Every P xs →
    IfOk (list_value (by_filter test) xs) (AtMost d range.weight range.number)
filtered d test range k xs h {P = P} ps =
    list_most d range.weight range.number (by_filter test) xs (sum_by single_weight xs) (length xs) (gathered_most P single_weight (by_filter test) (λ x p. filter_most test x) ps) h.together h.number

mapped : (d : Device) (range : Bounds) (w : ℕ) (make : Maker) (k : CelType) (xs : List Single) → Range k range.weight range.number xs → {P : Single → Type 0} → Every P xs →
    ((x : Single) → P x → IfOk (make x) (λ y. IfSome y (λ z. single_weight z ≤ w))) → IfOk (list_value make xs) (AtMost d (1 + range.number * w) range.number)
mapped d range w make k xs h {P = P} ps g =
    list_most d (1 + range.number * w) range.number make xs (sum_by (λ x. w) xs) (length xs) (gathered_most P (λ x. w) make g ps)
    (omega (arith, sum_same w xs, mul_le (length xs) range.number w h.number)) h.number

is_list : Comprehension → Bool
is_list All = false
is_list Exists = false
is_list ExistsOne = false
is_list Filter = true
is_list Map = true

of_ok : {k : CelType} → ◌≡◌ {A = Result CelType Fault} (Ok bool) (Ok k) → is_fixed k ≡ true
unfolding is_fixed
of_ok {k = k} e =
    let f : bool ≡ k = cc in
    ap is_fixed (sym f)

test_fixed : (span : Span) (e : Scalar) (c : Comprehension) (given : Arguments) (k : CelType) → is_list c ≡ false → comprehension_type span c e given ≡ Ok k → is_fixed k ≡ true
unfolding is_list is_fixed
test_fixed span e All given k a d = of_ok (one_is span given bool k d)
test_fixed span e Exists given k a d = of_ok (one_is span given bool k d)
test_fixed span e ExistsOne given k a d = of_ok (one_is span given bool k d)
test_fixed span e Filter given k a d = absurd (cc)
test_fixed span e Map given k a d = absurd (cc)

of_any : (d : Device) (w n : ℕ) (k : CelType) (r : Result Value EvalError) → IfOk r (AtMost d w n) → IfOk r (λ v. is_fixed k ≡ false → AtMost d w n v)
of_any d w n k r h = ok_if (AtMost d w n) (λ v. is_fixed k ≡ false → AtMost d w n v) r (λ v p. λ f. p) h

map_all : (d : Device) (range : Bounds) (k : CelType) (xs : List Single) → Range k range.weight range.number xs → {P : Single → Type 0} → Every P xs → {fs : List Body} {bs : List Bounds} → Bodies d P fs bs →
    IfOk (comprehended Map fs xs) (AtMost d (gathered_weight Map range bs) range.number)
map_all d range k xs h ps no_body = tt
map_all d range k xs h ps (body {f = f} {b = b} g no_body) = mapped d range b.weight (by_map f) k xs h ps (λ x p. map_most d b.weight b.number f x (g x p))
map_all d range k xs h ps (body {f = test} i (body {f = f} {b = b} g no_body)) =
    mapped d range b.weight (by_test_and_map test f) k xs h ps (λ x p. test_and_map_most d b.weight b.number test f x (g x p))
map_all d range k xs h ps (body i (body j (body g bs))) = tt

filter_all : (d : Device) (range : Bounds) (k : CelType) (xs : List Single) → Range k range.weight range.number xs → {P : Single → Type 0} → Every P xs → (fs : List Body) →
    IfOk (comprehended Filter fs xs) (AtMost d range.weight range.number)
filter_all d range k xs h ps [] = tt
filter_all d range k xs h ps (f ∷ []) = filtered d f range k xs h ps
filter_all d range k xs h ps (f ∷ g ∷ fs) = tt

pub comprehended_most : (d : Device) (span : Span) (c : Comprehension) (e : Scalar) (given : Arguments) (k l : CelType) (range : Bounds) (xs : List Single) → Range k range.weight range.number xs →
    {P : Single → Type 0} → Every P xs → (fs : List Body) (bs : List Bounds) → Bodies d P fs bs → comprehension_type span c e given ≡ Ok l →
    IfOk (comprehended c fs xs) (λ v. is_fixed l ≡ false → AtMost d (gathered_weight c range bs) range.number v)
unfolding is_list
comprehended_most d span All e given k l range xs h ps fs bs i a = fixed d l 1 range.number (comprehended All fs xs) (test_fixed span e All given l refl a)
comprehended_most d span Exists e given k l range xs h ps fs bs i a = fixed d l 1 range.number (comprehended Exists fs xs) (test_fixed span e Exists given l refl a)
comprehended_most d span ExistsOne e given k l range xs h ps fs bs i a = fixed d l 1 range.number (comprehended ExistsOne fs xs) (test_fixed span e ExistsOne given l refl a)
comprehended_most d span Filter e given k l range xs h ps fs bs i a = of_any d range.weight range.number l (comprehended Filter fs xs) (filter_all d range k xs h ps fs)
comprehended_most d span Map e given k l range xs h ps fs bs i a = of_any d (gathered_weight Map range bs) range.number l (comprehended Map fs xs) (map_all d range k xs h ps i)
