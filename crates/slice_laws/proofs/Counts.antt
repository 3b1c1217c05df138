-- Lists whose items have names, each of which is to be new, and counters, of which there are to be few in all.
use Rattle.std.proofs.Common.{◌≡◌, ◌∙◌, ◌⊎◌, inl, inr, ℕ, ◌+◌, ◌<◌, ◌≤◌, true, false, List, [], ◌∷◌, ◌++◌, length, map, Option, Some, Result, Ok, Err, ap, append_assoc, arith, codes, nat_lt, refl, subst, sym}
use Rattle.std.proofs.Math.Logic.{⊎_elim}
use Rattle.std.proofs.lemmas.Bool.{ltb-false, ltb-true}
use Rattle.std.proofs.lemmas.Bool.Decides.{nat_tests}
use Rattle.std.proofs.lemmas.List.{append-nil}
use Rattle.serde_json.specs.Data.{Data, Items, no_items, item}
use Rattle.object_fields.specs.Fields.{error_at, field_error, unless, ◌>>=◌}
use Rattle.object_fields.specs.Lists.{each}
use Rattle.object_fields.specs.NewNames.{AreNew, is_among}
use Rattle.object_fields.specs.declared.error.FieldError.{FieldError}
use Rattle.object_fields.specs.declared.kind.FieldErrorKind.TheVariants.{Doubled, TooMany}
use Rattle.object_fields.specs.declared.path.Step.{Step}
use Rattle.object_fields.specs.declared.path.Step.TheVariants as step
use Rattle.slice_laws.specs.Counted.{IsOverSum, IsRepeated, counted, counted_first, text_in, texts_in}
use Rattle.api_slice.specs.Lists.{count_at}
use Rattle.slice_laws.proofs.Read.{Column, column}
use Rattle.slice_laws.proofs.Read.{gave}

-- how many counters an item has
abbrev pub has : Data → ℕ
has d = count_at (codes "counters") d

-- reads an item after those before, with that many counters so far, and returns how many there then are
abbrev pub Reading : Type 0 → Type 0
Reading X = List Step → List Step → ℕ → List X → Data → Result (X × ℕ) FieldError

-- the items from an index on
abbrev pub from : {X : Type 0} → Reading X → List Step → ℕ → ℕ → List X → Items → Result (List X) FieldError
from r path place met before no_items = Ok before
from r path place met before (item d ds) = r path (path ++ step.Place place ∷ []) met before d >>= λ p. from r path (place + 1) p.1 (before ++ p.0 ∷ []) ds

-- the name was taken before
pub record IsTakenText (name : List ℕ) (at : List Step) (before : List (List ℕ)) (d : Data) (e : FieldError) : Type 0 where
  pub text : List ℕ
  pub is_text : text_in name d ≡ Some text
  pub stands : is_among text before ≡ true
  pub is : e ≡ field_error at name Doubled

-- there are more counters than allowed
pub record IsPast (most : ℕ) (path : List Step) (met : ℕ) (e : FieldError) : Type 0 where
  pub many : most < met
  pub is : e ≡ error_at path TooMany

pub record IsMet (most met : ℕ) (now : ℕ) : Type 0 where
  pub is : now ≡ met
  pub few : met ≤ most

abbrev pub judged_item : {X : Type 0} → List ℕ → ℕ → (X → List ℕ) → List Step → List Step → ℕ → List X → Data → X → Result (X × ℕ) FieldError
judged_item name most text path at met before d x =
    unless (field_error at name Doubled) (is_among (text x) (map text before)) x >>= λ y.
    unless (error_at path TooMany) (nat_lt most (met + has d)) (y, met + has d)

pub record IsCounting {X : Type 0} (name : List ℕ) (most : ℕ) (text : X → List ℕ) (alone : List Step → Data → Result X FieldError) (r : Reading X) : Type 0 where
  pub taken : (path at : List Step) (met : ℕ) (before : List X) (d : Data) (x : X) → alone at d ≡ Ok x → r path at met before d ≡ judged_item name most text path at met before d x
  pub met : (path at : List Step) (met : ℕ) (before : List X) (d : Data) (p : X × ℕ) → r path at met before d ≡ Ok p → IsMet most (met + has d) p.1
  pub named : (path at : List Step) (met : ℕ) (before : List X) (d : Data) (p : X × ℕ) → r path at met before d ≡ Ok p → text_in name d ≡ Some (text p.0)
  pub doubled : (path at : List Step) (met : ℕ) (before : List X) (d : Data) (e : FieldError) → r path at met before d ≡ Err e → e.kind ≡ Doubled → IsTakenText name at (map text before) d e
  pub many : (path at : List Step) (met : ℕ) (before : List X) (d : Data) (e : FieldError) → r path at met before d ≡ Err e → e.kind ≡ TooMany → IsPast most path (met + has d) e

-- ---- small facts

pub either_err : {A B : Type 0} (x : Result A FieldError) (f : A → Result B FieldError) (e : FieldError) → x >>= f ≡ Err e → (x ≡ Err e) ⊎ ((a : A) × ((x ≡ Ok a) × (f a ≡ Err e)))
either_err (Ok a) f e h = inr (a, (refl, h))
either_err (Err g) f e h = let same : g ≡ e = cc in inl (ap Err same)

texts_more : {X : Type 0} (text : X → List ℕ) (xs : List X) (x : X) → map text (xs ++ x ∷ []) ≡ map text xs ++ text x ∷ []
texts_more text [] x = refl
texts_more text (y ∷ ys) x = ap (λ ts. text y ∷ ts) (texts_more text ys x)

texts_joined : {X : Type 0} (text : X → List ℕ) (xs ys : List X) → map text (xs ++ ys) ≡ map text xs ++ map text ys
texts_joined text [] ys = refl
texts_joined text (x ∷ xs) ys = ap (λ ts. text x ∷ ts) (texts_joined text xs ys)

within : (most n : ℕ) → n ≤ most → nat_lt most n ≡ false
within most n h = grind (arith, nat_tests)

past : (most n : ℕ) → most < n → nat_lt most n ≡ true
past most n h = grind (arith, nat_tests)

less_or : (n most : ℕ) → (most < n) ⊎ (n ≤ most)
less_or n most = (elim (nat_lt most n) as (λ b. nat_lt most n ≡ b → (most < n) ⊎ (n ≤ most)) [
  | true ↦ λ h. inl (ltb-true most n h)
  | false ↦ λ h. inr (ltb-false most n h)
]) refl

-- an item whose name is new, with few counters
taken_in : {X : Type 0} (name : List ℕ) (most : ℕ) (text : X → List ℕ) (path at : List Step) (met : ℕ) (before : List X) (d : Data) (x : X) → is_among (text x) (map text before) ≡ false → met + has d ≤ most → judged_item name most text path at met before d x ≡ Ok (x, met + has d)
taken_in name most text path at met before d x new few =
    ap (λ b. unless (field_error at name Doubled) b x >>= λ y. unless (error_at path TooMany) (nat_lt most (met + has d)) (y, met + has d)) new
    ∙ ap (λ b. unless (error_at path TooMany) b (x, met + has d)) (within most (met + has d) few)

-- one whose name is new, with too many
too_many_with : {X : Type 0} (name : List ℕ) (most : ℕ) (text : X → List ℕ) (path at : List Step) (met : ℕ) (before : List X) (d : Data) (x : X) → is_among (text x) (map text before) ≡ false → most < met + has d → judged_item name most text path at met before d x ≡ Err (error_at path TooMany)
too_many_with name most text path at met before d x new many =
    ap (λ b. unless (field_error at name Doubled) b x >>= λ y. unless (error_at path TooMany) (nat_lt most (met + has d)) (y, met + has d)) new
    ∙ ap (λ b. unless (error_at path TooMany) b (x, met + has d)) (past most (met + has d) many)

-- one whose name appears before
taken_before : {X : Type 0} (name : List ℕ) (most : ℕ) (text : X → List ℕ) (path at : List Step) (met : ℕ) (before : List X) (d : Data) (x : X) → is_among (text x) (map text before) ≡ true → judged_item name most text path at met before d x ≡ Err (field_error at name Doubled)
taken_before name most text path at met before d x old =
    ap (λ b. unless (field_error at name Doubled) b x >>= λ y. unless (error_at path TooMany) (nat_lt most (met + has d)) (y, met + has d)) old

-- ---- all are read

all_read : {X : Type 0} (name : List ℕ) (most : ℕ) (text : X → List ℕ) (alone : List Step → Data → Result X FieldError) (r : Reading X) → IsCounting name most text alone r → (path : List Step) (place met : ℕ) (before xs : List X) (ds : Items) → Column alone path place xs ds → AreNew (map text before) (map text xs) → met + counted ds ≤ most → from r path place met before ds ≡ Ok (before ++ xs)
all_read name most text alone r is path place met before [] no_items h n few = ap Ok (sym (append-nil before))
all_read name most text alone r is path place met before [] (item d ds) h n few = absurd h
all_read name most text alone r is path place met before (x ∷ xs) no_items h n few = absurd h
all_read name most text alone r is path place met before (x ∷ xs) (item d ds) h n few =
    let at : List Step = path ++ step.Place place ∷ [] in
    let this : met + has d ≤ most = omega (arith, few) in
    let rest : met + has d + counted ds ≤ most = omega (arith, few) in
    let e : r path at met before d ≡ Ok (x, met + has d) = is.taken path at met before d x h.0 ∙ taken_in name most text path at met before d x n.0 this in
    let new : AreNew (map text (before ++ x ∷ [])) (map text xs) = subst (λ ts. AreNew ts (map text xs)) (sym (texts_more text before x)) n.1 in
    ap (λ y. y >>= λ p. from r path (place + 1) p.1 (before ++ p.0 ∷ []) ds) e
    ∙ all_read name most text alone r is path (place + 1) (met + has d) (before ++ x ∷ []) xs ds h.1 new rest
    ∙ ap Ok (append_assoc before (x ∷ []) xs)

-- ---- more counters than there may be

over : {X : Type 0} (name : List ℕ) (most : ℕ) (text : X → List ℕ) (alone : List Step → Data → Result X FieldError) (r : Reading X) → IsCounting name most text alone r → (path : List Step) (place met : ℕ) (before xs : List X) (ds : Items) → Column alone path place xs ds → AreNew (map text before) (map text xs) → met ≤ most → most < met + counted ds → from r path place met before ds ≡ Err (error_at path TooMany)
over {X = X} name most text alone r is path place met before [] no_items h n few many = absurd (omega (arith, few, many))
over {X = X} name most text alone r is path place met before [] (item d ds) h n few many = absurd h
over {X = X} name most text alone r is path place met before (x ∷ xs) no_items h n few many = absurd h
over {X = X} name most text alone r is path place met before (x ∷ xs) (item d ds) h n few many =
    let at : List Step = path ++ step.Place place ∷ [] in
    let go : X × ℕ → Result (List X) FieldError = λ p. from r path (place + 1) p.1 (before ++ p.0 ∷ []) ds in
    let new : AreNew (map text (before ++ x ∷ [])) (map text xs) = subst (λ ts. AreNew ts (map text xs)) (sym (texts_more text before x)) n.1 in
    ⊎_elim (λ (t : most < met + has d). ap (λ y. y >>= go) (is.taken path at met before d x h.0 ∙ too_many_with name most text path at met before d x n.0 t))
    (λ (f : met + has d ≤ most).
    let rest : most < met + has d + counted ds = omega (arith, many) in
    ap (λ y. y >>= go) (is.taken path at met before d x h.0 ∙ taken_in name most text path at met before d x n.0 f)
    ∙ over name most text alone r is path (place + 1) (met + has d) (before ++ x ∷ []) xs ds h.1 new f rest)
    (less_or (met + has d) most)

-- ---- a name that appears before

repeated : {X : Type 0} (name : List ℕ) (most : ℕ) (text : X → List ℕ) (alone : List Step → Data → Result X FieldError) (r : Reading X) → IsCounting name most text alone r → (path : List Step) (place met : ℕ) (before us vs : List X) (x : X) (ds : Items) → Column alone path place (us ++ x ∷ vs) ds → AreNew (map text before) (map text us) → met + counted_first (length us) ds ≤ most → is_among (text x) (map text before ++ map text us) ≡ true → from r path place met before ds ≡ Err (field_error (path ++ step.Place (place + length us) ∷ []) name Doubled)
repeated {X = X} name most text alone r is path place met before [] vs x no_items h n few old = absurd h
repeated {X = X} name most text alone r is path place met before [] vs x (item d ds) h n few old =
    let at : List Step = path ++ step.Place place ∷ [] in
    let go : X × ℕ → Result (List X) FieldError = λ p. from r path (place + 1) p.1 (before ++ p.0 ∷ []) ds in
    let same : is_among (text x) (map text before) ≡ true = ap (is_among (text x)) (sym (append-nil (map text before))) ∙ old in
    let zero : place ≡ place + 0 = omega arith in
    ap (λ y. y >>= go) (is.taken path at met before d x h.0 ∙ taken_before name most text path at met before d x same) ∙ ap (λ i. Err (field_error (path ++ step.Place i ∷ []) name Doubled)) zero
repeated {X = X} name most text alone r is path place met before (u ∷ us) vs x no_items h n few old = absurd h
repeated {X = X} name most text alone r is path place met before (u ∷ us) vs x (item d ds) h n few old =
    let at : List Step = path ++ step.Place place ∷ [] in
    let go : X × ℕ → Result (List X) FieldError = λ p. from r path (place + 1) p.1 (before ++ p.0 ∷ []) ds in
    let this : met + has d ≤ most = omega (arith, few) in
    let rest : met + has d + counted_first (length us) ds ≤ most = omega (arith, few) in
    let new : AreNew (map text (before ++ u ∷ [])) (map text us) = subst (λ ts. AreNew ts (map text us)) (sym (texts_more text before u)) n.1 in
    let stands : is_among (text x) (map text (before ++ u ∷ []) ++ map text us) ≡ true = ap (λ ts. is_among (text x) (ts ++ map text us)) (texts_more text before u) ∙ ap (is_among (text x)) (append_assoc (map text before) (text u ∷ []) (map text us)) ∙ old in
    let k = repeated name most text alone r is path (place + 1) (met + has d) (before ++ u ∷ []) us vs x ds h.1 new rest stands in
    let next : place + 1 + length us ≡ place + length (u ∷ us) = omega arith in
    ap (λ y. y >>= go) (is.taken path at met before d u h.0 ∙ taken_in name most text path at met before d u n.0 this) ∙ k ∙ ap (λ i. Err (field_error (path ++ step.Place i ∷ []) name Doubled)) next

-- ---- what was read has few

few_read : {X : Type 0} (name : List ℕ) (most : ℕ) (text : X → List ℕ) (alone : List Step → Data → Result X FieldError) (r : Reading X) → IsCounting name most text alone r → (path : List Step) (place met : ℕ) (before all : List X) (ds : Items) → met ≤ most → from r path place met before ds ≡ Ok all → met + counted ds ≤ most
few_read name most text alone r is path place met before all no_items few h = omega (arith, few)
few_read name most text alone r is path place met before all (item d ds) few h =
    let at : List Step = path ++ step.Place place ∷ [] in
    let s = gave (r path at met before d) (λ p. from r path (place + 1) p.1 (before ++ p.0 ∷ []) ds) all h in
    let m = is.met path at met before d s.value s.first in
    let now : s.value.1 ≤ most = subst (λ n. n ≤ most) (sym m.is) m.few in
    let k = few_read name most text alone r is path (place + 1) s.value.1 (before ++ s.value.0 ∷ []) all ds now s.second in
    omega (arith, k, m.is)

-- ---- where it is TooMany

over_from : {X : Type 0} (name : List ℕ) (most : ℕ) (text : X → List ℕ) (alone : List Step → Data → Result X FieldError) (r : Reading X) → IsCounting name most text alone r → (path : List Step) (place met : ℕ) (before : List X) (ds : Items) (e : FieldError) → from r path place met before ds ≡ Err e → e.kind ≡ TooMany → IsPast most path (met + counted ds) e
over_from name most text alone r is path place met before no_items e h k = absurd (let no_value : ⊥ = cc in no_value)
over_from name most text alone r is path place met before (item d ds) e h k =
    let at : List Step = path ++ step.Place place ∷ [] in
    ⊎_elim (λ x.
    let p = is.many path at met before d e x k in
    let all : most < met + counted (item d ds) = omega (arith, p.many) in
    record { many = all; is = p.is })
    (λ y.
    let m = is.met path at met before d y.0 y.1.0 in
    let p = over_from name most text alone r is path (place + 1) y.0.1 (before ++ y.0.0 ∷ []) ds e y.1.1 k in
    let all : most < met + counted (item d ds) = omega (arith, p.many, m.is) in
    record { many = all; is = p.is })
    (either_err (r path at met before d) (λ p. from r path (place + 1) p.1 (before ++ p.0 ∷ []) ds) e h)

-- ---- where it is Doubled

record IsRepeatedFrom (name : List ℕ) (path : List Step) (place : ℕ) (before : List (List ℕ)) (ds : Items) (e : FieldError) : Type 0 where
  more : List (List ℕ)
  text : List ℕ
  behind : List (Option (List ℕ))
  texts : texts_in name ds ≡ map Some more ++ Some text ∷ behind
  stands : is_among text (before ++ more) ≡ true
  is : e ≡ field_error (path ++ step.Place (place + length more) ∷ []) name Doubled

repeated_from : {X : Type 0} (name : List ℕ) (most : ℕ) (text : X → List ℕ) (alone : List Step → Data → Result X FieldError) (r : Reading X) → IsCounting name most text alone r → (path : List Step) (place met : ℕ) (before : List X) (ds : Items) (e : FieldError) → from r path place met before ds ≡ Err e → e.kind ≡ Doubled → IsRepeatedFrom name path place (map text before) ds e
repeated_from name most text alone r is path place met before no_items e h k = absurd (let no_value : ⊥ = cc in no_value)
repeated_from name most text alone r is path place met before (item d ds) e h k =
    let at : List Step = path ++ step.Place place ∷ [] in
    ⊎_elim (λ x.
    let t = is.doubled path at met before d e x k in
    let zero : place ≡ place + 0 = omega arith in
    record { more = []; text = t.text; behind = texts_in name ds; texts = ap (λ o. o ∷ texts_in name ds) t.is_text; stands = ap (is_among t.text) (append-nil (map text before)) ∙ t.stands; is = t.is ∙ ap (λ i. field_error (path ++ step.Place i ∷ []) name Doubled) zero })
    (λ y.
    let s = repeated_from name most text alone r is path (place + 1) y.0.1 (before ++ y.0.0 ∷ []) ds e y.1.1 k in
    let next : place + 1 + length s.more ≡ place + length (text y.0.0 ∷ s.more) = omega arith in
    let n : text_in name d ≡ Some (text y.0.0) = is.named path at met before d y.0 y.1.0 in
    record { more = text y.0.0 ∷ s.more; text = s.text; behind = s.behind; texts = ap (λ o. o ∷ texts_in name ds) n ∙ ap (λ os. Some (text y.0.0) ∷ os) s.texts; stands = ap (is_among s.text) (sym (append_assoc (map text before) (text y.0.0 ∷ []) s.more)) ∙ ap (λ ts. is_among s.text (ts ++ s.more)) (sym (texts_more text before y.0.0)) ∙ s.stands; is = s.is ∙ ap (λ i. field_error (path ++ step.Place i ∷ []) name Doubled) next })
    (either_err (r path at met before d) (λ p. from r path (place + 1) p.1 (before ++ p.0 ∷ []) ds) e h)

-- ---- from the beginning

pub read : {X : Type 0} (name : List ℕ) (most : ℕ) (text : X → List ℕ) (alone : List Step → Data → Result X FieldError) (r : Reading X) → IsCounting name most text alone r → (path : List Step) (ds : Items) (xs : List X) → each alone path ds ≡ Ok xs → AreNew [] (map text xs) → counted ds ≤ most → from r path 0 0 [] ds ≡ Ok xs
read name most text alone r is path ds xs h n few =
    let all : 0 + counted ds ≤ most = omega (arith, few) in
    all_read name most text alone r is path 0 0 [] xs ds (column alone path ds xs h) n all

pub many : {X : Type 0} (name : List ℕ) (most : ℕ) (text : X → List ℕ) (alone : List Step → Data → Result X FieldError) (r : Reading X) → IsCounting name most text alone r → (path : List Step) (ds : Items) (xs : List X) → each alone path ds ≡ Ok xs → AreNew [] (map text xs) → most < counted ds → from r path 0 0 [] ds ≡ Err (error_at path TooMany)
many name most text alone r is path ds xs h n l =
    let all : most < 0 + counted ds = omega (arith, l) in
    let none : 0 ≤ most = omega arith in
    over name most text alone r is path 0 0 [] xs ds (column alone path ds xs h) n none all

pub doubled : {X : Type 0} (name : List ℕ) (most : ℕ) (text : X → List ℕ) (alone : List Step → Data → Result X FieldError) (r : Reading X) → IsCounting name most text alone r → (path : List Step) (ds : Items) (before behind : List X) (x : X) → each alone path ds ≡ Ok (before ++ x ∷ behind) → AreNew [] (map text before) → counted_first (length before) ds ≤ most → is_among (text x) (map text before) ≡ true → from r path 0 0 [] ds ≡ Err (field_error (path ++ step.Place (length before) ∷ []) name Doubled)
doubled name most text alone r is path ds before behind x h n few old =
    let all : 0 + counted_first (length before) ds ≤ most = omega (arith, few) in
    let zero : 0 + length before ≡ length before = omega arith in
    repeated name most text alone r is path 0 0 [] before behind x ds (column alone path ds (before ++ x ∷ behind) h) n all old ∙ ap (λ i. Err (field_error (path ++ step.Place i ∷ []) name Doubled)) zero

pub few : {X : Type 0} (name : List ℕ) (most : ℕ) (text : X → List ℕ) (alone : List Step → Data → Result X FieldError) (r : Reading X) → IsCounting name most text alone r → (path : List Step) (ds : Items) (xs : List X) → from r path 0 0 [] ds ≡ Ok xs → counted ds ≤ most
few name most text alone r is path ds xs h =
    let none : 0 ≤ most = omega arith in
    let k = few_read name most text alone r is path 0 0 [] xs ds none h in
    omega (arith, k)

pub only_many : {X : Type 0} (name : List ℕ) (most : ℕ) (text : X → List ℕ) (alone : List Step → Data → Result X FieldError) (r : Reading X) → IsCounting name most text alone r → (path : List Step) (ds : Items) (e : FieldError) → from r path 0 0 [] ds ≡ Err e → e.kind ≡ TooMany → IsOverSum most path ds e
only_many name most text alone r is path ds e h k =
    let p = over_from name most text alone r is path 0 0 [] ds e h k in
    let all : most < counted ds = omega (arith, p.many) in
    record { many = all; is = p.is }

pub only_doubled : {X : Type 0} (name : List ℕ) (most : ℕ) (text : X → List ℕ) (alone : List Step → Data → Result X FieldError) (r : Reading X) → IsCounting name most text alone r → (path : List Step) (ds : Items) (e : FieldError) → from r path 0 0 [] ds ≡ Err e → e.kind ≡ Doubled → IsRepeated name path ds e
only_doubled name most text alone r is path ds e h k =
    let s = repeated_from name most text alone r is path 0 0 [] ds e h k in
    let zero : 0 + length s.more ≡ length s.more = omega arith in
    record { before = s.more; text = s.text; behind = s.behind; texts = s.texts; stands = s.stands; is = s.is ∙ ap (λ i. field_error (path ++ step.Place i ∷ []) name Doubled) zero }
