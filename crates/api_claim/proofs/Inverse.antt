-- What was read, from the result back.
use Rattle.std.proofs.Common.{◌≡◌, ◌∙◌, ℕ, ◌+◌, Bool, true, false, List, [], ◌∷◌, ◌++◌, length, map, Result, Ok, Err, ap, append_assoc, arith, refl, subst, sym}
use Rattle.std.proofs.lemmas.List.{append-nil}
use Rattle.std.specs.List.{zip}
use Rattle.serde_json.specs.Data.{Data, Items, no_items, item}
use Rattle.object_fields.specs.Fields.{items_length, unless, ◌>>=◌}
use Rattle.object_fields.specs.Lists.{alone, each, each_from}
use Rattle.object_fields.specs.declared.error.FieldError.{FieldError}
use Rattle.object_fields.specs.declared.path.Step.{Step}
use Rattle.object_fields.specs.declared.path.Step.TheVariants.{Place}
use Rattle.api_claim.specs.Limits.{EachOf}

-- a result of a reading
abbrev pub given : {A : Type 0} → A → Result A FieldError
given x = Ok x

-- both readings returned a value
pub then_ok : {A B : Type 0} (x : Result A FieldError) (f : A → Result B FieldError) (b : B) → x >>= f ≡ Ok b → (a : A) × ((x ≡ Ok a) × (f a ≡ Ok b))
then_ok (Ok a) f b h = (a, (refl, h))
then_ok (Err e) f b h = cc

-- the test doesn't hold
pub unless_ok : {A : Type 0} (e : FieldError) (b : Bool) (x y : A) → unless e b x ≡ Ok y → (b ≡ false) × (x ≡ y)
unless_ok e true x y h = cc
unless_ok e false x y h = (refl, cc)

-- ---- items, each at its index

abbrev pub Rows : {A : Type 0} → (List Step → Data → Result A FieldError) → List Step → ℕ → Items → List A → Type 0
Rows f path place no_items [] = Unit {0}
Rows f path place no_items (x ∷ xs) = ⊥
Rows f path place (item d ds) [] = ⊥
Rows f path place (item d ds) (x ∷ xs) = (f (path ++ Place place ∷ []) d ≡ Ok x) × Rows f path (place + 1) ds xs

rows_behind : {A : Type 0} (f : List Step → Data → Result A FieldError) (path : List Step) (place : ℕ) (before all : List A) (ds : Items) → each_from (alone f) path place before ds ≡ Ok all → (xs : List A) × ((all ≡ before ++ xs) × Rows f path place ds xs)
rows_behind f path place before all no_items h =
    let e : before ≡ all = cc in ([], (sym e ∙ sym (append-nil before), tt))
rows_behind f path place before all (item d ds) h =
    let s = then_ok (f (path ++ Place place ∷ []) d) (λ x. each_from (alone f) path (place + 1) (before ++ x ∷ []) ds) all h in
    let r = rows_behind f path (place + 1) (before ++ s.0 ∷ []) all ds s.1.1 in
    (s.0 ∷ r.0, (r.1.0 ∙ append_assoc before (s.0 ∷ []) r.0, (s.1.0, r.1.1)))

pub rows : {A : Type 0} (f : List Step → Data → Result A FieldError) (path : List Step) (all : List A) (ds : Items) → each f path ds ≡ Ok all → Rows f path 0 ds all
rows f path all ds h =
    let r = rows_behind f path 0 [] all ds h in
    subst (Rows f path 0 ds) (sym r.1.0) r.1.1

pub rows_length : {A : Type 0} (f : List Step → Data → Result A FieldError) (path : List Step) (place : ℕ) (ds : Items) (xs : List A) → Rows f path place ds xs → length xs ≡ items_length ds
rows_length f path place no_items [] h = refl
rows_length f path place no_items (x ∷ xs) h = absurd h
rows_length f path place (item d ds) [] h = absurd h
rows_length f path place (item d ds) (x ∷ xs) h =
    let k : length xs ≡ items_length ds = rows_length f path (place + 1) ds xs h.1 in omega arith

-- what holds of each reading's result holds of each item
pub rows_each : {A : Type 0} (P : A → Type 0) (f : List Step → Data → Result A FieldError) (gives : (path : List Step) (d : Data) (x : A) → f path d ≡ Ok x → P x) (path : List Step) (place : ℕ) (ds : Items) (xs : List A) → Rows f path place ds xs → EachOf P xs
rows_each P f gives path place no_items [] h = tt
rows_each P f gives path place no_items (x ∷ xs) h = absurd h
rows_each P f gives path place (item d ds) [] h = absurd h
rows_each P f gives path place (item d ds) (x ∷ xs) h =
    (gives (path ++ Place place ∷ []) d x h.0, rows_each P f gives path (place + 1) ds xs h.1)

-- and of two readings of the same items
pub rows_zip : {A B : Type 0} (P : A × B → Type 0) (f : List Step → Data → Result A FieldError) (g : List Step → Data → Result B FieldError) (gives : (path : List Step) (d : Data) (x : A) (y : B) → f path d ≡ Ok x → g path d ≡ Ok y → P (x, y)) (path : List Step) (place : ℕ) (ds : Items) (xs : List A) (ys : List B) → Rows f path place ds xs → Rows g path place ds ys → EachOf P (zip xs ys)
rows_zip P f g gives path place no_items [] ys h k = tt
rows_zip P f g gives path place no_items (x ∷ xs) ys h k = absurd h
rows_zip P f g gives path place (item d ds) [] ys h k = absurd h
rows_zip P f g gives path place (item d ds) (x ∷ xs) [] h k = absurd k
rows_zip P f g gives path place (item d ds) (x ∷ xs) (y ∷ ys) h k =
    (gives (path ++ Place place ∷ []) d x y h.0 k.0, rows_zip P f g gives path (place + 1) ds xs ys h.1 k.1)

-- ---- lists

pub each_more : {A : Type 0} (P : A → Type 0) (xs : List A) (x : A) → EachOf P xs → P x → EachOf P (xs ++ x ∷ [])
each_more P [] x h p = (p, tt)
each_more P (y ∷ ys) x h p = (h.0, each_more P ys x h.1 p)

pub each_map : {A B : Type 0} (P : B → Type 0) (h : A → B) (xs : List A) → EachOf (λ x. P (h x)) xs → EachOf P (map h xs)
each_map P h [] e = tt
each_map P h (x ∷ xs) e = (e.0, each_map P h xs e.1)

pub each_second : {A B : Type 0} (P : B → Type 0) (xs : List A) (ys : List B) → EachOf P ys → EachOf (λ (p : A × B). P p.1) (zip xs ys)
each_second P [] ys e = tt
each_second P (x ∷ xs) [] e = tt
each_second P (x ∷ xs) (y ∷ ys) e = (e.0, each_second P xs ys e.1)

pub map_map : {A B C : Type 0} (f : A → B) (g : B → C) (xs : List A) → map g (map f xs) ≡ map (λ x. g (f x)) xs
map_map f g [] = refl
map_map f g (x ∷ xs) = ap (λ ys. g (f x) ∷ ys) (map_map f g xs)
