-- What a reading that returned a value says about its steps.
use Rattle.std.proofs.Common.{◌≡◌, ◌∙◌, ℕ, ◌+◌, ◌≤◌, nat_lt, Bool, true, false, List, [], ◌∷◌, ◌++◌, Option, Some, None, Result, Ok, Err, append_assoc, arith, codes, refl, subst, sym}
use Rattle.std.proofs.lemmas.Bool.Decides.{nat_tests}
use Rattle.std.proofs.lemmas.List.{append-nil}
use Rattle.serde_json.specs.Data.{Data, Items, no_items, item, Members}
use Rattle.object_fields.specs.Fields.{dns_label_at, error_at, object_value, some_or, unless, ◌>>=◌}
use Rattle.object_fields.specs.Lists.{alone, each, each_from}
use Rattle.object_fields.specs.NewNames.{named}
use Rattle.object_fields.specs.declared.error.FieldError.{FieldError}
use Rattle.object_fields.specs.declared.kind.FieldErrorKind.TheVariants.{Doubled, TooMany}
use Rattle.object_fields.specs.declared.path.Step.{Step}
use Rattle.object_fields.specs.declared.path.Step.TheVariants as step
use Rattle.api_slice.specs.Lists.{count_on, members_length}

pub record Gave {A B : Type 0} (r : Result A FieldError) (f : A → Result B FieldError) (y : B) : Type 0 where
  pub value : A
  pub first : r ≡ Ok value
  pub second : f value ≡ Ok y

pub gave : {A B : Type 0} (r : Result A FieldError) (f : A → Result B FieldError) (y : B) → (r >>= f) ≡ Ok y → Gave r f y
gave (Ok x) f y h = record { value = x; first = refl; second = h }
gave (Err e) f y h = absurd (let no_value : ⊥ = cc in no_value)

abbrev pub done : {A : Type 0} → A → Result A FieldError
done x = Ok x

pub the_same : {A : Type 0} (x y : A) → done x ≡ done y → x ≡ y
the_same x y h = cc

pub not_refused : {A : Type 0} (e : FieldError) (b : Bool) (x y : A) → unless e b x ≡ Ok y → b ≡ false
not_refused e true x y h = cc
not_refused e false x y h = refl

pub kept : {A : Type 0} (e : FieldError) (b : Bool) (x y : A) → unless e b x ≡ Ok y → x ≡ y
kept e true x y h = cc
kept e false x y h = cc

pub was_some : {A : Type 0} (e : FieldError) (o : Option A) (y : A) → some_or e o ≡ Ok y → o ≡ Some y
was_some e None y h = cc
was_some e (Some x) y h = cc

pub at_most : (most n : ℕ) → nat_lt most n ≡ false → n ≤ most
at_most most n h = grind (arith, nat_tests)

pub along : {A : Type 0} (P : A → Type 0) (x y : A) → x ≡ y → P x → P y
along P x y e p = subst P e p

-- ---- items, one after another

-- each element is what the reading returns for the item at its index
abbrev pub Column : {A : Type 0} → (List Step → Data → Result A FieldError) → List Step → ℕ → List A → Items → Type 0
Column r path place [] no_items = Unit {0}
Column r path place [] (item d ds) = ⊥
Column r path place (x ∷ xs) no_items = ⊥
Column r path place (x ∷ xs) (item d ds) = (r (path ++ step.Place place ∷ []) d ≡ Ok x) × Column r path (place + 1) xs ds

record Behind {A : Type 0} (r : List Step → Data → Result A FieldError) (path : List Step) (place : ℕ) (before : List A) (ds : Items) (xs : List A) : Type 0 where
  own : List A
  is : before ++ own ≡ xs
  column : Column r path place own ds

behind : {A : Type 0} (r : List Step → Data → Result A FieldError) (path : List Step) (place : ℕ) (before : List A) (ds : Items) (xs : List A) → each_from (alone r) path place before ds ≡ Ok xs → Behind r path place before ds xs
behind r path place before no_items xs h = record { own = []; is = append-nil before ∙ the_same before xs h; column = tt }
behind r path place before (item d ds) xs h =
    let g = gave (r (path ++ step.Place place ∷ []) d) (λ x. each_from (alone r) path (place + 1) (before ++ x ∷ []) ds) xs h in
    let b = behind r path (place + 1) (before ++ g.value ∷ []) ds xs g.second in
    record { own = g.value ∷ b.own; is = sym (append_assoc before (g.value ∷ []) b.own) ∙ b.is; column = (g.first, b.column) }

pub column : {A : Type 0} (r : List Step → Data → Result A FieldError) (path : List Step) (ds : Items) (xs : List A) → each r path ds ≡ Ok xs → Column r path 0 xs ds
column r path ds xs h = let b = behind r path 0 [] ds xs h in along (λ ys. Column r path 0 ys ds) b.own xs b.is b.column

-- ---- the labels of items, a law of the readers of fields

pub record Labels : Type 0 where
  pub name : (path : List Step) (d : Data) (name : List ℕ) → dns_label_at path (codes "name") d ≡ Ok name → named d ≡ Some name
  pub object_ : (path : List Step) (d v : Data) → object_value path d ≡ Ok v → v ≡ d
  pub label_once : (path : List Step) (d : Data) (e : FieldError) → dns_label_at path (codes "name") d ≡ Err e → e.kind ≡ Doubled → ⊥
  pub object_once : (path : List Step) (d : Data) (e : FieldError) → object_value path d ≡ Err e → e.kind ≡ Doubled → ⊥

-- ---- counts

pub counted_on : (path : List Step) (most met : ℕ) (ms : Members) (n : ℕ) → count_on path most met ms ≡ Ok n → (met + members_length ms ≡ n) × (n ≤ most)
counted_on path most met ms n h =
    let b = not_refused (error_at path TooMany) (nat_lt most (met + members_length ms)) (met + members_length ms) n h in
    let e : met + members_length ms ≡ n = kept (error_at path TooMany) (nat_lt most (met + members_length ms)) (met + members_length ms) n h in
    (e, along (λ x. x ≤ most) (met + members_length ms) n e (at_most most (met + members_length ms) b))
