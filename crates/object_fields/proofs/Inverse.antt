-- What was read, from the result back.
use Rattle.std.proofs.Common.{◌≡◌, ℕ, ◌+◌, ◌≤◌, Bool, true, false, List, [], ◌∷◌, ◌++◌, length, IfSome, Option, Some, None, Result, Ok, Err, ap, arith, nat_lt, refl, subst}
use Rattle.std.proofs.lemmas.Bool.{ltb-false}
use Rattle.std.proofs.lemmas.List.{length-append}
use Rattle.serde_json.specs.Data.{Data, Items, no_items, item}
use Rattle.object_fields.specs.Fields.{field_error, if_there, items_length, list_at, member_of, optional_at, short_list_at, unless, ◌>>=◌}
use Rattle.object_fields.specs.Lists.{alone, each_at, each_from, each_in}
use Rattle.object_fields.specs.declared.error.FieldError.{FieldError}
use Rattle.object_fields.specs.declared.kind.FieldErrorKind.TheVariants.{TooMany}
use Rattle.object_fields.specs.declared.path.Step.{Step}
use Rattle.object_fields.specs.declared.path.Step.TheVariants.{Member, Place}

-- a result of a reading
abbrev pub given : {A : Type 0} → A → Result A FieldError
given x = Ok x

-- both readings returned something
pub then_ok : {A B : Type 0} (x : Result A FieldError) (f : A → Result B FieldError) (b : B) → x >>= f ≡ Ok b → (a : A) × ((x ≡ Ok a) × (f a ≡ Ok b))
then_ok (Ok a) f b h = (a, (refl, h))
then_ok (Err e) f b h = cc

-- the test doesn't hold
pub unless_ok : {A : Type 0} (e : FieldError) (b : Bool) (x y : A) → unless e b x ≡ Ok y → (b ≡ false) × (x ≡ y)
unless_ok e true x y h = cc
unless_ok e false x y h = (refl, cc)

-- ---- items

-- as many as there are items, behind those before
each_length : {A : Type 0} (r : List Step → List A → Data → Result A FieldError) (path : List Step) (place : ℕ) (before all : List A) (ds : Items) → each_from r path place before ds ≡ Ok all → length all ≡ length before + items_length ds
each_length r path place before all no_items h =
    let e : before ≡ all = cc in omega (arith, ap length e)
each_length r path place before all (item d ds) h =
    let s = then_ok (r (path ++ Place place ∷ []) before d) (λ x. each_from r path (place + 1) (before ++ x ∷ []) ds) all h in
    let k = each_length r path (place + 1) (before ++ s.0 ∷ []) all ds s.1.1 in
    let l : length (before ++ s.0 ∷ []) ≡ length before + 1 = length-append before (s.0 ∷ []) in
    omega (arith, k, l)

-- ---- values that may be missing

pub if_there_some : {A : Type 0} (P : A → Type 0) (v : Option Data) (r : Result A FieldError) (gives : (x : A) → r ≡ Ok x → P x) (o : Option A) → if_there v r ≡ Ok o → IfSome o P
if_there_some P None r gives o h =
    let e : None ≡ o = cc in subst (λ x. IfSome x P) e tt
if_there_some {A = A} P (Some v) r gives o h =
    let s = then_ok r (λ x. Ok (Some x)) o h in
    let k : given (Some s.0) ≡ Ok o = s.1.1 in
    let e : Some s.0 ≡ o = cc in
    subst (λ x. IfSome x P) e (gives s.0 s.1.0)

short : (most : ℕ) (path : List Step) (name : List ℕ) (d : Data) (ds : Items) → short_list_at most path name d ≡ Ok ds → items_length ds ≤ most
short most path name d ds h =
    let s = then_ok (list_at path name d) (λ es. unless (field_error path name TooMany) (nat_lt most (items_length es)) es) ds h in
    let u = unless_ok (field_error path name TooMany) (nat_lt most (items_length s.0)) s.0 ds s.1.1 in
    let few : items_length s.0 ≤ most = ltb-false most (items_length s.0) u.0 in
    subst (λ (es : Items). items_length es ≤ most) u.1 few

few_in : {A : Type 0} (most : ℕ) (f : List Step → Data → Result A FieldError) (path : List Step) (o : Option Items) (xs : List A) → IfSome o (λ ds. items_length ds ≤ most) → each_in f path o ≡ Ok xs → length xs ≤ most
few_in {A = A} most f path None xs o h =
    let k : given {A = List A} [] ≡ Ok xs = h in
    let e : [] ≡ xs = cc in
    let l : 0 ≡ length xs = ap length e in
    omega arith
few_in most f path (Some ds) xs o h =
    let l : length xs ≡ 0 + items_length ds = each_length (alone f) path 0 [] xs ds h in
    let few : items_length ds ≤ most = o in
    omega arith

-- a list that may be missing has at most as many items as it may
pub each_at_few : {A : Type 0} (most : ℕ) (f : List Step → Data → Result A FieldError) (path : List Step) (name : List ℕ) (d : Data) (xs : List A) → each_at most f path name d ≡ Ok xs → length xs ≤ most
each_at_few most f path name d xs h =
    let s = then_ok (optional_at (short_list_at most) path name d) (each_in f (path ++ Member name ∷ [])) xs h in
    let o = if_there_some (λ ds. items_length ds ≤ most) (member_of name d) (short_list_at most path name d) (λ ds e. short most path name d ds e) s.0 s.1.0 in
    few_in most f (path ++ Member name ∷ []) s.0 xs o s.1.1
