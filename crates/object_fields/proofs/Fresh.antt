-- Lists of names that are read one after another.
use Rattle.std.proofs.Common.{◌≡◌, ◌∙◌, ◌⊎◌, inl, inr, ℕ, ◌+◌, ◌<◌, Bool, true, false, List, [], ◌∷◌, ◌++◌, length, map, Option, Some, None, Result, Ok, Err, ap, append_assoc, arith, codes, if◌then◌else◌, nat_lt, option_and_then, refl, subst, sym}
use Rattle.std.proofs.Math.Logic.{⊎_elim}
use Rattle.std.proofs.lemmas.Bool.{ltb-true}
use Rattle.std.proofs.lemmas.Bool.Decides.{nat_tests}
use Rattle.std.proofs.lemmas.List.{append-nil}
use Rattle.serde_json.specs.Data.{Data, null, boolean, number, string, array, object, Items, no_items, item, Members}
use Rattle.serde_json.specs.Find.{as_array, as_object, as_str}
use Rattle.object_fields.specs.Fields.{dns_label_at, error_at, field_at, field_error, items_length, list_at, member_of, name_in, not_null, object_value, short_list_at, some_or, table_value, text_at, unless, value_at, ◌>>=◌}
use Rattle.object_fields.specs.Lists.{alone, each, each_beside, each_from}
use Rattle.object_fields.specs.Names.{is_dns_label, label_most}
use Rattle.object_fields.specs.NewNames.{AreNew, IsDoubled, IsNewNameReading, IsOver, doubled_at, is_among, named, names_in}
use Rattle.object_fields.specs.declared.error.FieldError.{FieldError}
use Rattle.object_fields.specs.declared.kind.FieldErrorKind.{FieldErrorKind}
use Rattle.object_fields.specs.declared.kind.FieldErrorKind.TheVariants.{BadName, Doubled, Missing, TooLong, TooMany, WrongType}
use Rattle.object_fields.specs.declared.path.Step.{Step}
use Rattle.object_fields.specs.declared.path.Step.TheVariants.{Member, Place}
use Rattle.object_fields.proofs.Inverse.{given, then_ok}

-- ---- each item, read alone

abbrev pub Rows : {A : Type 0} → (List Step → Data → Result A FieldError) → List Step → ℕ → Items → List A → Type 0
Rows f path place no_items [] = Unit {0}
Rows f path place no_items (x ∷ xs) = ⊥
Rows f path place (item d ds) [] = ⊥
Rows f path place (item d ds) (x ∷ xs) = (f (path ++ Place place ∷ []) d ≡ Ok x) × Rows f path (place + 1) ds xs

rows_behind : {A : Type 0} (f : List Step → Data → Result A FieldError) (path : List Step) (place : ℕ) (before all : List A) (ds : Items) → each_from (alone f) path place before ds ≡ Ok all → (xs : List A) × ((all ≡ before ++ xs) × Rows f path place ds xs)
rows_behind f path place before all no_items h =
    let e : before ≡ all = cc in ([], (sym e ∙ sym (append-nil before), tt))
rows_behind f path place before all (item d ds) h =
    let s = then_ok (f (path ++ Place place ∷ []) d) (λ x. each_from (alone f) path (place + 1) (before ++ x ∷ []) ds) all h in
    let r = rows_behind f path (place + 1) (before ++ s.0 ∷ []) all ds s.1.1 in
    (s.0 ∷ r.0, (r.1.0 ∙ append_assoc before (s.0 ∷ []) r.0, (s.1.0, r.1.1)))

rows : {A : Type 0} (f : List Step → Data → Result A FieldError) (path : List Step) (all : List A) (ds : Items) → each f path ds ≡ Ok all → Rows f path 0 ds all
rows f path all ds h =
    let r = rows_behind f path 0 [] all ds h in
    subst (Rows f path 0 ds) (sym r.1.0) r.1.1

-- ---- all of them are new

abbrev pub Names : Type 0
Names = Result (List (List ℕ)) FieldError

all_new : (a : List Step → Data → Result (List ℕ) FieldError) (r : List Step → List (List ℕ) → Data → Result (List ℕ) FieldError) → IsNewNameReading a r → (path : List Step) (place : ℕ) (before xs : List (List ℕ)) (ds : Items) → Rows a path place ds xs → AreNew before xs → each_from r path place before ds ≡ Ok (before ++ xs)
all_new a r is path place before [] no_items h n = ap given (sym (append-nil before))
all_new a r is path place before (x ∷ xs) no_items h n = absurd h
all_new a r is path place before [] (item d ds) h n = absurd h
all_new a r is path place before (x ∷ xs) (item d ds) h n =
    let at : List Step = path ++ Place place ∷ [] in
    let go : List ℕ → Names = λ y. each_from r path (place + 1) (before ++ y ∷ []) ds in
    let e : r at before d ≡ Ok x = is.taken at before d x h.0 ∙ ap (λ b. unless (doubled_at at) b x) n.0 in
    ap (λ y. y >>= go) e ∙ all_new a r is path (place + 1) (before ++ x ∷ []) xs ds h.1 n.1 ∙ ap given (append_assoc before (x ∷ []) xs)

-- ---- one of them appears before

one_old : (a : List Step → Data → Result (List ℕ) FieldError) (r : List Step → List (List ℕ) → Data → Result (List ℕ) FieldError) → IsNewNameReading a r → (path : List Step) (place : ℕ) (before us vs : List (List ℕ)) (name : List ℕ) (ds : Items) → Rows a path place ds (us ++ name ∷ vs) → AreNew before us → is_among name (before ++ us) ≡ true → each_from r path place before ds ≡ Err (doubled_at (path ++ Place (place + length us) ∷ []))
one_old a r is path place before [] vs name no_items h n old = absurd h
one_old a r is path place before [] vs name (item d ds) h n old =
    let at : List Step = path ++ Place place ∷ [] in
    let go : List ℕ → Names = λ y. each_from r path (place + 1) (before ++ y ∷ []) ds in
    let same : is_among name before ≡ true = ap (is_among name) (sym (append-nil before)) ∙ old in
    let e : r at before d ≡ Err (doubled_at at) = is.taken at before d name h.0 ∙ ap (λ b. unless (doubled_at at) b name) same in
    let zero : place ≡ place + 0 = omega arith in
    ap (λ y. y >>= go) e ∙ ap (λ i. Err (doubled_at (path ++ Place i ∷ []))) zero
one_old a r is path place before (u ∷ us) vs name no_items h n old = absurd h
one_old a r is path place before (u ∷ us) vs name (item d ds) h n old =
    let at : List Step = path ++ Place place ∷ [] in
    let go : List ℕ → Names = λ y. each_from r path (place + 1) (before ++ y ∷ []) ds in
    let e : r at before d ≡ Ok u = is.taken at before d u h.0 ∙ ap (λ b. unless (doubled_at at) b u) n.0 in
    let k = one_old a r is path (place + 1) (before ++ u ∷ []) us vs name ds h.1 n.1 (ap (is_among name) (append_assoc before (u ∷ []) us) ∙ old) in
    let next : place + 1 + length us ≡ place + length (u ∷ us) = omega arith in
    ap (λ y. y >>= go) e ∙ k ∙ ap (λ i. Err (doubled_at (path ++ Place i ∷ []))) next

-- ---- what was read are the names of the document

as_given : (a : List Step → Data → Result (List ℕ) FieldError) (r : List Step → List (List ℕ) → Data → Result (List ℕ) FieldError) → IsNewNameReading a r → (path : List Step) (place : ℕ) (before all : List (List ℕ)) (ds : Items) → each_from r path place before ds ≡ Ok all → (xs : List (List ℕ)) × ((all ≡ before ++ xs) × (map Some xs ≡ names_in ds))
as_given a r is path place before all no_items h =
    let e : before ≡ all = cc in ([], (sym e ∙ sym (append-nil before), refl))
as_given a r is path place before all (item d ds) h =
    let at : List Step = path ++ Place place ∷ [] in
    let s = then_ok (r at before d) (λ x. each_from r path (place + 1) (before ++ x ∷ []) ds) all h in
    let k = as_given a r is path (place + 1) (before ++ s.0 ∷ []) all ds s.1.1 in
    (s.0 ∷ k.0, (k.1.0 ∙ append_assoc before (s.0 ∷ []) k.0, ap (λ o. o ∷ map Some k.0) (sym (is.given at before d s.0 s.1.0)) ∙ ap (λ os. named d ∷ os) k.1.1))

-- ---- when it is Doubled

pub either_err : {A B : Type 0} (x : Result A FieldError) (f : A → Result B FieldError) (e : FieldError) → x >>= f ≡ Err e → (x ≡ Err e) ⊎ ((a : A) × ((x ≡ Ok a) × (f a ≡ Err e)))
either_err (Ok a) f e h = inr (a, (refl, h))
either_err (Err g) f e h = let same : g ≡ e = cc in inl (ap Err same)

record IsDoubledFrom (path : List Step) (place : ℕ) (before : List (List ℕ)) (ds : Items) (e : FieldError) : Type 0 where
  more : List (List ℕ)
  name : List ℕ
  behind : List (Option (List ℕ))
  names : names_in ds ≡ map Some more ++ Some name ∷ behind
  stands : is_among name (before ++ more) ≡ true
  is : e ≡ doubled_at (path ++ Place (place + length more) ∷ [])

doubled_from : (a : List Step → Data → Result (List ℕ) FieldError) (r : List Step → List (List ℕ) → Data → Result (List ℕ) FieldError) → IsNewNameReading a r → (path : List Step) (place : ℕ) (before : List (List ℕ)) (ds : Items) (e : FieldError) → each_from r path place before ds ≡ Err e → e.kind ≡ Doubled → IsDoubledFrom path place before ds e
doubled_from a r is path place before no_items e h k = absurd (let no_value : ⊥ = cc in no_value)
doubled_from a r is path place before (item d ds) e h k =
    let at : List Step = path ++ Place place ∷ [] in
    ⊎_elim (λ x.
    let t = is.only at before d e x k in
    let zero : place ≡ place + 0 = omega arith in
    record { more = []; name = t.name; behind = names_in ds; names = ap (λ o. o ∷ names_in ds) t.is_named; stands = ap (is_among t.name) (append-nil before) ∙ t.stands; is = t.is ∙ ap (λ i. doubled_at (path ++ Place i ∷ [])) zero })
    (λ y.
    let s = doubled_from a r is path (place + 1) (before ++ y.0 ∷ []) ds e y.1.1 k in
    let next : place + 1 + length s.more ≡ place + length (y.0 ∷ s.more) = omega arith in
    let n : named d ≡ Some y.0 = is.given at before d y.0 y.1.0 in
    record { more = y.0 ∷ s.more; name = s.name; behind = s.behind; names = ap (λ o. o ∷ names_in ds) n ∙ ap (λ os. Some y.0 ∷ os) s.names; stands = ap (is_among s.name) (sym (append_assoc before (y.0 ∷ []) s.more)) ∙ s.stands; is = s.is ∙ ap (λ i. doubled_at (path ++ Place i ∷ [])) next })
    (either_err (r at before d) (λ x. each_from r path (place + 1) (before ++ x ∷ []) ds) e h)

-- ---- from the beginning

pub new_names : (a : List Step → Data → Result (List ℕ) FieldError) (r : List Step → List (List ℕ) → Data → Result (List ℕ) FieldError) → IsNewNameReading a r → (path : List Step) (ds : Items) (names : List (List ℕ)) → each a path ds ≡ Ok names → AreNew [] names → each_beside r path ds ≡ Ok names
new_names a r is path ds names h n = all_new a r is path 0 [] names ds (rows a path names ds h) n

pub old_name : (a : List Step → Data → Result (List ℕ) FieldError) (r : List Step → List (List ℕ) → Data → Result (List ℕ) FieldError) → IsNewNameReading a r → (path : List Step) (ds : Items) (before behind : List (List ℕ)) (name : List ℕ) → each a path ds ≡ Ok (before ++ name ∷ behind) → AreNew [] before → is_among name before ≡ true → each_beside r path ds ≡ Err (doubled_at (path ++ Place (length before) ∷ []))
old_name a r is path ds before behind name h n old =
    let zero : 0 + length before ≡ length before = omega arith in
    one_old a r is path 0 [] before behind name ds (rows a path (before ++ name ∷ behind) ds h) n old ∙ ap (λ i. Err (doubled_at (path ++ Place i ∷ []))) zero

pub given_names : (a : List Step → Data → Result (List ℕ) FieldError) (r : List Step → List (List ℕ) → Data → Result (List ℕ) FieldError) → IsNewNameReading a r → (path : List Step) (ds : Items) (names : List (List ℕ)) → each_beside r path ds ≡ Ok names → map Some names ≡ names_in ds
given_names a r is path ds names h =
    let k = as_given a r is path 0 [] names ds h in
    ap (map Some) k.1.0 ∙ k.1.1

pub doubled : (a : List Step → Data → Result (List ℕ) FieldError) (r : List Step → List (List ℕ) → Data → Result (List ℕ) FieldError) → IsNewNameReading a r → (path : List Step) (ds : Items) (e : FieldError) → each_beside r path ds ≡ Err e → e.kind ≡ Doubled → IsDoubled path ds e
doubled a r is path ds e h k =
    let s = doubled_from a r is path 0 [] ds e h k in
    let zero : 0 + length s.more ≡ length s.more = omega arith in
    record { before = s.more; name = s.name; behind = s.behind; names = s.names; stands = s.stands; is = s.is ∙ ap (λ i. doubled_at (path ++ Place i ∷ [])) zero }

-- ---- labels

-- no error of that kind
abbrev pub Never : {A : Type 0} → FieldErrorKind → Result A FieldError → Type 0
Never kind r = (e : FieldError) → r ≡ Err e → e.kind ≡ kind → ⊥

never_then : {A B : Type 0} (kind : FieldErrorKind) (x : Result A FieldError) (f : A → Result B FieldError) → Never kind x → ((a : A) → Never kind (f a)) → Never kind (x >>= f)
never_then kind (Ok a) f p q e h k = q a e h k
never_then kind (Err g) f p q e h k = let same : g ≡ e = cc in p e (ap Err same) k

never_some : {A : Type 0} (kind : FieldErrorKind) (g : FieldError) (o : Option A) → (g.kind ≡ kind → ⊥) → Never kind (some_or g o)
never_some kind g (Some x) n e h k = let no_value : ⊥ = cc in no_value
never_some kind g None n e h k = let same : g ≡ e = cc in n (ap (λ (x : FieldError). x.kind) same ∙ k)

never_given : {A : Type 0} (kind : FieldErrorKind) (x : A) → Never kind (given x)
never_given kind x e h k = let no_value : ⊥ = cc in no_value

never_judged : (kind : FieldErrorKind) (a b : Bool) (g1 g2 : FieldError) (t : List ℕ) → (g1.kind ≡ kind → ⊥) → (g2.kind ≡ kind → ⊥) → Never kind (if a then Err g1 else (if b then Ok t else Err g2))
never_judged kind true b g1 g2 t n m e h k = let same : g1 ≡ e = cc in n (ap (λ (x : FieldError). x.kind) same ∙ k)
never_judged kind false true g1 g2 t n m e h k = let no_value : ⊥ = cc in no_value
never_judged kind false false g1 g2 t n m e h k = let same : g2 ≡ e = cc in m (ap (λ (x : FieldError). x.kind) same ∙ k)

never_object : (path : List Step) (d : Data) → Never Doubled (object_value path d)
never_object path d =
    never_then Doubled (table_value path d) (λ ms. Ok (object ms))
    (never_then Doubled (value_at path d) (λ v. some_or (error_at path WrongType) (as_object v)) (never_some Doubled (error_at path Missing) (not_null d) (λ k. cc)) (λ v. never_some Doubled (error_at path WrongType) (as_object v) (λ k. cc)))
    (λ ms. never_given Doubled (object ms))

never_label : (path : List Step) (d : Data) → Never Doubled (dns_label_at path (codes "name") d)
never_label path d =
    let at : List Step = path ++ Member (codes "name") ∷ [] in
    never_then Doubled (text_at path (codes "name") d) (name_in at label_most is_dns_label)
    (never_then Doubled (field_at path (codes "name") d) (λ v. some_or (field_error path (codes "name") WrongType) (as_str v)) (never_some Doubled (field_error path (codes "name") Missing) (member_of (codes "name") d) (λ k. cc)) (λ v. never_some Doubled (field_error path (codes "name") WrongType) (as_str v) (λ k. cc)))
    (λ t. never_judged Doubled (nat_lt label_most (length t)) (is_dns_label t) (error_at at TooLong) (error_at at BadName) t (λ k. cc) (λ k. cc))

pub objects_once : (path : List Step) (d : Data) (e : FieldError) → object_value path d ≡ Err e → e.kind ≡ Doubled → ⊥
objects_once = never_object

pub labels_once : (path : List Step) (d : Data) (e : FieldError) → dns_label_at path (codes "name") d ≡ Err e → e.kind ≡ Doubled → ⊥
labels_once = never_label

some_is : {A : Type 0} (g : FieldError) (o : Option A) (x : A) → some_or g o ≡ Ok x → o ≡ Some x
some_is g None x h = cc
some_is g (Some y) x h = cc

judged_is : (a b : Bool) (g1 g2 : FieldError) (t x : List ℕ) → (if a then Err g1 else (if b then Ok t else Err g2)) ≡ Ok x → t ≡ x
judged_is true b g1 g2 t x h = cc
judged_is false true g1 g2 t x h = cc
judged_is false false g1 g2 t x h = cc

pub label_is_name : (path : List Step) (d : Data) (name : List ℕ) → dns_label_at path (codes "name") d ≡ Ok name → named d ≡ Some name
label_is_name path d name h =
    let at : List Step = path ++ Member (codes "name") ∷ [] in
    let s = then_ok (text_at path (codes "name") d) (name_in at label_most is_dns_label) name h in
    let t = then_ok (field_at path (codes "name") d) (λ v. some_or (field_error path (codes "name") WrongType) (as_str v)) s.0 s.1.0 in
    let there : member_of (codes "name") d ≡ Some t.0 = some_is (field_error path (codes "name") Missing) (member_of (codes "name") d) t.0 t.1.0 in
    let text : as_str t.0 ≡ Some s.0 = some_is (field_error path (codes "name") WrongType) (as_str t.0) s.0 t.1.1 in
    let same : s.0 ≡ name = judged_is (nat_lt label_most (length s.0)) (is_dns_label s.0) (error_at at TooLong) (error_at at BadName) s.0 name s.1.1 in
    ap (option_and_then as_str) there ∙ text ∙ ap Some same

object_same : (d : Data) (v : Data) (ms : Members) → not_null d ≡ Some v → as_object v ≡ Some ms → object ms ≡ d
object_same null v ms h k = cc
object_same (boolean b) v ms h k = absurd (let e : boolean b ≡ v = cc in let f : as_object (boolean b) ≡ Some ms = ap as_object e ∙ k in let no_value : ⊥ = cc in no_value)
object_same (number n) v ms h k = absurd (let e : number n ≡ v = cc in let f : as_object (number n) ≡ Some ms = ap as_object e ∙ k in let no_value : ⊥ = cc in no_value)
object_same (string s) v ms h k = absurd (let e : string s ≡ v = cc in let f : as_object (string s) ≡ Some ms = ap as_object e ∙ k in let no_value : ⊥ = cc in no_value)
object_same (array ds) v ms h k = absurd (let e : array ds ≡ v = cc in let f : as_object (array ds) ≡ Some ms = ap as_object e ∙ k in let no_value : ⊥ = cc in no_value)
object_same (object xs) v ms h k =
    let e : object xs ≡ v = cc in
    let f : as_object (object xs) ≡ Some ms = ap as_object e ∙ k in
    let same : xs ≡ ms = cc in ap object (sym same)

-- an item that is an object is read as itself
pub object_is : (path : List Step) (d v : Data) → object_value path d ≡ Ok v → v ≡ d
object_is path d v h =
    let s = then_ok (table_value path d) (λ ms. Ok (object ms)) v h in
    let t = then_ok (value_at path d) (λ w. some_or (error_at path WrongType) (as_object w)) s.0 s.1.0 in
    let e : given (object s.0) ≡ Ok v = s.1.1 in
    let is : object s.0 ≡ v = cc in
    sym is ∙ object_same d t.0 s.0 (some_is (error_at path Missing) (not_null d) t.0 t.1.0) (some_is (error_at path WrongType) (as_object t.0) s.0 t.1.1)

-- ---- lists of at most so many items

below : (m n : ℕ) → m < n → nat_lt m n ≡ true
below m n h = grind (arith, nat_tests)

pub over : (most : ℕ) (path : List Step) (name : List ℕ) (d : Data) (ds : Items) → list_at path name d ≡ Ok ds → most < items_length ds → short_list_at most path name d ≡ Err (field_error path name TooMany)
over most path name d ds h l =
    let go : Items → Result Items FieldError = λ es. unless (field_error path name TooMany) (nat_lt most (items_length es)) es in
    ap (λ x. x >>= go) h ∙ ap (λ b. unless (field_error path name TooMany) b ds) (below most (items_length ds) l)

refused : (e g : FieldError) (b : Bool) (ds : Items) → unless e b ds ≡ Err g → b ≡ true
refused e g true ds h = refl
refused e g false ds h = cc

pub only_over : (most : ℕ) (path : List Step) (name : List ℕ) (d : Data) (e : FieldError) → short_list_at most path name d ≡ Err e → e.kind ≡ TooMany → IsOver most path name d
only_over most path name d e h k =
    let never : Never TooMany (list_at path name d) = never_then TooMany (field_at path name d) (λ v. some_or (field_error path name WrongType) (as_array v)) (never_some TooMany (field_error path name Missing) (member_of name d) (λ k. cc)) (λ v. never_some TooMany (field_error path name WrongType) (as_array v) (λ k. cc)) in
    ⊎_elim (λ x. absurd (never e x k))
    (λ y. record { items = y.0; list = y.1.0; many = ltb-true most (items_length y.0) (refused (field_error path name TooMany) e (nat_lt most (items_length y.0)) y.0 y.1.1) })
    (either_err (list_at path name d) (λ es. unless (field_error path name TooMany) (nat_lt most (items_length es)) es) e h)
