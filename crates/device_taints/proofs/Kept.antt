-- What is read keeps the limits.
use Rattle.std.proofs.Common.{◌≡◌, ℕ, ◌+◌, ◌≤◌, Bool, true, false, List, [], ◌∷◌, ◌++◌, length, Option, Some, None, unwrap_or, Result, Ok, Err, arith, codes, if◌then◌else◌, lit≤, nat_lt, refl, subst}
use Rattle.std.proofs.lemmas.Bool.{ltb-false}
use Rattle.std.specs.List.{AllByRecursion}
use Rattle.serde_json.specs.Data.{Data, Items, no_items, item}
use Rattle.object_fields.specs.Fields.{field_error, if_there, member_of, name_at, name_in, object_value, optional_at, short_list_at, text_at, unless, ◌>>=◌}
use Rattle.object_fields.specs.Lists.{alone, each_at, each_from, each_in}
use Rattle.object_fields.specs.declared.error.FieldError.{FieldError}
use Rattle.object_fields.specs.declared.kind.FieldErrorKind.TheVariants.{Missing}
use Rattle.object_fields.specs.declared.path.Step.{Step}
use Rattle.object_fields.specs.declared.path.Step.TheVariants.{Member, Place}
use Rattle.device_taints.specs.Limits.{TaintKept, TaintsKept, TolerationKept, TolerationsKept}
use Rattle.device_taints.specs.Reading.{effect_at, is_key, key_most, keyed, lacks_key, taint_at, taint_key_at, taint_value_at, taints_at, taints_most, toleration_at, toleration_in, tolerations_at, tolerations_most, value_most}
use Rattle.device_taints.specs.declared.types.Taint.{Taint}
use Rattle.device_taints.specs.declared.types.Toleration.{Toleration}
use Rattle.device_taints.specs.declared.types.TolerationOperator.{TolerationOperator}
use Rattle.device_taints.specs.declared.types.TolerationOperator.TheVariants.{Equal, Exists}

-- a list is as long as it may be
abbrev pub ListLaw : Type 0 → Type 0
ListLaw A = (most : ℕ) (reading : List Step → Data → Result A FieldError) (path : List Step) (name : List ℕ) (d : Data) (xs : List A) → each_at most reading path name d ≡ Ok xs → length xs ≤ most

-- a result of a reading
abbrev given : {A : Type 0} → A → Result A FieldError
given x = Ok x

-- both readings returned a value
then_ok : {A B : Type 0} (x : Result A FieldError) (f : A → Result B FieldError) (b : B) → x >>= f ≡ Ok b → (a : A) × ((x ≡ Ok a) × (f a ≡ Ok b))
then_ok (Ok a) f b h = (a, (refl, h))
then_ok (Err e) f b h = cc

-- ---- items

one_more : {A : Type 0} (P : A → Type 0) (xs : List A) (x : A) → AllByRecursion P xs → P x → AllByRecursion P (xs ++ x ∷ [])
one_more P [] x h p = (p, tt)
one_more P (y ∷ ys) x h p = (h.0, one_more P ys x h.1 p)

each_from_kept : {A : Type 0} (P : A → Type 0) (f : List Step → Data → Result A FieldError) (gives : (path : List Step) (d : Data) (x : A) → f path d ≡ Ok x → P x) (path : List Step) (place : ℕ) (before all : List A) (ds : Items) → AllByRecursion P before → each_from (alone f) path place before ds ≡ Ok all → AllByRecursion P all
each_from_kept P f gives path place before all no_items k h =
    let e : before ≡ all = cc in subst (AllByRecursion P) e k
each_from_kept P f gives path place before all (item d ds) k h =
    let s = then_ok (f (path ++ Place place ∷ []) d) (λ x. each_from (alone f) path (place + 1) (before ++ x ∷ []) ds) all h in
    each_from_kept P f gives path (place + 1) (before ++ s.0 ∷ []) all ds (one_more P before s.0 k (gives (path ++ Place place ∷ []) d s.0 s.1.0)) s.1.1

each_in_kept : {A : Type 0} (P : A → Type 0) (f : List Step → Data → Result A FieldError) (gives : (path : List Step) (d : Data) (x : A) → f path d ≡ Ok x → P x) (path : List Step) (o : Option Items) (xs : List A) → each_in f path o ≡ Ok xs → AllByRecursion P xs
each_in_kept {A = A} P f gives path None xs h =
    let k : given {A = List A} [] ≡ Ok xs = h in
    let e : [] ≡ xs = cc in
    subst (AllByRecursion P) e tt
each_in_kept P f gives path (Some ds) xs h = each_from_kept P f gives path 0 [] xs ds tt h

each_at_kept : {A : Type 0} (P : A → Type 0) (most : ℕ) (f : List Step → Data → Result A FieldError) (gives : (path : List Step) (d : Data) (x : A) → f path d ≡ Ok x → P x) (path : List Step) (name : List ℕ) (d : Data) (xs : List A) → each_at most f path name d ≡ Ok xs → AllByRecursion P xs
each_at_kept P most f gives path name d xs h =
    let s = then_ok (optional_at (short_list_at most) path name d) (each_in f (path ++ Member name ∷ [])) xs h in
    each_in_kept P f gives (path ++ Member name ∷ []) s.0 xs s.1.1

-- ---- taints

-- a text that is short enough and passes the test
pub record IsText (most : ℕ) (test : List ℕ → Bool) (text : List ℕ) : Type 0 where
  pub short : length text ≤ most
  pub right : test text ≡ true

text_by : (long right : Bool) (e1 e2 : FieldError) (t a : List ℕ) → (if long then Err e1 else (if right then Ok t else Err e2)) ≡ Ok a → (long ≡ false) × ((right ≡ true) × (t ≡ a))
text_by true right e1 e2 t a h = cc
text_by false true e1 e2 t a h = (refl, (refl, cc))
text_by false false e1 e2 t a h = cc

text_kept : (most : ℕ) (test : List ℕ → Bool) (path : List Step) (name : List ℕ) (d : Data) (text : List ℕ) → name_at most test path name d ≡ Ok text → IsText most test text
text_kept most test path name d text h =
    let s = then_ok (text_at path name d) (name_in (path ++ Member name ∷ []) most test) text h in
    let t = text_by (nat_lt most (length s.0)) (test s.0) _ _ s.0 text s.1.1 in
    let kept : IsText most test s.0 = record { short = ltb-false most (length s.0) t.0; right = t.1.0 } in
    subst (IsText most test) t.1.1 kept

some_text : (text : List ℕ) → is_key text ≡ true → 1 ≤ length text
some_text [] h = cc
some_text (b ∷ bs) h = omega arith

-- of a text that may be missing
value_short : (v : Option Data) (r : Result (List ℕ) FieldError) (gives : (x : List ℕ) → r ≡ Ok x → length x ≤ value_most) (o : Option (List ℕ)) → if_there v r ≡ Ok o → length (unwrap_or o []) ≤ value_most
value_short None r gives o h =
    let e : None ≡ o = cc in subst (λ (x : Option (List ℕ)). length (unwrap_or x []) ≤ value_most) e (lit≤ tt)
value_short (Some v) r gives o h =
    let s = then_ok r (λ x. Ok (Some x)) o h in
    let k : given (Some s.0) ≡ Ok o = s.1.1 in
    let e : Some s.0 ≡ o = cc in
    subst (λ (x : Option (List ℕ)). length (unwrap_or x []) ≤ value_most) e (gives s.0 s.1.0)

value_kept : (path : List Step) (d : Data) (value : List ℕ) → taint_value_at path d ≡ Ok value → length value ≤ value_most
value_kept path d value h =
    let s = then_ok (optional_at (name_at value_most (λ text. true)) path (codes "value") d) (λ value. Ok (unwrap_or value [])) value h in
    let k : given (unwrap_or s.0 []) ≡ Ok value = s.1.1 in
    let e : unwrap_or s.0 [] ≡ value = cc in
    let short : length (unwrap_or s.0 []) ≤ value_most = value_short (member_of (codes "value") d) (name_at value_most (λ text. true) path (codes "value") d) (λ x g. (text_kept value_most (λ text. true) path (codes "value") d x g).short) s.0 s.1.0 in
    subst (λ (x : List ℕ). length x ≤ value_most) e short

taint_kept : (path : List Step) (d : Data) (t : Taint) → taint_at path d ≡ Ok t → TaintKept t
taint_kept path d taint h =
    let s = then_ok (object_value path d) (λ t. taint_key_at path t >>= λ key. taint_value_at path t >>= λ value. effect_at path t >>= λ effect. Ok (record { key = key; value = value; effect = effect })) taint h in
    let t = then_ok (taint_key_at path s.0) (λ key. taint_value_at path s.0 >>= λ value. effect_at path s.0 >>= λ effect. Ok (record { key = key; value = value; effect = effect })) taint s.1.1 in
    let u = then_ok (taint_value_at path s.0) (λ value. effect_at path s.0 >>= λ effect. Ok (record { key = t.0; value = value; effect = effect })) taint t.1.1 in
    let v = then_ok (effect_at path s.0) (λ effect. Ok (record { key = t.0; value = u.0; effect = effect })) taint u.1.1 in
    let made : Taint = record { key = t.0; value = u.0; effect = v.0 } in
    let k : given made ≡ Ok taint = v.1.1 in
    let e : made ≡ taint = cc in
    let key = text_kept key_most is_key path (codes "key") s.0 t.0 t.1.0 in
    let kept : TaintKept made = record { some_key = some_text t.0 key.right; short_key = key.short; short_value = value_kept path s.0 u.0 u.1.0 } in
    subst TaintKept {x = made} e kept

pub taints_kept : ListLaw Taint → (path : List Step) (d : Data) (taints : List Taint) → taints_at path d ≡ Ok taints → TaintsKept taints
taints_kept law path d taints h = record {
  few = law taints_most taint_at path (codes "taints") d taints h;
  each_kept = each_at_kept TaintKept taints_most taint_at taint_kept path (codes "taints") d taints h;
}

-- ---- tolerations

keyless_by : (operator : TolerationOperator) (key : List ℕ) → lacks_key operator key ≡ false → key ≡ [] → operator ≡ Exists
keyless_by (Equal value) [] h e = cc
keyless_by (Equal value) (b ∷ bs) h e = cc
keyless_by Exists key h e = refl

unless_ok : {A : Type 0} (e : FieldError) (b : Bool) (x y : A) → unless e b x ≡ Ok y → (b ≡ false) × (x ≡ y)
unless_ok e true x y h = cc
unless_ok e false x y h = (refl, cc)

keyed_kept : (path : List Step) (k t : Toleration) → keyed path k ≡ Ok t → TolerationKept t
keyed_kept path k t h =
    let u = unless_ok (field_error path (codes "key") Missing) (lacks_key k.operator k.key) k t h in
    let kept : TolerationKept k = record { keyless = keyless_by k.operator k.key u.0 } in
    subst TolerationKept u.1 kept

toleration_kept : (path : List Step) (d : Data) (t : Toleration) → toleration_at path d ≡ Ok t → TolerationKept t
toleration_kept path d toleration h =
    let s = then_ok (object_value path d) (λ object. toleration_in path object >>= λ t. keyed path t) toleration h in
    let t = then_ok (toleration_in path s.0) (λ t. keyed path t) toleration s.1.1 in
    keyed_kept path t.0 toleration t.1.1

pub tolerations_kept : ListLaw Toleration → (path : List Step) (d : Data) (tolerations : List Toleration) → tolerations_at path d ≡ Ok tolerations → TolerationsKept tolerations
tolerations_kept law path d tolerations h = record {
  few = law tolerations_most toleration_at path (codes "tolerations") d tolerations h;
  each_kept = each_at_kept TolerationKept tolerations_most toleration_at toleration_kept path (codes "tolerations") d tolerations h;
}
