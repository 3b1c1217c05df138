-- Taints and tolerations read as they are.
use Rattle.std.proofs.Common.{◌≡◌, ℕ, ◌+◌, ◌≤◌, nat_lt, true, false, List, [], ◌∷◌, ◌++◌, length, Option, Some, None, Result, Ok, refl, ap, ◌∙◌, append_assoc, arith}
use Rattle.std.specs.Prelude.{codes}
use Rattle.std.proofs.lemmas.List.{append-nil}
use Rattle.std.specs.List.{AllByRecursion}
use Rattle.serde_json.specs.Data.{Data, string, object, Members}
use Rattle.serde_json.specs.Find.{get}
use Rattle.object_fields.specs.Fields.{items_length}
use Rattle.object_fields.specs.Lists.{alone, each_at, each_from}
use Rattle.object_fields.specs.declared.error.FieldError.{FieldError}
use Rattle.object_fields.specs.declared.path.Step.{Step}
use Rattle.object_fields.specs.declared.path.Step.TheVariants.{Place}
use Rattle.device_taints.specs.Limits.{TaintKept, TaintsKept, TolerationKept, TolerationsKept}
use Rattle.device_taints.specs.Reading.{effect_at, is_key, key_most, lacks_key, operator_at, optional_effect_at, taint_at, taint_key_at, taint_value_at, taints_at, taints_most, text_or_empty_at, toleration_at, tolerations_at, tolerations_most, value_most}
use Rattle.device_taints.specs.declared.types.Taint.{Taint}
use Rattle.device_taints.specs.declared.types.TaintEffect.{TaintEffect}
use Rattle.device_taints.specs.declared.types.TaintEffect.TheVariants.{NoSchedule, NoExecute}
use Rattle.device_taints.specs.declared.types.Toleration.{Toleration}
use Rattle.device_taints.specs.declared.types.TolerationOperator.{TolerationOperator}
use Rattle.device_taints.specs.declared.types.TolerationOperator.TheVariants.{Equal, Exists}
use Rattle.api_print.specs.Shapes.{list_if, listed, text_if}
use Rattle.api_print.specs.Taints.{effect_if, effect_text, operator_name, taint_json, taints_if, toleration_json, tolerations_if, value_if}
use Rattle.api_print.proofs.Decimals.{not_longer}
use Rattle.api_print.proofs.OptionalMembers.{found, members_of, or_none}
use Rattle.api_print.proofs.Readings.{judged_right, listed_length}

-- ---- lists whose items keep something

kept_back : {A : Type 0} (P : A → Type 0) (reading : List Step → Data → Result A FieldError) (json : A → Data) (path : List Step) (place : ℕ) (before xs : List A) → AllByRecursion P xs → ((p : List Step) (x : A) → P x → reading p (json x) ≡ Ok x)
    → each_from (alone reading) path place before (listed json xs) ≡ Ok (before ++ xs)
kept_back P reading json path place before [] all back = rw (append-nil before) refl
kept_back P reading json path place before (x ∷ xs) all back =
    rw (back (path ++ Place place ∷ []) x all.0) (kept_back P reading json path (place + 1) (before ++ x ∷ []) xs all.1 back ∙ ap Ok (append_assoc before (x ∷ []) xs))

kept_found : {A : Type 0} (P : A → Type 0) (most : ℕ) (reading : List Step → Data → Result A FieldError) (json : A → Data) (path : List Step) (name : List ℕ) (d : Data) (xs : List A) → get name d ≡ list_if json xs → length xs ≤ most → AllByRecursion P xs → ((p : List Step) (x : A) → P x → reading p (json x) ≡ Ok x)
    → each_at most reading path name d ≡ Ok xs
kept_found P most reading json path name d [] h few all back = rw h refl
kept_found P most reading json path name d (x ∷ xs) h few all back =
    let short : nat_lt most (items_length (listed json (x ∷ xs))) ≡ false = rw (listed_length json (x ∷ xs)) (not_longer most (length (x ∷ xs)) few) in
    rw (h, short) (kept_back P reading json _ 0 [] (x ∷ xs) all back)

-- ---- taints

is_some_key : (key : List ℕ) → 1 ≤ length key → is_key key ≡ true
is_some_key [] some = absurd (omega arith)
is_some_key (b ∷ bs) some = refl

key_back : (p : List Step) (d : Data) (key : List ℕ) → get (codes "key") d ≡ Some (string key) → 1 ≤ length key → length key ≤ key_most → taint_key_at p d ≡ Ok key
key_back p d key h some short = rw h (judged_right _ key_most (is_key key) key short (is_some_key key some))

value_back : (p : List Step) (d : Data) (value : List ℕ) → get (codes "value") d ≡ text_if value → length value ≤ value_most → taint_value_at p d ≡ Ok value
value_back p d [] h short = rw h refl
value_back p d (b ∷ bs) h short = rw (h, not_longer value_most (length (b ∷ bs)) short) refl

effect_back : (p : List Step) (d : Data) (effect : TaintEffect) → get (codes "effect") d ≡ Some (string (effect_text effect)) → effect_at p d ≡ Ok effect
effect_back p d NoSchedule h = rw h refl
effect_back p d NoExecute h = rw h refl

abbrev taint_members : Taint → List (List ℕ × Option Data)
taint_members t =
    (codes "effect", Some (string (effect_text t.effect))) ∷
    (codes "key", Some (string t.key)) ∷
    (codes "value", text_if t.value) ∷ []

taint_from : (p : List Step) (ms : Members) (t : Taint) → get (codes "key") (object ms) ≡ Some (string t.key) → get (codes "value") (object ms) ≡ text_if t.value → get (codes "effect") (object ms) ≡ Some (string (effect_text t.effect)) → TaintKept t → taint_at p (object ms) ≡ Ok t
taint_from p ms t hk hv he kept =
    rw (key_back p (object ms) t.key hk kept.some_key kept.short_key, value_back p (object ms) t.value hv kept.short_value, effect_back p (object ms) t.effect he) refl

taint_back : (p : List Step) (t : Taint) → TaintKept t → taint_at p (taint_json t) ≡ Ok t
taint_back p t kept =
    let ms = taint_members t in
    taint_from p (members_of ms) t (found (codes "key") ms) (found (codes "value") ms ∙ or_none _) (found (codes "effect") ms) kept

pub taints_back : (path : List Step) (d : Data) (ts : List Taint) → get (codes "taints") d ≡ taints_if ts → TaintsKept ts → taints_at path d ≡ Ok ts
taints_back path d ts h kept =
    kept_found TaintKept taints_most taint_at taint_json path (codes "taints") d ts h kept.few kept.each_kept taint_back

-- ---- tolerations

text_back : (p : List Step) (name : List ℕ) (d : Data) (text : List ℕ) → get name d ≡ text_if text → text_or_empty_at p name d ≡ Ok text
text_back p name d [] h = rw h refl
text_back p name d (b ∷ bs) h = rw h refl

operator_back : (p : List Step) (d : Data) (o : TolerationOperator) → get (codes "operator") d ≡ Some (string (operator_name o)) → get (codes "value") d ≡ value_if o → operator_at p d ≡ Ok o
operator_back p d (Equal value) ho hv = rw (ho, text_back p (codes "value") d value hv) refl
operator_back p d Exists ho hv = rw ho refl

optional_effect_back : (p : List Step) (d : Data) (effect : Option TaintEffect) → get (codes "effect") d ≡ effect_if effect → optional_effect_at p d ≡ Ok effect
optional_effect_back p d None h = rw h refl
optional_effect_back p d (Some NoSchedule) h = rw h refl
optional_effect_back p d (Some NoExecute) h = rw h refl

has_key : (o : TolerationOperator) (key : List ℕ) → (key ≡ [] → o ≡ Exists) → lacks_key o key ≡ false
has_key (Equal value) [] keyless =
    let no_value : Equal value ≡ Exists = keyless refl in
    cc
has_key (Equal value) (b ∷ bs) keyless = refl
has_key Exists key keyless = refl

abbrev toleration_members : Toleration → List (List ℕ × Option Data)
toleration_members k =
    (codes "effect", effect_if k.effect) ∷
    (codes "key", text_if k.key) ∷
    (codes "operator", Some (string (operator_name k.operator))) ∷
    (codes "value", value_if k.operator) ∷ []

toleration_from : (p : List Step) (ms : Members) (k : Toleration) → get (codes "key") (object ms) ≡ text_if k.key → get (codes "operator") (object ms) ≡ Some (string (operator_name k.operator)) → get (codes "value") (object ms) ≡ value_if k.operator → get (codes "effect") (object ms) ≡ effect_if k.effect
    → TolerationKept k → toleration_at p (object ms) ≡ Ok k
toleration_from p ms k hk ho hv he kept =
    rw (text_back p (codes "key") (object ms) k.key hk, operator_back p (object ms) k.operator ho hv, optional_effect_back p (object ms) k.effect he, has_key k.operator k.key kept.keyless) refl

toleration_back : (p : List Step) (k : Toleration) → TolerationKept k → toleration_at p (toleration_json k) ≡ Ok k
toleration_back p k kept =
    let ms = toleration_members k in
    toleration_from p (members_of ms) k (found (codes "key") ms ∙ or_none _) (found (codes "operator") ms) (found (codes "value") ms ∙ or_none _) (found (codes "effect") ms ∙ or_none _) kept

pub tolerations_back : (path : List Step) (d : Data) (ks : List Toleration) → get (codes "tolerations") d ≡ tolerations_if ks → TolerationsKept ks → tolerations_at path d ≡ Ok ks
tolerations_back path d ks h kept =
    kept_found TolerationKept tolerations_most toleration_at toleration_json path (codes "tolerations") d ks h kept.few kept.each_kept toleration_back
