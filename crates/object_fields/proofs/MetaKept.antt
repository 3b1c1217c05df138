-- The metadata that is read keeps its rules.
use Rattle.std.proofs.Common.{◌≡◌, ℕ, ◌-◌, ◌^◌, ◌<◌, ◌≤◌, ◌&&◌, Bool, true, false, List, [], ◌∷◌, ◌++◌, length, IfSome, Option, Some, None, Ok, Err, arith, codes, if◌then◌else◌, nat_lt, refl, subst, unwrap_or}
use Rattle.std.proofs.lemmas.Bool.{ltb-false, ltb-true}
use Rattle.std.specs.Str.Parse.{digits_value}
use Rattle.serde_json.specs.Data.{Data}
use Rattle.object_fields.specs.Fields.{dns_label_at, dns_subdomain_at, error_at, field_error, member_of, name_at, name_in, object_at, optional_at, some_or, text_at, ◌>>=◌}
use Rattle.object_fields.specs.Limits.{KeyKept, MetaKept, NameKept, NamespaceKept, VersionKept}
use Rattle.object_fields.specs.Meta.{is_plain_decimal, key_at, labels_at, members_at, meta_at, name_most, namespace_at, version_at, version_in, version_of, version_text}
use Rattle.object_fields.specs.Names.{is_dns_label, is_dns_name, label_most}
use Rattle.object_fields.specs.declared.error.FieldError.{FieldError}
use Rattle.object_fields.specs.declared.key.Key.{Key}
use Rattle.object_fields.specs.declared.kind.FieldErrorKind.TheVariants.{BadName, TooLong, WrongType}
use Rattle.object_fields.specs.declared.meta.ObjectMeta.{ObjectMeta}
use Rattle.object_fields.specs.declared.meta.Scope.{Scope}
use Rattle.object_fields.specs.declared.meta.Scope.TheVariants.{Namespaced, Cluster}
use Rattle.object_fields.specs.declared.path.Step.{Step}
use Rattle.object_fields.specs.declared.path.Step.TheVariants.{Member}
use Rattle.object_fields.proofs.Inverse.{given, if_there_some, then_ok}

-- ---- the name and the namespace

name_by : (long right : Bool) (e1 e2 : FieldError) (t a : List ℕ) → (if long then Err e1 else (if right then Ok t else Err e2)) ≡ Ok a → (long ≡ false) × ((right ≡ true) × (t ≡ a))
name_by true right e1 e2 t a h = cc
name_by false true e1 e2 t a h = (refl, (refl, cc))
name_by false false e1 e2 t a h = cc

-- a name is as long as it may be, and passes its test
name_kept : (most : ℕ) (test : List ℕ → Bool) (path : List Step) (field : List ℕ) (d : Data) (name : List ℕ) → name_at most test path field d ≡ Ok name → (length name ≤ most) × (test name ≡ true)
name_kept most test path field d name h =
    let s = then_ok (text_at path field d) (name_in (path ++ Member field ∷ []) most test) name h in
    let t = name_by (nat_lt most (length s.0)) (test s.0) (error_at (path ++ Member field ∷ []) TooLong) (error_at (path ++ Member field ∷ []) BadName) s.0 name s.1.1 in
    let P : List ℕ → Type 0 = λ x. (length x ≤ most) × (test x ≡ true) in
    subst P t.1.1 (ltb-false most (length s.0) t.0, t.1.0)

namespace_by : (o : Option (List ℕ)) → IfSome o (λ n. is_dns_label n ≡ true) → is_dns_label (unwrap_or o (codes "default")) ≡ true
namespace_by None h = refl
namespace_by (Some n) h = h

namespace_kept : (scope : Scope) (path : List Step) (d : Data) (namespace : List ℕ) → namespace_at scope path d ≡ Ok namespace → NamespaceKept scope namespace
namespace_kept Namespaced path d namespace h =
    let s = then_ok (optional_at dns_label_at path (codes "namespace") d) (λ n. Ok (unwrap_or n (codes "default"))) namespace h in
    let o = if_there_some (λ n. is_dns_label n ≡ true) (member_of (codes "namespace") d) (dns_label_at path (codes "namespace") d) (λ n e. (name_kept label_most is_dns_label path (codes "namespace") d n e).1) s.0 s.1.0 in
    let e : given (unwrap_or s.0 (codes "default")) ≡ Ok namespace = s.1.1 in
    let is : unwrap_or s.0 (codes "default") ≡ namespace = cc in
    subst (λ (n : List ℕ). is_dns_label n ≡ true) is (namespace_by s.0 o)
namespace_kept Cluster path d namespace h =
    let e : given {A = List ℕ} [] ≡ Ok namespace = h in cc

key_kept : (scope : Scope) (path : List Step) (d : Data) (key : Key) → key_at scope path d ≡ Ok key → KeyKept scope key
key_kept scope path d key h =
    let s = then_ok (dns_subdomain_at name_most path (codes "name") d) (λ name. namespace_at scope path d >>= λ n. Ok (record { namespace = n; name = name })) key h in
    let t = then_ok (namespace_at scope path d) (λ n. Ok (record { namespace = n; name = s.0 })) key s.1.1 in
    let made : Key = record { namespace = t.0; name = s.0 } in
    let e : given made ≡ Ok key = t.1.1 in
    let is : made ≡ key = cc in
    let n = name_kept name_most is_dns_name path (codes "name") d s.0 s.1.0 in
    let name : NameKept s.0 = record { size = n.0; form = n.1 } in
    let kept : KeyKept scope made = record { name = name; namespace = namespace_kept scope path d t.0 t.1.0 } in
    subst (KeyKept scope) is kept

-- ---- the version

version_by : (plain small : Bool) (m n : ℕ) (e : FieldError) → nat_lt m (2 ^ 64) ≡ small → some_or e (if plain && small then Some m else None) ≡ Ok n → n ≤ 2 ^ 64 - 1
version_by true true m n e b h =
    let is : m ≡ n = cc in
    let k : m < 2 ^ 64 = ltb-true m (2 ^ 64) b in
    omega arith
version_by true false m n e b h = cc
version_by false small m n e b h = cc

text_kept : (path : List Step) (s : List ℕ) (o : Option ℕ) → version_text path s ≡ Ok o → VersionKept o
text_kept path [] o h =
    let k : given {A = Option ℕ} None ≡ Ok o = h in
    let e : None ≡ o = cc in subst VersionKept e tt
text_kept path (b ∷ bs) o h =
    let t = then_ok (some_or (field_error path (codes "resourceVersion") WrongType) (version_of (b ∷ bs))) (λ n. Ok (Some n)) o h in
    let k : given (Some t.0) ≡ Ok o = t.1.1 in
    let e : Some t.0 ≡ o = cc in
    let few = version_by (is_plain_decimal (b ∷ bs)) (nat_lt (digits_value 10 (b ∷ bs)) (2 ^ 64)) (digits_value 10 (b ∷ bs)) t.0 (field_error path (codes "resourceVersion") WrongType) refl t.1.0 in
    subst VersionKept e few

version_in_kept : (path : List Step) (s : Option (List ℕ)) (o : Option ℕ) → version_in path s ≡ Ok o → VersionKept o
version_in_kept path None o h =
    let k : given {A = Option ℕ} None ≡ Ok o = h in
    let e : None ≡ o = cc in subst VersionKept e tt
version_in_kept path (Some s) o h = text_kept path s o h

version_kept : (path : List Step) (d : Data) (o : Option ℕ) → version_at path d ≡ Ok o → VersionKept o
version_kept path d o h =
    let s = then_ok (optional_at text_at path (codes "resourceVersion") d) (version_in path) o h in
    version_in_kept path s.0 o s.1.1

-- ---- the metadata

members_kept : (scope : Scope) (path : List Step) (d : Data) (meta : ObjectMeta) → members_at scope path d ≡ Ok meta → MetaKept scope meta
members_kept scope path d meta h =
    let s = then_ok (key_at scope path d) (λ key. labels_at path d >>= λ labels. version_at path d >>= λ version. Ok (record { key = key; labels = labels; version = version })) meta h in
    let t = then_ok (labels_at path d) (λ labels. version_at path d >>= λ version. Ok (record { key = s.0; labels = labels; version = version })) meta s.1.1 in
    let u = then_ok (version_at path d) (λ version. Ok (record { key = s.0; labels = t.0; version = version })) meta t.1.1 in
    let made : ObjectMeta = record { key = s.0; labels = t.0; version = u.0 } in
    let e : given made ≡ Ok meta = u.1.1 in
    let is : made ≡ meta = cc in
    let kept : MetaKept scope made = record { key = key_kept scope path d s.0 s.1.0; version = version_kept path d u.0 u.1.0 } in
    subst (MetaKept scope) is kept

pub meta_kept : (scope : Scope) (d : Data) (meta : ObjectMeta) → meta_at scope d ≡ Ok meta → MetaKept scope meta
meta_kept scope d meta h =
    let s = then_ok (object_at [] (codes "metadata") d) (members_at scope (Member (codes "metadata") ∷ [])) meta h in
    members_kept scope (Member (codes "metadata") ∷ []) s.0 meta s.1.1
