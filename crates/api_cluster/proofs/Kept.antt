-- What is read of classes and pods keeps their limits, if metadata and lists keep theirs.
use Rattle.std.proofs.Common.{◌≡◌, ℕ, ◌≤◌, List, [], ◌∷◌, length, Option, Some, None, Result, Ok, Err, codes, lit≤, refl, subst}
use Rattle.serde_json.specs.Data.{Data}
use Rattle.object_fields.specs.Fields.{object_at, optional_at, ◌>>=◌}
use Rattle.object_fields.specs.Limits.{MetaKept}
use Rattle.object_fields.specs.Lists.{each_at}
use Rattle.object_fields.specs.Meta.{meta_at}
use Rattle.object_fields.specs.Selectors.{selector_at, selectors_most}
use Rattle.object_fields.specs.declared.error.FieldError.{FieldError}
use Rattle.object_fields.specs.declared.meta.ObjectMeta.{ObjectMeta}
use Rattle.object_fields.specs.declared.meta.Scope.{Scope}
use Rattle.object_fields.specs.declared.meta.Scope.TheVariants.{Namespaced, Cluster}
use Rattle.object_fields.specs.declared.path.Step.{Step}
use Rattle.object_fields.specs.declared.path.Step.TheVariants.{Member}
use Rattle.api_cluster.specs.Limits.{ClassKept, PodKept, claims_most}
use Rattle.api_cluster.specs.declared.types.DeviceClass.{DeviceClass}
use Rattle.api_cluster.specs.declared.types.Pod.{Pod}
use Rattle.api_cluster.specs.declared.types.PodResourceClaim.{PodResourceClaim}
use Rattle.api_cluster.specs.Classes as class
use Rattle.api_cluster.specs.Pods as pod

-- a result of a reading
abbrev given : {A : Type 0} → A → Result A FieldError
given x = Ok x

-- both readings returned a value
then_ok : {A B : Type 0} (x : Result A FieldError) (f : A → Result B FieldError) (b : B) → x >>= f ≡ Ok b → (a : A) × ((x ≡ Ok a) × (f a ≡ Ok b))
then_ok (Ok a) f b h = (a, (refl, h))
then_ok (Err e) f b h = cc

-- metadata keeps its rules, and a list is as long as it may be
abbrev pub MetaLaw : Type 0
MetaLaw = (scope : Scope) (d : Data) (meta : ObjectMeta) → meta_at scope d ≡ Ok meta → MetaKept scope meta

abbrev pub ListLaw : Type 0 → Type 0
ListLaw A = (most : ℕ) (reading : List Step → Data → Result A FieldError) (path : List Step) (name : List ℕ) (d : Data) (xs : List A) → each_at most reading path name d ≡ Ok xs → length xs ≤ most

-- ---- classes

selectors_few : ListLaw (List ℕ) → (o : Option Data) (xs : List (List ℕ)) → class.selectors_in o ≡ Ok xs → length xs ≤ selectors_most
selectors_few law None xs h =
    let k : given {A = List (List ℕ)} [] ≡ Ok xs = h in
    let e : [] ≡ xs = cc in
    subst (λ (l : List (List ℕ)). length l ≤ selectors_most) e (lit≤ tt)
selectors_few law (Some spec) xs h = law selectors_most selector_at (Member (codes "spec") ∷ []) (codes "selectors") spec xs h

pub class_kept : MetaLaw → ListLaw (List ℕ) → (d : Data) (c : DeviceClass) → class.class_of d ≡ Ok c → ClassKept c
class_kept law few d c h =
    let s = then_ok (meta_at Cluster d) (λ meta. class.spec_at d >>= λ selectors. Ok (record { name = meta.key.name; version = meta.version; selectors = selectors })) c h in
    let t = then_ok (class.spec_at d) (λ selectors. Ok (record { name = s.0.key.name; version = s.0.version; selectors = selectors })) c s.1.1 in
    let u = then_ok (optional_at object_at [] (codes "spec") d) class.selectors_in t.0 t.1.0 in
    let made : DeviceClass = record { name = s.0.key.name; version = s.0.version; selectors = t.0 } in
    let e : given made ≡ Ok c = t.1.1 in
    let is : made ≡ c = cc in
    let m = law Cluster d s.0 s.1.0 in
    let kept : ClassKept made = record { name = m.key.name; version = m.version; selectors = selectors_few few u.0 t.0 u.1.1 } in
    subst ClassKept is kept

-- ---- pods

claims_few : ListLaw PodResourceClaim → (o : Option Data) (xs : List PodResourceClaim) → pod.members_in o ≡ Ok xs → length xs ≤ claims_most
claims_few law None xs h =
    let k : given {A = List PodResourceClaim} [] ≡ Ok xs = h in
    let e : [] ≡ xs = cc in
    subst (λ (l : List PodResourceClaim). length l ≤ claims_most) e (lit≤ tt)
claims_few law (Some spec) xs h =
    let path : List Step = Member (codes "spec") ∷ [] in
    let s = then_ok (pod.node_at path spec) (λ unset. pod.claims_at path spec) xs h in
    law claims_most pod.entry_at path (codes "resourceClaims") spec xs s.1.1

pub pod_kept : MetaLaw → ListLaw PodResourceClaim → (d : Data) (p : Pod) → pod.pod_of d ≡ Ok p → PodKept p
pod_kept law few d p h =
    let s = then_ok (meta_at Namespaced d) (λ meta. pod.spec_at d >>= λ claims. Ok (record { key = meta.key; version = meta.version; claims = claims })) p h in
    let t = then_ok (pod.spec_at d) (λ claims. Ok (record { key = s.0.key; version = s.0.version; claims = claims })) p s.1.1 in
    let u = then_ok (optional_at object_at [] (codes "spec") d) pod.members_in t.0 t.1.0 in
    let made : Pod = record { key = s.0.key; version = s.0.version; claims = t.0 } in
    let e : given made ≡ Ok p = t.1.1 in
    let is : made ≡ p = cc in
    let m = law Namespaced d s.0 s.1.0 in
    let kept : PodKept made = record { key = m.key; version = m.version; claims = claims_few few u.0 t.0 u.1.1 } in
    subst PodKept is kept
