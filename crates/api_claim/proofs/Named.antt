-- What is read has the requests of the document, with their names in order, each of them new.
use Rattle.std.proofs.Common.{◌≡◌, ◌∙◌, ◌⊎◌, inl, inr, ℕ, Bool, true, false, List, [], ◌∷◌, ◌++◌, length, map, Option, Some, None, Result, Ok, Err, ap, arith, codes, nat_lt, not, option_and_then, refl, subst, sym}
use Rattle.std.proofs.Math.Logic.{⊎_elim}
use Rattle.std.proofs.lemmas.Slice.Zip.{firsts-zip}
use Rattle.std.specs.List.{zip}
use Rattle.serde_json.specs.Data.{Data, null, boolean, number, string, array, object, Items, no_items, item, Members}
use Rattle.serde_json.specs.Find.{as_array, as_object}
use Rattle.object_fields.specs.Fields.{dns_label_at, error_at, field_at, field_error, items_length, list_at, member_of, object_at, object_value, short_list_at, some_or, table_at, unless, ◌>>=◌}
use Rattle.object_fields.specs.Lists.{each_beside, items_or_none}
use Rattle.object_fields.specs.Meta.{meta_at}
use Rattle.object_fields.specs.NewNames.{IsNewNameReading, IsTakenName, doubled_at, is_among, label_of, named, names_in}
use Rattle.object_fields.specs.declared.error.FieldError.{FieldError}
use Rattle.object_fields.specs.declared.kind.FieldErrorKind.TheVariants.{Doubled, Missing, NotOne, TooMany, WrongType}
use Rattle.object_fields.specs.declared.meta.Scope.TheVariants.{Namespaced}
use Rattle.object_fields.specs.declared.path.Step.{Step}
use Rattle.object_fields.specs.declared.path.Step.TheVariants.{Member}
use Rattle.api_claim.specs.Claims.{claim_of, constraints_over, devices_at, devices_in, devices_with}
use Rattle.api_claim.specs.Documents.{listed_requests, request_label}
use Rattle.api_claim.specs.Lists.{new_name_at, some_items, some_items_at}
use Rattle.api_claim.specs.Requests.{has_one_kind, kinds_in, request_name_at, request_of, requests_at, requests_in, requests_most, subrequest_name_at}
use Rattle.api_claim.specs.declared.claim.Devices.{Devices}
use Rattle.api_claim.specs.declared.types.DeviceRequest.{DeviceRequest}
use Rattle.api_claim.specs.declared.types.RequestKind.{RequestKind}
use Rattle.api_claim.specs.declared.types.ResourceClaim.{ResourceClaim}
use Rattle.api_claim.proofs.Inverse.{given, map_map, then_ok, unless_ok}
use Rattle.api_claim.proofs.Kept.{kinds_length, names_from, no_names, request_name}

-- ---- what the labels of items say, a law of the readers of fields

pub record Labels : Type 0 where
  pub name : (path : List Step) (d : Data) (name : List ℕ) → dns_label_at path (codes "name") d ≡ Ok name → named d ≡ Some name
  pub object_ : (path : List Step) (d v : Data) → object_value path d ≡ Ok v → v ≡ d
  pub label_once : (path : List Step) (d : Data) (e : FieldError) → dns_label_at path (codes "name") d ≡ Err e → e.kind ≡ Doubled → ⊥
  pub object_once : (path : List Step) (d : Data) (e : FieldError) → object_value path d ≡ Err e → e.kind ≡ Doubled → ⊥

either_err : {A B : Type 0} (x : Result A FieldError) (f : A → Result B FieldError) (e : FieldError) → x >>= f ≡ Err e → (x ≡ Err e) ⊎ ((a : A) × ((x ≡ Ok a) × (f a ≡ Err e)))
either_err (Ok a) f e h = inr (a, (refl, h))
either_err (Err g) f e h = let same : g ≡ e = cc in inl (ap Err same)

refused_as : {A : Type 0} (g e : FieldError) (b : Bool) (x : A) → unless g b x ≡ Err e → (b ≡ true) × (e ≡ g)
refused_as g e true x h = let same : g ≡ e = cc in (refl, sym same)
refused_as g e false x h = absurd (let no_value : ⊥ = cc in no_value)

one_after : {A B C : Type 0} (x : Result A FieldError) (f : A → Result B FieldError) (g : B → Result C FieldError) → (x >>= f) >>= g ≡ x >>= (λ a. f a >>= g)
one_after (Ok a) f g = refl
one_after (Err e) f g = refl

-- ---- a name that is new

new_given : Labels → (path : List Step) (before : List (List ℕ)) (d : Data) (name : List ℕ) → new_name_at path before d ≡ Ok name → named d ≡ Some name
new_given law path before d name h =
    let s = then_ok (dns_label_at path (codes "name") d) (λ n. unless (doubled_at path) (is_among n before) n) name h in
    let u = unless_ok (doubled_at path) (is_among s.0 before) s.0 name s.1.1 in
    law.name path d s.0 s.1.0 ∙ ap Some u.1

new_only : Labels → (path : List Step) (before : List (List ℕ)) (d : Data) (e : FieldError) → new_name_at path before d ≡ Err e → e.kind ≡ Doubled → IsTakenName path before d e
new_only law path before d e h k =
    ⊎_elim (λ x. absurd (law.label_once path d e x k))
    (λ y.
    let r = refused_as (doubled_at path) e (is_among y.0 before) y.0 y.1.1 in
    let made : IsTakenName path before d e = record { name = y.0; is_named = law.name path d y.0 y.1.0; stands = r.0; is = r.1 } in
    made)
    (either_err (dns_label_at path (codes "name") d) (λ n. unless (doubled_at path) (is_among n before) n) e h)

-- ---- subrequests

pub subrequest_reading : Labels → IsNewNameReading label_of subrequest_name_at
subrequest_reading law = record {
  taken = λ path before d name h.
      sym (one_after (object_value path d) (dns_label_at path (codes "name")) (λ n. unless (doubled_at path) (is_among n before) n)) ∙ ap (λ x. x >>= λ n. unless (doubled_at path) (is_among n before) n) h;
  given = λ path before d name h.
      let s = then_ok (object_value path d) (new_name_at path before) name h in
      subst (λ v. named v ≡ Some name) (law.object_ path d s.0 s.1.0) (new_given law path before s.0 name s.1.1);
  only = λ path before d e h k.
      ⊎_elim (λ x. absurd (law.object_once path d e x k))
      (λ y. subst (λ v. IsTakenName path before v e) (law.object_ path d y.0 y.1.0) (new_only law path before y.0 e y.1.1 k))
      (either_err (object_value path d) (new_name_at path before) e h);
}

-- ---- requests

both_tests : (a b : Bool) (e g : FieldError) (n : List ℕ) → b ≡ false → unless e a n >>= (λ m. unless g b m) ≡ unless e a n
both_tests true b e g n h = refl
both_tests false b e g n h = ap (λ x. unless g x n) h

pub request_reading : Labels → IsNewNameReading request_label request_name_at
request_reading law = record {
  taken = λ path before d name h.
      let s = then_ok (object_value path d) (λ request. dns_label_at path (codes "name") request >>= λ n. unless (error_at path NotOne) (not (has_one_kind request)) n) name h in
      let t = then_ok (dns_label_at path (codes "name") s.0) (λ n. unless (error_at path NotOne) (not (has_one_kind s.0)) n) name s.1.1 in
      let u = unless_ok (error_at path NotOne) (not (has_one_kind s.0)) t.0 name t.1.1 in
      let one : new_name_at path before s.0 ≡ unless (doubled_at path) (is_among t.0 before) t.0 = ap (λ x. x >>= λ n. unless (doubled_at path) (is_among n before) n) t.1.0 in
      ap (λ x. x >>= λ request. new_name_at path before request >>= λ n. unless (error_at path NotOne) (not (has_one_kind request)) n) s.1.0 ∙
      ap (λ x. x >>= λ n. unless (error_at path NotOne) (not (has_one_kind s.0)) n) one ∙
      both_tests (is_among t.0 before) (not (has_one_kind s.0)) (doubled_at path) (error_at path NotOne) t.0 u.0 ∙
      ap (λ n. unless (doubled_at path) (is_among n before) n) u.1;
  given = λ path before d name h.
      let s = then_ok (object_value path d) (λ request. new_name_at path before request >>= λ n. unless (error_at path NotOne) (not (has_one_kind request)) n) name h in
      let t = then_ok (new_name_at path before s.0) (λ n. unless (error_at path NotOne) (not (has_one_kind s.0)) n) name s.1.1 in
      let u = unless_ok (error_at path NotOne) (not (has_one_kind s.0)) t.0 name t.1.1 in
      subst (λ v. named v ≡ Some name) (law.object_ path d s.0 s.1.0) (new_given law path before s.0 t.0 t.1.0 ∙ ap Some u.1);
  only = λ path before d e h k.
      ⊎_elim (λ x. absurd (law.object_once path d e x k))
      (λ y.
      subst (λ v. IsTakenName path before v e) (law.object_ path d y.0 y.1.0)
      (⊎_elim (λ z. new_only law path before y.0 e z k)
      (λ w.
      let r = refused_as (error_at path NotOne) e (not (has_one_kind y.0)) w.0 w.1.1 in
      absurd (let other : NotOne ≡ Doubled = ap (λ (x : FieldError). x.kind) (sym r.1) ∙ k in let no_value : ⊥ = cc in no_value))
      (either_err (new_name_at path before y.0) (λ n. unless (error_at path NotOne) (not (has_one_kind y.0)) n) e y.1.1)))
      (either_err (object_value path d) (λ request. new_name_at path before request >>= λ n. unless (error_at path NotOne) (not (has_one_kind request)) n) e h);
}

-- ---- a claim

-- of names that were read one after another
abbrev pub GivenNames : Type 0
GivenNames = (path : List Step) (ds : Items) (names : List (List ℕ)) → each_beside request_name_at path ds ≡ Ok names → map Some names ≡ names_in ds

abbrev pub with_some : DeviceRequest → Option (List ℕ)
with_some r = Some r.name

requests_names : GivenNames → (path : List Step) (ds : Items) (requests : List DeviceRequest) → requests_in path ds ≡ Ok requests → map with_some requests ≡ names_in ds
requests_names law path ds requests h =
    let s = then_ok (each_beside request_name_at path ds) (λ names. kinds_in path ds >>= λ kinds. Ok (map request_of (zip names kinds))) requests h in
    let t = then_ok (kinds_in path ds) (λ kinds. Ok (map request_of (zip s.0 kinds))) requests s.1.1 in
    let made : List DeviceRequest = map request_of (zip s.0 t.0) in
    let e : given made ≡ Ok requests = t.1.1 in
    let is : made ≡ requests = cc in
    let n = names_from request_name_at request_name path 0 [] s.0 ds no_names s.1.0 in
    let l : length s.0 ≡ items_length ds = omega (arith, n.1) in
    let k = kinds_length path ds t.0 t.1.0 in
    let firsts : map (λ (r : DeviceRequest). r.name) made ≡ s.0 = map_map request_of (λ (r : DeviceRequest). r.name) (zip s.0 t.0) ∙ firsts-zip s.0 t.0 (k ∙ sym l) in
    let some : map with_some made ≡ map Some (map (λ (r : DeviceRequest). r.name) made) = sym (map_map (λ (r : DeviceRequest). r.name) Some made) in
    subst (λ rs. map with_some rs ≡ names_in ds) is (some ∙ ap (map Some) firsts ∙ law path ds s.0 s.1.0)

some_is : {A : Type 0} (g : FieldError) (o : Option A) (x : A) → some_or g o ≡ Ok x → o ≡ Some x
some_is g None x h = cc
some_is g (Some y) x h = cc

as_itself : (w : Data) (ms : Members) → as_object w ≡ Some ms → w ≡ object ms
as_itself null ms h = absurd (let no_value : ⊥ = cc in no_value)
as_itself (boolean b) ms h = absurd (let no_value : ⊥ = cc in no_value)
as_itself (number n) ms h = absurd (let no_value : ⊥ = cc in no_value)
as_itself (string s) ms h = absurd (let no_value : ⊥ = cc in no_value)
as_itself (array ds) ms h = absurd (let no_value : ⊥ = cc in no_value)
as_itself (object xs) ms h = let same : xs ≡ ms = cc in ap object same

-- what is read as an object is there
stands : (path : List Step) (name : List ℕ) (d v : Data) → object_at path name d ≡ Ok v → member_of name d ≡ Some v
stands path name d v h =
    let s = then_ok (table_at path name d) (λ ms. Ok (object ms)) v h in
    let t = then_ok (field_at path name d) (λ w. some_or (field_error path name WrongType) (as_object w)) s.0 s.1.0 in
    let e : given (object s.0) ≡ Ok v = s.1.1 in
    let is : object s.0 ≡ v = cc in
    some_is (field_error path name Missing) (member_of name d) t.0 t.1.0 ∙ ap Some (as_itself t.0 s.0 (some_is (field_error path name WrongType) (as_object t.0) s.0 t.1.1) ∙ is)

some_same : (e : FieldError) (es ds : Items) → some_items e es ≡ Ok ds → es ≡ ds
some_same e no_items ds h = cc
some_same e (item d es) ds h = cc

-- the items of the list that is read
items_are : (most : ℕ) (path : List Step) (name : List ℕ) (d : Data) (ds : Items) → some_items_at most path name d ≡ Ok ds → items_or_none (option_and_then as_array (member_of name d)) ≡ ds
items_are most path name d ds h =
    let s = then_ok (short_list_at most path name d) (some_items (field_error path name Missing)) ds h in
    let t = then_ok (list_at path name d) (λ es. unless (field_error path name TooMany) (nat_lt most (items_length es)) es) s.0 s.1.0 in
    let u = unless_ok (field_error path name TooMany) (nat_lt most (items_length t.0)) t.0 s.0 t.1.1 in
    let v = then_ok (field_at path name d) (λ w. some_or (field_error path name WrongType) (as_array w)) t.0 t.1.0 in
    let there : member_of name d ≡ Some v.0 = some_is (field_error path name Missing) (member_of name d) v.0 v.1.0 in
    let array_is : as_array v.0 ≡ Some t.0 = some_is (field_error path name WrongType) (as_array v.0) t.0 v.1.1 in
    ap (λ o. items_or_none (option_and_then as_array o)) there ∙ ap items_or_none array_is ∙ u.1 ∙ some_same (field_error path name Missing) s.0 ds s.1.1

pub claim_names : GivenNames → (d : Data) (claim : ResourceClaim) → claim_of d ≡ Ok claim → map with_some claim.requests ≡ names_in (listed_requests d)
claim_names law d claim h =
    let top : List Step = Member (codes "spec") ∷ [] in
    let path : List Step = Member (codes "spec") ∷ Member (codes "devices") ∷ [] in
    let s = then_ok (meta_at Namespaced d) (λ meta. devices_at d >>= λ devices. Ok (record { key = meta.key; version = meta.version; requests = devices.requests; constraints = devices.constraints })) claim h in
    let t = then_ok (devices_at d) (λ devices. Ok (record { key = s.0.key; version = s.0.version; requests = devices.requests; constraints = devices.constraints })) claim s.1.1 in
    let made : ResourceClaim = record { key = s.0.key; version = s.0.version; requests = t.0.requests; constraints = t.0.constraints } in
    let e : given made ≡ Ok claim = t.1.1 in
    let is : made ≡ claim = cc in
    let u = then_ok (object_at [] (codes "spec") d) (λ spec. object_at top (codes "devices") spec >>= λ devices. devices_in path devices) t.0 t.1.0 in
    let v = then_ok (object_at top (codes "devices") u.0) (λ devices. devices_in path devices) t.0 u.1.1 in
    let w = then_ok (requests_at path v.0) (λ requests. devices_with requests path v.0) t.0 v.1.1 in
    let x = then_ok (constraints_over w.0 path v.0) (λ constraints. Ok (record { requests = w.0; constraints = constraints })) t.0 w.1.1 in
    let both : Devices = record { requests = w.0; constraints = x.0 } in
    let f : given both ≡ Ok t.0 = x.1.1 in
    let same : both ≡ t.0 = cc in
    let y = then_ok (some_items_at requests_most path (codes "requests") v.0) (requests_in (path ++ Member (codes "requests") ∷ [])) w.0 w.1.0 in
    let names = requests_names law (path ++ Member (codes "requests") ∷ []) y.0 w.0 y.1.1 in
    let spec : member_of (codes "spec") d ≡ Some u.0 = stands [] (codes "spec") d u.0 u.1.0 in
    let devices : member_of (codes "devices") u.0 ≡ Some v.0 = stands top (codes "devices") u.0 v.0 v.1.0 in
    let list : listed_requests d ≡ y.0 =
    ap (λ o. items_or_none (option_and_then as_array (option_and_then (member_of (codes "requests")) (option_and_then (member_of (codes "devices")) o)))) spec ∙
    ap (λ o. items_or_none (option_and_then as_array (option_and_then (member_of (codes "requests")) o))) devices ∙
    items_are requests_most path (codes "requests") v.0 y.0 y.1.0 in
    subst (λ (c : ResourceClaim). map with_some c.requests ≡ names_in (listed_requests d)) is
    (subst (λ (ds : Devices). map with_some ds.requests ≡ names_in (listed_requests d)) same (names ∙ ap names_in (sym list)))
