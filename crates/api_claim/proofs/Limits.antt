-- Each claim and each status that is read keeps its limits.
use Rattle.std.proofs.Common.{◌≡◌, ◌∙◌, ℕ, ◌≤◌, ◌&&◌, ◌||◌, Bool, true, false, List, [], ◌∷◌, ◌++◌, length, Option, Some, None, Ok, Err, ap, arith, codes, if◌then◌else◌, nat_lt, not, refl, subst, sym}
use Rattle.std.proofs.lemmas.Bool.{ltb-false}
use Rattle.serde_json.specs.Data.{Data}
use Rattle.object_fields.specs.Fields.{error_at, items_length, list_at, object_at, object_value, optional_at, text_at, text_value, unless, unset_at, ◌>>=◌}
use Rattle.object_fields.specs.Lists.{each, each_in}
use Rattle.object_fields.specs.Limits.{MetaKept}
use Rattle.object_fields.specs.Meta.{meta_at}
use Rattle.object_fields.specs.Names.{is_dns_name}
use Rattle.object_fields.specs.NewNames.{is_among}
use Rattle.object_fields.specs.Qualified.{IsFullName, cut_at, domain_and_id, domain_most, id_most, is_c_identifier}
use Rattle.object_fields.specs.declared.error.FieldError.{FieldError}
use Rattle.object_fields.specs.declared.kind.FieldErrorKind.TheVariants.{BadName, TooLong, Unknown}
use Rattle.object_fields.specs.declared.meta.ObjectMeta.{ObjectMeta}
use Rattle.object_fields.specs.declared.meta.Scope.{Scope}
use Rattle.object_fields.specs.declared.meta.Scope.TheVariants.{Namespaced}
use Rattle.object_fields.specs.declared.path.Step.{Step}
use Rattle.object_fields.specs.declared.path.Step.TheVariants.{Member}
use Rattle.object_fields.specs.declared.qualified.QualName.{QualName}
use Rattle.api_claim.specs.Claims.{claim_of, constraints_over, devices_at, devices_in, devices_with}
use Rattle.api_claim.specs.Constraints.{attribute_at, constraint_at, constraints_at, constraints_most, full_name_from, full_name_in, known_at, known_requests_at}
use Rattle.api_claim.specs.Limits.{ClaimKept, ConstraintKept, ConstraintsKept, RequestsKept, StatusKept}
use Rattle.api_claim.specs.Lists.{some_items_at}
use Rattle.api_claim.specs.Requests.{all_names, requests_at, requests_in, requests_most}
use Rattle.api_claim.specs.Status.{allocation_at, allocation_in, members_at, node_at, result_at, results_at, results_most, status_at, status_of}
use Rattle.api_claim.specs.declared.claim.Devices.{Devices}
use Rattle.api_claim.specs.declared.status.Allocation.{Allocation}
use Rattle.api_claim.specs.declared.types.ClaimStatus.{ClaimStatus}
use Rattle.api_claim.specs.declared.types.DeviceConstraint.{DeviceConstraint}
use Rattle.api_claim.specs.declared.types.DeviceRequest.{DeviceRequest}
use Rattle.api_claim.specs.declared.types.ResourceClaim.{ResourceClaim}
use Rattle.api_claim.specs.declared.types.StatusResult.{StatusResult}
use Rattle.api_claim.proofs.Inverse.{given, rows, rows_length, then_ok, unless_ok}
use Rattle.api_claim.proofs.Kept.{TolerationLaw, each_at_each, each_at_few, each_in_each, requests_kept, some_few}

-- ---- constraints

not_false : (b : Bool) → not b ≡ false → b ≡ true
not_false true h = refl
not_false false h = cc

known_kept : (names : List (List ℕ)) (path : List Step) (d : Data) (t : List ℕ) → known_at names path d ≡ Ok t → is_among t names ≡ true
known_kept names path d t h =
    let s = then_ok (text_value path d) (λ x. unless (error_at path Unknown) (not (is_among x names)) x) t h in
    let u = unless_ok (error_at path Unknown) (not (is_among s.0 names)) s.0 t s.1.1 in
    ap (λ x. is_among x names) (sym u.1) ∙ not_false (is_among s.0 names) u.0

or_false : (a b : Bool) → (a || b) ≡ false → (a ≡ false) × (b ≡ false)
or_false true b h = cc
or_false false b h = (refl, h)

and_true : (a b : Bool) → (a && b) ≡ true → (a ≡ true) × (b ≡ true)
and_true true b h = (refl, h)
and_true false b h = cc

name_by : (long right : Bool) (e1 e2 : FieldError) (x y : QualName) → (if long then Err e1 else (if right then Ok x else Err e2)) ≡ Ok y → (long ≡ false) × ((right ≡ true) × (x ≡ y))
name_by true right e1 e2 x y h = cc
name_by false true e1 e2 x y h = (refl, (refl, cc))
name_by false false e1 e2 x y h = cc

full_name : (path : List Step) (domain id : List ℕ) (name : QualName) → domain_and_id path domain id ≡ Ok name → IsFullName name
full_name path domain id name h =
    let made : QualName = record { domain = domain; id = id } in
    let t = name_by (nat_lt domain_most (length domain) || nat_lt id_most (length id)) (is_dns_name domain && is_c_identifier id) (error_at path TooLong) (error_at path BadName) made name h in
    let o = or_false (nat_lt domain_most (length domain)) (nat_lt id_most (length id)) t.0 in
    let a = and_true (is_dns_name domain) (is_c_identifier id) t.1.0 in
    let kept : IsFullName made = record { domain = ltb-false domain_most (length domain) o.0; domain_form = a.0; id = ltb-false id_most (length id) o.1; id_form = a.1 } in
    subst IsFullName t.1.1 kept

full_name_of : (path : List Step) (o : Option (List ℕ × List ℕ)) (name : QualName) → full_name_from path o ≡ Ok name → IsFullName name
full_name_of path None name h = cc
full_name_of path (Some p) name h = full_name path p.0 p.1 name h

constraint_kept : (names : List (List ℕ)) (path : List Step) (d : Data) (c : DeviceConstraint) → constraint_at names path d ≡ Ok c → ConstraintKept names c
constraint_kept names path d c h =
    let s = then_ok (object_value path d) (λ k. unset_at path (codes "distinctAttribute") k >>= λ u. known_requests_at names path k >>= λ requests. attribute_at path k >>= λ attribute. Ok (record { requests = requests; attribute = attribute })) c h in
    let t = then_ok (unset_at path (codes "distinctAttribute") s.0) (λ u. known_requests_at names path s.0 >>= λ requests. attribute_at path s.0 >>= λ attribute. Ok (record { requests = requests; attribute = attribute })) c s.1.1 in
    let u = then_ok (known_requests_at names path s.0) (λ requests. attribute_at path s.0 >>= λ attribute. Ok (record { requests = requests; attribute = attribute })) c t.1.1 in
    let v = then_ok (attribute_at path s.0) (λ attribute. Ok (record { requests = u.0; attribute = attribute })) c u.1.1 in
    let made : DeviceConstraint = record { requests = u.0; attribute = v.0 } in
    let e : given made ≡ Ok c = v.1.1 in
    let is : made ≡ c = cc in
    let r = then_ok (optional_at list_at path (codes "requests") s.0) (each_in (known_at names) (path ++ Member (codes "requests") ∷ [])) u.0 u.1.0 in
    let a = then_ok (text_at path (codes "matchAttribute") s.0) (full_name_in (path ++ Member (codes "matchAttribute") ∷ [])) v.0 v.1.0 in
    let kept : ConstraintKept names made = record {
      requests = each_in_each (λ t. is_among t names ≡ true) (known_at names) (known_kept names) (path ++ Member (codes "requests") ∷ []) r.0 u.0 r.1.1;
      attribute = full_name_of (path ++ Member (codes "matchAttribute") ∷ []) (cut_at 47 a.0) v.0 a.1.1;
    } in
    subst (ConstraintKept names) {x = made} is kept

constraints_kept : (names : List (List ℕ)) (path : List Step) (d : Data) (cs : List DeviceConstraint) → constraints_at names path d ≡ Ok cs → ConstraintsKept names cs
constraints_kept names path d cs h = record {
  few = each_at_few constraints_most (constraint_at names) path (codes "constraints") d cs h;
  each_known = each_at_each (ConstraintKept names) constraints_most (constraint_at names) (constraint_kept names) path (codes "constraints") d cs h;
}

-- metadata keeps its rules
abbrev pub MetaLaw : Type 0
MetaLaw = (scope : Scope) (d : Data) (meta : ObjectMeta) → meta_at scope d ≡ Ok meta → MetaKept scope meta

-- ---- a claim

requests_at_kept : TolerationLaw → (path : List Step) (d : Data) (requests : List DeviceRequest) → requests_at path d ≡ Ok requests → RequestsKept requests
requests_at_kept law path d requests h =
    let s = then_ok (some_items_at requests_most path (codes "requests") d) (requests_in (path ++ Member (codes "requests") ∷ [])) requests h in
    let f = some_few requests_most path (codes "requests") d s.0 s.1.0 in
    requests_kept law (path ++ Member (codes "requests") ∷ []) s.0 requests f.0 f.1 s.1.1

pub record DevicesKept (devices : Devices) : Type 0 where
  pub requests : RequestsKept devices.requests
  pub constraints : ConstraintsKept (all_names devices.requests) devices.constraints

devices_kept : TolerationLaw → (path : List Step) (d : Data) (devices : Devices) → devices_in path d ≡ Ok devices → DevicesKept devices
devices_kept law path d devices h =
    let s = then_ok (requests_at path d) (λ requests. devices_with requests path d) devices h in
    let t = then_ok (constraints_over s.0 path d) (λ constraints. Ok (record { requests = s.0; constraints = constraints })) devices s.1.1 in
    let made : Devices = record { requests = s.0; constraints = t.0 } in
    let e : given made ≡ Ok devices = t.1.1 in
    let is : made ≡ devices = cc in
    let kept : DevicesKept made = record { requests = requests_at_kept law path d s.0 s.1.0; constraints = constraints_kept (all_names s.0) path d t.0 t.1.0 } in
    subst DevicesKept is kept

pub claim_kept : MetaLaw → TolerationLaw → (d : Data) (claim : ResourceClaim) → claim_of d ≡ Ok claim → ClaimKept claim
claim_kept law tolerated d claim h =
    let s = then_ok (meta_at Namespaced d) (λ meta. devices_at d >>= λ devices. Ok (record { key = meta.key; version = meta.version; requests = devices.requests; constraints = devices.constraints })) claim h in
    let t = then_ok (devices_at d) (λ devices. Ok (record { key = s.0.key; version = s.0.version; requests = devices.requests; constraints = devices.constraints })) claim s.1.1 in
    let made : ResourceClaim = record { key = s.0.key; version = s.0.version; requests = t.0.requests; constraints = t.0.constraints } in
    let e : given made ≡ Ok claim = t.1.1 in
    let is : made ≡ claim = cc in
    let u = then_ok (object_at [] (codes "spec") d) (λ spec. object_at (Member (codes "spec") ∷ []) (codes "devices") spec >>= λ devices. devices_in (Member (codes "spec") ∷ Member (codes "devices") ∷ []) devices) t.0 t.1.0 in
    let v = then_ok (object_at (Member (codes "spec") ∷ []) (codes "devices") u.0) (λ devices. devices_in (Member (codes "spec") ∷ Member (codes "devices") ∷ []) devices) t.0 u.1.1 in
    let k = devices_kept tolerated (Member (codes "spec") ∷ Member (codes "devices") ∷ []) v.0 t.0 v.1.1 in
    let m = law Namespaced d s.0 s.1.0 in
    let kept : ClaimKept made = record { key = m.key; version = m.version; requests = k.requests; constraints = k.constraints } in
    subst ClaimKept is kept

-- ---- a status

results_kept : (path : List Step) (d : Data) (results : List StatusResult) → results_at path d ≡ Ok results → (1 ≤ length results) × (length results ≤ results_most)
results_kept path d results h =
    let inner : List Step = path ++ Member (codes "devices") ∷ [] in
    let s = then_ok (object_at path (codes "devices") d) (λ devices. some_items_at results_most inner (codes "results") devices >>= each result_at (inner ++ Member (codes "results") ∷ [])) results h in
    let t = then_ok (some_items_at results_most inner (codes "results") s.0) (each result_at (inner ++ Member (codes "results") ∷ [])) results s.1.1 in
    let f = some_few results_most inner (codes "results") s.0 t.0 t.1.0 in
    let l : length results ≡ items_length t.0 = rows_length result_at (inner ++ Member (codes "results") ∷ []) 0 t.0 results (rows result_at (inner ++ Member (codes "results") ∷ []) results t.0 t.1.1) in
    (omega (arith, l, f.0), omega (arith, l, f.1))

allocation_kept : (path : List Step) (d : Data) (a : Allocation) → allocation_in path d ≡ Ok a → (1 ≤ length a.results) × (length a.results ≤ results_most)
allocation_kept path d a h =
    let s = then_ok (results_at path d) (λ results. node_at path d >>= λ node. Ok (record { results = results; node = node })) a h in
    let t = then_ok (node_at path d) (λ node. Ok (record { results = s.0; node = node })) a s.1.1 in
    let made : Allocation = record { results = s.0; node = t.0 } in
    let e : given made ≡ Ok a = t.1.1 in
    let is : made ≡ a = cc in
    let P : Allocation → Type 0 = λ x. (1 ≤ length x.results) × (length x.results ≤ results_most) in
    subst P is (results_kept path d s.0 s.1.0)

pub status_kept : MetaLaw → (d : Data) (status : ClaimStatus) → status_of d ≡ Ok status → StatusKept status
status_kept law d status h =
    let top : List Step = Member (codes "status") ∷ [] in
    let s = then_ok (meta_at Namespaced d) (λ meta. status_at d >>= λ a. Ok (record { version = meta.version; node = a.node; results = a.results })) status h in
    let t = then_ok (status_at d) (λ a. Ok (record { version = s.0.version; node = a.node; results = a.results })) status s.1.1 in
    let made : ClaimStatus = record { version = s.0.version; node = t.0.node; results = t.0.results } in
    let e : given made ≡ Ok status = t.1.1 in
    let is : made ≡ status = cc in
    let u = then_ok (object_at [] (codes "status") d) (members_at top) t.0 t.1.0 in
    let v = then_ok (allocation_at top u.0) (λ a. unset_at top (codes "reservedFor") u.0 >>= λ w. Ok a) t.0 u.1.1 in
    let w = then_ok (unset_at top (codes "reservedFor") u.0) (λ w. Ok v.0) t.0 v.1.1 in
    let f : given v.0 ≡ Ok t.0 = w.1.1 in
    let same : v.0 ≡ t.0 = cc in
    let x = then_ok (object_at top (codes "allocation") u.0) (allocation_in (top ++ Member (codes "allocation") ∷ [])) v.0 v.1.0 in
    let k = allocation_kept (top ++ Member (codes "allocation") ∷ []) x.0 v.0 x.1.1 in
    let l : length v.0.results ≡ length t.0.results = ap (λ (a : Allocation). length a.results) same in
    let m = law Namespaced d s.0 s.1.0 in
    let kept : StatusKept made = record { version = m.version; some = omega (arith, k.0, l); few = omega (arith, k.1, l) } in
    subst StatusKept is kept
