-- The JSON of a claim reads as the claim.
use Rattle.std.proofs.Common.{◌≡◌, ℕ, ◌<◌, ◌^◌, nat_lt, Bool, true, false, ◌&&◌, List, [], ◌∷◌, ◌++◌, length, map, Some, None, Ok, refl, ap, ◌∙◌, append_assoc}
use Rattle.std.specs.Prelude.{◌||◌, codes}
use Rattle.std.proofs.lemmas.Bool.{and_from}
use Rattle.serde_json.specs.Data.{Data, string, object, Members, no_members, member}
use Rattle.serde_json.specs.Find.{get, get_member}
use Rattle.object_fields.specs.Fields.{items_length, unset_at}
use Rattle.object_fields.specs.Names.{is_dns_name}
use Rattle.object_fields.specs.NewNames.{is_among}
use Rattle.object_fields.specs.Qualified.{IsFullName, domain_and_id, domain_most, id_most, is_c_identifier}
use Rattle.object_fields.specs.declared.path.Step.{Step}
use Rattle.object_fields.specs.declared.path.Step.TheVariants.{Member}
use Rattle.object_fields.specs.declared.qualified.QualName.{QualName}
use Rattle.api_claim.specs.Claims.{claim_of, devices_in}
use Rattle.api_claim.specs.Constraints.{attribute_at, constraint_at, constraints_at, constraints_most, full_name_in, known_at, known_requests_at}
use Rattle.api_claim.specs.Limits.{ClaimKept, ConstraintKept, ConstraintsKept, EachOf}
use Rattle.api_claim.specs.Requests.{all_names}
use Rattle.api_claim.specs.declared.types.DeviceConstraint.{DeviceConstraint}
use Rattle.api_claim.specs.declared.types.ResourceClaim.{ResourceClaim}
use Rattle.object_fields.specs.declared.key.Key.{Key}
use Rattle.cluster.specs.declared.state.ClaimState.{ClaimState}
use Rattle.cluster.specs.declared.state.PodState.{PodState}
use Rattle.api_print.specs.Claims.{claim_devices_json, claim_spec_json, constraint_json, request_json}
use Rattle.api_print.specs.Devices.{full_name}
use Rattle.api_print.specs.Metadata.{key_metadata_json}
use Rattle.api_print.specs.ReadBack.{claim_read}
use Rattle.api_print.specs.Shapes.{list_if, list_json, listed, member_if}
use Rattle.api_print.specs.Status.{claim_json}
use Rattle.api_print.proofs.Decimals.{not_longer}
use Rattle.api_print.proofs.FullNames.{name_cut}
use Rattle.api_print.proofs.Readings.{key_members, listed_length}
use Rattle.api_print.proofs.Requests.{each_kept, each_of, hit, requests_back, skip}

-- ---- constraints

neither : (a b : Bool) → a ≡ false → b ≡ false → (a || b) ≡ false
neither true b p q = p
neither false b p q = q

pub parts_back : (p : List Step) (q : QualName) → IsFullName q → domain_and_id p q.domain q.id ≡ Ok q
parts_back p q full =
    let short : (nat_lt domain_most (length q.domain) || nat_lt id_most (length q.id)) ≡ false = neither _ _ (not_longer domain_most (length q.domain) full.domain) (not_longer id_most (length q.id) full.id) in
    let right : (is_dns_name q.domain && is_c_identifier q.id) ≡ true = and_from _ _ full.domain_form full.id_form in
    rw (short, right) refl

name_back : (p : List Step) (q : QualName) → IsFullName q → full_name_in p (full_name q) ≡ Ok q
name_back p q full = rw (append_assoc q.domain (codes "/") q.id, name_cut q.domain q.id full.domain_form) (parts_back p q full)

attribute_back : (path : List Step) (d : Data) (q : QualName) → get (codes "matchAttribute") d ≡ Some (string (full_name q)) → IsFullName q → attribute_at path d ≡ Ok q
attribute_back path d q h full = rw h (name_back (path ++ Member (codes "matchAttribute") ∷ []) q full)

known_back : (names : List (List ℕ)) (p : List Step) (t : List ℕ) → is_among t names ≡ true → known_at names p (string t) ≡ Ok t
known_back names p t h = rw h refl

texts_same : (ts : List (List ℕ)) → map (λ t. t) ts ≡ ts
texts_same [] = refl
texts_same (t ∷ ts) = ap (λ l. t ∷ l) (texts_same ts)

requests_known : (names : List (List ℕ)) (path : List Step) (d : Data) (ts : List (List ℕ)) → get (codes "requests") d ≡ list_if string ts → EachOf (λ t. is_among t names ≡ true) ts → known_requests_at names path d ≡ Ok ts
requests_known names path d [] h known = rw h refl
requests_known names path d (t ∷ ts) h known =
    rw h (each_kept (known_at names) string (λ u. u) _ 0 [] (t ∷ ts) (each_of (λ u. is_among u names ≡ true) (λ u. (p : List Step) → known_at names p (string u) ≡ Ok u) (t ∷ ts) (λ u k p. known_back names p u k) known) ∙ ap Ok (texts_same (t ∷ ts)))

constraint_from : (names : List (List ℕ)) (path : List Step) (ms : Members) (c : DeviceConstraint) → get_member (codes "distinctAttribute") ms ≡ None → get_member (codes "requests") ms ≡ list_if string c.requests → get_member (codes "matchAttribute") ms ≡ Some (string (full_name c.attribute))
    → ConstraintKept names c → constraint_at names path (object ms) ≡ Ok c
constraint_from names path ms c hd hr ha kept =
    let unset : unset_at path (codes "distinctAttribute") (object ms) ≡ Ok tt = rw hd refl in
    rw (unset, requests_known names path (object ms) c.requests hr kept.requests, attribute_back path (object ms) c.attribute ha kept.attribute) refl

constraint_back : (names : List (List ℕ)) (path : List Step) (c : DeviceConstraint) → ConstraintKept names c → constraint_at names path (constraint_json c) ≡ Ok c
constraint_back names path c kept =
    constraint_from names path (member (codes "matchAttribute") (string (full_name c.attribute)) (member_if (codes "requests") (list_if string c.requests) no_members)) c (skip (codes "distinctAttribute") (codes "requests") (list_if string c.requests) no_members refl) (hit (codes "requests") (list_if string c.requests) no_members refl refl) refl kept

constraints_same : (cs : List DeviceConstraint) → map (λ c. c) cs ≡ cs
constraints_same [] = refl
constraints_same (c ∷ cs) = ap (λ l. c ∷ l) (constraints_same cs)

constraints_back : (names : List (List ℕ)) (path : List Step) (d : Data) (cs : List DeviceConstraint) → get (codes "constraints") d ≡ list_if constraint_json cs → ConstraintsKept names cs → constraints_at names path d ≡ Ok cs
constraints_back names path d [] h kept = rw h refl
constraints_back names path d (c ∷ cs) h kept =
    let short : nat_lt constraints_most (items_length (listed constraint_json (c ∷ cs))) ≡ false = rw (listed_length constraint_json (c ∷ cs)) (not_longer constraints_most (length (c ∷ cs)) kept.few) in
    rw (h, short)
    (each_kept (constraint_at names) constraint_json (λ x. x) _ 0 [] (c ∷ cs)
    (each_of (ConstraintKept names) (λ x. (p : List Step) → constraint_at names p (constraint_json x) ≡ Ok x) (c ∷ cs) (λ x k p. constraint_back names p x k) kept.each_known) ∙ ap Ok (constraints_same (c ∷ cs)))

-- ---- the claim

devices_from : (path : List Step) (d : Data) (claim : ResourceClaim) → get (codes "requests") d ≡ Some (list_json request_json claim.requests) → get (codes "constraints") d ≡ list_if constraint_json claim.constraints → ClaimKept claim
    → devices_in path d ≡ Ok (record { requests = claim.requests; constraints = claim.constraints })
devices_from path d claim hr hc kept =
    rw (requests_back path d claim.requests hr kept.requests, constraints_back (all_names claim.requests) path d claim.constraints hc kept.constraints) refl

abbrev devices_path : List Step
devices_path = Member (codes "spec") ∷ Member (codes "devices") ∷ []

pub claim_back : (pods : List (Key × PodState)) (c : ClaimState) → ClaimKept c.claim.object → c.claim.version < 2 ^ 64 → claim_of (claim_json pods c) ≡ Ok (claim_read c.claim)
unfolding claim_json claim_spec_json
claim_back pods c kept small =
    let claim = c.claim.object in
    let meta = key_members (Member (codes "metadata") ∷ []) (key_metadata_json claim.key c.claim.version c.claim.uid) claim.key c.claim.version refl refl refl refl kept.key small in
    let devices = devices_from devices_path (claim_devices_json claim) claim (skip (codes "requests") (codes "constraints") (list_if constraint_json claim.constraints) _ refl) (hit (codes "constraints") (list_if constraint_json claim.constraints) _ refl refl) kept in
    rw (meta, devices) refl
