-- The status of a claim reads as its grant.
use Rattle.std.proofs.Common.{◌≡◌, ℕ, ◌+◌, ◌<◌, ◌≤◌, ◌^◌, nat_lt, Bool, true, false, List, [], ◌∷◌, ◌++◌, length, map, Option, Some, None, Result, Ok, Err, refl, ap, ◌∙◌, append_assoc, arith}
use Rattle.std.specs.Prelude.{codes}
use Rattle.std.specs.Str.{bytes_eq}
use Rattle.std.proofs.lemmas.List.{append-nil}
use Rattle.serde_json.specs.Data.{Data, object, member, no_members}
use Rattle.object_fields.specs.Fields.{field_error, items_length}
use Rattle.object_fields.specs.Limits.{KeyKept}
use Rattle.object_fields.specs.Lists.{alone, each_from}
use Rattle.object_fields.specs.declared.error.FieldError.{FieldError}
use Rattle.object_fields.specs.declared.key.Key.{Key}
use Rattle.object_fields.specs.declared.kind.FieldErrorKind.TheVariants.{NotSupported}
use Rattle.object_fields.specs.declared.meta.Scope.TheVariants.{Namespaced}
use Rattle.object_fields.specs.declared.path.Step.{Step}
use Rattle.object_fields.specs.declared.path.Step.TheVariants.{Member}
use Rattle.api_claim.specs.Status.{result_at, results_at, results_most, status_of}
use Rattle.cluster.specs.declared.plan.DeviceResult.{DeviceResult}
use Rattle.cluster.specs.declared.state.ClaimState.{ClaimState}
use Rattle.cluster.specs.declared.state.Granted.{Granted}
use Rattle.cluster.specs.declared.state.PodState.{PodState}
use Rattle.api_print.specs.LeftOut.{without, without_users}
use Rattle.api_print.specs.Metadata.{key_metadata_json}
use Rattle.api_print.specs.ReadBack.{result_read, status_read}
use Rattle.api_print.specs.Shapes.{listed, member_if}
use Rattle.api_print.specs.Status.{allocation_json, claim_json, grant_node_json, items_if, result_json, results_json, written_users}
use Rattle.api_print.proofs.Decimals.{not_longer}
use Rattle.api_print.proofs.Readings.{key_members, listed_length}

by_admin : (p : List Step) (r : DeviceResult) (b : Bool) → result_at p (result_json (record r { admin = b })) ≡ Ok (record { request = r.name; device = r.device; admin = b })
by_admin p r true = refl
by_admin p r false = refl

result_back : (p : List Step) (r : DeviceResult) → result_at p (result_json r) ≡ Ok (result_read r)
result_back p r = by_admin p r r.admin

-- items that are printed and read as something else
each_as : {A B : Type 0} (reading : List Step → Data → Result B FieldError) (json : A → Data) (read_as : A → B) (path : List Step) (place : ℕ) (before : List B) (xs : List A) → ((p : List Step) (x : A) → reading p (json x) ≡ Ok (read_as x))
    → each_from (alone reading) path place before (listed json xs) ≡ Ok (before ++ map read_as xs)
each_as reading json read_as path place before [] h = rw (append-nil before) refl
each_as reading json read_as path place before (x ∷ xs) h =
    rw (h _ x) (each_as reading json read_as path (place + 1) (before ++ read_as x ∷ []) xs h ∙ ap Ok (append_assoc before (read_as x ∷ []) (map read_as xs)))

results_back : (path : List Step) (selector : Data) (rs : List DeviceResult) → 1 ≤ length rs → length rs ≤ results_most
    → results_at path (object (member (codes "devices") (results_json rs) (member (codes "nodeSelector") selector no_members))) ≡ Ok (map result_read rs)
results_back path selector [] some few = absurd (omega arith)
results_back path selector (r ∷ rs) some few =
    let short : nat_lt results_most (items_length (listed result_json (r ∷ rs))) ≡ false = rw (listed_length result_json (r ∷ rs)) (not_longer results_most (length (r ∷ rs)) few) in
    rw short (each_as result_at result_json result_read _ 0 [] (r ∷ rs) result_back)

abbrev status_path : List Step
status_path = Member (codes "status") ∷ Member (codes "allocation") ∷ []

pub status_back : (pods : List (Key × PodState)) (c : ClaimState) (g : Granted) → c.grant ≡ Some g → g.published ≡ true → written_users pods c.users ≡ [] → KeyKept Namespaced c.claim.object.key → c.claim.version < 2 ^ 64 → 1 ≤ length g.results → length g.results ≤ results_most
    → status_of (claim_json pods c) ≡ Ok (status_read c.claim.version g)
unfolding claim_json allocation_json
status_back pods c g granted published unused kept small some few =
    let meta = key_members (Member (codes "metadata") ∷ []) (key_metadata_json c.claim.object.key c.claim.version c.claim.uid) c.claim.object.key c.claim.version refl refl refl refl kept small in
    let results = results_back status_path (grant_node_json g.node) g.results some few in
    rw (granted, published, unused, meta, results) refl

-- ---- with users

left_by : (key : List ℕ) (d : Data) (users : Option Data) → bytes_eq key (codes "reservedFor") ≡ false → without (codes "reservedFor") (member key d (member_if (codes "reservedFor") users no_members)) ≡ member key d no_members
left_by key d None h = rw h refl
left_by key d (Some u) h = rw h refl

users_left_out : (pods : List (Key × PodState)) (c : ClaimState) (g : Granted) → c.grant ≡ Some g → g.published ≡ true → without_users (claim_json pods c) ≡ claim_json pods (record c { users = [] })
unfolding claim_json allocation_json
users_left_out pods c g granted published =
    rw (granted, published) (rw (left_by (codes "allocation") (allocation_json g) (items_if (written_users pods c.users)) refl) refl)

-- without the users it is what is printed of a claim that has none
pub status_left_out : (pods : List (Key × PodState)) (c : ClaimState) (g : Granted) → c.grant ≡ Some g → g.published ≡ true → KeyKept Namespaced c.claim.object.key → c.claim.version < 2 ^ 64 → 1 ≤ length g.results → length g.results ≤ results_most
    → status_of (without_users (claim_json pods c)) ≡ Ok (status_read c.claim.version g)
status_left_out pods c g granted published kept small some few =
    rw (users_left_out pods c g granted published) (status_back pods (record c { users = [] }) g granted published refl kept small some few)

some_first : (ds : List Data) → (ds ≡ [] → ⊥) → (d : Data) × (rest : List Data) × (ds ≡ d ∷ rest)
some_first [] h = absurd (h refl)
some_first (d ∷ ds) h = (d, ds, refl)

-- with users it is refused at `reservedFor`
pub status_refused : (pods : List (Key × PodState)) (c : ClaimState) (g : Granted) → c.grant ≡ Some g → g.published ≡ true → (written_users pods c.users ≡ [] → ⊥) → KeyKept Namespaced c.claim.object.key → c.claim.version < 2 ^ 64 → 1 ≤ length g.results → length g.results ≤ results_most
    → status_of (claim_json pods c) ≡ Err (field_error (Member (codes "status") ∷ []) (codes "reservedFor") NotSupported)
unfolding claim_json allocation_json
status_refused pods c g granted published used kept small some few =
    let users = some_first (written_users pods c.users) used in
    let meta = key_members (Member (codes "metadata") ∷ []) (key_metadata_json c.claim.object.key c.claim.version c.claim.uid) c.claim.object.key c.claim.version refl refl refl refl kept small in
    let results = results_back status_path (grant_node_json g.node) g.results some few in
    rw (granted, published, users.2, meta, results) refl
