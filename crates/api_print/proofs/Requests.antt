-- The requests of a claim read as they are.
use Rattle.std.proofs.Common.{◌≡◌, ℕ, zero, suc, ◌+◌, ◌-◌, ◌^◌, nat_lt, nat_le, Ordering, Less, Equal, Greater, Bool, true, false, ◌&&◌, List, [], ◌∷◌, ◌++◌, length, map, Option, Some, None, Result, Ok, refl, ap, ◌∙◌, append_assoc, arith}
use Rattle.std.specs.Prelude.{codes}
use Rattle.std.proofs.lemmas.Bool.{and_from, le-leb}
use Rattle.std.proofs.lemmas.List.{append-nil}
use Rattle.std.specs.Cmp.Lexicographic.{slice_cmp}
use Rattle.std.specs.List.{zip}
use Rattle.std.specs.Ordering.{is_eq, match_ordering, nat_cmp}
use Rattle.serde_json.specs.Data.{Data, string, object, Members, no_members, member}
use Rattle.serde_json.specs.Find.{get, get_member}
use Rattle.object_fields.specs.Fields.{items_length, text_at, ◌>>=◌}
use Rattle.object_fields.specs.Lists.{alone, each, each_from}
use Rattle.object_fields.specs.NewNames.{AreDifferent, is_among}
use Rattle.object_fields.specs.Selectors.{selector_at, selectors_most}
use Rattle.object_fields.specs.declared.error.FieldError.{FieldError}
use Rattle.object_fields.specs.declared.path.Step.{Step}
use Rattle.object_fields.specs.declared.path.Step.TheVariants.{Member, Place}
use Rattle.api_claim.specs.Asks.{admin_at, ask_with, asked_at, exactly_in, mode_at, selection_at, subrequest_in}
use Rattle.api_claim.specs.Limits.{AskKept, CountKept, EachOf, KindKept, RequestsKept}
use Rattle.object_fields.specs.Names.{is_dns_label}
use Rattle.api_claim.specs.Lists.{new_name_at}
use Rattle.api_claim.specs.Requests.{kind_of, kinds_in, request_name_at, request_of, requests_at, requests_in, requests_most, subrequest_name_at, subrequest_names_at, subrequest_of, subrequests_most}
use Rattle.api_claim.specs.declared.types.AllocationMode.{AllocationMode}
use Rattle.api_claim.specs.declared.types.AllocationMode.TheVariants.{ExactCount, All}
use Rattle.api_claim.specs.declared.types.DeviceAsk.{DeviceAsk}
use Rattle.api_claim.specs.declared.types.DeviceRequest.{DeviceRequest}
use Rattle.api_claim.specs.declared.types.DeviceSubRequest.{DeviceSubRequest}
use Rattle.api_claim.specs.declared.types.ExactDeviceRequest.{ExactDeviceRequest}
use Rattle.api_claim.specs.declared.types.RequestKind.{RequestKind}
use Rattle.api_claim.specs.declared.types.RequestKind.TheVariants as kind
use Rattle.api_print.specs.Classes.{selector_json, selectors_if}
use Rattle.api_print.specs.Claims.{count_if, exactly_json, kind_before, mode_text, request_json, subrequest_json}
use Rattle.api_print.specs.Shapes.{flag_if, list_json, listed, member_if}
use Rattle.api_print.specs.Taints.{tolerations_if}
use Rattle.api_print.proofs.CounterSets.{is_new}
use Rattle.api_print.proofs.Decimals.{not_longer}
use Rattle.api_print.proofs.OptionalMembers.{found, members_of, or_none}
use Rattle.api_print.proofs.Readings.{each_found, label_read, listed_length}
use Rattle.api_print.proofs.TaintsBack.{tolerations_back}

-- ---- a member after others that may be missing

skip_at : (o : Ordering) (a b : Option Data) → is_eq o ≡ false → match_ordering o a b a ≡ a
skip_at Less a b h = refl
skip_at Equal a b h = cc
skip_at Greater a b h = refl

pub skip : (key other : List ℕ) (o : Option Data) (ms : Members) → is_eq (slice_cmp nat_cmp key other) ≡ false → get_member key (member_if other o ms) ≡ get_member key ms
skip key other None ms h = refl
skip key other (Some d) ms h = skip_at (slice_cmp nat_cmp key other) (get_member key ms) (Some d) h

hit_at : (o : Ordering) (a b : Option Data) → is_eq o ≡ true → match_ordering o a b a ≡ b
hit_at Less a b h = cc
hit_at Equal a b h = refl
hit_at Greater a b h = cc

pub hit : (key : List ℕ) (o : Option Data) (ms : Members) → is_eq (slice_cmp nat_cmp key key) ≡ true → get_member key ms ≡ None → get_member key (member_if key o ms) ≡ o
hit key None ms h none = none
hit key (Some d) ms h none = hit_at (slice_cmp nat_cmp key key) (get_member key ms) (Some d) h

-- ---- what is asked for

record HasAsk (d : Data) (ask : DeviceAsk) : Type 0 where
  class : get (codes "deviceClassName") d ≡ Some (string ask.class)
  selectors : get (codes "selectors") d ≡ selectors_if ask.selectors
  mode : get (codes "allocationMode") d ≡ Some (string (mode_text ask.mode))
  count : get (codes "count") d ≡ count_if ask.mode
  tolerations : get (codes "tolerations") d ≡ tolerations_if ask.tolerations
  capacity : get (codes "capacity") d ≡ None

mode_back : (path : List Step) (d : Data) (m : AllocationMode) → get (codes "allocationMode") d ≡ Some (string (mode_text m)) → get (codes "count") d ≡ count_if m → CountKept m → mode_at path d ≡ Ok m
mode_back path d (ExactCount zero) hm hc kept = absurd (omega (arith, kept.0))
mode_back path d (ExactCount (suc n)) hm hc kept =
    let within : (nat_le 0 (suc n) && nat_le (suc n) (2 ^ 31 - 1)) ≡ true = and_from _ _ (le-leb _ _ (omega arith)) (le-leb _ _ kept.1) in
    rw (hm, hc, within) refl
mode_back path d All hm hc kept = rw (hm, hc) refl

selection_back : (path : List Step) (d : Data) (ask : DeviceAsk) → HasAsk d ask → AskKept ask → selection_at path d ≡ Ok (record { class = ask.class; selectors = ask.selectors; mode = ask.mode })
selection_back path d ask h kept =
    let class : text_at path (codes "deviceClassName") d ≡ Ok ask.class = rw h.class refl in
    let selectors = each_found selectors_most selector_at selector_json path (codes "selectors") d ask.selectors h.selectors kept.selectors (λ p x. refl) in
    rw (class, selectors, mode_back path d ask.mode h.mode h.count kept.count) refl

ask_back : (path : List Step) (d : Data) (ask : DeviceAsk) → HasAsk d ask → AskKept ask → ask_with (record { class = ask.class; selectors = ask.selectors; mode = ask.mode }) path d ≡ Ok ask
ask_back path d ask h kept =
    rw (tolerations_back path d ask.tolerations h.tolerations kept.tolerations, h.capacity) refl

admin_back : (path : List Step) (d : Data) (b : Bool) → get (codes "adminAccess") d ≡ flag_if b → admin_at path d ≡ Ok b
admin_back path d true h = rw h refl
admin_back path d false h = rw h refl

exactly_from : (path : List Step) (d : Data) (e : ExactDeviceRequest) → HasAsk d e.ask → get (codes "adminAccess") d ≡ flag_if e.admin → AskKept e.ask → exactly_in path d ≡ Ok e
exactly_from path d e h admin kept =
    rw (selection_back path d e.ask h kept, admin_back path d e.admin admin, ask_back path d e.ask h kept) refl

abbrev exactly_members : ExactDeviceRequest → List (List ℕ × Option Data)
exactly_members e =
    (codes "adminAccess", flag_if e.admin) ∷
    (codes "allocationMode", Some (string (mode_text e.ask.mode))) ∷
    (codes "count", count_if e.ask.mode) ∷
    (codes "deviceClassName", Some (string e.ask.class)) ∷
    (codes "selectors", selectors_if e.ask.selectors) ∷
    (codes "tolerations", tolerations_if e.ask.tolerations) ∷ []

exactly_has : (e : ExactDeviceRequest) → HasAsk (exactly_json e) e.ask
exactly_has e = record {
  class = found (codes "deviceClassName") (exactly_members e);
  selectors = found (codes "selectors") (exactly_members e) ∙ or_none _;
  mode = found (codes "allocationMode") (exactly_members e);
  count = found (codes "count") (exactly_members e) ∙ or_none _;
  tolerations = found (codes "tolerations") (exactly_members e) ∙ or_none _;
  capacity = found (codes "capacity") (exactly_members e);
}

exactly_admin : (e : ExactDeviceRequest) → get (codes "adminAccess") (exactly_json e) ≡ flag_if e.admin
exactly_admin e = found (codes "adminAccess") (exactly_members e) ∙ or_none _

exactly_back : (path : List Step) (e : ExactDeviceRequest) → AskKept e.ask → exactly_in path (exactly_json e) ≡ Ok e
exactly_back path e kept = exactly_from path (exactly_json e) e (exactly_has e) (exactly_admin e) kept

subrequest_from : (path : List Step) (ms : Members) (ask : DeviceAsk) → HasAsk (object ms) ask → AskKept ask → subrequest_in path (object ms) ≡ Ok ask
subrequest_from path ms ask h kept =
    rw (selection_back path (object ms) ask h kept, ask_back path (object ms) ask h kept) refl

abbrev subrequest_members : DeviceSubRequest → List (List ℕ × Option Data)
subrequest_members s =
    (codes "allocationMode", Some (string (mode_text s.ask.mode))) ∷
    (codes "count", count_if s.ask.mode) ∷
    (codes "deviceClassName", Some (string s.ask.class)) ∷
    (codes "name", Some (string s.name)) ∷
    (codes "selectors", selectors_if s.ask.selectors) ∷
    (codes "tolerations", tolerations_if s.ask.tolerations) ∷ []

subrequest_has : (s : DeviceSubRequest) → HasAsk (subrequest_json s) s.ask
subrequest_has s = record {
  class = found (codes "deviceClassName") (subrequest_members s);
  selectors = found (codes "selectors") (subrequest_members s) ∙ or_none _;
  mode = found (codes "allocationMode") (subrequest_members s);
  count = found (codes "count") (subrequest_members s) ∙ or_none _;
  tolerations = found (codes "tolerations") (subrequest_members s) ∙ or_none _;
  capacity = found (codes "capacity") (subrequest_members s);
}

subrequest_back : (path : List Step) (s : DeviceSubRequest) → AskKept s.ask → subrequest_in path (subrequest_json s) ≡ Ok s.ask
subrequest_back path s kept = subrequest_from path (members_of (subrequest_members s)) s.ask (subrequest_has s) kept

-- ---- lists whose items keep something

-- items that are printed and read as something else
pub each_kept : {A B : Type 0} (reading : List Step → Data → Result B FieldError) (json : A → Data) (read_as : A → B) (path : List Step) (place : ℕ) (before : List B) (xs : List A) → EachOf (λ x. (p : List Step) → reading p (json x) ≡ Ok (read_as x)) xs
    → each_from (alone reading) path place before (listed json xs) ≡ Ok (before ++ map read_as xs)
each_kept reading json read_as path place before [] h = rw (append-nil before) refl
each_kept reading json read_as path place before (x ∷ xs) h =
    rw (h.0 (path ++ Place place ∷ [])) (each_kept reading json read_as path (place + 1) (before ++ read_as x ∷ []) xs h.1 ∙ ap Ok (append_assoc before (read_as x ∷ []) (map read_as xs)))

pub each_of : {A : Type 0} (P Q : A → Type 0) (xs : List A) → ((x : A) → P x → Q x) → EachOf P xs → EachOf Q xs
each_of P Q [] f h = tt
each_of P Q (x ∷ xs) f h = (f x h.0, each_of P Q xs f h.1)

both_of : {A : Type 0} (P : List ℕ → Type 0) (name : A → List ℕ) (R : A → Type 0) (xs : List A) → EachOf P (map name xs) → EachOf R xs → EachOf (λ x. P (name x) × R x) xs
both_of P name R [] h k = tt
both_of P name R (x ∷ xs) h k = ((h.0, k.0), both_of P name R xs h.1 k.1)

-- names that are read one beside the other
names_back : {A : Type 0} (reading : List Step → List (List ℕ) → Data → Result (List ℕ) FieldError) (json : A → Data) (name : A → List ℕ) (Q : A → Type 0) → ((p : List Step) (before : List (List ℕ)) (x : A) → Q x → is_among (name x) before ≡ false → reading p before (json x) ≡ Ok (name x))
    → (path : List Step) (place : ℕ) (before : List (List ℕ)) (xs : List A) → AreDifferent (before ++ map name xs) → EachOf Q xs → each_from reading path place before (listed json xs) ≡ Ok (before ++ map name xs)
names_back reading json name Q step path place before [] d q = rw (append-nil before) refl
names_back reading json name Q step path place before (x ∷ xs) d q =
    let same : (before ++ name x ∷ []) ++ map name xs ≡ before ++ name x ∷ map name xs = append_assoc before (name x ∷ []) (map name xs) in
    let distinct : AreDifferent ((before ++ name x ∷ []) ++ map name xs) = rw same d in
    rw (step (path ++ Place place ∷ []) before x q.0 (is_new before (name x) (map name xs) d)) (names_back reading json name Q step path (place + 1) (before ++ name x ∷ []) xs distinct q.1 ∙ ap Ok same)

name_step : (p : List Step) (before : List (List ℕ)) (ms : Members) (n : List ℕ) → get_member (codes "name") ms ≡ Some (string n) → is_dns_label n ≡ true → is_among n before ≡ false → new_name_at p before (object ms) ≡ Ok n
name_step p before ms n h label new = rw (label_read p (object ms) (codes "name") n h label, new) refl

subrequest_step : (p : List Step) (before : List (List ℕ)) (s : DeviceSubRequest) → is_dns_label s.name ≡ true → is_among s.name before ≡ false → subrequest_name_at p before (subrequest_json s) ≡ Ok s.name
subrequest_step p before s label new =
    name_step p before (members_of (subrequest_members s)) s.name (found (codes "name") (subrequest_members s)) label new

-- ---- kinds of requests

abbrev made_json : List ℕ → RequestKind → Data
made_json name k = object (kind_before k (member (codes "name") (string name) no_members))

abbrev inner_of : RequestKind → List (List ℕ)
inner_of (kind.Exactly e) = []
inner_of (kind.FirstAvailable ss) = map (λ s. s.name) ss

-- what a kind is read as makes the kind again, with the names of its subrequests
abbrev Makes : {A : Type 0} → (List Step → Data → Result A FieldError) → (A × List (List ℕ) → RequestKind) → List ℕ → RequestKind → Type 0
Makes {A} reading made name k =
    (p : List Step) → (a : A) × (reading p (made_json name k) ≡ Ok a) × (made (a, inner_of k) ≡ k)

from_ok : {A B : Type 0} (r : Result A FieldError) (f : A → B) (x : A) → r ≡ Ok x → (r >>= λ y. Ok (f y)) ≡ Ok (f x)
from_ok r f x h = rw h refl

subrequests_joined : (ss : List DeviceSubRequest) → map subrequest_of (zip (map (λ s. s.name) ss) (map (λ s. s.ask) ss)) ≡ ss
subrequests_joined [] = refl
subrequests_joined (s ∷ ss) = ap (λ l. s ∷ l) (subrequests_joined ss)

asks_back : (path : List Step) (ss : List DeviceSubRequest) → EachOf (λ s. AskKept s.ask) ss → each subrequest_in path (listed subrequest_json ss) ≡ Ok (map (λ s. s.ask) ss)
asks_back path ss kept =
    each_kept subrequest_in subrequest_json (λ s. s.ask) path 0 [] ss (each_of (λ s. AskKept s.ask) (λ s. (p : List Step) → subrequest_in p (subrequest_json s) ≡ Ok s.ask) ss (λ s k p. subrequest_back p s k) kept)

kind_makes : (name : List ℕ) (k : RequestKind) → KindKept k → Makes asked_at kind_of name k
kind_makes name (kind.Exactly e) kept = λ p. (_, from_ok _ _ e (exactly_back (p ++ Member (codes "exactly") ∷ []) e kept), refl)
kind_makes name (kind.FirstAvailable []) kept = absurd (omega (arith, kept.some))
kind_makes name (kind.FirstAvailable (s ∷ ss)) kept =
    λ p. (_, from_ok _ _ (map (λ t. t.ask) (s ∷ ss)) (asks_back (p ++ Member (codes "firstAvailable") ∷ []) (s ∷ ss) kept.asks), ap kind.FirstAvailable (subrequests_joined (s ∷ ss)))

inner_back : (p : List Step) (name : List ℕ) (k : RequestKind) → KindKept k → subrequest_names_at p (made_json name k) ≡ Ok (inner_of k)
inner_back p name (kind.Exactly e) kept = refl
inner_back p name (kind.FirstAvailable []) kept = absurd (omega (arith, kept.some))
inner_back p name (kind.FirstAvailable (s ∷ ss)) kept =
    let short : nat_lt subrequests_most (items_length (listed subrequest_json (s ∷ ss))) ≡ false = rw (listed_length subrequest_json (s ∷ ss)) (not_longer subrequests_most (length (s ∷ ss)) kept.few) in
    rw short (names_back subrequest_name_at subrequest_json (λ t. t.name) (λ t. (is_dns_label t.name ≡ true) × AskKept t.ask) (λ q before t h new. subrequest_step q before t h.0 new) (p ++ Member (codes "firstAvailable") ∷ []) 0 [] (s ∷ ss) kept.names.distinct
    (both_of (λ n. is_dns_label n ≡ true) (λ t. t.name) (λ t. AskKept t.ask) (s ∷ ss) kept.names.labels kept.asks))

gathered : {A : Type 0} (reading : List Step → Data → Result A FieldError) (made : A × List (List ℕ) → RequestKind) (path : List Step) (place : ℕ) (before : List A) (rs : List DeviceRequest) → EachOf (λ r. Makes reading made r.name r.kind) rs
    → (read : List A) × (each_from (alone reading) path place before (listed (λ r. made_json r.name r.kind) rs) ≡ Ok (before ++ read)) × (map made (zip read (map (λ r. inner_of r.kind) rs)) ≡ map (λ r. r.kind) rs)
gathered reading made path place before [] h = ([], rw (append-nil before) refl, refl)
gathered reading made path place before (r ∷ rs) h =
    let m = h.0 (path ++ Place place ∷ []) in
    let rest = gathered reading made path (place + 1) (before ++ m.0 ∷ []) rs h.1 in
    (m.0 ∷ rest.0, rw m.1 (rest.1 ∙ ap Ok (append_assoc before (m.0 ∷ []) rest.0)), rw (m.2, rest.2) refl)

kinds_back : (path : List Step) (rs : List DeviceRequest) → EachOf (λ r. KindKept r.kind) rs → kinds_in path (listed (λ r. made_json r.name r.kind) rs) ≡ Ok (map (λ r. r.kind) rs)
kinds_back path rs kept =
    let asks = gathered asked_at kind_of path 0 [] rs (each_of (λ r. KindKept r.kind) (λ r. Makes asked_at kind_of r.name r.kind) rs (λ r k. kind_makes r.name r.kind k) kept) in
    let inner = each_kept subrequest_names_at (λ r. made_json r.name r.kind) (λ r. inner_of r.kind) path 0 [] rs (each_of (λ r. KindKept r.kind) (λ r. (p : List Step) → subrequest_names_at p (made_json r.name r.kind) ≡ Ok (inner_of r.kind)) rs (λ r k p. inner_back p r.name r.kind k) kept) in
    rw (asks.1, inner) (ap Ok asks.2)

request_step : (p : List Step) (before : List (List ℕ)) (name : List ℕ) (k : RequestKind) → KindKept k → is_dns_label name ≡ true → is_among name before ≡ false → request_name_at p before (made_json name k) ≡ Ok name
request_step p before name (kind.Exactly e) kept label new =
    rw (name_step p before (kind_before (kind.Exactly e) (member (codes "name") (string name) no_members)) name refl label new) refl
request_step p before name (kind.FirstAvailable []) kept label new = absurd (omega (arith, kept.some))
request_step p before name (kind.FirstAvailable (s ∷ ss)) kept label new =
    rw (name_step p before (kind_before (kind.FirstAvailable (s ∷ ss)) (member (codes "name") (string name) no_members)) name refl label new) refl

requests_joined : (rs : List DeviceRequest) → map request_of (zip (map (λ r. r.name) rs) (map (λ r. r.kind) rs)) ≡ rs
requests_joined [] = refl
requests_joined (r ∷ rs) = ap (λ l. r ∷ l) (requests_joined rs)

listed_back : (path : List Step) (rs : List DeviceRequest) → RequestsKept rs → requests_in path (listed (λ r. made_json r.name r.kind) rs) ≡ Ok rs
listed_back path rs kept =
    let names = names_back request_name_at (λ r. made_json r.name r.kind) (λ r. r.name) (λ r. (is_dns_label r.name ≡ true) × KindKept r.kind) (λ p before r h new. request_step p before r.name r.kind h.1 h.0 new) path 0 [] rs kept.names.distinct
    (both_of (λ n. is_dns_label n ≡ true) (λ r. r.name) (λ r. KindKept r.kind) rs kept.names.labels kept.kinds) in
    rw (names, kinds_back path rs kept.kinds) (ap Ok (requests_joined rs))

-- the requests of a claim
pub requests_back : (path : List Step) (d : Data) (rs : List DeviceRequest) → get (codes "requests") d ≡ Some (list_json request_json rs) → RequestsKept rs → requests_at path d ≡ Ok rs
unfolding request_json
requests_back path d [] h kept = absurd (omega (arith, kept.some))
requests_back path d (r ∷ rs) h kept =
    let short : nat_lt requests_most (items_length (listed request_json (r ∷ rs))) ≡ false = rw (listed_length request_json (r ∷ rs)) (not_longer requests_most (length (r ∷ rs)) kept.few) in
    rw (h, short) (listed_back (path ++ Member (codes "requests") ∷ []) (r ∷ rs) kept)
