-- A node of a state each of whose devices is held, and claims that ask for devices of their own.
use Rattle.std.proofs.Common.{ℕ, ◌+◌, ◌≤◌, ◌≡◌, List, [], ◌∷◌, ◌++◌, Bool, true, false, not, ◌&&◌, ◌||◌, cond, Option, None, Some, is_some, map, refl, sym, ap, subst, ◌∙◌}
use Rattle.std.specs.List.{list_all, list_any}
use Rattle.std.specs.Map.{lookup}
use Rattle.std.proofs.lemmas.Bool.{and_from, and_parts}
use Rattle.std.proofs.lemmas.List.Folds.{list_all-append}
use Rattle.object_fields.specs.declared.key.DeviceId.{DeviceId}
use Rattle.object_fields.specs.declared.key.Key.{Key}
use Rattle.std.specs.Prelude.{IfSome}
use Rattle.api_claim.specs.declared.types.DeviceAsk.{DeviceAsk}
use Rattle.api_claim.specs.declared.types.DeviceRequest.{DeviceRequest}
use Rattle.api_claim.specs.declared.types.RequestKind.{RequestKind}
use Rattle.api_claim.specs.declared.types.RequestKind.TheVariants.{Exactly, FirstAvailable}
use Rattle.api_claim.specs.declared.types.ResourceClaim.{ResourceClaim}
use Rattle.pool_view.specs.declared.matching.Match.{Match}
use Rattle.pool_view.specs.declared.inventory.Inventory.{Inventory}
use Rattle.pool_view.specs.Known.{KnownFields}
use Rattle.pool_view.specs.Names.{device_eq}
use Rattle.pool_view.specs.Pools.{Offered, id_in}
use Rattle.pool_view.specs.Usable.{node_devices, usable_slices}
use Rattle.counter_sets.specs.Holding.{AreHeld, Holders, holder_in}
use Rattle.cluster.specs.declared.state.State.{State}
use Rattle.cluster.specs.Held.{held}
use Rattle.request_rules.specs.Input.{SearchInput}
use Rattle.request_rules.specs.Asked.{Wish, is_fault, wishes_from}
use Rattle.request_rules.specs.Match.{ClassTable, matched_by}
use Rattle.allocations.specs.Input.{input_of}
use Rattle.allocator.specs.Answered.{answer_by, answer_of}
use Rattle.allocator.specs.declared.outcome.Outcome.TheVariants as ended
use Rattle.node_inputs.specs.Apart.{AreListed, AreNamed}
use Rattle.full_nodes.specs.Full.{all_held, are_exclusive, are_unfaulted, asks_some, has_any, is_exclusive, is_unfaulted}
use Rattle.full_nodes.specs.Sure.{IsFullBy, IsKnownOf, are_sure, known_of, texts_of}
use Rattle.pod_decision.proofs.FullInputs.{IsFull, full_outcome, is_sure, is_taken}
use Rattle.pod_decision.proofs.Unfaulted.{AreClean, clean_claims, is_clean, sure_devices}

-- ---- exclusive requests

none_passes : {X : Type 0} (test : X → Bool) (xs : List X) → not (list_any test xs) ≡ list_all (λ x. not (test x)) xs
none_passes test [] = refl
none_passes test (x ∷ xs) = by_first (test x) (list_any test xs) ∙ ap (λ (b : Bool). not (test x) && b) (none_passes test xs)
  where
    by_first : (a b : Bool) → not (a || b) ≡ (not a && not b)
    by_first true b = refl
    by_first false b = refl

sure_kind : (w : SearchInput) (classes : ClassTable) (k : RequestKind) → w.matched ≡ matched_by classes → is_exclusive k ≡ true → is_unfaulted classes w.devices k ≡ true → is_sure w k ≡ true
sure_kind w classes (Exactly r) same e u =
    let parts = and_parts (not r.admin) (asks_some r.ask.mode) e in
    let quiet : not (list_any (λ o. is_fault (w.matched r.ask o)) w.devices) ≡ true =
    ap (λ (m : DeviceAsk → Offered → Match). not (list_any (λ o. is_fault (m r.ask o)) w.devices)) same ∙ none_passes (λ o. is_fault (matched_by classes r.ask o)) w.devices ∙ u
    in
    and_from (not r.admin) (asks_some r.ask.mode && not (list_any (λ o. is_fault (w.matched r.ask o)) w.devices)) parts.0
    (and_from (asks_some r.ask.mode) (not (list_any (λ o. is_fault (w.matched r.ask o)) w.devices)) parts.1 quiet)
sure_kind w classes (FirstAvailable rs) same e u = absurd (cc)

abbrev wishes_in : ℕ → Key → List DeviceRequest → List Wish
wishes_in i key rs = map (λ r. record { claim = i; key = key; request = r }) rs

sure_requests : (w : SearchInput) (classes : ClassTable) (i : ℕ) (key : Key) (rs : List DeviceRequest) → w.matched ≡ matched_by classes → list_all (λ r. is_exclusive r.kind) rs ≡ true → list_all (λ r. is_unfaulted classes w.devices r.kind) rs ≡ true
    → list_all (λ q. is_sure w q.request.kind) (wishes_in i key rs) ≡ true
sure_requests w classes i key [] same e u = refl
sure_requests w classes i key (r ∷ rs) same e u =
    let asks = and_parts (is_exclusive r.kind) (list_all (λ q. is_exclusive q.kind) rs) e in
    let quiet = and_parts (is_unfaulted classes w.devices r.kind) (list_all (λ q. is_unfaulted classes w.devices q.kind) rs) u in
    and_from (is_sure w r.kind) (list_all (λ q. is_sure w q.request.kind) (wishes_in i key rs)) (sure_kind w classes r.kind same asks.0 quiet.0) (sure_requests w classes i key rs same asks.1 quiet.1)

abbrev all_exclusive : List ResourceClaim → Bool
all_exclusive claims = list_all (λ c. list_all (λ r. is_exclusive r.kind) c.requests) claims

abbrev all_unfaulted : ClassTable → List Offered → List ResourceClaim → Bool
all_unfaulted classes devices claims = list_all (λ c. list_all (λ r. is_unfaulted classes devices r.kind) c.requests) claims

sure_claims : (w : SearchInput) (classes : ClassTable) (i : ℕ) (claims : List ResourceClaim) → w.matched ≡ matched_by classes → all_exclusive claims ≡ true → all_unfaulted classes w.devices claims ≡ true
    → list_all (λ q. is_sure w q.request.kind) (wishes_from i claims) ≡ true
sure_claims w classes i [] same e u = refl
sure_claims w classes i (c ∷ cs) same e u =
    let asks = and_parts (list_all (λ r. is_exclusive r.kind) c.requests) (all_exclusive cs) e in
    let quiet = and_parts (list_all (λ r. is_unfaulted classes w.devices r.kind) c.requests) (all_unfaulted classes w.devices cs) u in
    list_all-append (λ (q : Wish). is_sure w q.request.kind) (wishes_in i c.key c.requests) (wishes_from (i + 1) cs)
    ∙ and_from (list_all (λ q. is_sure w q.request.kind) (wishes_in i c.key c.requests)) (list_all (λ q. is_sure w q.request.kind) (wishes_from (i + 1) cs))
    (sure_requests w classes i c.key c.requests same asks.0 quiet.0) (sure_claims w classes (i + 1) cs same asks.1 quiet.1)

-- ---- there is a request

record HasFirst (qs : List Wish) : Type 0 where
  first : Wish
  more : List Wish
  are : qs ≡ first ∷ more

first_in : (i : ℕ) (key : Key) (rs : List DeviceRequest) (later : List Wish) (b : Bool) → (has_any rs || b) ≡ true → (b ≡ true → HasFirst later) → HasFirst (wishes_in i key rs ++ later)
first_in i key [] later b e h = h e
first_in i key (r ∷ rs) later b e h = record { first = record { claim = i; key = key; request = r }; more = wishes_in i key rs ++ later; are = refl }

first_wish : (i : ℕ) (claims : List ResourceClaim) → list_any (λ c. has_any c.requests) claims ≡ true → HasFirst (wishes_from i claims)
first_wish i [] e = absurd (cc)
first_wish i (c ∷ cs) e = first_in i c.key c.requests (wishes_from (i + 1) cs) (list_any (λ d. has_any d.requests) cs) e (λ f. first_wish (i + 1) cs f)

-- ---- each device is held

some_here : (b : Bool) (k : Key) (o : Option Key) → is_some (cond b (Some k) o) ≡ (b || is_some o)
some_here true k o = refl
some_here false k o = refl

some_found : (test : DeviceId → Bool) (pairs : List (DeviceId × Key)) → is_some (lookup test pairs) ≡ list_any (λ h. test h.0) pairs
some_found test [] = refl
some_found test (p ∷ ps) = some_here (test p.0) p.1 (lookup test ps) ∙ ap (λ (b : Bool). test p.0 || b) (some_found test ps)

all_same : {X : Type 0} (f g : X → Bool) (xs : List X) → ((x : X) → f x ≡ g x) → list_all f xs ≡ list_all g xs
all_same f g [] h = refl
all_same f g (x ∷ xs) h = ap (λ (b : Bool). b && list_all f xs) (h x) ∙ ap (λ (b : Bool). g x && b) (all_same f g xs h)

all_taken : (w : SearchInput) (h : Holders) (devices : List Offered) → AreHeld h w.held → all_held h devices ≡ true → list_all (is_taken w) devices ≡ true
unfolding all_held
all_taken w h devices are e =
    sym (all_same (λ o. is_some (holder_in h (id_in o))) (is_taken w) devices
    (λ o. ap is_some (are.holder (id_in o)) ∙ some_found (λ d. device_eq d (id_in o)) w.held))
    ∙ e

-- ---- the node's input

pub full_node : (s : State) (claims : List ResourceClaim) (node : List ℕ) (h : Holders) → AreHeld h (held s) → are_exclusive claims ≡ true → are_unfaulted s.classes (node_devices s.inventory node) claims ≡ true → all_held h (node_devices s.inventory node) ≡ true
    → IsFull (input_of s claims node)
unfolding input_of are_exclusive are_unfaulted
full_node s claims node h are exclusive quiet full =
    let parts = and_parts (all_exclusive claims) (list_any (λ c. has_any c.requests) claims) exclusive in
    let has : HasFirst (wishes_from 0 claims) = first_wish 0 claims parts.1 in
    record {
      sure = sure_claims (input_of s claims node) s.classes 0 claims refl parts.0 quiet;
      first = has.first;
      more = has.more;
      are = has.are;
      taken = all_taken (input_of s claims node) h (node_devices s.inventory node) are full;
    }

pub nothing : (s : State) (claims : List ResourceClaim) (node : List ℕ) (h : Holders) (budget : ℕ) → AreHeld h (held s) → are_exclusive claims ≡ true → are_unfaulted s.classes (node_devices s.inventory node) claims ≡ true
    → all_held h (node_devices s.inventory node) ≡ true → 1 ≤ budget → answer_of (input_of s claims node) budget ≡ Some ended.Unsat
unfolding answer_of
nothing s claims node h budget are exclusive quiet full some =
    ap (answer_by (input_of s claims node)) (full_outcome (input_of s claims node) budget (full_node s claims node h are exclusive quiet full) some)

-- without selectors no device has an evaluation error
pub unselective : (classes : ClassTable) (claims : List ResourceClaim) (devices : List Offered) → texts_of classes claims ≡ [] → are_unfaulted classes devices claims ≡ true
unselective classes claims devices e = clean_claims classes devices claims (record { each = λ i o at. ap (list_all (is_clean o)) e })

-- ---- what is known of a search

pub known_nothing : (s t : State) (claims : List ResourceClaim) (node : List ℕ) (pools j : Inventory) (classes : ClassTable) (h : Holders) (budget : ℕ) (devices : List Offered) (known : Option (List KnownFields))
    → t ≡ s → pools ≡ t.inventory → j ≡ t.inventory → classes ≡ t.classes → devices ≡ node_devices pools node → AreHeld h (held t)
    → IfSome known (IsKnownOf t.inventory.slices classes claims) → IsFullBy h devices known → AreNamed j.slices (node_devices j node) → AreListed (node_devices j node) (usable_slices j)
    → 1 ≤ budget → answer_of (input_of s claims node) budget ≡ Some ended.Unsat
known_nothing s t claims node pools j classes h budget devices None ts p r k d are of full named listed some = absurd (full)
known_nothing s t claims node pools j classes h budget devices (Some known) ts p r k d are of full named listed some =
    let is_node : devices ≡ node_devices t.inventory node = d ∙ ap (λ x. node_devices x node) p in
    let clean : AreClean (node_devices t.inventory node) (texts_of t.classes claims) =
    sure_devices t.inventory.slices (usable_slices t.inventory) (texts_of t.classes claims) (node_devices t.inventory node)
    (subst (λ (x : Inventory). AreNamed x.slices (node_devices x node)) r named)
    (subst (λ (x : Inventory). AreListed (node_devices x node) (usable_slices x)) r listed)
    (ap (λ (os : List Offered). are_sure (known_of t.inventory.slices (texts_of t.classes claims)) os) (sym is_node)
    ∙ ap (λ (ks : List KnownFields). are_sure ks devices) (sym (of.known_is ∙ ap (λ (cs : ClassTable). known_of t.inventory.slices (texts_of cs claims)) k))
    ∙ full.sure)
    in
    ap (λ (x : State). answer_of (input_of x claims node) budget) (sym ts)
    ∙ nothing t claims node h budget are of.exclusive (clean_claims t.classes (node_devices t.inventory node) claims clean) (ap (all_held h) (sym is_node) ∙ full.held) some
