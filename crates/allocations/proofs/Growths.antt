-- What a search finds where claims only hold more.
use Rattle.std.proofs.Common.{ℕ, ◌≤◌, ◌≡◌, List, true, None, Some, refl, sym, ap, ◌∙◌, subst, arith}
use Rattle.std.specs.List.{slice_get}
use Rattle.object_fields.specs.declared.key.DeviceId.{DeviceId}
use Rattle.object_fields.specs.declared.key.Key.{Key}
use Rattle.api_claim.specs.declared.types.DeviceAsk.{DeviceAsk}
use Rattle.api_claim.specs.declared.types.ResourceClaim.{ResourceClaim}
use Rattle.api_cluster.specs.declared.types.Pod.{Pod}
use Rattle.cluster.specs.declared.state.State.{State}
use Rattle.cluster.specs.Held.{held}
use Rattle.pool_view.specs.declared.inventory.Inventory.{Inventory}
use Rattle.pool_view.specs.declared.names.PoolName.{PoolName}
use Rattle.pool_view.specs.Pools.{Offered, id_in}
use Rattle.pool_view.specs.Usable.{has_broken, node_devices, pool_named, usable_slices}
use Rattle.request_rules.specs.Draws.{CounterId, Draw, drawn, draws_of, is_held, value_among}
use Rattle.request_rules.specs.Growth.{IsFuller, IsOfPool, class_selectors, specs_of}
use Rattle.request_rules.specs.Input.{SearchInput}
use Rattle.request_rules.specs.Lists.{Each}
use Rattle.request_rules.specs.Match.{ClassTable, matched_by}
use Rattle.request_rules.specs.Problem.{problem_of}
use Rattle.request_rules.specs.Ways.{all_asked}
use Rattle.walk.specs.Outcome.{Unsat, outcome}
use Rattle.walk.specs.Walk.{walk}
use Rattle.allocations.specs.Claims.{other_claim, wanted}
use Rattle.allocations.specs.Growth.{Grown, KeepsHeld, SameObjects, StaysHeld, StaysHeldFor, drawn_at}
use Rattle.allocations.specs.Input.{input_of, outcome_on, walk_on}
use Rattle.allocations.specs.Lacking.{Dates, IsLacking, IsSince, Lacking, outcome_for}
use Rattle.allocations.specs.Outcomes.{FindsNone}

-- ---- the input of a search

abbrev pub MatchLaw : Type 0
MatchLaw = (a b : ClassTable) (ask : DeviceAsk) (o : Offered) → class_selectors a ask.class ≡ class_selectors b ask.class → matched_by a ask o ≡ matched_by b ask o

pub fuller : MatchLaw → (s t : State) (claims others : List ResourceClaim) (node : List ℕ) → specs_of others ≡ specs_of claims → Grown s t claims node → IsFuller (input_of s claims node) (input_of t others node)
unfolding input_of all_asked
fuller law s t claims others node e g = record {
  devices = g.devices;
  specs = e;
  matched = λ i a h j o k. law t.classes s.classes a.ask o (g.classes i a h);
  broken = g.broken;
  held = g.held;
  values = g.values;
  drawn = g.drawn;
}

-- ---- outcomes

abbrev pub StaysUnsat : Type 0
StaysUnsat = (v w : SearchInput) (b : ℕ) → IsFuller v w → outcome b (walk (problem_of v)) ≡ Unsat → outcome b (walk (problem_of w)) ≡ Unsat

pub claims_later : MatchLaw → StaysUnsat → (s t : State) (claims others : List ResourceClaim) (node : List ℕ) (b : ℕ) → specs_of others ≡ specs_of claims → Grown s t claims node
    → outcome_for s claims node b ≡ Unsat → outcome_for t others node b ≡ Unsat
claims_later matches law s t claims others node b e g u = law (input_of s claims node) (input_of t others node) b (fuller matches s t claims others node e g) u

pub unsat_later : MatchLaw → StaysUnsat → (s t : State) (pod other : Pod) (node : List ℕ) (b : ℕ) → specs_of (wanted t other) ≡ specs_of (wanted s pod) → Grown s t (wanted s pod) node
    → outcome_on s pod node b ≡ Unsat → outcome_on t other node b ≡ Unsat
unfolding outcome_on walk_on
unsat_later matches law s t pod other node b e g u = claims_later matches law s t (wanted s pod) (wanted t other) node b e g u

-- ---- what is known of nodes

abbrev pub ClaimsLater : Type 0
ClaimsLater = (s t : State) (claims others : List ResourceClaim) (node : List ℕ) (b : ℕ) → specs_of others ≡ specs_of claims → Grown s t claims node
    → outcome_for s claims node b ≡ Unsat → outcome_for t others node b ≡ Unsat

abbrev pub GrownNone : Type 0
GrownNone = (s : State) (claims : List ResourceClaim) (node : List ℕ) → Grown s s claims node

pub lacking_found : ClaimsLater → GrownNone → (s : State) (d : Dates) (pod : Pod) (node : List ℕ) (b index : ℕ) → outcome_on s pod node b ≡ Unsat
    → IsLacking s d (record { specs = specs_of (wanted s pod); budget = b; node = node; index = index })
unfolding outcome_on walk_on
lacking_found later none s d pod node b index u = record { none = λ since claims e. later s s (wanted s pod) claims node b e (none s (wanted s pod) node) u }

pub lacking_used : (s : State) (d : Dates) (pod : Pod) (row : Lacking) → IsLacking s d row → IsSince s d row.node row.index → specs_of (wanted s pod) ≡ row.specs → outcome_on s pod row.node row.budget ≡ Unsat
unfolding outcome_on walk_on
lacking_used s d pod row h since e = h.none since (wanted s pod) e

pub none_later : MatchLaw → StaysUnsat → (s t : State) (pod other : Pod) (node : List ℕ) (b : ℕ) → specs_of (wanted t other) ≡ specs_of (wanted s pod) → Grown s t (wanted s pod) node
    → FindsNone s pod b node → other_claim t other node ≡ None → FindsNone t other b node
none_later matches law s t pod other node b e g f here = record { here = here; none = unsat_later matches law s t pod other node b e g f.none }

-- ---- one growth after another

pub grown_none : (s : State) (claims : List ResourceClaim) (node : List ℕ) → Grown s s claims node
grown_none s claims node = record {
  devices = refl;
  broken = refl;
  classes = λ i a h. refl;
  held = λ i o h e. e;
  values = λ i o h j d k. refl;
  drawn = λ i o h j d k. omega arith;
}

pub grown_both : (r s t : State) (claims : List ResourceClaim) (node : List ℕ) → Grown r s claims node → Grown s t claims node → Grown r t claims node
grown_both r s t claims node f g =
    let there : (i : ℕ) (o : Offered) → slice_get (node_devices r.inventory node) i ≡ Some o → slice_get (node_devices s.inventory node) i ≡ Some o = λ i o h. ap (λ (ds : List Offered). slice_get ds i) f.devices ∙ h in
    record {
      devices = g.devices ∙ f.devices;
      broken = g.broken ∙ f.broken;
      classes = λ i a h. g.classes i a h ∙ f.classes i a h;
      held = λ i o h e. g.held i o (there i o h) (f.held i o h e);
      values = λ i o h j d k. g.values i o (there i o h) j d k ∙ f.values i o h j d k;
      drawn = λ i o h j d k. let a = f.drawn i o h j d k in let b = g.drawn i o (there i o h) j d k in omega (arith, a, b);
    }

-- ---- pools whose devices stay held

abbrev pub OwnLaw : Type 0
OwnLaw = (o : Offered) → Each (IsOfPool o) (draws_of o)

abbrev pub DrawnLaw : Type 0
DrawnLaw = (i : Inventory) (old now : List (DeviceId × Key)) (k : CounterId) → ((d : DeviceId) → d.driver ≡ k.driver → d.pool ≡ k.pool → is_held old d ≡ true → is_held now d ≡ true)
    → drawn (usable_slices i) old k ≤ drawn (usable_slices i) now k

-- what is drawn from a counter of a pool whose devices stay held
more_drawn_at : DrawnLaw → (s t : State) (k : CounterId) → t.inventory ≡ s.inventory → StaysHeld s t (record { driver = k.driver; pool = k.pool }) → drawn_at s k ≤ drawn_at t k
more_drawn_at law s t k e h = subst (λ (i : Inventory). drawn (usable_slices s.inventory) (held s) k ≤ drawn (usable_slices i) (held t) k) (sym e) (law s.inventory (held s) (held t) k h.each)

pool_is : (o : Offered) (d : Draw) → IsOfPool o d → pool_named o.slice ≡ record { driver = d.counter.driver; pool = d.counter.pool }
pool_is o d f = ap (λ (n : List ℕ). record { driver = n; pool = o.slice.pool.name }) (sym f.driver) ∙ ap (λ (n : List ℕ). record { driver = d.counter.driver; pool = n }) (sym f.pool)

pub grown_pools : OwnLaw → DrawnLaw → (s t : State) (claims : List ResourceClaim) (node : List ℕ) → SameObjects s t → StaysHeldFor s t node → Grown s t claims node
grown_pools own law s t claims node same stays = record {
  devices = ap (λ (i : Inventory). node_devices i node) same.inventory;
  broken = ap (λ (i : Inventory). has_broken i node) same.inventory;
  classes = λ i a h. ap (λ (cs : ClassTable). class_selectors cs a.ask.class) same.classes;
  held = λ i o h e. (stays.pools i o h).each (id_in o) refl refl e;
  values = λ i o h j d k. ap (λ (n : Inventory). value_among (usable_slices n) d.counter) same.inventory;
  drawn = λ i o h j d k. more_drawn_at law s t d.counter same.inventory (subst (λ (p : PoolName). StaysHeld s t p) (pool_is o d (own o j d k)) (stays.pools i o h));
}

pub grown_held : OwnLaw → DrawnLaw → (s t : State) (claims : List ResourceClaim) (node : List ℕ) → SameObjects s t → KeepsHeld s t → Grown s t claims node
grown_held own law s t claims node same keeps = grown_pools own law s t claims node same (record { pools = λ i o h. record { each = λ d e f m. keeps.each d m } })
