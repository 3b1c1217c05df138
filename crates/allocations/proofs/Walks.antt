-- The laws of walks, at a node of a state.
use Rattle.std.proofs.Common.{ℕ, ◌<◌, ◌≡◌, ◌⊎◌, ◌∙◌, List, Option, None, Some, length, take, refl, ap}
use Rattle.std.specs.List.{Contains, find}
use Rattle.std.specs.Option.{IsSome, option_map}
use Rattle.walk.specs.Walk.{Problem, Item, Full, Fault, Part, IsBefore, IsAllocation as IsFilling, walk}
use Rattle.walk.specs.Outcome.{Budget, Unsat, is_full, outcome}
use Rattle.api_cluster.specs.declared.types.Pod.{Pod}
use Rattle.cluster.specs.declared.state.State.{State}
use Rattle.cluster.specs.declared.plan.Grant.{Grant}
use Rattle.cluster.specs.declared.plan.SelectorFault.{SelectorFault}
use Rattle.pool_view.specs.Names.{at_name}
use Rattle.request_rules.specs.Allocation as rules
use Rattle.request_rules.specs.Allocation.{results_of}
use Rattle.request_rules.specs.Faults.{FaultPlace, IsFirstFault, fault_of}
use Rattle.request_rules.specs.Input.{SearchInput}
use Rattle.request_rules.specs.Problem.{problem_of}
use Rattle.allocations.specs.Claims.{wanted}
use Rattle.allocations.specs.Input.{grants_at, grants_by, input_for, outcome_on, selector_fault, walk_on}
use Rattle.allocations.specs.Allocation.{IsAllocation}
use Rattle.allocations.specs.Outcomes.{IsFault, IsUnsat}

-- the statement of the laws of walks
abbrev pub Fulls : Type 0
Fulls = (w : SearchInput) (x : Item) → Contains (walk (problem_of w)) x → x.mark ≡ Full → rules.IsAllocation w x.choice (results_of w x.choice x.positions)

abbrev pub Everys : Type 0
Everys = (w : SearchInput) (c : List ℕ) (rs : List rules.Result) → rules.IsAllocation w c rs
    → (l : List ℕ) × (rs ≡ results_of w c l) × Contains (walk (problem_of w)) (record { choice = c; positions = l; mark = Full })

abbrev pub Meants : Type 0
Meants = (w : SearchInput) (c : List ℕ) (rs : List rules.Result) → rules.IsAllocation w c rs → (l : List ℕ) × (rs ≡ results_of w c l) × IsFilling (problem_of w) c l

abbrev pub Fillings : Type 0
Fillings = (p : Problem) (x : Item) → Contains (walk p) x → x.mark ≡ Full → IsFilling p x.choice x.positions

abbrev pub Leasts : Type 0
Leasts = (p : Problem) (x y : Item) → find is_full (walk p) ≡ Some x → IsFilling p y.choice y.positions → y.mark ≡ Full → (x ≡ y) ⊎ IsBefore x y

abbrev pub Nones : Type 0
Nones = (p : Problem) (b : ℕ) (c l : List ℕ) → outcome b (walk p) ≡ Unsat → IsFilling p c l → ⊥

abbrev pub Unfaulteds : Type 0
Unfaulteds = (p : Problem) (b : ℕ) (x : Item) → outcome b (walk p) ≡ Unsat → Contains (walk p) x → x.mark ≡ Fault → ⊥

pub full_on : Fulls → (s : State) (pod : Pod) (node : List ℕ) (x : Item) → IsSome (at_name s.inventory.nodes node) → Contains (walk_on s pod node) x → x.mark ≡ Full
    → IsAllocation s (wanted s pod) node x.choice (grants_at (input_for s pod node) x)
unfolding walk_on
full_on law s pod node x there i m = record {
  node_known = there;
  results = results_of (input_for s pod node) x.choice x.positions;
  meant = law (input_for s pod node) x i m;
  cut = refl;
}

pub every_on : Everys → (s : State) (pod : Pod) (node choice : List ℕ) (grants : List Grant) → IsAllocation s (wanted s pod) node choice grants
    → (x : Item) × (x.choice ≡ choice) × (x.mark ≡ Full) × Contains (walk_on s pod node) x × (grants ≡ grants_at (input_for s pod node) x)
unfolding walk_on
every_on law s pod node choice grants a =
    let f = law (input_for s pod node) choice a.results a.meant in
    (record { choice = choice; positions = f.0; mark = Full }, refl, refl, f.2, a.cut ∙ ap (grants_by (input_for s pod node)) f.1)

pub least_on : Fillings → Leasts → (s : State) (pod : Pod) (node : List ℕ) (x y : Item) → find is_full (walk_on s pod node) ≡ Some x → Contains (walk_on s pod node) y → y.mark ≡ Full
    → (x ≡ y) ⊎ IsBefore x y
unfolding walk_on
least_on fillings law s pod node x y e i m = law (problem_of (input_for s pod node)) x y e (fillings (problem_of (input_for s pod node)) y i m) m

pub unsat_on : Meants → Nones → Unfaulteds → (s : State) (pod : Pod) (node : List ℕ) (b : ℕ) → outcome_on s pod node b ≡ Unsat → IsUnsat s pod node
unfolding outcome_on walk_on
unsat_on meants nones unfaulteds s pod node b e = record {
  none = λ choice grants a. let f = meants (input_for s pod node) choice a.results a.meant in nones (problem_of (input_for s pod node)) b choice f.0 e f.2;
  unfaulted = λ x i m. unfaulteds (problem_of (input_for s pod node)) b x e i m;
}

abbrev pub Overs : Type 0
Overs = (p : Problem) (b : ℕ) → outcome b (walk p) ≡ Budget → b < length (walk p)

abbrev pub Unendeds : Type 0
Unendeds = (p : Problem) (b : ℕ) (x : Item) → outcome b (walk p) ≡ Budget → Contains (take b (walk p)) x → x.mark ≡ Part

pub more_on : Overs → (s : State) (pod : Pod) (node : List ℕ) (b : ℕ) → outcome_on s pod node b ≡ Budget → b < length (walk_on s pod node)
unfolding outcome_on walk_on
more_on law s pod node b e = law (problem_of (input_for s pod node)) b e

pub parts_on : Unendeds → (s : State) (pod : Pod) (node : List ℕ) (b : ℕ) (x : Item) → outcome_on s pod node b ≡ Budget → Contains (take b (walk_on s pod node)) x → x.mark ≡ Part
unfolding outcome_on walk_on
parts_on law s pod node b x e i = law (problem_of (input_for s pod node)) b x e i

abbrev pub Firsts : Type 0
Firsts = (w : SearchInput) (c : List ℕ) (fault : FaultPlace) → fault_of w c ≡ Some fault → IsFirstFault w c fault

found_by : (w : SearchInput) (c : List ℕ) (fault : SelectorFault) (o : Option FaultPlace) → Firsts → fault_of w c ≡ o → option_map selector_fault o ≡ Some fault
    → (place : FaultPlace) × (selector_fault place ≡ fault) × IsFirstFault w c place
found_by w c fault None law is e = absurd (cc)
found_by w c fault (Some place) law is e = let same : selector_fault place ≡ fault = cc in (place, same, law w c place is)

pub first_on : Firsts → (s : State) (pod : Pod) (b : ℕ) (node : List ℕ) (fault : SelectorFault) (f : IsFault s pod b node fault)
    → (place : FaultPlace) × (selector_fault place ≡ fault) × IsFirstFault (input_for s pod node) f.item.choice place
first_on law s pod b node fault f = found_by (input_for s pod node) f.item.choice fault (fault_of (input_for s pod node) f.item.choice) law refl f.place
