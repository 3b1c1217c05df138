-- What a search of a node shows, by its outcome.
use Rattle.std.proofs.Common.{ℕ, ◌≡◌, ◌∙◌, List, [], ◌∷◌, Bool, true, false, cond, Option, None, Some, refl, sym, ap, subst}
use Rattle.std.specs.List.{filter, find}
use Rattle.std.specs.Option.{is_some, option_map}
use Rattle.walk.specs.Walk.{Item, Mark, Part, Full, Fault}
use Rattle.walk.specs.Outcome as walks
use Rattle.object_fields.specs.declared.key.Key.{Key}
use Rattle.api_claim.specs.declared.types.ResourceClaim.{ResourceClaim}
use Rattle.api_cluster.specs.declared.types.Pod.{Pod}
use Rattle.pool_view.specs.Names.{at_key}
use Rattle.cluster.specs.declared.state.ClaimState.{ClaimState}
use Rattle.cluster.specs.declared.state.Granted.{Granted}
use Rattle.cluster.specs.declared.state.State.{State}
use Rattle.request_rules.specs.Faults.{FaultPlace, fault_of}
use Rattle.request_rules.specs.Input.{SearchInput}
use Rattle.allocations.specs.Claims.{has_grant, is_elsewhere, is_off, joined, keys_of_pod, other_claim, wanted}
use Rattle.allocations.specs.Input.{grants_by, input_for, input_of, outcome_on, selector_fault, walk_on}
use Rattle.allocator.specs.declared.outcome.Outcome.{Outcome}
use Rattle.allocator.specs.declared.outcome.Outcome.TheVariants as outcome
use Rattle.allocator.specs.Answered as answers
use Rattle.pod_decision.specs.Parts.{first_elsewhere}
use Rattle.pod_decision.specs.Tries.{IsTried, tried_of}

some_outcome : (a b : Outcome) → Some a ≡ Some b → a ≡ b
some_outcome a b e = cc

fault_by : (o : Option FaultPlace) (found : Outcome) → option_map (λ f. outcome.Fault (answers.selector_fault f)) o ≡ Some found → (f : FaultPlace) × (o ≡ Some f) × (outcome.Fault (selector_fault f) ≡ found)
fault_by None found e = absurd (cc)
fault_by (Some f) found e = (f, refl, some_outcome (outcome.Fault (selector_fault f)) found e)

ended_by : (s : State) (pod : Pod) (budget : ℕ) (node : List ℕ) (x : Item) (m : Mark) (found : Outcome) → other_claim s pod node ≡ None → outcome_on s pod node budget ≡ walks.Ended x → x.mark ≡ m
    → answers.ended_by (input_for s pod node) x m ≡ Some found → IsTried s pod budget node (tried_of budget found)
unfolding answers.grants_at grants_by
ended_by s pod budget node x Part found here o mark e = absurd (cc)
ended_by s pod budget node x Full found here o mark e =
    subst (λ (f : Outcome). IsTried s pod budget node (tried_of budget f)) (some_outcome (outcome.Found (answers.grants_at (input_for s pod node) x.choice x.positions)) found e)
    (record { here = here; item = x; found = o; full = mark; grants_are = refl })
ended_by s pod budget node x Fault found here o mark e =
    let f = fault_by (fault_of (input_for s pod node) x.choice) found e in
    subst (λ (g : Outcome). IsTried s pod budget node (tried_of budget g)) f.2
    (record { here = here; item = x; found = o; ends_so = mark; place = ap (λ p. option_map selector_fault p) f.1 })

answer_by : (s : State) (pod : Pod) (budget : ℕ) (node : List ℕ) (o : walks.Outcome) (found : Outcome) → other_claim s pod node ≡ None → outcome_on s pod node budget ≡ o
    → answers.answer_by (input_for s pod node) o ≡ Some found → IsTried s pod budget node (tried_of budget found)
answer_by s pod budget node (walks.Ended x) found here o e = ended_by s pod budget node x x.mark found here o refl e
answer_by s pod budget node walks.Unsat found here o e =
    subst (λ (f : Outcome). IsTried s pod budget node (tried_of budget f)) (some_outcome outcome.Unsat found e) (record { here = here; none = o })
answer_by s pod budget node walks.Budget found here o e =
    subst (λ (f : Outcome). IsTried s pod budget node (tried_of budget f)) (some_outcome outcome.Budget found e) (refl, record { here = here; over = o })

-- ---- only claims with a grant have it on another node

off_has : (node : List ℕ) (g : Option Granted) → is_off node g ≡ true → is_some g ≡ true
off_has node None e = absurd (cc)
off_has node (Some g) e = refl

elsewhere_has : (node : List ℕ) (o : Option ClaimState) → is_elsewhere node o ≡ true → has_grant o ≡ true
elsewhere_has node None e = absurd (cc)
elsewhere_has node (Some c) e = off_has node c.grant e

find_kept : (kept passes : Bool) (t : Key → Bool) (k : Key) (ks : List Key) (rest : Option Key) → t k ≡ passes → (passes ≡ true → kept ≡ true) → find t ks ≡ rest
    → find t (cond kept (k ∷ ks) ks) ≡ cond passes (Some k) rest
find_kept true passes t k ks rest is h same = ap (λ (b : Bool). cond b (Some k) (find t ks)) is ∙ ap (λ (o : Option Key). cond passes (Some k) o) same
find_kept false true t k ks rest is h same = let e : false ≡ true = h refl in absurd (cc)
find_kept false false t k ks rest is h same = same

granted_elsewhere : (s : State) (node : List ℕ) (ks : List Key) → first_elsewhere s node (filter (λ k. has_grant (at_key s.claims k)) ks) ≡ first_elsewhere s node ks
granted_elsewhere s node [] = refl
granted_elsewhere s node (k ∷ ks) =
    find_kept (has_grant (at_key s.claims k)) (is_elsewhere node (at_key s.claims k)) (λ l. is_elsewhere node (at_key s.claims l)) k (filter (λ l. has_grant (at_key s.claims l)) ks) (first_elsewhere s node ks) refl
    (elsewhere_has node (at_key s.claims k)) (granted_elsewhere s node ks)

other_is : (s : State) (pod : Pod) (node : List ℕ) (ks : List Key) → ks ≡ joined s pod → other_claim s pod node ≡ first_elsewhere s node ks
unfolding joined other_claim
other_is s pod node ks joins = sym (granted_elsewhere s node (keys_of_pod pod)) ∙ ap (λ l. first_elsewhere s node l) (sym joins)

pub searched : (s : State) (pod : Pod) (budget : ℕ) (node : List ℕ) (found : Outcome) → other_claim s pod node ≡ None
    → answers.answer_of (input_of s (wanted s pod) node) budget ≡ Some found → IsTried s pod budget node (tried_of budget found)
unfolding answers.answer_of outcome_on walk_on
searched s pod budget node found here e = answer_by s pod budget node (outcome_on s pod node budget) found here refl e

pub here : (s : State) (pod : Pod) (node : List ℕ) (ks : List Key) → ks ≡ joined s pod → first_elsewhere s node ks ≡ None → other_claim s pod node ≡ None
here s pod node ks joins e = other_is s pod node ks joins ∙ e

pub elsewhere : (s : State) (pod : Pod) (node : List ℕ) (ks : List Key) (claim : Key) → ks ≡ joined s pod → first_elsewhere s node ks ≡ Some claim → other_claim s pod node ≡ Some claim
elsewhere s pod node ks claim joins e = other_is s pod node ks joins ∙ e

-- ---- a search that returns Unsat

never_fault : (o : Option FaultPlace) → option_map (λ f. outcome.Fault (answers.selector_fault f)) o ≡ Some outcome.Unsat → ⊥
never_fault None e = absurd (cc)
never_fault (Some f) e = absurd (cc)

never_ended : (w : SearchInput) (x : Item) (m : Mark) → answers.ended_by w x m ≡ Some outcome.Unsat → ⊥
never_ended w x Part e = absurd (cc)
never_ended w x Full e = absurd (cc)
never_ended w x Fault e = never_fault (fault_of w x.choice) e

unsat_by : (w : SearchInput) (o : walks.Outcome) → answers.answer_by w o ≡ Some outcome.Unsat → o ≡ walks.Unsat
unsat_by w (walks.Ended x) e = absurd (never_ended w x x.mark e)
unsat_by w walks.Unsat e = refl
unsat_by w walks.Budget e = absurd (cc)

unsat_is : (s : State) (pod : Pod) (budget : ℕ) (node : List ℕ) → answers.answer_of (input_of s (wanted s pod) node) budget ≡ Some outcome.Unsat → outcome_on s pod node budget ≡ walks.Unsat
unfolding answers.answer_of outcome_on walk_on
unsat_is s pod budget node e = unsat_by (input_for s pod node) (outcome_on s pod node budget) e

pub found_unsat : (s : State) (pod : Pod) (claims : List ResourceClaim) (budget : ℕ) (node : List ℕ) (found : Outcome) → claims ≡ wanted s pod → found ≡ outcome.Unsat
    → answers.answer_of (input_of s claims node) budget ≡ Some found → outcome_on s pod node budget ≡ walks.Unsat
found_unsat s pod claims budget node found same is e =
    unsat_is s pod budget node (ap (λ (cs : List ResourceClaim). answers.answer_of (input_of s cs node) budget) (sym same) ∙ e ∙ ap (λ (f : Outcome). Some f) is)
