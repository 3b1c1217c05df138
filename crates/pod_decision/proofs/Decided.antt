-- What is decided is true, and is what searches within the budget show.
use Rattle.std.proofs.Common.{ℕ, zero, suc, ◌≡◌, ◌∙◌, List, [], ◌∷◌, ◌++◌, Bool, true, false, cond, not, Option, None, Some, take, refl, sym, ap, subst, arith}
use Rattle.std.specs.List.{All, AllByRecursion, Contains, find, take_while}
use Rattle.std.specs.List.Sorted.{IsStrictlySortedBy}
use Rattle.std.specs.Map.{keys_of}
use Rattle.std.specs.Ordering.{ordering_reverse}
use Rattle.std.specs.Prelude.{nat_le, length}
use Rattle.std.specs.declared.cmp.Ordering.TheVariants.{Less, Greater}
use Rattle.std.proofs.lemmas.Bool.{false_from_ne_true}
use Rattle.std.proofs.lemmas.Cmp.{nat_list_cmp_total, nat_list_eq_equiv}
use Rattle.std.specs.Cmp.Lexicographic.{same_text}
use Rattle.std.proofs.lemmas.List.Sums.{take_while-cons}
use Rattle.std.proofs.lemmas.List.Elements.{All-from_recursion, Contains-append_right}
use Rattle.walk.specs.Walk.{Item}
use Rattle.walk.specs.Outcome.{Ended, Unsat, ends, outcome, outcome_by}
use Rattle.object_fields.specs.declared.key.Key.{Key}
use Rattle.api_cluster.specs.declared.types.Pod.{Pod}
use Rattle.pool_view.specs.Names.{text_cmp, text_eq}
use Rattle.cluster.specs.declared.plan.Cause.{Cause}
use Rattle.cluster.specs.declared.plan.Cause.TheVariants as cause
use Rattle.cluster.specs.declared.plan.Passed.{Passed}
use Rattle.cluster.specs.declared.plan.Reason.{Reason}
use Rattle.cluster.specs.declared.plan.Reason.TheVariants as reason
use Rattle.cluster.specs.declared.state.PodState.{PodState}
use Rattle.cluster.specs.declared.state.State.{State}
use Rattle.allocations.specs.Claims.{full_claim, keys_of_pod, missing_claim}
use Rattle.allocations.specs.Input.{outcome_on, walk_on}
use Rattle.allocations.specs.Outcomes.{IsUnsat}
use Rattle.pod_decision.specs.declared.nodes.Taken.{Taken}
use Rattle.engine_ports.specs.Decisions.{IsDecision, IsJudge, IsReserve}
use Rattle.pod_decision.specs.Parts.{decision_by, first_full, first_missing, plan_by, unready, unready_by}
use Rattle.plan_rules.specs.Plans.{CauseBy, CauseTrue, IsIdle, MaySearch, names_before, nodes_of}
use Rattle.pod_decision.specs.Tries.{AreTried, IsFirstTaken}
use Rattle.engine_ports.specs.Passed.{AllPassed}

-- ---- what ends a walk within a budget is what ends it

found_by : (o : Option Item) (whole : Bool) (x : Item) → outcome_by o whole ≡ Ended x → o ≡ Some x
found_by (Some y) whole x e = cc
found_by None true x e = absurd (cc)
found_by None false x e = absurd (cc)

find_by : (b : Bool) (x y : Item) (prefix rest : Option Item) → cond b (Some x) prefix ≡ Some y → (prefix ≡ Some y → rest ≡ Some y) → cond b (Some x) rest ≡ Some y
find_by true x y prefix rest e later = e
find_by false x y prefix rest e later = later e

find_take : (b : ℕ) (items : List Item) (y : Item) → find ends (take b items) ≡ Some y → find ends items ≡ Some y
find_take zero items y e = absurd (cc)
find_take (suc b) [] y e = e
find_take (suc b) (x ∷ items) y e = find_by (ends x) x y (find ends (take b items)) (find ends items) e (find_take b items y)

ends_first : (s : State) (pod : Pod) (node : List ℕ) (budget : ℕ) (x : Item) → outcome_on s pod node budget ≡ Ended x → find ends (walk_on s pod node) ≡ Some x
unfolding outcome_on outcome
ends_first s pod node budget x e =
    find_take budget (walk_on s pod node) x (found_by (find ends (take budget (walk_on s pod node))) (nat_le (length (walk_on s pod node)) budget) x e)

-- ---- causes

-- what the law of Unsat says
abbrev pub Unsats : Type 0
Unsats = (s : State) (pod : Pod) (node : List ℕ) (b : ℕ) → outcome_on s pod node b ≡ Unsat → IsUnsat s pod node

cause_true : (s : State) (pod : Pod) (budget : ℕ) (node : List ℕ) (c : Cause) → Unsats → CauseBy s pod budget node c → CauseTrue s pod node c
cause_true s pod budget node cause.Unsat law e = law s pod node budget e.none
cause_true s pod budget node (cause.Fault fault) law e = (budget, e)
cause_true s pod budget node (cause.Budget steps) law e = record { here = e.1.here; over = ap (λ n. outcome_on s pod node n) e.0 ∙ e.1.over }
cause_true s pod budget node (cause.Other claim) law e = e

causes_true : (s : State) (pod : Pod) (budget : ℕ) → Unsats → (ps : List Passed) → AllByRecursion (λ p. CauseBy s pod budget p.node p.cause) ps
    → AllByRecursion (λ p. CauseTrue s pod p.node p.cause) ps
causes_true s pod budget law [] a = tt
causes_true s pod budget law (p ∷ ps) a = (cause_true s pod budget p.node p.cause law a.0, causes_true s pod budget law ps a.1)

all_true : (s : State) (pod : Pod) (budget : ℕ) → Unsats → (ps : List Passed) → AllByRecursion (λ p. CauseBy s pod budget p.node p.cause) ps → All (λ p. CauseTrue s pod p.node p.cause) ps
all_true s pod budget law ps a = All-from_recursion (λ p. CauseTrue s pod p.node p.cause) ps (causes_true s pod budget law ps a)

-- ---- names in order differ

text_eq-same : (a : List ℕ) → text_eq a a ≡ true
text_eq-same a = nat_list_eq_equiv.refl a

same_from_text_eq : (a b : List ℕ) → text_eq a b ≡ true → a ≡ b
same_from_text_eq a b e = same_text a b (sym e)

below : (y : List ℕ) (xs rest : List (List ℕ)) (k : List ℕ) → AllByRecursion (λ q. text_cmp y q ≡ Less) (xs ++ k ∷ rest) → text_cmp y k ≡ Less
below y [] rest k a = a.0
below y (x ∷ xs) rest k a = below y xs rest k a.1

never_less : (x : List ℕ) → text_cmp x x ≡ Less → ⊥
never_less x e =
    let f : text_cmp x x ≡ ordering_reverse (text_cmp x x) = nat_list_cmp_total.antisymm x x in
    let g : Less ≡ Greater = sym e ∙ f ∙ ap ordering_reverse e in
    absurd (cc)

prefix_names : (prefix back : List (List ℕ)) (node : List ℕ) → IsStrictlySortedBy text_cmp (prefix ++ node ∷ back) → names_before node (prefix ++ node ∷ back) ≡ prefix
unfolding IsStrictlySortedBy
prefix_names [] back node o =
    take_while-cons (λ n. not (text_eq n node)) node back
    ∙ ap (λ b. cond (not b) (node ∷ take_while (λ n. not (text_eq n node)) back) []) (text_eq-same node)
prefix_names (x ∷ xs) back node o =
    let less = below x xs back node o.0 in
    let other : text_eq x node ≡ false = false_from_ne_true (text_eq x node) (λ t. never_less x (ap (λ y. text_cmp x y) (same_from_text_eq x node t) ∙ less)) in
    take_while-cons (λ n. not (text_eq n node)) x (xs ++ node ∷ back)
    ∙ ap (λ b. cond (not b) (x ∷ take_while (λ n. not (text_eq n node)) (xs ++ node ∷ back)) []) other ∙ ap (λ l. x ∷ l) (prefix_names xs back node o.1)

-- ---- decisions

reserve_is : (s : State) (pod : Key) (p : PodState) (budget at : ℕ) (passed : List Passed) (taken : Taken) → Unsats → MaySearch s pod p → IsStrictlySortedBy text_cmp (keys_of s.inventory.nodes)
    → IsFirstTaken s p.pod.object budget (keys_of s.inventory.nodes) passed taken → IsReserve s pod budget at (plan_by s p at passed taken)
reserve_is s pod p budget at passed taken law may order t =
    let names = keys_of s.inventory.nodes in
    let o : IsStrictlySortedBy text_cmp (nodes_of passed ++ taken.node ∷ t.rest) = subst (λ (l : List (List ℕ)). IsStrictlySortedBy text_cmp l) (sym t.names_are) order in
    record {
      index = refl;
      holds = record {
        state = p;
        may_search = may;
        node_known = subst (λ (l : List (List ℕ)). Contains l taken.node) t.names_are
            (Contains-append_right (nodes_of passed) (taken.node ∷ t.rest) taken.node (0, omega arith, refl));
        passed = sym (prefix_names (nodes_of passed) t.rest taken.node o) ∙ ap (λ l. names_before taken.node l) t.names_are;
        causes = all_true s p.pod.object budget law passed t.causes;
        here = t.found.here;
        item = t.found.item;
        first = ends_first s p.pod.object taken.node budget t.found.item t.found.found;
        full = t.found.full;
        grants = t.found.grants_are;
        joins = refl;
        known = refl;
      };
      found = record {
        state = p;
        there = may.idle.there;
        causes = All-from_recursion (λ q. CauseBy s p.pod.object budget q.node q.cause) passed t.causes;
        item = t.found.item;
        found = t.found.found;
        full = t.found.full;
      };
    }

judge_is : (s : State) (pod : Key) (p : PodState) (budget at : ℕ) (passed : List Passed) → Unsats → MaySearch s pod p → AllPassed s p.pod.object budget (keys_of s.inventory.nodes) passed
    → IsJudge s pod budget at (record { at = at; reason = reason.Nodes passed })
judge_is s pod p budget at passed law may a = record {
  index = refl;
  holds = record {
    state = p;
    idle = may.idle;
    reason = record { there = may.there; room = may.room; all = a.names_are; causes = all_true s p.pod.object budget law passed a.causes };
  };
  found = record { state = p; there = may.idle.there; reason = All-from_recursion (λ q. CauseBy s p.pod.object budget q.node q.cause) passed a.causes };
}

-- by what became of the nodes
pub decided : (s : State) (pod : Key) (p : PodState) (budget at : ℕ) (passed : List Passed) (taken : Option Taken) → Unsats → MaySearch s pod p
    → IsStrictlySortedBy text_cmp (keys_of s.inventory.nodes) → AreTried s p.pod.object budget (keys_of s.inventory.nodes) passed taken → IsDecision s pod budget at (decision_by s p at passed taken)
decided s pod p budget at passed None law may order t = judge_is s pod p budget at passed law may t
decided s pod p budget at passed (Some taken) law may order t = reserve_is s pod p budget at passed taken law may order t

-- ---- pods that aren't searched for

unready_judge : (s : State) (pod : Key) (p : PodState) (budget at : ℕ) (missing full : Option Key) (why : Reason) → IsIdle s pod p → missing_claim s p.pod.object ≡ missing → full_claim s pod p.pod.object ≡ full
    → unready_by missing full ≡ Some why → IsJudge s pod budget at (record { at = at; reason = why })
unready_judge s pod p budget at (Some k) full (reason.Missing claim) idle m f e =
    let same : k ≡ claim = cc in
    record { index = refl; holds = record { state = p; idle = idle; reason = m ∙ ap (λ l. Some l) same }; found = record { state = p; there = idle.there; reason = tt } }
unready_judge s pod p budget at (Some k) full (reason.Users claim) idle m f e = absurd (cc)
unready_judge s pod p budget at (Some k) full (reason.Nodes nodes) idle m f e = absurd (cc)
unready_judge s pod p budget at None (Some k) (reason.Missing claim) idle m f e = absurd (cc)
unready_judge s pod p budget at None (Some k) (reason.Users claim) idle m f e =
    let same : k ≡ claim = cc in
    record { index = refl; holds = record { state = p; idle = idle; reason = record { there = m; full = f ∙ ap (λ l. Some l) same } }; found = record { state = p; there = idle.there; reason = tt } }
unready_judge s pod p budget at None (Some k) (reason.Nodes nodes) idle m f e = absurd (cc)
unready_judge s pod p budget at None None why idle m f e = absurd (cc)

pub unready_is : (s : State) (pod : Key) (p : PodState) (budget at : ℕ) (ks : List Key) (why : Reason) → IsIdle s pod p → ks ≡ keys_of_pod p.pod.object → unready s pod ks ≡ Some why
    → IsJudge s pod budget at (record { at = at; reason = why })
unfolding missing_claim full_claim
unready_is s pod p budget at ks why idle keys e =
    let f : unready s pod (keys_of_pod p.pod.object) ≡ Some why = ap (λ l. unready s pod l) (sym keys) ∙ e in
    unready_judge s pod p budget at (missing_claim s p.pod.object) (full_claim s pod p.pod.object) why idle refl refl f

ready_by : (missing full : Option Key) → unready_by missing full ≡ None → (missing ≡ None) × (full ≡ None)
ready_by (Some k) full e = absurd (cc)
ready_by None (Some k) e = absurd (cc)
ready_by None None e = (refl, refl)

pub ready_is : (s : State) (pod : Key) (p : PodState) (ks : List Key) → IsIdle s pod p → ks ≡ keys_of_pod p.pod.object → unready s pod ks ≡ None → MaySearch s pod p
unfolding missing_claim full_claim
ready_is s pod p ks idle keys e =
    let r = ready_by (first_missing s (keys_of_pod p.pod.object)) (first_full s pod (keys_of_pod p.pod.object)) (ap (λ l. unready s pod l) (sym keys) ∙ e) in
    record { idle = idle; there = r.0; room = r.1 }
