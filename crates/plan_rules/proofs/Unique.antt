-- What is decided on a pod is unique.
use Rattle.std.proofs.Common.{ℕ, zero, suc, ◌+◌, ◌<◌, ◌≡◌, ◌∙◌, ◌⊎◌, inl, inr, ⊎_elim, List, [], ◌∷◌, Bool, true, false, not, Option, None, Some, length, take, get_or, refl, sym, ap, subst, arith}
use Rattle.std.specs.List.{find, AllByRecursion, prefix_len}
use Rattle.std.specs.Map.{keys_of}
use Rattle.std.specs.Prelude.{option_map}
use Rattle.std.specs.Cmp.Lexicographic.{same_text}
use Rattle.std.proofs.lemmas.Cmp.{nat_list_eq_equiv}
use Rattle.std.proofs.lemmas.List.Elements.{recursion_from_All}
use Rattle.walk.specs.Walk.{Item, Full, Fault}
use Rattle.walk.specs.Outcome.{Outcome, Ended, Unsat, Budget, ends}
use Rattle.object_fields.specs.declared.key.Key.{Key}
use Rattle.api_cluster.specs.declared.types.Pod.{Pod}
use Rattle.pool_view.specs.Names.{at_key, text_eq}
use Rattle.request_rules.specs.Faults.{fault_of}
use Rattle.cluster.specs.Claims.{known_of}
use Rattle.cluster.specs.declared.plan.Cause.{Cause}
use Rattle.cluster.specs.declared.plan.Cause.TheVariants as cause
use Rattle.cluster.specs.declared.plan.Grant.{Grant}
use Rattle.cluster.specs.declared.plan.Known.{Known}
use Rattle.cluster.specs.declared.plan.Passed.{Passed}
use Rattle.cluster.specs.declared.plan.Plan.{Plan}
use Rattle.cluster.specs.declared.plan.Reason.{Reason}
use Rattle.cluster.specs.declared.plan.Reason.TheVariants as reason
use Rattle.cluster.specs.declared.plan.SelectorFault.{SelectorFault}
use Rattle.cluster.specs.declared.plan.Verdict.{Verdict}
use Rattle.cluster.specs.declared.state.PodState.{PodState}
use Rattle.cluster.specs.declared.state.State.{State}
use Rattle.allocations.specs.Claims.{full_claim, joined, missing_claim, other_claim}
use Rattle.allocations.specs.Input.{grants_at, input_for, outcome_on, selector_fault, walk_on}
use Rattle.allocations.specs.Outcomes.{IsFault}
use Rattle.plan_rules.specs.Decided.{IsPlanWithin, IsVerdictWithin}
use Rattle.plan_rules.specs.Plans.{CauseBy, PlanBy, ReasonBy, ReasonTrue, VerdictBy, names_before, nodes_of}

some_same : {X : Type 0} (v w : X) → Some v ≡ Some w → v ≡ w
some_same v w e = cc

ended_same : (x y : Item) → Ended x ≡ Ended y → x ≡ y
ended_same x y e = cc

two : {X : Type 0} (o : Option X) (x y : X) → o ≡ Some x → o ≡ Some y → x ≡ y
two o x y e f = some_same x y (sym e ∙ f)

none_and_some : {X : Type 0} (o : Option X) (x : X) → o ≡ None → o ≡ Some x → ⊥
none_and_some o x e f = absurd (let no : None ≡ Some x = sym e ∙ f in cc)

nothing_ends : (o : Outcome) (x : Item) → o ≡ Unsat → o ≡ Ended x → ⊥
nothing_ends o x e f = absurd (let no : Unsat ≡ Ended x = sym e ∙ f in cc)

over_ends : (o : Outcome) (x : Item) → o ≡ Budget → o ≡ Ended x → ⊥
over_ends o x e f = absurd (let no : Budget ≡ Ended x = sym e ∙ f in cc)

nothing_over : (o : Outcome) → o ≡ Unsat → o ≡ Budget → ⊥
nothing_over o e f = absurd (let no : Unsat ≡ Budget = sym e ∙ f in cc)

-- ---- the cause of a node

place_same : (s : State) (pod : Pod) (node : List ℕ) (budget : ℕ) (f g : SelectorFault) → IsFault s pod budget node f → IsFault s pod budget node g → f ≡ g
place_same s pod node budget f g h k =
    let same : h.item ≡ k.item = ended_same h.item k.item (sym h.found ∙ k.found) in
    two (option_map selector_fault (fault_of (input_for s pod node) k.item.choice)) f g
    (ap (λ (x : Item). option_map selector_fault (fault_of (input_for s pod node) x.choice)) (sym same) ∙ h.place) k.place

cause_same : (s : State) (pod : Pod) (budget : ℕ) (node : List ℕ) (c d : Cause) → CauseBy s pod budget node c → CauseBy s pod budget node d → c ≡ d
cause_same s pod budget node cause.Unsat cause.Unsat h k = refl
cause_same s pod budget node cause.Unsat (cause.Fault g) h k = absurd (nothing_ends (outcome_on s pod node budget) k.item h.none k.found)
cause_same s pod budget node cause.Unsat (cause.Budget n) h k = absurd (nothing_over (outcome_on s pod node budget) h.none k.1.over)
cause_same s pod budget node cause.Unsat (cause.Other l) h k = absurd (none_and_some (other_claim s pod node) l h.here k)
cause_same s pod budget node (cause.Fault f) cause.Unsat h k = absurd (nothing_ends (outcome_on s pod node budget) h.item k.none h.found)
cause_same s pod budget node (cause.Fault f) (cause.Fault g) h k = ap cause.Fault (place_same s pod node budget f g h k)
cause_same s pod budget node (cause.Fault f) (cause.Budget n) h k = absurd (over_ends (outcome_on s pod node budget) h.item k.1.over h.found)
cause_same s pod budget node (cause.Fault f) (cause.Other l) h k = absurd (none_and_some (other_claim s pod node) l h.here k)
cause_same s pod budget node (cause.Budget m) cause.Unsat h k = absurd (nothing_over (outcome_on s pod node budget) k.none h.1.over)
cause_same s pod budget node (cause.Budget m) (cause.Fault g) h k = absurd (over_ends (outcome_on s pod node budget) k.item h.1.over k.found)
cause_same s pod budget node (cause.Budget m) (cause.Budget n) h k = ap cause.Budget (h.0 ∙ sym k.0)
cause_same s pod budget node (cause.Budget m) (cause.Other l) h k = absurd (none_and_some (other_claim s pod node) l h.1.here k)
cause_same s pod budget node (cause.Other j) cause.Unsat h k = absurd (none_and_some (other_claim s pod node) j k.here h)
cause_same s pod budget node (cause.Other j) (cause.Fault g) h k = absurd (none_and_some (other_claim s pod node) j k.here h)
cause_same s pod budget node (cause.Other j) (cause.Budget n) h k = absurd (none_and_some (other_claim s pod node) j k.1.here h)
cause_same s pod budget node (cause.Other j) (cause.Other l) h k = ap cause.Other (two (other_claim s pod node) j l h k)

full_isnt : (x y : Item) → x ≡ y → x.mark ≡ Full → y.mark ≡ Fault → ⊥
full_isnt x y e f g = absurd (let no : Full ≡ Fault = sym f ∙ ap (λ (z : Item). z.mark) e ∙ g in cc)

-- a node that is taken has no cause
never : (s : State) (pod : Pod) (budget : ℕ) (node : List ℕ) (x : Item) (c : Cause) → other_claim s pod node ≡ None → outcome_on s pod node budget ≡ Ended x → x.mark ≡ Full → CauseBy s pod budget node c → ⊥
never s pod budget node x cause.Unsat here found full h = nothing_ends (outcome_on s pod node budget) x h.none found
never s pod budget node x (cause.Fault f) here found full h = full_isnt x h.item (ended_same x h.item (sym found ∙ h.found)) full h.ends_so
never s pod budget node x (cause.Budget n) here found full h = over_ends (outcome_on s pod node budget) x h.1.over found
never s pod budget node x (cause.Other l) here found full h = none_and_some (other_claim s pod node) l here h

-- ---- the nodes passed over

heads : (a b : List ℕ) (xs ys : List (List ℕ)) → a ∷ xs ≡ b ∷ ys → (a ≡ b) × (xs ≡ ys)
heads a b xs ys e = (cc, cc)

passed_one : (n m : List ℕ) (c d : Cause) → n ≡ m → c ≡ d → ◌≡◌ {A = Passed} (record { node = n; cause = c }) (record { node = m; cause = d })
passed_one n m c d e f = cc

-- of nodes in the same order the causes are the same
passed_same : (s : State) (pod : Pod) (budget : ℕ) (ps qs : List Passed) → AllByRecursion (λ p. CauseBy s pod budget p.node p.cause) ps → AllByRecursion (λ p. CauseBy s pod budget p.node p.cause) qs → nodes_of ps ≡ nodes_of qs
    → ps ≡ qs
passed_same s pod budget [] [] h k e = refl
passed_same s pod budget [] (q ∷ qs) h k e = absurd (cc)
passed_same s pod budget (p ∷ ps) [] h k e = absurd (cc)
passed_same s pod budget (p ∷ ps) (q ∷ qs) h k e =
    let both = heads p.node q.node (nodes_of ps) (nodes_of qs) e in
    let one : p.cause ≡ q.cause = cause_same s pod budget q.node p.cause q.cause (subst (λ (n : List ℕ). CauseBy s pod budget n p.cause) both.0 h.0) k.0 in
    let first : p ≡ q = passed_one p.node q.node p.cause q.cause both.0 one in
    ap (λ x. x ∷ ps) first ∙ ap (λ xs. q ∷ xs) (passed_same s pod budget ps qs h.1 k.1 both.1)

-- ---- the first node

abbrev In : List ℕ → List (List ℕ) → Type 0
In n [] = ⊥
In n (m ∷ ms) = (m ≡ n) ⊎ In n ms

in_at : (n : List ℕ) (ns : List (List ℕ)) (i : ℕ) → i < length ns → get_or ns i n ≡ n → In n ns
in_at n [] i lt e = absurd (omega (arith, lt))
in_at n (m ∷ ms) zero lt e = inl e
in_at n (m ∷ ms) (suc i) lt e = inr (in_at n ms i (omega (arith, lt)) e)

before_other : (n a : List ℕ) (ns : List (List ℕ)) → text_eq n a ≡ false → names_before a (n ∷ ns) ≡ n ∷ names_before a ns
before_other n a ns e =
    let more : 1 + prefix_len (λ x. not (text_eq x a)) ns ≡ suc (prefix_len (λ x. not (text_eq x a)) ns) = omega arith in
    rw (e) (ap (λ k. take k (n ∷ ns)) more)

text_same : (a b : List ℕ) → a ≡ b → text_eq a b ≡ true
text_same a b e = subst (λ (t : List ℕ). text_eq a t ≡ true) e (nat_list_eq_equiv.refl a)

-- of two names that are there one comes before the other, or they are the same
first_by : (a b n : List ℕ) (ns : List (List ℕ)) (x y : Bool) → text_eq n a ≡ x → text_eq n b ≡ y → (n ≡ a) ⊎ In a ns → (n ≡ b) ⊎ In b ns
    → (In a ns → In b ns → (a ≡ b) ⊎ (In a (names_before b ns) ⊎ In b (names_before a ns))) → (a ≡ b) ⊎ (In a (names_before b (n ∷ ns)) ⊎ In b (names_before a (n ∷ ns)))
first_by a b n ns true true ea eb ha hb later = inl (sym (same_text n a (sym ea)) ∙ same_text n b (sym eb))
first_by a b n ns true false ea eb ha hb later = inr (inl (subst (λ (l : List (List ℕ)). In a l) (sym (before_other n b ns eb)) (inl (same_text n a (sym ea)))))
first_by a b n ns false true ea eb ha hb later = inr (inr (subst (λ (l : List (List ℕ)). In b l) (sym (before_other n a ns ea)) (inl (same_text n b (sym eb)))))
first_by a b n ns false false ea eb (inl e) hb later = absurd (let no : true ≡ false = sym (text_same n a e) ∙ ea in cc)
first_by a b n ns false false ea eb (inr ha) (inl e) later = absurd (let no : true ≡ false = sym (text_same n b e) ∙ eb in cc)
first_by a b n ns false false ea eb (inr ha) (inr hb) later =
    ⊎_elim (λ (e : a ≡ b). inl e)
    (λ (h : In a (names_before b ns) ⊎ In b (names_before a ns)).
    ⊎_elim (λ (i : In a (names_before b ns)). inr (inl (subst (λ (l : List (List ℕ)). In a l) (sym (before_other n b ns eb)) (inr i))))
    (λ (i : In b (names_before a ns)). inr (inr (subst (λ (l : List (List ℕ)). In b l) (sym (before_other n a ns ea)) (inr i)))) h)
    (later ha hb)

first_of : (a b : List ℕ) (ns : List (List ℕ)) → In a ns → In b ns → (a ≡ b) ⊎ (In a (names_before b ns) ⊎ In b (names_before a ns))
first_of a b [] ha hb = absurd ha
first_of a b (n ∷ ns) ha hb = first_by a b n ns (text_eq n a) (text_eq n b) refl refl ha hb (λ i j. first_of a b ns i j)

cause_in : (s : State) (pod : Pod) (budget : ℕ) (ps : List Passed) (node : List ℕ) → AllByRecursion (λ p. CauseBy s pod budget p.node p.cause) ps → In node (nodes_of ps) → (c : Cause) × CauseBy s pod budget node c
cause_in s pod budget [] node h among = absurd among
cause_in s pod budget (p ∷ ps) node h (inl e) = (p.cause, subst (λ (n : List ℕ). CauseBy s pod budget n p.cause) e h.0)
cause_in s pod budget (p ∷ ps) node h (inr among) = cause_in s pod budget ps node h.1 among

-- ---- plans

plan_parts : (at bt : ℕ) (n m : List ℕ) (ps qs : List Passed) (gs hs : List Grant) (js ks : List Key) (x y : Known) → at ≡ bt → n ≡ m → ps ≡ qs → gs ≡ hs → js ≡ ks → x ≡ y
    → ◌≡◌ {A = Plan} (record { at = at; node = n; passed = ps; grants = gs; joins = js; known = x }) (record { at = bt; node = m; passed = qs; grants = hs; joins = ks; known = y })
plan_parts at bt n m ps qs gs hs js ks x y e1 e2 e3 e4 e5 e6 = cc

-- what a plan within the budget says, of the pod as it is
record Found (s : State) (p : PodState) (budget : ℕ) (plan : Plan) : Type 0 where
  causes : AllByRecursion (λ x. CauseBy s p.pod.object budget x.node x.cause) plan.passed
  item : Item
  found : outcome_on s p.pod.object plan.node budget ≡ Ended item
  full : item.mark ≡ Full

found_of : (s : State) (pod : Key) (p : PodState) (budget : ℕ) (plan : Plan) → at_key s.pods pod ≡ Some p → PlanBy s pod budget plan → Found s p budget plan
found_of s pod p budget plan there by =
    let same : by.state ≡ p = two (at_key s.pods pod) by.state p by.there there in
    record {
      causes = subst (λ (q : PodState). AllByRecursion (λ x. CauseBy s q.pod.object budget x.node x.cause) plan.passed) same (recursion_from_All (λ (x : Passed). CauseBy s by.state.pod.object budget x.node x.cause) plan.passed by.causes);
      item = by.item;
      found = ap (λ (q : PodState). outcome_on s q.pod.object plan.node budget) (sym same) ∙ by.found;
      full = by.full;
    }

-- a node that a plan takes isn't one that another passes over
not_passed : (s : State) (p : PodState) (budget : ℕ) (plan other : Plan) → other_claim s p.pod.object plan.node ≡ None → Found s p budget plan → Found s p budget other
    → nodes_of other.passed ≡ names_before other.node (keys_of s.inventory.nodes) → In plan.node (names_before other.node (keys_of s.inventory.nodes)) → ⊥
not_passed s p budget plan other here f g names among =
    let c = cause_in s p.pod.object budget other.passed plan.node g.causes (subst (λ (ns : List (List ℕ)). In plan.node ns) (sym names) among) in
    never s p.pod.object budget plan.node f.item c.0 here f.found f.full c.1

grants_same : (s : State) (pod : Pod) (n m : List ℕ) (gs hs : List Grant) (x y : Item) → n ≡ m → find ends (walk_on s pod n) ≡ Some x → find ends (walk_on s pod m) ≡ Some y → gs ≡ grants_at (input_for s pod n) x
    → hs ≡ grants_at (input_for s pod m) y → gs ≡ hs
grants_same s pod n m gs hs x y e fx fy eg eh =
    let same : x ≡ y = two (find ends (walk_on s pod m)) x y (ap (λ k. find ends (walk_on s pod k)) (sym e) ∙ fx) fy in
    eg ∙ ap (λ k. grants_at (input_for s pod k) x) e ∙ ap (λ i. grants_at (input_for s pod m) i) same ∙ sym eh

pub plans_same : (s : State) (pod : Key) (budget : ℕ) (p q : Plan) → IsPlanWithin s pod budget p → IsPlanWithin s pod budget q → p.at ≡ q.at → p ≡ q
plans_same s pod budget p q h k at =
    let state = h.holds.state in
    let there = h.holds.may_search.idle.there in
    let same : k.holds.state ≡ state = two (at_key s.pods pod) k.holds.state state k.holds.may_search.idle.there there in
    let f = found_of s pod state budget p there h.found in
    let g = found_of s pod state budget q there k.found in
    let q_here : other_claim s state.pod.object q.node ≡ None = ap (λ (x : PodState). other_claim s x.pod.object q.node) (sym same) ∙ k.holds.here in
    let names = keys_of s.inventory.nodes in
    let node : p.node ≡ q.node =
    ⊎_elim (λ (e : p.node ≡ q.node). e)
    (λ (x : In p.node (names_before q.node names) ⊎ In q.node (names_before p.node names)).
    absurd (⊎_elim (λ (i : In p.node (names_before q.node names)). not_passed s state budget p q h.holds.here f g k.holds.passed i)
    (λ (i : In q.node (names_before p.node names)). not_passed s state budget q p q_here g f h.holds.passed i) x))
    (first_of p.node q.node names (in_at p.node names h.holds.node_known.0 h.holds.node_known.1 h.holds.node_known.2) (in_at q.node names k.holds.node_known.0 k.holds.node_known.1 k.holds.node_known.2)) in
    let passed : p.passed ≡ q.passed =
    passed_same s state.pod.object budget p.passed q.passed f.causes g.causes (h.holds.passed ∙ ap (λ n. names_before n names) node ∙ sym k.holds.passed) in
    let q_first : find ends (walk_on s state.pod.object q.node) ≡ Some k.holds.item = ap (λ (x : PodState). find ends (walk_on s x.pod.object q.node)) (sym same) ∙ k.holds.first in
    let q_grants : q.grants ≡ grants_at (input_for s state.pod.object q.node) k.holds.item = k.holds.grants ∙ ap (λ (x : PodState). grants_at (input_for s x.pod.object q.node) k.holds.item) same in
    let grants : p.grants ≡ q.grants = grants_same s state.pod.object p.node q.node p.grants q.grants h.holds.item k.holds.item node h.holds.first q_first h.holds.grants q_grants in
    let joins : p.joins ≡ q.joins = h.holds.joins ∙ ap (λ (x : PodState). joined s x.pod.object) (sym same) ∙ sym k.holds.joins in
    let known : p.known ≡ q.known = h.holds.known ∙ ap (λ (x : PodState). known_of s x) (sym same) ∙ sym k.holds.known in
    plan_parts p.at q.at p.node q.node p.passed q.passed p.grants q.grants p.joins q.joins p.known q.known at node passed grants joins known

-- ---- verdicts

missing_and_full : (s : State) (pod : Key) (p : PodState) (k l : Key) → missing_claim s p.pod.object ≡ Some k → missing_claim s p.pod.object ≡ None → ⊥
missing_and_full s pod p k l e f = none_and_some (missing_claim s p.pod.object) k f e

reason_same : (s : State) (pod : Key) (p : PodState) (budget : ℕ) (r t : Reason) → ReasonTrue s pod p r → ReasonTrue s pod p t → ReasonBy s p.pod.object budget r → ReasonBy s p.pod.object budget t → r ≡ t
reason_same s pod p budget (reason.Missing k) (reason.Missing l) h i hb ib = ap reason.Missing (two (missing_claim s p.pod.object) k l h i)
reason_same s pod p budget (reason.Missing k) (reason.Users l) h i hb ib = absurd (none_and_some (missing_claim s p.pod.object) k i.there h)
reason_same s pod p budget (reason.Missing k) (reason.Nodes ns) h i hb ib = absurd (none_and_some (missing_claim s p.pod.object) k i.there h)
reason_same s pod p budget (reason.Users k) (reason.Missing l) h i hb ib = absurd (none_and_some (missing_claim s p.pod.object) l h.there i)
reason_same s pod p budget (reason.Users k) (reason.Users l) h i hb ib = ap reason.Users (two (full_claim s pod p.pod.object) k l h.full i.full)
reason_same s pod p budget (reason.Users k) (reason.Nodes ns) h i hb ib = absurd (none_and_some (full_claim s pod p.pod.object) k i.room h.full)
reason_same s pod p budget (reason.Nodes ms) (reason.Missing l) h i hb ib = absurd (none_and_some (missing_claim s p.pod.object) l h.there i)
reason_same s pod p budget (reason.Nodes ms) (reason.Users l) h i hb ib = absurd (none_and_some (full_claim s pod p.pod.object) l h.room i.full)
reason_same s pod p budget (reason.Nodes ms) (reason.Nodes ns) h i hb ib =
    ap reason.Nodes (passed_same s p.pod.object budget ms ns (recursion_from_All (λ (x : Passed). CauseBy s p.pod.object budget x.node x.cause) ms hb)
    (recursion_from_All (λ (x : Passed). CauseBy s p.pod.object budget x.node x.cause) ns ib) (h.all ∙ sym i.all))

verdict_parts : (at bt : ℕ) (r t : Reason) → at ≡ bt → r ≡ t → ◌≡◌ {A = Verdict} (record { at = at; reason = r }) (record { at = bt; reason = t })
verdict_parts at bt r t e f = cc

-- what a verdict within the budget says, of the pod as it is
by_of : (s : State) (pod : Key) (p : PodState) (budget : ℕ) (v : Verdict) → at_key s.pods pod ≡ Some p → VerdictBy s pod budget v → ReasonBy s p.pod.object budget v.reason
by_of s pod p budget v there by = subst (λ (q : PodState). ReasonBy s q.pod.object budget v.reason) (two (at_key s.pods pod) by.state p by.there there) by.reason

pub verdicts_same : (s : State) (pod : Key) (budget : ℕ) (v w : Verdict) → IsVerdictWithin s pod budget v → IsVerdictWithin s pod budget w → v.at ≡ w.at → v ≡ w
verdicts_same s pod budget v w h k at =
    let state = h.holds.state in
    let there = h.holds.idle.there in
    let same : k.holds.state ≡ state = two (at_key s.pods pod) k.holds.state state k.holds.idle.there there in
    let w_reason : ReasonTrue s pod state w.reason = subst (λ (q : PodState). ReasonTrue s pod q w.reason) same k.holds.reason in
    verdict_parts v.at w.at v.reason w.reason at
    (reason_same s pod state budget v.reason w.reason h.holds.reason w_reason (by_of s pod state budget v there h.found) (by_of s pod state budget w there k.found))

-- ---- a plan and a verdict

apart_by : (s : State) (pod : Key) (p : PodState) (budget : ℕ) (plan : Plan) (r : Reason) → missing_claim s p.pod.object ≡ None → full_claim s pod p.pod.object ≡ None → other_claim s p.pod.object plan.node ≡ None
    → In plan.node (keys_of s.inventory.nodes) → Found s p budget plan → ReasonTrue s pod p r → ReasonBy s p.pod.object budget r → ⊥
apart_by s pod p budget plan (reason.Missing k) there room here among f h by = none_and_some (missing_claim s p.pod.object) k there h
apart_by s pod p budget plan (reason.Users k) there room here among f h by = none_and_some (full_claim s pod p.pod.object) k room h.full
apart_by s pod p budget plan (reason.Nodes ns) there room here among f h by =
    let c =
    cause_in s p.pod.object budget ns plan.node (recursion_from_All (λ (x : Passed). CauseBy s p.pod.object budget x.node x.cause) ns by)
    (subst (λ (names : List (List ℕ)). In plan.node names) (sym h.all) among) in
    never s p.pod.object budget plan.node f.item c.0 here f.found f.full c.1

pub plan_or_verdict : (s : State) (pod : Key) (budget : ℕ) (p : Plan) (v : Verdict) → IsPlanWithin s pod budget p → IsVerdictWithin s pod budget v → ⊥
plan_or_verdict s pod budget p v h k =
    let state = h.holds.state in
    let there = h.holds.may_search.idle.there in
    let same : k.holds.state ≡ state = two (at_key s.pods pod) k.holds.state state k.holds.idle.there there in
    apart_by s pod state budget p v.reason h.holds.may_search.there h.holds.may_search.room h.holds.here
    (in_at p.node (keys_of s.inventory.nodes) h.holds.node_known.0 h.holds.node_known.1 h.holds.node_known.2) (found_of s pod state budget p there h.found)
    (subst (λ (q : PodState). ReasonTrue s pod q v.reason) same k.holds.reason) (by_of s pod state budget v there k.found)
