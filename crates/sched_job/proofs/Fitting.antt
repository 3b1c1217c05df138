-- Which decision there is on a pod: by the first node that fits, or else by the causes of all nodes, or by a claim.
use Rattle.std.proofs.Common.{ℕ, zero, suc, ◌≡◌, ◌∙◌, ◌⊎◌, inl, inr, ◌<◌, List, [], ◌∷◌, Bool, true, false, cond, not, ◌&&◌, Option, None, Some, length, get_or, refl, sym, ap, subst, arith}
use Rattle.std.specs.List.{AllByRecursion, Contains, find}
use Rattle.std.specs.Map.{keys_of}
use Rattle.std.specs.Ordering.{eq_by_cmp}
use Rattle.std.specs.Prelude.{is_none}
use Rattle.std.specs.Cmp.Lexicographic.{same_text, texts_ties}
use Rattle.std.proofs.lemmas.Bool.{and_from}
use Rattle.std.proofs.lemmas.Cmp.{nat_list_eq_equiv}
use Rattle.std.proofs.lemmas.List.Elements.{recursion_from_All}
use Rattle.std.proofs.lemmas.List.Sums.{take_while-cons}
use Rattle.std.proofs.lemmas.Map.Views.{Contains-keys_from_lookup}
use Rattle.walk.specs.Walk.{Item, Mark, Part, Full, Fault}
use Rattle.walk.specs.Outcome.{Outcome, Ended, Unsat, Budget, mark_is_full}
use Rattle.object_fields.specs.declared.key.Key.{Key}
use Rattle.api_cluster.specs.declared.types.Pod.{Pod}
use Rattle.pool_view.specs.Names.{at_key, text_cmp, text_eq}
use Rattle.cluster.specs.declared.entry.Entry.{Entry}
use Rattle.cluster.specs.declared.entry.Event.TheVariants.{VerdictGiven}
use Rattle.cluster.specs.declared.plan.Cause.{Cause}
use Rattle.cluster.specs.declared.plan.Cause.TheVariants as cause
use Rattle.cluster.specs.declared.plan.Grant.{Grant}
use Rattle.cluster.specs.declared.plan.Passed.{Passed}
use Rattle.cluster.specs.declared.plan.Plan.{Plan}
use Rattle.cluster.specs.declared.plan.Reason.{Reason}
use Rattle.cluster.specs.declared.plan.Reason.TheVariants as reason
use Rattle.cluster.specs.declared.plan.Verdict.{Verdict}
use Rattle.cluster.specs.declared.state.PodState.{PodState}
use Rattle.cluster.specs.declared.state.State.{State}
use Rattle.cluster.specs.History.{state_at}
use Rattle.allocations.specs.Allocation.{IsAllocation}
use Rattle.allocations.specs.Claims.{full_claim, missing_claim, other_claim, wanted}
use Rattle.allocations.specs.Input.{outcome_on}
use Rattle.allocations.specs.Outcomes.{IsUnsat}
use Rattle.engine_ports.specs.declared.decision.Decision.{Decision}
use Rattle.engine_ports.specs.declared.decision.Decision.TheVariants.{Reserve, Judge}
use Rattle.engine_ports.specs.Decisions.{IsDecision, IsJudge, IsReserve}
use Rattle.plan_rules.specs.Plans.{CauseBy, IsFirstFull, IsIdle, MaySearch, ReasonBy, ReasonTrue, names_before, nodes_of}
use Rattle.engine_ports.specs.Passed.{AllPassed}
use Rattle.sched_job.specs.Complete.{AllSettle, BoundTo, CarriesOut, Decided, JudgedBy, PassedAll, finds, first_fit, fits, mark_settles, own, settles}
use Rattle.histories.specs.JobRuns.{Run}

abbrev Names : Type 0
Names = List (List ℕ)

-- ---- the first name that passes a test

abbrev In : List ℕ → Names → Type 0
In n [] = ⊥
In n (m ∷ ms) = (m ≡ n) ⊎ In n ms

in_at : (n : List ℕ) (ms : Names) (k : ℕ) → k < length ms → get_or ms k n ≡ n → In n ms
in_at n [] k h e = absurd (omega arith)
in_at n (m ∷ ms) zero h e = inl e
in_at n (m ∷ ms) (suc k) h e = inr (in_at n ms k (omega arith) e)

in_names : (ms : Names) (n : List ℕ) → Contains ms n → In n ms
in_names ms n h = in_at n ms h.0 h.1 h.2

first_by : (p : List ℕ → Bool) (b : Bool) (m : List ℕ) (ms : Names) (n : List ℕ) → text_eq m n ≡ b → In n (m ∷ ms) → p n ≡ true
    → AllByRecursion (λ x. p x ≡ false) (cond (not b) (m ∷ names_before n ms) []) → (In n ms → AllByRecursion (λ x. p x ≡ false) (names_before n ms) → find p ms ≡ Some n) → find p (m ∷ ms) ≡ Some n
first_by p true m ms n is there pass fail later =
    let same : m ≡ n = same_text m n (sym is) in
    let passes : p m ≡ true = ap p same ∙ pass in rw passes (ap (λ (x : List ℕ). Some x) same)
first_by p false m ms n is (inl same) pass fail later =
    let eq : text_eq m n ≡ true = subst (λ (x : List ℕ). text_eq m x ≡ true) same (nat_list_eq_equiv.refl m) in absurd (cc)
first_by p false m ms n is (inr there) pass fail later = let unfit : p m ≡ false = fail.0 in rw unfit (later there fail.1)

first_is : (p : List ℕ → Bool) (ms : Names) (n : List ℕ) → In n ms → p n ≡ true → AllByRecursion (λ x. p x ≡ false) (names_before n ms) → find p ms ≡ Some n
first_is p [] n there pass fail = absurd there
first_is p (m ∷ ms) n there pass fail =
    first_by p (text_eq m n) m ms n refl there pass (subst (λ (l : Names). AllByRecursion (λ x. p x ≡ false) l) (take_while-cons (λ x. not (text_eq x n)) m ms) fail) (λ t f. first_is p ms n t pass f)

none_is : (p : List ℕ → Bool) (ms : Names) → AllByRecursion (λ x. p x ≡ false) ms → find p ms ≡ None
none_is p [] fail = refl
none_is p (m ∷ ms) fail = let unfit : p m ≡ false = fail.0 in rw unfit (none_is p ms fail.1)

some_by : (p : List ℕ → Bool) (b : Bool) (m : List ℕ) (ms : Names) (n : List ℕ) → p m ≡ b → In n (m ∷ ms) → p n ≡ true → (In n ms → (x : List ℕ) × (find p ms ≡ Some x)) → (x : List ℕ) × (find p (m ∷ ms) ≡ Some x)
some_by p true m ms n is there pass later = (m, rw is refl)
some_by p false m ms n is (inl same) pass later = let e : p m ≡ true = ap p same ∙ pass in absurd (cc)
some_by p false m ms n is (inr there) pass later = let r = later there in (r.0, rw is r.1)

some_is : (p : List ℕ → Bool) (ms : Names) (n : List ℕ) → In n ms → p n ≡ true → (x : List ℕ) × (find p ms ≡ Some x)
some_is p [] n there pass = absurd there
some_is p (m ∷ ms) n there pass = some_by p (p m) m ms n refl there pass (λ t. some_is p ms n t pass)

-- ---- which nodes fit

and_false : (a b : Bool) → b ≡ false → (a && b) ≡ false
and_false true b e = e
and_false false b e = refl

node_fits : (s : State) (pod : Pod) (budget : ℕ) (node : List ℕ) → other_claim s pod node ≡ None → finds (outcome_on s pod node budget) ≡ true → fits s pod budget node ≡ true
node_fits s pod budget node here found = and_from (is_none (other_claim s pod node)) (finds (outcome_on s pod node budget)) (ap is_none here) found

finds_full : (o : Outcome) (item : Item) → o ≡ Ended item → item.mark ≡ Full → finds o ≡ true
finds_full o item is full = ap finds is ∙ ap mark_is_full full

no_fit : (s : State) (pod : Pod) (budget : ℕ) (node : List ℕ) → finds (outcome_on s pod node budget) ≡ false → fits s pod budget node ≡ false
no_fit s pod budget node unfit = and_false (is_none (other_claim s pod node)) (finds (outcome_on s pod node budget)) unfit

-- a node with a cause doesn't
cause_fails : (s : State) (pod : Pod) (budget : ℕ) (node : List ℕ) (why : Cause) → CauseBy s pod budget node why → fits s pod budget node ≡ false
cause_fails s pod budget node cause.Unsat by = no_fit s pod budget node (ap finds by.none)
cause_fails s pod budget node (cause.Fault fault) by = no_fit s pod budget node (ap finds by.found ∙ ap mark_is_full by.ends_so)
cause_fails s pod budget node (cause.Budget steps) by = no_fit s pod budget node (ap finds by.1.over)
cause_fails s pod budget node (cause.Other claim) by = ap (λ (o : Option Key). is_none o && finds (outcome_on s pod node budget)) by

causes_fail : (s : State) (pod : Pod) (budget : ℕ) (ps : List Passed) → AllByRecursion (λ p. CauseBy s pod budget p.node p.cause) ps → AllByRecursion (λ n. fits s pod budget n ≡ false) (nodes_of ps)
causes_fail s pod budget [] by = tt
causes_fail s pod budget (p ∷ ps) by = (cause_fails s pod budget p.node p.cause by.0, causes_fail s pod budget ps by.1)

passed_none : (s : State) (pod : Pod) (budget : ℕ) (ps : List Passed) → AllPassed s pod budget (keys_of s.inventory.nodes) ps → first_fit s pod budget ≡ None
passed_none s pod budget ps a =
    none_is (λ n. fits s pod budget n) (keys_of s.inventory.nodes) (subst (λ (l : Names). AllByRecursion (λ n. fits s pod budget n ≡ false) l) a.names_are (causes_fail s pod budget ps a.causes))

some_pod : (p q : PodState) → Some p ≡ Some q → p ≡ q
some_pod p q e = cc

-- a plan takes the first that does
reserve_first : (s : State) (pod : Key) (p : PodState) (budget at : ℕ) (plan : Plan) → at_key s.pods pod ≡ Some p → IsReserve s pod budget at plan → first_fit s p.pod.object budget ≡ Some plan.node
reserve_first s pod p budget at plan there d =
    let same : d.holds.state ≡ p = some_pod d.holds.state p (sym d.holds.may_search.idle.there ∙ there) in
    let same_by : d.found.state ≡ p = some_pod d.found.state p (sym d.found.there ∙ there) in
    let here : other_claim s p.pod.object plan.node ≡ None = subst (λ (x : PodState). other_claim s x.pod.object plan.node ≡ None) same d.holds.here in
    let found : outcome_on s p.pod.object plan.node budget ≡ Ended d.found.item = subst (λ (x : PodState). outcome_on s x.pod.object plan.node budget ≡ Ended d.found.item) same_by d.found.found in
    let by : AllByRecursion (λ (x : Passed). CauseBy s d.found.state.pod.object budget x.node x.cause) plan.passed =
    recursion_from_All (λ (x : Passed). CauseBy s d.found.state.pod.object budget x.node x.cause) plan.passed d.found.causes in
    let fail = causes_fail s p.pod.object budget plan.passed (subst (λ (q : PodState). AllByRecursion (λ (x : Passed). CauseBy s q.pod.object budget x.node x.cause) plan.passed) same_by by) in
    first_is (λ n. fits s p.pod.object budget n) (keys_of s.inventory.nodes) plan.node (in_names (keys_of s.inventory.nodes) plan.node d.holds.node_known)
    (node_fits s p.pod.object budget plan.node here (finds_full (outcome_on s p.pod.object plan.node budget) d.found.item found d.found.full))
    (subst (λ (l : Names). AllByRecursion (λ n. fits s p.pod.object budget n ≡ false) l) d.holds.passed fail)

-- ---- which reason a verdict has

abbrev Both : State → Key → PodState → ℕ → Reason → Type 0
Both s pod p budget why = ReasonTrue s pod p why × ReasonBy s p.pod.object budget why

judge_both : (s : State) (pod : Key) (p : PodState) (budget at : ℕ) (v : Verdict) → at_key s.pods pod ≡ Some p → IsJudge s pod budget at v → Both s pod p budget v.reason
judge_both s pod p budget at v there d =
    let same : d.holds.state ≡ p = some_pod d.holds.state p (sym d.holds.idle.there ∙ there) in
    let same_by : d.found.state ≡ p = some_pod d.found.state p (sym d.found.there ∙ there) in
    (subst (λ (x : PodState). ReasonTrue s pod x v.reason) same d.holds.reason, subst (λ (x : PodState). ReasonBy s x.pod.object budget v.reason) same_by d.found.reason)

some_none : (k : Key) (o : Option Key) → o ≡ Some k → o ≡ None → ⊥
some_none k o e f = cc

record IsPassed (s : State) (pod : Pod) (budget : ℕ) (why : Reason) : Type 0 where
  nodes : List Passed
  is : why ≡ reason.Nodes nodes
  passed : AllPassed s pod budget (keys_of s.inventory.nodes) nodes

-- if a search may be made
searched : (s : State) (pod : Key) (p : PodState) (budget : ℕ) (why : Reason) → MaySearch s pod p → Both s pod p budget why → IsPassed s p.pod.object budget why
searched s pod p budget (reason.Missing claim) may b = absurd (some_none claim (missing_claim s p.pod.object) b.0 may.there)
searched s pod p budget (reason.Users claim) may b = absurd (some_none claim (full_claim s pod p.pod.object) b.0.full may.room)
searched s pod p budget (reason.Nodes nodes) may b =
    record { nodes = nodes; is = refl; passed = record { names_are = b.0.all; causes = recursion_from_All (λ (x : Passed). CauseBy s p.pod.object budget x.node x.cause) nodes b.1 } }

some_key : (k l : Key) → Some k ≡ Some l → k ≡ l
some_key k l e = cc

-- if a claim is missing
lacking : (s : State) (pod : Key) (p : PodState) (budget : ℕ) (claim : Key) (why : Reason) → missing_claim s p.pod.object ≡ Some claim → Both s pod p budget why → why ≡ reason.Missing claim
lacking s pod p budget claim (reason.Missing k) is b = ap (λ (x : Key). reason.Missing x) (some_key k claim (sym b.0 ∙ is))
lacking s pod p budget claim (reason.Users k) is b = absurd (some_none claim (missing_claim s p.pod.object) is b.0.there)
lacking s pod p budget claim (reason.Nodes nodes) is b = absurd (some_none claim (missing_claim s p.pod.object) is b.0.there)

-- if none is, and one has no room
crowded : (s : State) (pod : Key) (p : PodState) (budget : ℕ) (claim : Key) (why : Reason) → IsFirstFull s pod p claim → Both s pod p budget why → why ≡ reason.Users claim
crowded s pod p budget claim (reason.Missing k) f b = absurd (some_none k (missing_claim s p.pod.object) b.0 f.there)
crowded s pod p budget claim (reason.Users k) f b = ap (λ (x : Key). reason.Users x) (some_key k claim (sym b.0.full ∙ f.full))
crowded s pod p budget claim (reason.Nodes nodes) f b = absurd (some_none claim (full_claim s pod p.pod.object) f.full b.0.room)

-- ---- what the job comes to

same_verdict : (v : Verdict) (at : ℕ) (why : Reason) → v.at ≡ at → v.reason ≡ why → ◌≡◌ {A = Verdict} v (record { at = at; reason = why })
same_verdict v at why e f = of_parts v.at v.reason at why e f
  where
    of_parts : (a : ℕ) (r : Reason) (b : ℕ) (q : Reason) → a ≡ b → r ≡ q → ◌≡◌ {A = Verdict} (record { at = a; reason = r }) (record { at = b; reason = q })
    of_parts a r b q e f = cc

judged : (c : Run) (h : List Entry) (pod : Key) (p : PodState) (v : Verdict) (why : Reason) → IsJudge (state_at h c.from) pod c.budget c.from v → v.reason ≡ why → CarriesOut c h pod p (Judge v) → JudgedBy c h pod why
judged c h pod p v why is because out = out ∙ ap (λ (x : Verdict). own c (VerdictGiven pod x) ∷ []) (same_verdict v c.from why is.index because)

some_node : (m n : List ℕ) → Some m ≡ Some n → m ≡ n
some_node m n e = cc

no_node : (n : List ℕ) (o : Option (List ℕ)) → o ≡ Some n → o ≡ None → ⊥
no_node n o e f = cc

bound_by : (c : Run) (h : List Entry) (pod : Key) (p : PodState) (node : List ℕ) (choice : Decision) → MaySearch (state_at h c.from) pod p → first_fit (state_at h c.from) p.pod.object c.budget ≡ Some node
    → IsDecision (state_at h c.from) pod c.budget c.from choice → CarriesOut c h pod p choice → BoundTo c h pod p node
bound_by c h pod p node (Reserve plan) may fit is out =
    let s = state_at h c.from in
    record { plan = plan; node_is = some_node plan.node node (sym (reserve_first s pod p c.budget c.from plan may.idle.there is) ∙ fit); is = is; out = out }
bound_by c h pod p node (Judge v) may fit is out =
    let s = state_at h c.from in
    let none = searched s pod p c.budget v.reason may (judge_both s pod p c.budget c.from v may.idle.there is) in
    absurd (no_node node (first_fit s p.pod.object c.budget) fit (passed_none s p.pod.object c.budget none.nodes none.passed))

passed_by : (c : Run) (h : List Entry) (pod : Key) (p : PodState) (choice : Decision) → MaySearch (state_at h c.from) pod p → first_fit (state_at h c.from) p.pod.object c.budget ≡ None
    → IsDecision (state_at h c.from) pod c.budget c.from choice → CarriesOut c h pod p choice → PassedAll c h pod p
passed_by c h pod p (Reserve plan) may fit is out =
    let s = state_at h c.from in
    absurd (no_node plan.node (first_fit s p.pod.object c.budget) (reserve_first s pod p c.budget c.from plan may.idle.there is) fit)
passed_by c h pod p (Judge v) may fit is out =
    let s = state_at h c.from in
    let r = searched s pod p c.budget v.reason may (judge_both s pod p c.budget c.from v may.idle.there is) in
    record { nodes = r.nodes; passed = r.passed; out = judged c h pod p v (reason.Nodes r.nodes) is r.is out }

missing_by : (c : Run) (h : List Entry) (pod : Key) (p : PodState) (claim : Key) (choice : Decision) → at_key (state_at h c.from).pods pod ≡ Some p → missing_claim (state_at h c.from) p.pod.object ≡ Some claim
    → IsDecision (state_at h c.from) pod c.budget c.from choice → CarriesOut c h pod p choice → JudgedBy c h pod (reason.Missing claim)
missing_by c h pod p claim (Reserve plan) there lack is out =
    let s = state_at h c.from in
    let same : is.holds.state ≡ p = some_pod is.holds.state p (sym is.holds.may_search.idle.there ∙ there) in
    absurd (some_none claim (missing_claim s p.pod.object) lack (subst (λ (x : PodState). missing_claim s x.pod.object ≡ None) same is.holds.may_search.there))
missing_by c h pod p claim (Judge v) there lack is out =
    let s = state_at h c.from in
    judged c h pod p v (reason.Missing claim) is (lacking s pod p c.budget claim v.reason lack (judge_both s pod p c.budget c.from v there is)) out

full_by : (c : Run) (h : List Entry) (pod : Key) (p : PodState) (claim : Key) (choice : Decision) → at_key (state_at h c.from).pods pod ≡ Some p → IsFirstFull (state_at h c.from) pod p claim
    → IsDecision (state_at h c.from) pod c.budget c.from choice → CarriesOut c h pod p choice → JudgedBy c h pod (reason.Users claim)
full_by c h pod p claim (Reserve plan) there full is out =
    let s = state_at h c.from in
    let same : is.holds.state ≡ p = some_pod is.holds.state p (sym is.holds.may_search.idle.there ∙ there) in
    absurd (some_none claim (full_claim s pod p.pod.object) full.full (subst (λ (x : PodState). full_claim s pod x.pod.object ≡ None) same is.holds.may_search.room))
full_by c h pod p claim (Judge v) there full is out =
    let s = state_at h c.from in
    judged c h pod p v (reason.Users claim) is (crowded s pod p c.budget claim v.reason full (judge_both s pod p c.budget c.from v there is)) out

pub bound : (c : Run) (h : List Entry) (pod : Key) (p : PodState) (node : List ℕ) → Decided c h pod p → MaySearch (state_at h c.from) pod p → first_fit (state_at h c.from) p.pod.object c.budget ≡ Some node → BoundTo c h pod p node
bound c h pod p node d may fit = bound_by c h pod p node d.choice may fit d.is d.out

pub passed : (c : Run) (h : List Entry) (pod : Key) (p : PodState) → Decided c h pod p → MaySearch (state_at h c.from) pod p → first_fit (state_at h c.from) p.pod.object c.budget ≡ None → PassedAll c h pod p
passed c h pod p d may fit = passed_by c h pod p d.choice may fit d.is d.out

pub missing : (c : Run) (h : List Entry) (pod : Key) (p : PodState) (claim : Key) → Decided c h pod p → IsIdle (state_at h c.from) pod p → missing_claim (state_at h c.from) p.pod.object ≡ Some claim → JudgedBy c h pod (reason.Missing claim)
missing c h pod p claim d idle lack = missing_by c h pod p claim d.choice idle.there lack d.is d.out

pub full : (c : Run) (h : List Entry) (pod : Key) (p : PodState) (claim : Key) → Decided c h pod p → IsIdle (state_at h c.from) pod p → IsFirstFull (state_at h c.from) pod p claim → JudgedBy c h pod (reason.Users claim)
full c h pod p claim d idle f = full_by c h pod p claim d.choice idle.there f d.is d.out

-- ---- where there is an allocation

-- what the law of Unsat says
abbrev pub Unsats : Type 0
Unsats = (s : State) (pod : Pod) (node : List ℕ) (b : ℕ) → outcome_on s pod node b ≡ Unsat → IsUnsat s pod node

settled_mark : (m : Mark) → mark_settles m ≡ true → mark_is_full m ≡ true
settled_mark Part e = absurd cc
settled_mark Full e = refl
settled_mark Fault e = absurd cc

settled : (s : State) (pod : Pod) (budget : ℕ) (node choice : List ℕ) (grants : List Grant) (o : Outcome) → Unsats → outcome_on s pod node budget ≡ o → settles o ≡ true → IsAllocation s (wanted s pod) node choice grants → finds o ≡ true
settled s pod budget node choice grants (Ended item) law is ends a = settled_mark item.mark ends
settled s pod budget node choice grants Unsat law is ends a = absurd ((law s pod node budget is).none choice grants a)
settled s pod budget node choice grants Budget law is ends a = absurd cc

same_by_cmp : (a b : List ℕ) → eq_by_cmp text_cmp a b ≡ true → a ≡ b
same_by_cmp a b e = same_text a b (sym (texts_ties a b ∙ e))

pub fit_there : Unsats → (s : State) (pod : Pod) (budget : ℕ) (node choice : List ℕ) (grants : List Grant) → AllSettle s pod budget → other_claim s pod node ≡ None → IsAllocation s (wanted s pod) node choice grants
    → (first : List ℕ) × (first_fit s pod budget ≡ Some first)
fit_there law s pod budget node choice grants all here a =
    let known : Contains (keys_of s.inventory.nodes) node = Contains-keys_from_lookup same_by_cmp node s.inventory.nodes a.node_known in
    let found : finds (outcome_on s pod node budget) ≡ true = settled s pod budget node choice grants (outcome_on s pod node budget) law refl (all node known here) a in
    some_is (λ n. fits s pod budget n) (keys_of s.inventory.nodes) node (in_names (keys_of s.inventory.nodes) node known) (node_fits s pod budget node here found)
