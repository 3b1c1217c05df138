-- What holds for each entry of a legal history.
use Rattle.std.proofs.Common.{ℕ, ◌≡◌, ◌≢◌, ◌≤◌, ◌<◌, ◌∙◌, List, [], ◌∷◌, ◌++◌, Bool, true, false, cond, not, ◌||◌, Option, None, Some, is_some, length, take, drop, find, refl, arith, ap, sym, subst, append_assoc, append-nil}
use Rattle.std.specs.Prelude.{is_none, nat_lt}
use Rattle.std.specs.List.{All, AllByRecursion, Contains}
use Rattle.std.specs.Map.{keys_of}
use Rattle.std.specs.Option.{IsSome}
use Rattle.std.specs.Ordering.{eq_by_cmp}
use Rattle.std.specs.Cmp.Lexicographic.{same_text, texts_ties}
use Rattle.std.proofs.lemmas.Bool.{ltb-false}
use Rattle.std.proofs.lemmas.Cmp.{nat_list_eq_equiv}
use Rattle.std.proofs.lemmas.List.{take-append-drop}
use Rattle.std.proofs.lemmas.List.Elements.{Contains-append_right, All-contains, All-from_recursion, All-map, recursion_from_All}
use Rattle.std.proofs.lemmas.Map.Views.{Contains-keys_from_lookup}
use Rattle.walk.specs.Walk.{Item, Part}
use Rattle.walk.specs.Outcome as outcome
use Rattle.object_fields.specs.declared.key.Key.{Key}
use Rattle.api_cluster.specs.declared.types.Pod.{Pod}
use Rattle.cluster.specs.declared.state.ClaimState.{ClaimState}
use Rattle.cluster.specs.declared.state.Granted.{Granted}
use Rattle.cluster.specs.declared.state.PodState.{PodState}
use Rattle.cluster.specs.declared.state.State.{State}
use Rattle.cluster.specs.declared.state.Use.{Use}
use Rattle.cluster.specs.declared.plan.Cause.{Cause}
use Rattle.cluster.specs.declared.plan.Cause.TheVariants as cause
use Rattle.cluster.specs.declared.plan.Grant.{Grant}
use Rattle.cluster.specs.declared.plan.Passed.{Passed}
use Rattle.cluster.specs.declared.plan.Plan.{Plan}
use Rattle.cluster.specs.declared.plan.Reason.{Reason}
use Rattle.cluster.specs.declared.plan.Reason.TheVariants as reason
use Rattle.cluster.specs.declared.plan.SelectorFault.{SelectorFault}
use Rattle.cluster.specs.declared.plan.Verdict.{Verdict}
use Rattle.cluster.specs.VerdictGiven.{is_budget, is_fault, has_budget, has_fault}
use Rattle.cluster.specs.State.{may_use, most_users}
use Rattle.pool_view.specs.Names.{at_key, at_name, text_cmp, text_eq}
use Rattle.allocations.specs.Claims.{full_claim, is_elsewhere, is_off, keys_of_pod, missing_claim, other_claim, wanted}
use Rattle.allocations.specs.Input.{outcome_on, walk_on}
use Rattle.allocations.specs.Allocation.{IsAllocation}
use Rattle.allocations.specs.Outcomes.{IsBudget, IsFault, IsUnsat}
use Rattle.plan_rules.specs.Plans.{CauseTrue, NodesTrue, ReasonTrue, nodes_of}
use Rattle.cluster.specs.declared.entry.Command.{Command}
use Rattle.cluster.specs.declared.entry.Refusal.{Refusal}
use Rattle.cluster.specs.declared.entry.Entry.{Entry}
use Rattle.cluster.specs.declared.entry.Event.TheVariants.{Reserved, VerdictGiven, Denied}
use Rattle.cluster.specs.History.{state_at, state_of}
use Rattle.histories.specs.Reserved.{MayReserve}
use Rattle.histories.specs.VerdictGiven.{MayJudge}
use Rattle.histories.specs.Denied.{MayDeny}
use Rattle.histories.specs.Legal.{Step, LegalAfter, Legal}
use Rattle.histories.specs.Headline.{HasNone, IsCrowded, IsElsewhere, IsGrantOf, IsMissing, IsOverBudget, IsReasonOf, IsVerdictOf, NoneTaken}
use Rattle.histories.proofs.Always.{always_along}
use Rattle.histories.proofs.Histories.{state_of-more}

some_same : {X : Type 0} (v w : X) → Some v ≡ Some w → v ≡ w
some_same v w e = cc

step_after : (before prefix : List Entry) (e : Entry) (back : List Entry) → LegalAfter before (prefix ++ e ∷ back) → Step (before ++ prefix) e
unfolding LegalAfter
step_after before [] e back legal = subst (λ (xs : List Entry). Step xs e) (sym (append-nil before)) legal.0
step_after before (d ∷ prefix) e back legal =
    subst (λ (xs : List Entry). Step xs e) (append_assoc before (d ∷ []) prefix) (step_after (before ++ d ∷ []) prefix e back legal.1)

-- each entry of a legal history may follow those before it
pub step_at : (prefix : List Entry) (e : Entry) (back : List Entry) → Legal (prefix ++ e ∷ back) → Step prefix e
unfolding Legal
step_at prefix e back legal = step_after [] prefix e back legal

prefix_after : (before prefix back : List Entry) → LegalAfter before (prefix ++ back) → LegalAfter before prefix
unfolding LegalAfter
prefix_after before [] back legal = tt
prefix_after before (d ∷ prefix) back legal = (legal.0, prefix_after (before ++ d ∷ []) prefix back legal.1)

-- a prefix of a legal history is legal
pub prefix_legal : (prefix back : List Entry) → Legal (prefix ++ back) → Legal prefix
unfolding Legal
prefix_legal prefix back legal = prefix_after [] prefix back legal

after_prefix : (before prefix es : List Entry) → LegalAfter before (prefix ++ es) → LegalAfter (before ++ prefix) es
unfolding LegalAfter
after_prefix before [] es legal = subst (λ (xs : List Entry). LegalAfter xs es) (sym (append-nil before)) legal
after_prefix before (d ∷ prefix) es legal =
    subst (λ (xs : List Entry). LegalAfter xs es) (append_assoc before (d ∷ []) prefix) (after_prefix (before ++ d ∷ []) prefix es legal.1)

-- what holds for a prefix, and is kept by each entry that may follow, holds for the whole
pub always_from : (P : List Entry → Type 0) → ((h : List Entry) (e : Entry) → Legal h → P h → Step h e → P (h ++ e ∷ [])) → (prefix back : List Entry) → Legal (prefix ++ back) → P prefix → P (prefix ++ back)
unfolding Legal
always_from P step prefix back legal first = always_along P step prefix back (after_prefix [] prefix back legal) (prefix_legal prefix back legal) first

-- what holds of the state after each legal history holds at each of its indexes
pub at_places : (P : State → Type 0) → ((h : List Entry) → Legal h → P (state_of h)) → (h : List Entry) (index : ℕ) → Legal h → P (state_at h index)
at_places P all h index legal =
    all (take index h) (prefix_legal (take index h) (drop index h) (subst (λ (xs : List Entry). Legal xs) (sym (take-append-drop index h)) legal))

grant_of : (before : List Entry) (pod : Key) (plan : Plan) → MayReserve before pod plan → IsGrantOf before pod plan
grant_of before pod plan may =
    record { state = may.holds_now.state; there = may.holds_now.idle.there; here = may.holds_now.here; joins = may.holds_now.joins; choice = may.holds_now.choice; allocation = may.holds_now.allocation }

-- each reservation of a legal history grants an allocation
pub grant_at : (prefix back : List Entry) (job : ℕ) (pod : Key) (plan : Plan) → Legal (prefix ++ record { job = job; event = Reserved pod plan } ∷ back) → IsGrantOf prefix pod plan
grant_at prefix back job pod plan legal = grant_of prefix pod plan (step_at prefix (record { job = job; event = Reserved pod plan }) back legal).follows

-- ---- the first of a list that passes a test

head_in : {X : Type 0} (x : X) (xs : List X) → Contains (x ∷ xs) x
head_in x xs = (0, omega arith, refl)

found_by : {X : Type 0} (t : X → Bool) (b : Bool) (y : X) (ys : List X) (x : X) → t y ≡ b → cond b (Some y) (find t ys) ≡ Some x → (find t ys ≡ Some x → Contains ys x × (t x ≡ true)) → Contains (y ∷ ys) x × (t x ≡ true)
found_by t true y ys x is e later = subst (λ z. Contains (y ∷ ys) z × (t z ≡ true)) (some_same y x e) (head_in y ys, is)
found_by t false y ys x is e later =
    let h = later e in
    (Contains-append_right (y ∷ []) ys x h.0, h.1)

-- it is in the list, and passes
found_in : {X : Type 0} (t : X → Bool) (xs : List X) (x : X) → find t xs ≡ Some x → Contains xs x × (t x ≡ true)
found_in t [] x e = absurd (cc)
found_in t (y ∷ ys) x e = found_by t (t y) y ys x refl e (λ g. found_in t ys x g)

-- ---- causes

unsat_by : (s : State) (pod : Pod) (node : List ℕ) (c : Cause) → c ≡ cause.Unsat → CauseTrue s pod node c → IsUnsat s pod node
unsat_by s pod node cause.Unsat e h = h
unsat_by s pod node (cause.Fault fault) e h = absurd (cc)
unsat_by s pod node (cause.Budget steps) e h = absurd (cc)
unsat_by s pod node (cause.Other claim) e h = absurd (cc)

same_fault : (f g : SelectorFault) → cause.Fault f ≡ cause.Fault g → f ≡ g
same_fault f g e = cc

same_steps : (n m : ℕ) → cause.Budget n ≡ cause.Budget m → n ≡ m
same_steps n m e = cc

same_claim : (k l : Key) → cause.Other k ≡ cause.Other l → k ≡ l
same_claim k l e = cc

fault_by : (s : State) (pod : Pod) (node : List ℕ) (c : Cause) (fault : SelectorFault) → c ≡ cause.Fault fault → CauseTrue s pod node c → (steps : ℕ) × IsFault s pod steps node fault
fault_by s pod node cause.Unsat fault e h = absurd (cc)
fault_by s pod node (cause.Fault f) fault e h = subst (λ (g : SelectorFault). (steps : ℕ) × IsFault s pod steps node g) (same_fault f fault e) h
fault_by s pod node (cause.Budget n) fault e h = absurd (cc)
fault_by s pod node (cause.Other claim) fault e h = absurd (cc)

budget_by : (s : State) (pod : Pod) (node : List ℕ) (c : Cause) (steps : ℕ) → c ≡ cause.Budget steps → CauseTrue s pod node c → IsBudget s pod steps node
budget_by s pod node cause.Unsat steps e h = absurd (cc)
budget_by s pod node (cause.Fault fault) steps e h = absurd (cc)
budget_by s pod node (cause.Budget n) steps e h = subst (λ (m : ℕ). IsBudget s pod m node) (same_steps n steps e) h
budget_by s pod node (cause.Other claim) steps e h = absurd (cc)

other_by : (s : State) (pod : Pod) (node : List ℕ) (c : Cause) (claim : Key) → c ≡ cause.Other claim → CauseTrue s pod node c → other_claim s pod node ≡ Some claim
other_by s pod node cause.Unsat claim e h = absurd (cc)
other_by s pod node (cause.Fault fault) claim e h = absurd (cc)
other_by s pod node (cause.Budget n) claim e h = absurd (cc)
other_by s pod node (cause.Other k) claim e h = h ∙ ap (λ (l : Key). Some l) (same_claim k claim e)

clear_by : (s : State) (pod : Pod) (node : List ℕ) (c : Cause) → is_fault c ≡ false → is_budget c ≡ false → CauseTrue s pod node c → other_claim s pod node ≡ None → HasNone s pod node
clear_by s pod node cause.Unsat f b h here = h.none
clear_by s pod node (cause.Fault fault) f b h here = absurd (cc)
clear_by s pod node (cause.Budget n) f b h here = absurd (cc)
clear_by s pod node (cause.Other claim) f b h here = absurd (let both : None ≡ Some claim = sym here ∙ h in cc)

off_same : (a b : List ℕ) → not (text_eq a b) ≡ true → a ≢ b
off_same a b off e =
    let same : text_eq a b ≡ true = subst (λ (t : List ℕ). text_eq a t ≡ true) e (nat_list_eq_equiv.refl a) in
    let none : not true ≡ true = ap not (sym same) ∙ off in
    absurd (cc)

abbrev Off : List ℕ → Option ClaimState → Type 0
Off node o = (c : ClaimState) × (g : Granted) × (o ≡ Some c) × (c.grant ≡ Some g) × (g.node ≢ node)

off_grant : (node : List ℕ) (c : ClaimState) (o : Option Granted) → c.grant ≡ o → is_off node o ≡ true → Off node (Some c)
off_grant node c None is e = absurd (cc)
off_grant node c (Some g) is e = (c, g, refl, is, off_same g.node node e)

off_by : (node : List ℕ) (o : Option ClaimState) → is_elsewhere node o ≡ true → Off node o
off_by node None e = absurd (cc)
off_by node (Some c) e = off_grant node c c.grant refl e

elsewhere : (s : State) (pod : Pod) (node : List ℕ) (claim : Key) → other_claim s pod node ≡ Some claim → IsElsewhere s pod node claim
unfolding other_claim
elsewhere s pod node claim e =
    let found = found_in (λ k. is_elsewhere node (at_key s.claims k)) (keys_of_pod pod) claim e in
    let off = off_by node (at_key s.claims claim) found.1 in
    record { first = e; own = found.0; state = off.0; there = off.2; grant = off.1; granted = off.3; off = off.4 }

abbrev OverLaw : Type 0
OverLaw = (s : State) (pod : Pod) (node : List ℕ) (b : ℕ) → outcome_on s pod node b ≡ outcome.Budget → b < length (walk_on s pod node)

abbrev PartsLaw : Type 0
PartsLaw = (s : State) (pod : Pod) (node : List ℕ) (b : ℕ) (x : Item) → outcome_on s pod node b ≡ outcome.Budget → Contains (take b (walk_on s pod node)) x → x.mark ≡ Part

over_budget : OverLaw → PartsLaw → (s : State) (pod : Pod) (node : List ℕ) (steps : ℕ) → IsBudget s pod steps node → IsOverBudget s pod node steps
over_budget over parts s pod node steps h = record { here = h.here; more = over s pod node steps h.over; parts = λ x among. parts s pod node steps x h.over among }

-- ---- all nodes

-- the cause of one of the nodes is true
cause_at : (s : State) (pod : Pod) (ps : List Passed) (p : Passed) → All (λ p. CauseTrue s pod p.node p.cause) ps → Contains ps p → CauseTrue s pod p.node p.cause
cause_at s pod ps p causes among = All-contains (λ (q : Passed). CauseTrue s pod q.node q.cause) ps p causes among

all_unsat : (s : State) (pod : Pod) (ps : List Passed) → AllByRecursion (λ p. CauseTrue s pod p.node p.cause) ps → ((p : Passed) → Contains ps p → p.cause ≡ cause.Unsat)
    → AllByRecursion (λ p. HasNone s pod p.node) ps
all_unsat s pod [] h e = tt
all_unsat s pod (p ∷ ps) h e =
    ((unsat_by s pod p.node p.cause (e p (head_in p ps)) h.0).none, all_unsat s pod ps h.1 (λ q among. e q (Contains-append_right (p ∷ []) ps q among)))

neither : (a b : Bool) → (a || b) ≡ false → (a ≡ false) × (b ≡ false)
neither true b e = absurd (cc)
neither false b e = (refl, e)

all_clear : (s : State) (pod : Pod) (ps : List Passed) → AllByRecursion (λ p. CauseTrue s pod p.node p.cause) ps → has_fault ps ≡ false → has_budget ps ≡ false
    → AllByRecursion (λ p. other_claim s pod p.node ≡ None → HasNone s pod p.node) ps
all_clear s pod [] h f b = tt
all_clear s pod (p ∷ ps) h f b =
    let fs = neither (is_fault p.cause) (has_fault ps) f in
    let bs = neither (is_budget p.cause) (has_budget ps) b in
    (λ here. clear_by s pod p.node p.cause fs.0 bs.0 h.0 here, all_clear s pod ps h.1 fs.1 bs.1)

-- what holds of each of the nodes holds of each of their names
by_name : (P : List ℕ → Type 0) (ps : List Passed) (node : List ℕ) → AllByRecursion (λ p. P p.node) ps → Contains (nodes_of ps) node → P node
by_name P ps node h among =
    All-contains P (nodes_of ps) node (All-map P (λ (p : Passed). p.node) ps (All-from_recursion (λ (p : Passed). P p.node) ps h)) among

same_by_cmp : (a b : List ℕ) → eq_by_cmp text_cmp a b ≡ true → a ≡ b
same_by_cmp a b e = same_text a b (sym (texts_ties a b ∙ e))

-- a node that is there is one of the nodes' names
known_by_name : {V : Type 0} (table : List (List ℕ × V)) (name : List ℕ) → IsSome (at_name table name) → Contains (keys_of table) name
known_by_name table name there = Contains-keys_from_lookup same_by_cmp name table there

-- a node with an allocation is one of them
node_among : (s : State) (pod : Pod) (ps : List Passed) (node choice : List ℕ) (grants : List Grant) → nodes_of ps ≡ keys_of s.inventory.nodes → IsAllocation s (wanted s pod) node choice grants → Contains (nodes_of ps) node
node_among s pod ps node choice grants all a =
    subst (λ (names : List (List ℕ)). Contains names node) (sym all) (known_by_name s.inventory.nodes node a.node_known)

none_taken : OverLaw → PartsLaw → (s : State) (key : Key) (state : PodState) (ps : List Passed) → NodesTrue s key state ps → NoneTaken s state.pod.object ps
none_taken over parts s key state ps t =
    let pod = state.pod.object in
    let causes : AllByRecursion (λ p. CauseTrue s pod p.node p.cause) ps = recursion_from_All (λ (p : Passed). CauseTrue s pod p.node p.cause) ps t.causes in
    record {
      every = t.all;
      unsat = λ p among e. (unsat_by s pod p.node p.cause e (cause_at s pod ps p t.causes among)).none;
      fault = λ p fault among e. fault_by s pod p.node p.cause fault e (cause_at s pod ps p t.causes among);
      budget = λ p steps among e. over_budget over parts s pod p.node steps (budget_by s pod p.node p.cause steps e (cause_at s pod ps p t.causes among));
      other = λ p claim among e. elsewhere s pod p.node claim (other_by s pod p.node p.cause claim e (cause_at s pod ps p t.causes among));
      clear = λ p among f b here. clear_by s pod p.node p.cause f b (cause_at s pod ps p t.causes among) here;
      none = λ e node choice grants a.
          by_name (λ n. HasNone s pod n) ps node (all_unsat s pod ps causes e) (node_among s pod ps node choice grants t.all a) choice grants a;
      unsatisfiable = λ f b node here choice grants a.
          by_name (λ n. other_claim s pod n ≡ None → HasNone s pod n) ps node (all_clear s pod ps causes f b) (node_among s pod ps node choice grants t.all a) here choice grants a;
    }

-- ---- the other reasons

absent_by : {X : Type 0} (o : Option X) → is_none o ≡ true → o ≡ None
absent_by None e = refl
absent_by (Some x) e = absurd (cc)

missing : (s : State) (pod : Pod) (claim : Key) → missing_claim s pod ≡ Some claim → IsMissing s pod claim
unfolding missing_claim
missing s pod claim e =
    let found = found_in (λ k. is_none (at_key s.claims k)) (keys_of_pod pod) claim e in
    record { first = e; own = found.0; absent = absent_by (at_key s.claims claim) found.1 }

abbrev Full : Key → Option ClaimState → Type 0
Full key o = (c : ClaimState) × (o ≡ Some c) × (most_users ≤ length c.users) × (at_key c.users key ≡ None)

full_by : (key : Key) (c : ClaimState) (o : Option Use) (few : Bool) → at_key c.users key ≡ o → nat_lt (length c.users) most_users ≡ few → not (is_some o || few) ≡ true → Full key (Some c)
full_by key c None true is lt e = absurd (cc)
full_by key c None false is lt e = (c, refl, ltb-false (length c.users) most_users lt, is)
full_by key c (Some u) few is lt e = absurd (cc)

full_claim_by : (key : Key) (o : Option ClaimState) → not (may_use key o) ≡ true → Full key o
full_claim_by key None e = absurd (cc)
full_claim_by key (Some c) e = full_by key c (at_key c.users key) (nat_lt (length c.users) most_users) refl refl e

crowded : (s : State) (key : Key) (pod : Pod) (claim : Key) → missing_claim s pod ≡ None → full_claim s key pod ≡ Some claim → IsCrowded s key pod claim
unfolding full_claim
crowded s key pod claim there e =
    let found = found_in (λ k. not (may_use key (at_key s.claims k))) (keys_of_pod pod) claim e in
    let full = full_claim_by key (at_key s.claims claim) found.1 in
    record { all_there = there; first = e; own = found.0; state = full.0; there = full.1; full = full.2; not_among = full.3 }

reason_of : OverLaw → PartsLaw → (s : State) (key : Key) (state : PodState) (r : Reason) → ReasonTrue s key state r → IsReasonOf s key state.pod.object r
reason_of over parts s key state (reason.Missing claim) t = missing s state.pod.object claim t
reason_of over parts s key state (reason.Users claim) t = crowded s key state.pod.object claim t.there t.full
reason_of over parts s key state (reason.Nodes nodes) t = none_taken over parts s key state nodes t

verdict_of : OverLaw → PartsLaw → (before : List Entry) (pod : Key) (verdict : Verdict) → MayJudge before pod verdict → IsVerdictOf before pod verdict
verdict_of over parts before pod verdict may =
    let t = may.true_then in
    record { at = may.at; state = t.state; there = t.idle.there; idle = t.idle.idle; reason = reason_of over parts (state_at before verdict.at) pod t.state verdict.reason t.reason }

-- each verdict of a legal history is true
pub verdict_at : OverLaw → PartsLaw → (prefix back : List Entry) (job : ℕ) (pod : Key) (verdict : Verdict) → Legal (prefix ++ record { job = job; event = VerdictGiven pod verdict } ∷ back)
    → IsVerdictOf prefix pod verdict
verdict_at over parts prefix back job pod verdict legal =
    verdict_of over parts prefix pod verdict (step_at prefix (record { job = job; event = VerdictGiven pod verdict }) back legal).follows

-- each denial of a legal history may be made
pub denial_at : (prefix back : List Entry) (job : ℕ) (command : Command) (refusal : Refusal) → Legal (prefix ++ record { job = job; event = Denied command refusal } ∷ back) → MayDeny (state_of prefix) command refusal
denial_at prefix back job command refusal legal = (step_at prefix (record { job = job; event = Denied command refusal }) back legal).follows

-- and leaves the state as it was
pub denial_kept : (prefix : List Entry) (job : ℕ) (command : Command) (refusal : Refusal) → state_of (prefix ++ record { job = job; event = Denied command refusal } ∷ []) ≡ state_of prefix
denial_kept prefix job command refusal = state_of-more prefix (record { job = job; event = Denied command refusal })
