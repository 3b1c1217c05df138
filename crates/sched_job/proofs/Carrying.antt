-- A Schedule that no other job disturbs carries out the decision in the state in which it began.
use Rattle.std.proofs.Common.{ℕ, ◌≡◌, ◌∙◌, ◌+◌, ◌≤◌, ◌<◌, ◌++◌, List, [], ◌∷◌, Bool, true, false, None, Some, Option, length, drop, take, refl, sym, ap, subst, arith, length-append, append_assoc, append-nil, nat_le, eqb, not}
use Rattle.std.specs.List.{AllZip, find, list_all}
use Rattle.std.proofs.lemmas.List.{drop-append-le, drop_all, take_all, take-append-le}
use Rattle.std.proofs.lemmas.Bool.{and_parts, eqb-true, leb-true}
use Rattle.std.proofs.lemmas.Bool.Decides.{nat_tests}
use Rattle.object_fields.specs.declared.key.Key.{Key}
use Rattle.pool_view.specs.Names.{at_key}
use Rattle.cluster.specs.declared.entry.Command.{Command as Asked}
use Rattle.cluster.specs.declared.entry.Command.TheVariants as asked
use Rattle.cluster.specs.declared.entry.Entry.{Entry}
use Rattle.cluster.specs.declared.entry.Event.{Event}
use Rattle.cluster.specs.declared.entry.Event.TheVariants.{Applied, Deleted, Reserved, Refused, Wrote, Conflict, Unreserved, Bound, VerdictGiven, Contended, Released, Adopted, Denied}
use Rattle.cluster.specs.declared.entry.JobState.{JobState}
use Rattle.cluster.specs.declared.entry.JobState.TheVariants as job_state
use Rattle.cluster.specs.declared.entry.Refusal.{Refusal}
use Rattle.cluster.specs.declared.plan.Plan.{Plan}
use Rattle.cluster.specs.declared.plan.Verdict.{Verdict}
use Rattle.cluster.specs.declared.state.Phase.TheVariants.{Taken}
use Rattle.cluster.specs.declared.state.PodState.{PodState}
use Rattle.cluster.specs.declared.state.State.{State}
use Rattle.cluster.specs.Denied.{or_else, phase_refusal, schedule_refusal}
use Rattle.cluster.specs.Events.{after, allows, job_state_after}
use Rattle.cluster.specs.History.{state_at, state_of, job_state_of}
use Rattle.cluster.specs.Reserved.{with_reserved}
use Rattle.cluster.specs.State.{claims_of, has_written}
use Rattle.cluster.specs.Wrote.{with_written}
use Rattle.engine_ports.specs.declared.decision.Decision.{Decision}
use Rattle.engine_ports.specs.declared.decision.Decision.TheVariants.{Reserve, Judge}
use Rattle.engine_ports.specs.Decisions.{IsDecision, IsReserve}
use Rattle.plan_rules.specs.Plans.{IsIdle, PlanBy, PlanTrue, VerdictBy, VerdictTrue}
use Rattle.histories.specs.Bound.{MayBind}
use Rattle.histories.specs.Denied.{MayDeny}
use Rattle.histories.specs.GoesOn.{GoesOn}
use Rattle.histories.specs.Legal.{Legal, MayFollow, Step}
use Rattle.histories.specs.Wrote.{MayWrite}
use Rattle.commands.specs.declared.command.Command.TheVariants.{Schedule}
use Rattle.histories.specs.Alone.{Alone, NeverSetBack, is_setback}
use Rattle.sched_job.specs.Complete.{CarriesOut, Decided, IsWrite, RanAlone, own}
use Rattle.histories.specs.Histories.{Each}
use Rattle.histories.specs.JobRuns.{Run, JobKept, JobStep, IsTry, attempts_of, denied_command}
use Rattle.sched_job.proofs.Growing.{Grows, job_state_other, job_state_own}

-- what is used of the lower crates, and of this one's law
pub record Laws : Type 0 where
  pub grows : Grows
  pub state : (h : List Entry) (e : Entry) → state_of (h ++ e ∷ []) ≡ after (length h + 1) e.job e.event (state_of h)
  pub fresh : (job : ℕ) → job_state_of [] job ≡ job_state.Fresh
  pub goes : (s : State) (pod : Key) (plan : Plan) (job : ℕ) (t : PlanTrue s pod plan) → GoesOn (with_reserved job pod plan s) pod job plan.node (claims_of t.state)
  pub step : (prefix : List Entry) (e : Entry) (back : List Entry) → Legal (prefix ++ e ∷ back) → Step prefix e
  pub never : (c : Run) (h : List Entry) → Legal h → JobKept c h → Alone c.job c.from h → NeverSetBack c.job h

-- ---- how far the job has come

-- it has reserved by the decision's plan, and written some uses
record HasReserved (c : Run) (pod : Key) (s : State) (p : PodState) (before : List Entry) : Type 0 where
  plan : Plan
  is : IsReserve s pod c.budget c.from plan
  prefix : List Entry
  len : length prefix ≡ c.from
  done : List Key
  left : List Key
  claims : claims_of p ≡ done ++ left
  writes : List Entry
  each : AllZip (λ k e. IsWrite c pod k e) done writes
  now : before ≡ prefix ++ own c (Reserved pod plan) ∷ writes
  goes : GoesOn (state_of before) pod c.job plan.node left

record HasBound (c : Run) (pod : Key) (p : PodState) (plan : Plan) (added : List Entry) : Type 0 where
  writes : List Entry
  each : AllZip (λ k e. IsWrite c pod k e) (claims_of p) writes
  entries : added ≡ own c (Reserved pod plan) ∷ (writes ++ own c (Bound pod plan.node) ∷ [])

abbrev HasMade : Run → Key → PodState → List Entry → Decision → Type 0
HasMade c pod p added (Reserve plan) = HasBound c pod p plan added
HasMade c pod p added (Judge verdict) = added ≡ own c (VerdictGiven pod verdict) ∷ []

-- it has carried out the decision
record HasEnded (c : Run) (pod : Key) (s : State) (p : PodState) (before : List Entry) : Type 0 where
  choice : Decision
  is : IsDecision s pod c.budget c.from choice
  prefix : List Entry
  len : length prefix ≡ c.from
  added : List Entry
  now : before ≡ prefix ++ added
  out : HasMade c pod p added choice

abbrev Far : Run → Key → State → PodState → List Entry → JobState → Type 0
Far c pod s p before job_state.Fresh = length before ≤ c.from
Far c pod s p before (job_state.Reserved k) = HasReserved c pod s p before
Far c pod s p before (job_state.Conflicted k) = ⊥
Far c pod s p before (job_state.Failed k) = ⊥
Far c pod s p before (job_state.Ended index) = HasEnded c pod s p before

-- all that is said of an entry of the job
record IsNext (c : Run) (pod : Key) (attempts : ℕ) (s : State) (p : PodState) (before : List Entry) (ev : Event) : Type 0 where
  command : c.command ≡ Schedule pod attempts
  idle : IsIdle s pod p
  begun : length before ≡ c.from → state_of before ≡ s
  stands : MayFollow before c.job ev
  kept : JobStep c before ev
  fine : is_setback ev ≡ false

pod_is : (p pod : Key) (a b : ℕ) → Schedule p a ≡ Schedule pod b → p ≡ pod
pod_is p pod a b e = cc

-- an attempt at the begin is made there
at_begin : (c : Run) (h : List Entry) (n : ℕ) → length h ≡ c.from → IsTry c h n → n ≡ c.from
at_begin c h n is t = let a = t.from in let b = t.within in omega arith

state_here : (h : List Entry) (n : ℕ) → n ≡ length h → state_at h n ≡ state_of h
state_here h n is = ap (λ (k : ℕ). state_at h k) is ∙ ap state_of (take_all (length h) h (omega arith))

some_pod : (p q : PodState) → Some p ≡ Some q → p ≡ q
some_pod p q e = cc

node_is : (i j : ℕ) (m n : List ℕ) → Taken i m ≡ Taken j n → m ≡ n
node_is i j m n e = cc

-- one entry more behind those that are told apart
one_more : (before prefix : List Entry) (r : Entry) (writes : List Entry) (e : Entry) → before ≡ prefix ++ r ∷ writes → before ++ e ∷ [] ≡ prefix ++ r ∷ (writes ++ e ∷ [])
one_more before prefix r writes e is = ap (λ (l : List Entry). l ++ e ∷ []) is ∙ append_assoc prefix (r ∷ writes) (e ∷ [])

-- ---- the first entry

reserves : Laws → (c : Run) (pod : Key) (attempts : ℕ) (s : State) (p : PodState) (before : List Entry) (q : Key) (plan : Plan) → IsNext c pod attempts s p before (Reserved q plan) → length before ≡ c.from → q ≡ pod → HasReserved c pod s p (before ++ own c (Reserved q plan) ∷ [])
reserves laws c pod attempts s p before q plan a len same =
    let at : plan.at ≡ c.from = at_begin c before plan.at len a.kept.timed.try in
    let here : state_at before plan.at ≡ s = state_here before plan.at (at ∙ sym len) ∙ a.begun len in
    let true_q : PlanTrue s q plan = subst (λ (t : State). PlanTrue t q plan) here a.stands.true_then in
    let by_q : PlanBy s q c.budget plan = subst (λ (t : State). PlanBy t q c.budget plan) here a.kept.timed.by in
    let true_pod : PlanTrue s pod plan = subst (λ (k : Key). PlanTrue s k plan) same true_q in
    let one : true_pod.state ≡ p = some_pod true_pod.state p (sym true_pod.may_search.idle.there ∙ a.idle.there) in
    let goes : GoesOn (with_reserved c.job pod plan s) pod c.job plan.node (claims_of p) =
    subst (λ (x : PodState). GoesOn (with_reserved c.job pod plan s) pod c.job plan.node (claims_of x)) one (laws.goes s pod plan c.job true_pod) in
    let state : state_of (before ++ own c (Reserved pod plan) ∷ []) ≡ with_reserved c.job pod plan s =
    laws.state before (own c (Reserved pod plan)) ∙ ap (λ (t : State). with_reserved c.job pod plan t) (a.begun len) in
    let made : HasReserved c pod s p (before ++ own c (Reserved pod plan) ∷ []) = record {
      plan = plan;
      is = record { index = at; holds = true_pod; found = subst (λ (k : Key). PlanBy s k c.budget plan) same by_q };
      prefix = before;
      len = len;
      done = [];
      left = claims_of p;
      claims = refl;
      writes = [];
      each = tt;
      now = refl;
      goes = subst (λ (t : State). GoesOn t pod c.job plan.node (claims_of p)) (sym state) goes;
    } in subst (λ (k : Key). HasReserved c pod s p (before ++ own c (Reserved k plan) ∷ [])) (sym same) made

judges : (c : Run) (pod : Key) (attempts : ℕ) (s : State) (p : PodState) (before : List Entry) (q : Key) (verdict : Verdict) → IsNext c pod attempts s p before (VerdictGiven q verdict) → length before ≡ c.from → q ≡ pod → HasEnded c pod s p (before ++ own c (VerdictGiven q verdict) ∷ [])
judges c pod attempts s p before q verdict a len same =
    let at : verdict.at ≡ c.from = at_begin c before verdict.at len a.kept.timed.try in
    let here : state_at before verdict.at ≡ s = state_here before verdict.at (at ∙ sym len) ∙ a.begun len in
    let true_q : VerdictTrue s q verdict = subst (λ (t : State). VerdictTrue t q verdict) here a.stands.true_then in
    let by_q : VerdictBy s q c.budget verdict = subst (λ (t : State). VerdictBy t q c.budget verdict) here a.kept.timed.by in
    let made : HasEnded c pod s p (before ++ own c (VerdictGiven pod verdict) ∷ []) = record {
      choice = Judge verdict;
      is = record { index = at; holds = subst (λ (k : Key). VerdictTrue s k verdict) same true_q; found = subst (λ (k : Key). VerdictBy s k c.budget verdict) same by_q };
      prefix = before;
      len = len;
      added = own c (VerdictGiven pod verdict) ∷ [];
      now = refl;
      out = refl;
    } in subst (λ (k : Key). HasEnded c pod s p (before ++ own c (VerdictGiven k verdict) ∷ [])) (sym same) made

asked_pod : (attempts b : ℕ) (pod : Key) (command : Asked) → denied_command attempts command ≡ Schedule pod b → command ≡ asked.Schedule pod
asked_pod attempts b pod (asked.Invalid error) e = absurd cc
asked_pod attempts b pod (asked.Apply object mode) e = absurd cc
asked_pod attempts b pod (asked.Delete target) e = absurd cc
asked_pod attempts b pod (asked.Schedule q) e = cc
asked_pod attempts b pod (asked.Release q) e = absurd cc
asked_pod attempts b pod (asked.Adopt claim status) e = absurd cc

-- a pod that is Idle may be scheduled
not_denied : (s : State) (pod : Key) (p : PodState) (refusal : Refusal) → IsIdle s pod p → MayDeny s (asked.Schedule pod) refusal → ⊥
not_denied s pod p refusal idle d =
    let none : schedule_refusal (at_key s.pods pod) ≡ None = ap schedule_refusal idle.there ∙ ap phase_refusal idle.idle in
    let due : or_else (schedule_refusal (at_key s.pods pod)) None ≡ Some refusal = d.due in
    some_none refusal (sym due ∙ ap (λ (o : Option Refusal). or_else o None) none)
  where
    some_none : (r : Refusal) → Some r ≡ None → ⊥
    some_none r e = cc

never_denied : (c : Run) (pod : Key) (attempts : ℕ) (s : State) (p : PodState) (before : List Entry) (command : Asked) (refusal : Refusal) → IsNext c pod attempts s p before (Denied command refusal) → length before ≡ c.from → ⊥
never_denied c pod attempts s p before command refusal a len =
    let is : command ≡ asked.Schedule pod = asked_pod (attempts_of c.command) attempts pod command (a.kept.of_command ∙ a.command) in
    let d : MayDeny (state_of before) command refusal = a.stands in
    not_denied s pod p refusal a.idle (subst (λ (x : Asked). MayDeny s x refusal) is (subst (λ (t : State). MayDeny t command refusal) (a.begun len) d))

fresh_far : Laws → (c : Run) (pod : Key) (attempts : ℕ) (s : State) (p : PodState) (before : List Entry) (index : ℕ) (ev : Event) → IsNext c pod attempts s p before ev → length before ≤ c.from → allows job_state.Fresh ev ≡ true
    → Far c pod s p (before ++ own c ev ∷ []) (job_state_after job_state.Fresh index ev)
fresh_far laws c pod attempts s p before index (Applied object mode) a le may = let e = a.kept.of_command ∙ a.command in absurd cc
fresh_far laws c pod attempts s p before index (Deleted target) a le may = let e = a.kept.of_command ∙ a.command in absurd cc
fresh_far laws c pod attempts s p before index (Reserved q plan) a le may =
    reserves laws c pod attempts s p before q plan a (let l = a.kept.after in omega arith) (pod_is q pod (attempts_of c.command) attempts (a.kept.of_command ∙ a.command))
fresh_far laws c pod attempts s p before index (Refused q plan why) a le may = let e = a.fine in absurd cc
fresh_far laws c pod attempts s p before index (Wrote q claim seen) a le may = absurd cc
fresh_far laws c pod attempts s p before index (Conflict q claim had now) a le may = absurd cc
fresh_far laws c pod attempts s p before index (Unreserved q) a le may = absurd cc
fresh_far laws c pod attempts s p before index (Bound q node) a le may = absurd cc
fresh_far laws c pod attempts s p before index (VerdictGiven q verdict) a le may =
    judges c pod attempts s p before q verdict a (let l = a.kept.after in omega arith) (pod_is q pod (attempts_of c.command) attempts (a.kept.of_command ∙ a.command))
fresh_far laws c pod attempts s p before index (Contended q n) a le may = let e = a.fine in absurd cc
fresh_far laws c pod attempts s p before index (Released q) a le may = let e = a.kept.of_command ∙ a.command in absurd cc
fresh_far laws c pod attempts s p before index (Adopted claim status) a le may = let e = a.kept.of_command ∙ a.command in absurd cc
fresh_far laws c pod attempts s p before index (Denied command refusal) a le may = absurd (never_denied c pod attempts s p before command refusal a (let l = a.kept.after in omega arith))

-- ---- the entries behind a reservation

zip_push : (R : Key → Entry → Type 0) (ks : List Key) (es : List Entry) (k : Key) (e : Entry) → AllZip R ks es → R k e → AllZip R (ks ++ k ∷ []) (es ++ e ∷ [])
zip_push R [] [] k e z r = (r, tt)
zip_push R [] (d ∷ es) k e z r = absurd z
zip_push R (j ∷ ks) [] k e z r = absurd z
zip_push R (j ∷ ks) (d ∷ es) k e z r = (z.0, zip_push R ks es k e z.1 r)

-- if all are written, none is left
none_left : (f : Key → Bool) (ks : List Key) → list_all f ks ≡ true → find (λ k. not (f k)) ks ≡ None
none_left f [] all = refl
none_left f (k ∷ ks) all =
    let both = and_parts (f k) (list_all f ks) all in
    let first : f k ≡ true = both.0 in rw first (none_left f ks both.1)

some_none : (k : Key) (o : Option Key) → o ≡ Some k → o ≡ None → ⊥
some_none k o e f = cc

some_key : (k l : Key) (o : Option Key) → o ≡ Some k → o ≡ Some l → k ≡ l
some_key k l o e f = cc

one_pod : (s : State) (pod : Key) (p q : PodState) → at_key s.pods pod ≡ Some p → at_key s.pods pod ≡ Some q → p ≡ q
one_pod s pod p q e f = some_pod p q (sym e ∙ f)

-- a claim that may be written, where all that are left aren't written yet
record IsFirstLeft (s : State) (pod : Key) (job : ℕ) (node : List ℕ) (claim : Key) (left : List Key) : Type 0 where
  rest : List Key
  is : left ≡ claim ∷ rest
  goes : (index : ℕ) → GoesOn (with_written index pod claim s) pod job node rest

next_write : (s : State) (pod : Key) (job : ℕ) (node : List ℕ) (claim : Key) (seen : ℕ) (left : List Key) → GoesOn s pod job node left → MayWrite s pod job claim seen → IsFirstLeft s pod job node claim left
next_write s pod job node claim seen [] goes may =
    let one : may.state ≡ goes.state = one_pod s pod may.state goes.state may.taken.there goes.taken.there in
    let next : find (λ k. not (has_written s pod k)) (claims_of goes.state) ≡ Some claim =
    subst (λ (x : PodState). find (λ k. not (has_written s pod k)) (claims_of x) ≡ Some claim) one may.next in
    absurd (some_none claim (find (λ k. not (has_written s pod k)) (claims_of goes.state)) next (none_left (λ k. has_written s pod k) (claims_of goes.state) goes.written))
next_write s pod job node claim seen (k ∷ ks) goes may =
    let one : may.state ≡ goes.0.state = one_pod s pod may.state goes.0.state may.taken.there goes.0.taken.there in
    let next : find (λ k. not (has_written s pod k)) (claims_of goes.0.state) ≡ Some claim =
    subst (λ (x : PodState). find (λ k. not (has_written s pod k)) (claims_of x) ≡ Some claim) one may.next in
    let same : k ≡ claim = some_key k claim (find (λ k. not (has_written s pod k)) (claims_of goes.0.state)) goes.0.next next in
    record { rest = ks; is = ap (λ (x : Key). x ∷ ks) same; goes = λ index. subst (λ (x : Key). GoesOn (with_written index pod x s) pod job node ks) same (goes.1 index) }

-- the pod may be bound if none is left, and to this node
last_bind : (s : State) (pod : Key) (job : ℕ) (node other : List ℕ) (left : List Key) → GoesOn s pod job node left → MayBind s pod job other → (left ≡ []) × (other ≡ node)
last_bind s pod job node other [] goes may =
    let one : may.state ≡ goes.state = one_pod s pod may.state goes.state may.taken.there goes.taken.there in
    (refl, node_is job job other node (sym may.taken.taken ∙ ap (λ (x : PodState). x.phase) one ∙ goes.taken.taken))
last_bind s pod job node other (k ∷ ks) goes may =
    let one : goes.0.state ≡ may.state = one_pod s pod goes.0.state may.state goes.0.taken.there may.taken.there in
    let next : find (λ k. not (has_written s pod k)) (claims_of may.state) ≡ Some k =
    subst (λ (x : PodState). find (λ k. not (has_written s pod k)) (claims_of x) ≡ Some k) one goes.0.next in
    absurd (some_none k (find (λ k. not (has_written s pod k)) (claims_of may.state)) next (none_left (λ k. has_written s pod k) (claims_of may.state) may.written))

writes_more : Laws → (c : Run) (pod : Key) (s : State) (p : PodState) (before : List Entry) (q claim : Key) (seen : ℕ) → HasReserved c pod s p before → q ≡ pod → MayFollow before c.job (Wrote q claim seen) → HasReserved c pod s p (before ++ own c (Wrote q claim seen) ∷ [])
writes_more laws c pod s p before q claim seen r same may =
    let e : Entry = own c (Wrote pod claim seen) in
    let first = next_write (state_of before) pod c.job r.plan.node claim seen r.left r.goes (subst (λ (k : Key). MayWrite (state_of before) k c.job claim seen) same may) in
    let made : HasReserved c pod s p (before ++ own c (Wrote pod claim seen) ∷ []) = record {
      plan = r.plan;
      is = r.is;
      prefix = r.prefix;
      len = r.len;
      done = r.done ++ claim ∷ [];
      left = first.rest;
      claims = r.claims ∙ ap (λ (l : List Key). r.done ++ l) first.is ∙ sym (append_assoc r.done (claim ∷ []) first.rest);
      writes = r.writes ++ e ∷ [];
      each = zip_push (λ k x. IsWrite c pod k x) r.done r.writes claim e r.each (record { seen = seen; is = refl });
      now = one_more before r.prefix (own c (Reserved pod r.plan)) r.writes e r.now;
      goes = subst (λ (t : State). GoesOn t pod c.job r.plan.node first.rest) (sym (laws.state before e)) (first.goes (length before + 1));
    } in subst (λ (k : Key). HasReserved c pod s p (before ++ own c (Wrote k claim seen) ∷ [])) (sym same) made

binds : (c : Run) (pod : Key) (s : State) (p : PodState) (before : List Entry) (q : Key) (node : List ℕ) → HasReserved c pod s p before → q ≡ pod → MayFollow before c.job (Bound q node) → HasEnded c pod s p (before ++ own c (Bound q node) ∷ [])
binds c pod s p before q node r same may =
    let last = last_bind (state_of before) pod c.job r.plan.node node r.left r.goes (subst (λ (k : Key). MayBind (state_of before) k c.job node) same may) in
    let claims : r.done ≡ claims_of p = sym (r.claims ∙ ap (λ (l : List Key). r.done ++ l) last.0 ∙ append-nil r.done) in
    let made : HasEnded c pod s p (before ++ own c (Bound pod r.plan.node) ∷ []) = record {
      choice = Reserve r.plan;
      is = r.is;
      prefix = r.prefix;
      len = r.len;
      added = own c (Reserved pod r.plan) ∷ (r.writes ++ own c (Bound pod r.plan.node) ∷ []);
      now = one_more before r.prefix (own c (Reserved pod r.plan)) r.writes (own c (Bound pod r.plan.node)) r.now;
      out = record { writes = r.writes; each = subst (λ (ks : List Key). AllZip (λ k e. IsWrite c pod k e) ks r.writes) claims r.each; entries = refl };
    } in
    subst (λ (k : Key). HasEnded c pod s p (before ++ own c (Bound k node) ∷ [])) (sym same)
    (subst (λ (n : List ℕ). HasEnded c pod s p (before ++ own c (Bound pod n) ∷ [])) (sym last.1) made)

reserved_far : Laws → (c : Run) (pod : Key) (attempts : ℕ) (s : State) (p : PodState) (before : List Entry) (index k : ℕ) (ev : Event) → IsNext c pod attempts s p before ev → HasReserved c pod s p before → allows (job_state.Reserved k) ev ≡ true
    → Far c pod s p (before ++ own c ev ∷ []) (job_state_after (job_state.Reserved k) index ev)
reserved_far laws c pod attempts s p before index k (Applied object mode) a r may = absurd cc
reserved_far laws c pod attempts s p before index k (Deleted target) a r may = absurd cc
reserved_far laws c pod attempts s p before index k (Reserved q plan) a r may = absurd cc
reserved_far laws c pod attempts s p before index k (Refused q plan why) a r may = absurd cc
reserved_far laws c pod attempts s p before index k (Wrote q claim seen) a r may = writes_more laws c pod s p before q claim seen r (pod_is q pod (attempts_of c.command) attempts (a.kept.of_command ∙ a.command)) a.stands
reserved_far laws c pod attempts s p before index k (Conflict q claim had now) a r may = let e = a.fine in absurd cc
reserved_far laws c pod attempts s p before index k (Unreserved q) a r may = absurd cc
reserved_far laws c pod attempts s p before index k (Bound q node) a r may = binds c pod s p before q node r (pod_is q pod (attempts_of c.command) attempts (a.kept.of_command ∙ a.command)) a.stands
reserved_far laws c pod attempts s p before index k (VerdictGiven q verdict) a r may = absurd cc
reserved_far laws c pod attempts s p before index k (Contended q n) a r may = absurd cc
reserved_far laws c pod attempts s p before index k (Released q) a r may = absurd cc
reserved_far laws c pod attempts s p before index k (Adopted claim status) a r may = absurd cc
reserved_far laws c pod attempts s p before index k (Denied command refusal) a r may = absurd cc

-- a job that has ended makes no entry
none_ended : (index : ℕ) (ev : Event) → allows (job_state.Ended index) ev ≡ true → ⊥
none_ended index (Applied object mode) may = cc
none_ended index (Deleted target) may = cc
none_ended index (Reserved q plan) may = cc
none_ended index (Refused q plan why) may = cc
none_ended index (Wrote q claim seen) may = cc
none_ended index (Conflict q claim had now) may = cc
none_ended index (Unreserved q) may = cc
none_ended index (Bound q node) may = cc
none_ended index (VerdictGiven q verdict) may = cc
none_ended index (Contended q n) may = cc
none_ended index (Released q) may = cc
none_ended index (Adopted claim status) may = cc
none_ended index (Denied command refusal) may = cc

-- ---- entry after entry

own_far : Laws → (c : Run) (pod : Key) (attempts : ℕ) (s : State) (p : PodState) (before : List Entry) (st : JobState) (index : ℕ) (ev : Event) → IsNext c pod attempts s p before ev → Far c pod s p before st → allows st ev ≡ true
    → Far c pod s p (before ++ own c ev ∷ []) (job_state_after st index ev)
own_far laws c pod attempts s p before job_state.Fresh index ev a far may = fresh_far laws c pod attempts s p before index ev a far may
own_far laws c pod attempts s p before (job_state.Reserved k) index ev a far may = reserved_far laws c pod attempts s p before index k ev a far may
own_far laws c pod attempts s p before (job_state.Conflicted k) index ev a far may = absurd far
own_far laws c pod attempts s p before (job_state.Failed k) index ev a far may = absurd far
own_far laws c pod attempts s p before (job_state.Ended n) index ev a far may = absurd (none_ended n ev may)

-- before the job begins it has no entry
early_far : (c : Run) (pod : Key) (s : State) (p : PodState) (before : List Entry) (e : Entry) (st : JobState) → Far c pod s p before st → length before < c.from → Far c pod s p (before ++ e ∷ []) st
early_far c pod s p before e job_state.Fresh far small = omega (arith, length-append before (e ∷ []))
early_far c pod s p before e (job_state.Reserved k) far small = absurd (
    let l = ap length far.now in
    let m = far.len in omega (arith, length-append far.prefix (own c (Reserved pod far.plan) ∷ far.writes))
    )
early_far c pod s p before e (job_state.Conflicted k) far small = absurd far
early_far c pod s p before e (job_state.Failed k) far small = absurd far
early_far c pod s p before e (job_state.Ended index) far small = absurd (
    let l = ap length far.now in
    let m = far.len in omega (arith, length-append far.prefix far.added)
    )

-- the state in which the job begins is that after the first entries
begins_at : (c : Run) (before es : List Entry) (s : State) → s ≡ state_at (before ++ es) c.from → length before ≡ c.from → state_of before ≡ s
begins_at c before es s is len =
    let le : c.from ≤ length before = omega arith in
    let all : take c.from before ≡ before = take_all c.from before (omega arith) in
    sym (is ∙ ap state_of (take-append-le c.from before es le ∙ all))

own_step : Laws → (c : Run) (pod : Key) (attempts : ℕ) (s : State) (p : PodState) (before : List Entry) (e : Entry) → IsNext c pod attempts s p before e.event → e.job ≡ c.job → Step before e → Far c pod s p before (job_state_of before c.job)
    → Far c pod s p (before ++ e ∷ []) (job_state_of (before ++ e ∷ []) c.job)
own_step laws c pod attempts s p before e a mine step far =
    let may : allows (job_state_of before c.job) e.event ≡ true = subst (λ (n : ℕ). allows (job_state_of before n) e.event ≡ true) mine step.allowed in
    let r = own_far laws c pod attempts s p before (job_state_of before c.job) (length before + 1) e.event a far may in
    let same : ◌≡◌ {A = Entry} e (own c e.event) = ap (λ (n : ℕ). record { job = n; event = e.event }) mine in
    subst (λ (st : JobState). Far c pod s p (before ++ e ∷ []) st) (sym (job_state_own laws.grows before e c.job mine))
    (subst (λ (x : Entry). Far c pod s p (before ++ x ∷ []) (job_state_after (job_state_of before c.job) (length before + 1) e.event)) (sym same) r)

eqb_cases : (a b : ℕ) → (a ≡ b → ⊥) → eqb a b ≡ false
eqb_cases a b differ = pick (eqb a b) refl
  where
    pick : (x : Bool) → eqb a b ≡ x → eqb a b ≡ false
    pick true t = absurd (differ (eqb-true a b t))
    pick false t = t

-- what is said of an entry of the history
record At (c : Run) (before : List Entry) (e : Entry) : Type 0 where
  step : Step before e
  kept : e.job ≡ c.job → JobStep c before e.event
  alone : c.from ≤ length before → e.job ≡ c.job
  fine : e.job ≡ c.job → is_setback e.event ≡ false

one_step : Laws → (c : Run) (pod : Key) (attempts : ℕ) (s : State) (p : PodState) (before : List Entry) (e : Entry) → c.command ≡ Schedule pod attempts → IsIdle s pod p → (length before ≡ c.from → state_of before ≡ s) → At c before e
    → Far c pod s p before (job_state_of before c.job) → Far c pod s p (before ++ e ∷ []) (job_state_of (before ++ e ∷ []) c.job)
one_step laws c pod attempts s p before e command idle begun a far = pick (nat_le c.from (length before)) refl
  where
    pick : (b : Bool) → nat_le c.from (length before) ≡ b → Far c pod s p (before ++ e ∷ []) (job_state_of (before ++ e ∷ []) c.job)
    pick true t =
        let mine : e.job ≡ c.job = a.alone (leb-true c.from (length before) t) in
        let stands : MayFollow before c.job e.event = subst (λ (n : ℕ). MayFollow before n e.event) mine a.step.follows in
        own_step laws c pod attempts s p before e (record { command = command; idle = idle; begun = begun; stands = stands; kept = a.kept mine; fine = a.fine mine }) mine a.step far
    pick false t =
        let small : length before < c.from = grind (arith, nat_tests) in
        let differ : e.job ≡ c.job → ⊥ = λ mine. let le = (a.kept mine).after in absurd (omega arith) in
        subst (λ (st : JobState). Far c pod s p (before ++ e ∷ []) st) (sym (job_state_other laws.grows before e c.job (eqb_cases e.job c.job differ))) (early_far c pod s p before e (job_state_of before c.job) far small)

far_from : Laws → (c : Run) (pod : Key) (attempts : ℕ) (s : State) (p : PodState) (before es : List Entry) → c.command ≡ Schedule pod attempts → IsIdle s pod p → s ≡ state_at (before ++ es) c.from → Legal (before ++ es)
    → Each (λ b e. e.job ≡ c.job → JobStep c b e.event) before es → Each (λ b e. c.from ≤ length b → e.job ≡ c.job) before es → Each (λ b e. e.job ≡ c.job → is_setback e.event ≡ false) before es
    → Far c pod s p before (job_state_of before c.job) → Far c pod s p (before ++ es) (job_state_of (before ++ es) c.job)
unfolding Each
far_from laws c pod attempts s p before [] command idle is legal kept alone never far = subst (λ (h : List Entry). Far c pod s p h (job_state_of h c.job)) (sym (append-nil before)) far
far_from laws c pod attempts s p before (e ∷ es) command idle is legal kept alone never far =
    let next = one_step laws c pod attempts s p before e command idle (begins_at c before (e ∷ es) s is) (record { step = laws.step before e es legal; kept = kept.0; alone = alone.0; fine = never.0 }) far in
    let whole : (before ++ e ∷ []) ++ es ≡ before ++ e ∷ es = append_assoc before (e ∷ []) es in
    subst (λ (h : List Entry). Far c pod s p h (job_state_of h c.job)) whole
    (far_from laws c pod attempts s p (before ++ e ∷ []) es command idle (is ∙ ap (λ (h : List Entry). state_at h c.from) (sym whole)) (subst Legal (sym whole) legal) kept.1 alone.1 never.1 next)

-- ---- what the job has made

past : (n : ℕ) (prefix added : List Entry) → length prefix ≡ n → drop n (prefix ++ added) ≡ added
past n prefix added len =
    let none : drop n prefix ≡ [] = drop_all n prefix (omega arith) in
    drop-append-le n prefix added (omega arith) ∙ ap (λ (l : List Entry). l ++ added) none

carries : (c : Run) (h : List Entry) (pod : Key) (p : PodState) (added : List Entry) (choice : Decision) → drop c.from h ≡ added → HasMade c pod p added choice → CarriesOut c h pod p choice
carries c h pod p added (Reserve plan) is out = record { writes = out.writes; each = out.each; entries = is ∙ out.entries }
carries c h pod p added (Judge verdict) is out = is ∙ out

ended_far : (c : Run) (h : List Entry) (pod : Key) (p : PodState) (index : ℕ) (st : JobState) → st ≡ job_state.Ended index → Far c pod (state_at h c.from) p h st → Decided c h pod p
ended_far c h pod p index job_state.Fresh is far = absurd cc
ended_far c h pod p index (job_state.Reserved k) is far = absurd cc
ended_far c h pod p index (job_state.Conflicted k) is far = absurd cc
ended_far c h pod p index (job_state.Failed k) is far = absurd cc
ended_far c h pod p index (job_state.Ended n) is far =
    let made : drop c.from h ≡ far.added = ap (λ (l : List Entry). drop c.from l) far.now ∙ past c.from far.prefix far.added far.len in
    record { choice = far.choice; is = far.is; out = carries c h pod p far.added far.choice made far.out }

-- the job carried out the decision in the state in which it began
pub decided : Laws → (c : Run) (h : List Entry) (pod : Key) (p : PodState) → RanAlone c h pod p → Decided c h pod p
decided laws c h pod p r =
    let start : Far c pod (state_at h c.from) p [] (job_state_of [] c.job) = subst (λ (st : JobState). Far c pod (state_at h c.from) p [] st) (sym (laws.fresh c.job)) (omega arith) in
    ended_far c h pod p r.run.index (job_state_of h c.job) r.run.ended
    (far_from laws c pod r.attempts (state_at h c.from) p [] h r.command r.idle refl r.legal r.run.kept r.alone (laws.never c h r.legal r.run.kept r.alone) start)
