-- What an entry says is determined by the history before it, the job's command, the budget, its kind and the index of its
-- decision.
use Rattle.std.proofs.Common.{ℕ, ◌≡◌, ◌∙◌, List, [], ◌∷◌, ◌++◌, true, false, not, Option, Some, refl, sym, ap, subst}
use Rattle.std.specs.Prelude.{find, codes}
use Rattle.std.specs.Str.{bytes_eq}
use Rattle.std.proofs.lemmas.Cmp.{nat_list_eq_equiv}
use Rattle.object_fields.specs.declared.key.Key.{Key}
use Rattle.pool_view.specs.Names.{at_key}
use Rattle.cluster.specs.declared.entry.Command.{Command as Asked}
use Rattle.cluster.specs.declared.entry.Command.TheVariants as asked
use Rattle.cluster.specs.declared.entry.Entry.{Entry}
use Rattle.cluster.specs.declared.entry.Event.{Event}
use Rattle.cluster.specs.declared.entry.Event.TheVariants.{Applied, Deleted, Reserved, Refused, Wrote, Conflict, Unreserved, Bound, VerdictGiven, Contended, Released, Adopted, Denied}
use Rattle.cluster.specs.declared.entry.Refusal.{Refusal}
use Rattle.cluster.specs.declared.failure.Failure.{Failure}
use Rattle.cluster.specs.declared.plan.Plan.{Plan}
use Rattle.cluster.specs.declared.plan.Verdict.{Verdict}
use Rattle.cluster.specs.declared.state.Phase.TheVariants as phase
use Rattle.cluster.specs.declared.state.PodState.{PodState}
use Rattle.cluster.specs.declared.state.State.{State}
use Rattle.cluster.specs.declared.state.Use.TheVariants.{Assumed}
use Rattle.cluster.specs.History.{state_at, state_of}
use Rattle.cluster.specs.State.{claims_of, has_written, use_in, version_of}
use Rattle.commands.specs.declared.command.Command.{Command}
use Rattle.commands.specs.declared.command.Command.TheVariants as command
use Rattle.plan_rules.specs.Decided.{IsPlanWithin, IsVerdictWithin}
use Rattle.plan_rules.specs.Failing.{failing}
use Rattle.plan_rules.specs.Plans.{PlanBy, PlanTrue, VerdictBy, VerdictTrue}
use Rattle.histories.specs.Bound.{MayBind}
use Rattle.histories.specs.Conflict.{MayConflict}
use Rattle.histories.specs.Denied.{MayDeny, refusal_of}
use Rattle.histories.specs.Determined.{AllAlike, AreAlike, IsRunOf, RunBy}
use Rattle.histories.specs.Histories.{Each}
use Rattle.histories.specs.JobRuns.{JobStep, Run, attempts_of, denied_command}
use Rattle.histories.specs.Legal.{Legal, LegalAfter, Step}
use Rattle.histories.specs.Wrote.{MayWrite}

-- of one state, pod, budget and index there is one plan and one verdict
pub record Unique : Type 0 where
  pub plans : (s : State) (pod : Key) (budget : ℕ) (p q : Plan) → IsPlanWithin s pod budget p → IsPlanWithin s pod budget q → p.at ≡ q.at → p ≡ q
  pub verdicts : (s : State) (pod : Key) (budget : ℕ) (v w : Verdict) → IsVerdictWithin s pod budget v → IsVerdictWithin s pod budget w → v.at ≡ w.at → v ≡ w

some_same : {X : Type 0} (v w : X) → Some v ≡ Some w → v ≡ w
some_same v w e = cc

two : {X : Type 0} (o : Option X) (x y : X) → o ≡ Some x → o ≡ Some y → x ≡ y
two o x y e f = some_same x y (sym e ∙ f)

same_pod : (p q : Key) (n : ℕ) → command.Schedule p n ≡ command.Schedule q n → p ≡ q
same_pod p q n e = cc

same_at : (m n : ℕ) → Some m ≡ Some n → m ≡ n
same_at m n e = cc

-- ---- plans and verdicts

planned : (before : List Entry) (p : Key) (budget : ℕ) (plan : Plan) → PlanTrue (state_at before plan.at) p plan → PlanBy (state_at before plan.at) p budget plan → IsPlanWithin (state_at before plan.at) p budget plan
planned before p budget plan t b = record { holds = t; found = b }

judged : (before : List Entry) (p : Key) (budget : ℕ) (v : Verdict) → VerdictTrue (state_at before v.at) p v → VerdictBy (state_at before v.at) p budget v → IsVerdictWithin (state_at before v.at) p budget v
judged before p budget v t b = record { holds = t; found = b }

plan_same : Unique → (before : List Entry) (budget : ℕ) (p q : Key) (plan other : Plan) → p ≡ q → plan.at ≡ other.at → IsPlanWithin (state_at before plan.at) p budget plan → IsPlanWithin (state_at before other.at) q budget other
    → plan ≡ other
plan_same law before budget p q plan other pod at t u =
    law.plans (state_at before other.at) q budget plan other
    (subst (λ (k : Key). IsPlanWithin (state_at before other.at) k budget plan) pod (subst (λ (n : ℕ). IsPlanWithin (state_at before n) p budget plan) at t)) u at

reserved_same : Unique → (before : List Entry) (budget : ℕ) (p q : Key) (plan other : Plan) → p ≡ q → plan.at ≡ other.at → IsPlanWithin (state_at before plan.at) p budget plan → IsPlanWithin (state_at before other.at) q budget other
    → Reserved p plan ≡ Reserved q other
reserved_same law before budget p q plan other pod at t u = let same = plan_same law before budget p q plan other pod at t u in ap (λ k. Reserved k plan) pod ∙ ap (λ x. Reserved q x) same

why_same : (s : State) (p q : Key) (plan other : Plan) (why more : Failure) → p ≡ q → plan ≡ other → failing s p plan ≡ Some why → failing s q other ≡ Some more → why ≡ more
why_same s p q plan other why more pod same f g = two (failing s q other) why more (ap (λ k. failing s k other) (sym pod) ∙ ap (λ x. failing s p x) (sym same) ∙ f) g

refused_same : Unique → (before : List Entry) (budget : ℕ) (p q : Key) (plan other : Plan) (why more : Failure) → p ≡ q → plan.at ≡ other.at → IsPlanWithin (state_at before plan.at) p budget plan
    → IsPlanWithin (state_at before other.at) q budget other → failing (state_of before) p plan ≡ Some why → failing (state_of before) q other ≡ Some more → Refused p plan why ≡ Refused q other more
refused_same law before budget p q plan other why more pod at t u f g =
    let same = plan_same law before budget p q plan other pod at t u in
    ap (λ k. Refused k plan why) pod ∙ ap (λ x. Refused q x why) same ∙ ap (λ w. Refused q other w) (why_same (state_of before) p q plan other why more pod same f g)

judged_same : Unique → (before : List Entry) (budget : ℕ) (p q : Key) (v w : Verdict) → p ≡ q → v.at ≡ w.at → IsVerdictWithin (state_at before v.at) p budget v → IsVerdictWithin (state_at before w.at) q budget w
    → VerdictGiven p v ≡ VerdictGiven q w
judged_same law before budget p q v w pod at t u =
    let same =
    law.verdicts (state_at before w.at) q budget v w
    (subst (λ (k : Key). IsVerdictWithin (state_at before w.at) k budget v) pod (subst (λ (n : ℕ). IsVerdictWithin (state_at before n) p budget v) at t)) u at in
    ap (λ k. VerdictGiven k v) pod ∙ ap (λ x. VerdictGiven q x) same

-- ---- after a reservation

state_same : (s : State) (p q : Key) (x y : PodState) → p ≡ q → at_key s.pods p ≡ Some x → at_key s.pods q ≡ Some y → x ≡ y
state_same s p q x y pod e f = two (at_key s.pods q) x y (ap (at_key s.pods) (sym pod) ∙ e) f

next_same : (s : State) (p q : Key) (x y : PodState) (k l : Key) → p ≡ q → x ≡ y → find (λ c. not (has_written s p c)) (claims_of x) ≡ Some k → find (λ c. not (has_written s q c)) (claims_of y) ≡ Some l → k ≡ l
next_same s p q x y k l pod state e f =
    two (find (λ c. not (has_written s q c)) (claims_of y)) k l
    (ap (λ (a : Key). find (λ c. not (has_written s a c)) (claims_of y)) (sym pod) ∙ ap (λ (a : PodState). find (λ c. not (has_written s p c)) (claims_of a)) (sym state) ∙ e) f

same_assumed : (m n : ℕ) → Some (Assumed m) ≡ Some (Assumed n) → m ≡ n
same_assumed m n e = cc

seen_same : (s : State) (p q k l : Key) (m n : ℕ) → p ≡ q → k ≡ l → use_in p (at_key s.claims k) ≡ Some (Assumed m) → use_in q (at_key s.claims l) ≡ Some (Assumed n) → m ≡ n
seen_same s p q k l m n pod claim e f =
    same_assumed m n (sym e ∙ ap (λ a. use_in a (at_key s.claims k)) pod ∙ ap (λ a. use_in q (at_key s.claims a)) claim ∙ f)

wrote_same : (s : State) (job : ℕ) (p q k l : Key) (m n : ℕ) → p ≡ q → MayWrite s p job k m → MayWrite s q job l n → Wrote p k m ≡ Wrote q l n
wrote_same s job p q k l m n pod x y =
    let state = state_same s p q x.state y.state pod x.taken.there y.taken.there in
    let claim = next_same s p q x.state y.state k l pod state x.next y.next in
    ap (λ a. Wrote a k m) pod ∙ ap (λ a. Wrote q a m) claim ∙ ap (λ a. Wrote q l a) (seen_same s p q k l m n pod claim x.assumed y.assumed)

conflict_same : (s : State) (job : ℕ) (p q k l : Key) (m n now other : ℕ) → p ≡ q → MayConflict s p job k m now → MayConflict s q job l n other → Conflict p k m now ≡ Conflict q l n other
conflict_same s job p q k l m n now other pod x y =
    let state = state_same s p q x.use_next.state y.use_next.state pod x.use_next.taken.there y.use_next.taken.there in
    let claim = next_same s p q x.use_next.state y.use_next.state k l pod state x.use_next.next y.use_next.next in
    let version : now ≡ other = x.version ∙ ap (λ a. version_of s a) claim ∙ sym y.version in
    ap (λ a. Conflict a k m now) pod ∙ ap (λ a. Conflict q a m now) claim ∙ ap (λ a. Conflict q l a now) (seen_same s p q k l m n pod claim x.use_next.assumed y.use_next.assumed)
    ∙ ap (λ a. Conflict q l n a) version

same_node : (i : ℕ) (m n : List ℕ) → phase.Taken i m ≡ phase.Taken i n → m ≡ n
same_node i m n e = cc

bound_same : (s : State) (job : ℕ) (p q : Key) (m n : List ℕ) → p ≡ q → MayBind s p job m → MayBind s q job n → Bound p m ≡ Bound q n
bound_same s job p q m n pod x y =
    let state = state_same s p q x.state y.state pod x.taken.there y.taken.there in
    let node = same_node job m n (sym x.taken.taken ∙ ap (λ (a : PodState). a.phase) state ∙ y.taken.taken) in
    ap (λ a. Bound a m) pod ∙ ap (λ a. Bound q a) node

contended_same : (p q : Key) (m n : ℕ) → p ≡ q → m ≡ n → Contended p m ≡ Contended q n
contended_same p q m n e f = ap (λ a. Contended a m) e ∙ ap (λ a. Contended q a) f

-- ---- denials

same_asked : (count : ℕ) (c d : Asked) → denied_command count c ≡ denied_command count d → c ≡ d
same_asked count (asked.Invalid e) (asked.Invalid f) same = cc
same_asked count (asked.Invalid e) (asked.Apply y n) same = absurd (cc)
same_asked count (asked.Invalid e) (asked.Delete u) same = absurd (cc)
same_asked count (asked.Invalid e) (asked.Schedule q) same = absurd (cc)
same_asked count (asked.Invalid e) (asked.Release q) same = absurd (cc)
same_asked count (asked.Invalid e) (asked.Adopt l status2) same = absurd (cc)
same_asked count (asked.Apply x m) (asked.Invalid f) same = absurd (cc)
same_asked count (asked.Apply x m) (asked.Apply y n) same = cc
same_asked count (asked.Apply x m) (asked.Delete u) same = absurd (cc)
same_asked count (asked.Apply x m) (asked.Schedule q) same = absurd (cc)
same_asked count (asked.Apply x m) (asked.Release q) same = absurd (cc)
same_asked count (asked.Apply x m) (asked.Adopt l status2) same = absurd (cc)
same_asked count (asked.Delete t) (asked.Invalid f) same = absurd (cc)
same_asked count (asked.Delete t) (asked.Apply y n) same = absurd (cc)
same_asked count (asked.Delete t) (asked.Delete u) same = cc
same_asked count (asked.Delete t) (asked.Schedule q) same = absurd (cc)
same_asked count (asked.Delete t) (asked.Release q) same = absurd (cc)
same_asked count (asked.Delete t) (asked.Adopt l status2) same = absurd (cc)
same_asked count (asked.Schedule p) (asked.Invalid f) same = absurd (cc)
same_asked count (asked.Schedule p) (asked.Apply y n) same = absurd (cc)
same_asked count (asked.Schedule p) (asked.Delete u) same = absurd (cc)
same_asked count (asked.Schedule p) (asked.Schedule q) same = cc
same_asked count (asked.Schedule p) (asked.Release q) same = absurd (cc)
same_asked count (asked.Schedule p) (asked.Adopt l status2) same = absurd (cc)
same_asked count (asked.Release p) (asked.Invalid f) same = absurd (cc)
same_asked count (asked.Release p) (asked.Apply y n) same = absurd (cc)
same_asked count (asked.Release p) (asked.Delete u) same = absurd (cc)
same_asked count (asked.Release p) (asked.Schedule q) same = absurd (cc)
same_asked count (asked.Release p) (asked.Release q) same = cc
same_asked count (asked.Release p) (asked.Adopt l status2) same = absurd (cc)
same_asked count (asked.Adopt k status) (asked.Invalid f) same = absurd (cc)
same_asked count (asked.Adopt k status) (asked.Apply y n) same = absurd (cc)
same_asked count (asked.Adopt k status) (asked.Delete u) same = absurd (cc)
same_asked count (asked.Adopt k status) (asked.Schedule q) same = absurd (cc)
same_asked count (asked.Adopt k status) (asked.Release q) same = absurd (cc)
same_asked count (asked.Adopt k status) (asked.Adopt l status2) same = cc

denied_same : (s : State) (c d : Asked) (r t : Refusal) → c ≡ d → MayDeny s c r → MayDeny s d t → Denied c r ≡ Denied d t
denied_same s c d r t asks x y = ap (λ a. Denied a r) asks ∙ ap (λ a. Denied d a) (two (refusal_of s d) r t (ap (λ a. refusal_of s a) (sym asks) ∙ x.due) y.due)

-- ---- events

words_apart : (a b : List ℕ) → bytes_eq a b ≡ false → a ≡ b → ⊥
words_apart a b differ same =
    let alike : bytes_eq a b ≡ true = subst (λ (t : List ℕ). bytes_eq a t ≡ true) same (nat_list_eq_equiv.refl a) in
    let clash : true ≡ false = sym alike ∙ differ in absurd (cc)

pub event_same : Unique → (before : List Entry) (job budget f g : ℕ) (command : Command) (d e : Event) → Step before (record { job = job; event = d }) → Step before (record { job = job; event = e })
    → JobStep (record { job = job; command = command; from = f; budget = budget }) before d → JobStep (record { job = job; command = command; from = g; budget = budget }) before e → AreAlike d e → d ≡ e
event_same law before job budget f g cmd (Applied x m) (Applied y n) st su a b alike = let same : command.Apply x m ≡ command.Apply y n = a.of_command ∙ sym b.of_command in cc
event_same law before job budget f g cmd (Applied x m) (Deleted u) st su a b alike = absurd (words_apart (codes "applied") (codes "deleted") refl alike.kind)
event_same law before job budget f g cmd (Applied x m) (Reserved q plan2) st su a b alike = absurd (words_apart (codes "applied") (codes "reserved") refl alike.kind)
event_same law before job budget f g cmd (Applied x m) (Refused q plan2 why2) st su a b alike = absurd (words_apart (codes "applied") (codes "refused") refl alike.kind)
event_same law before job budget f g cmd (Applied x m) (Wrote q l seen2) st su a b alike = absurd (words_apart (codes "applied") (codes "wrote") refl alike.kind)
event_same law before job budget f g cmd (Applied x m) (Conflict q l had2 now2) st su a b alike = absurd (words_apart (codes "applied") (codes "conflict") refl alike.kind)
event_same law before job budget f g cmd (Applied x m) (Unreserved q) st su a b alike = absurd (words_apart (codes "applied") (codes "unreserved") refl alike.kind)
event_same law before job budget f g cmd (Applied x m) (Bound q node2) st su a b alike = absurd (words_apart (codes "applied") (codes "bound") refl alike.kind)
event_same law before job budget f g cmd (Applied x m) (VerdictGiven q w) st su a b alike = absurd (words_apart (codes "applied") (codes "verdict") refl alike.kind)
event_same law before job budget f g cmd (Applied x m) (Contended q more) st su a b alike = absurd (words_apart (codes "applied") (codes "contended") refl alike.kind)
event_same law before job budget f g cmd (Applied x m) (Released q) st su a b alike = absurd (words_apart (codes "applied") (codes "released") refl alike.kind)
event_same law before job budget f g cmd (Applied x m) (Adopted l status2) st su a b alike = absurd (words_apart (codes "applied") (codes "adopted") refl alike.kind)
event_same law before job budget f g cmd (Applied x m) (Denied d s) st su a b alike = absurd (words_apart (codes "applied") (codes "denied") refl alike.kind)
event_same law before job budget f g cmd (Deleted t) (Applied y n) st su a b alike = absurd (words_apart (codes "deleted") (codes "applied") refl alike.kind)
event_same law before job budget f g cmd (Deleted t) (Deleted u) st su a b alike = let same : command.Delete t ≡ command.Delete u = a.of_command ∙ sym b.of_command in cc
event_same law before job budget f g cmd (Deleted t) (Reserved q plan2) st su a b alike = absurd (words_apart (codes "deleted") (codes "reserved") refl alike.kind)
event_same law before job budget f g cmd (Deleted t) (Refused q plan2 why2) st su a b alike = absurd (words_apart (codes "deleted") (codes "refused") refl alike.kind)
event_same law before job budget f g cmd (Deleted t) (Wrote q l seen2) st su a b alike = absurd (words_apart (codes "deleted") (codes "wrote") refl alike.kind)
event_same law before job budget f g cmd (Deleted t) (Conflict q l had2 now2) st su a b alike = absurd (words_apart (codes "deleted") (codes "conflict") refl alike.kind)
event_same law before job budget f g cmd (Deleted t) (Unreserved q) st su a b alike = absurd (words_apart (codes "deleted") (codes "unreserved") refl alike.kind)
event_same law before job budget f g cmd (Deleted t) (Bound q node2) st su a b alike = absurd (words_apart (codes "deleted") (codes "bound") refl alike.kind)
event_same law before job budget f g cmd (Deleted t) (VerdictGiven q w) st su a b alike = absurd (words_apart (codes "deleted") (codes "verdict") refl alike.kind)
event_same law before job budget f g cmd (Deleted t) (Contended q more) st su a b alike = absurd (words_apart (codes "deleted") (codes "contended") refl alike.kind)
event_same law before job budget f g cmd (Deleted t) (Released q) st su a b alike = absurd (words_apart (codes "deleted") (codes "released") refl alike.kind)
event_same law before job budget f g cmd (Deleted t) (Adopted l status2) st su a b alike = absurd (words_apart (codes "deleted") (codes "adopted") refl alike.kind)
event_same law before job budget f g cmd (Deleted t) (Denied d s) st su a b alike = absurd (words_apart (codes "deleted") (codes "denied") refl alike.kind)
event_same law before job budget f g cmd (Reserved p plan) (Applied y n) st su a b alike = absurd (words_apart (codes "reserved") (codes "applied") refl alike.kind)
event_same law before job budget f g cmd (Reserved p plan) (Deleted u) st su a b alike = absurd (words_apart (codes "reserved") (codes "deleted") refl alike.kind)
event_same law before job budget f g cmd (Reserved p plan) (Reserved q plan2) st su a b alike = reserved_same law before budget p q plan plan2 (same_pod p q (attempts_of cmd) (a.of_command ∙ sym b.of_command)) (same_at plan.at plan2.at alike.index) (planned before p budget plan st.follows.true_then a.timed.by) (planned before q budget plan2 su.follows.true_then b.timed.by)
event_same law before job budget f g cmd (Reserved p plan) (Refused q plan2 why2) st su a b alike = absurd (words_apart (codes "reserved") (codes "refused") refl alike.kind)
event_same law before job budget f g cmd (Reserved p plan) (Wrote q l seen2) st su a b alike = absurd (words_apart (codes "reserved") (codes "wrote") refl alike.kind)
event_same law before job budget f g cmd (Reserved p plan) (Conflict q l had2 now2) st su a b alike = absurd (words_apart (codes "reserved") (codes "conflict") refl alike.kind)
event_same law before job budget f g cmd (Reserved p plan) (Unreserved q) st su a b alike = absurd (words_apart (codes "reserved") (codes "unreserved") refl alike.kind)
event_same law before job budget f g cmd (Reserved p plan) (Bound q node2) st su a b alike = absurd (words_apart (codes "reserved") (codes "bound") refl alike.kind)
event_same law before job budget f g cmd (Reserved p plan) (VerdictGiven q w) st su a b alike = absurd (words_apart (codes "reserved") (codes "verdict") refl alike.kind)
event_same law before job budget f g cmd (Reserved p plan) (Contended q more) st su a b alike = absurd (words_apart (codes "reserved") (codes "contended") refl alike.kind)
event_same law before job budget f g cmd (Reserved p plan) (Released q) st su a b alike = absurd (words_apart (codes "reserved") (codes "released") refl alike.kind)
event_same law before job budget f g cmd (Reserved p plan) (Adopted l status2) st su a b alike = absurd (words_apart (codes "reserved") (codes "adopted") refl alike.kind)
event_same law before job budget f g cmd (Reserved p plan) (Denied d s) st su a b alike = absurd (words_apart (codes "reserved") (codes "denied") refl alike.kind)
event_same law before job budget f g cmd (Refused p plan why) (Applied y n) st su a b alike = absurd (words_apart (codes "refused") (codes "applied") refl alike.kind)
event_same law before job budget f g cmd (Refused p plan why) (Deleted u) st su a b alike = absurd (words_apart (codes "refused") (codes "deleted") refl alike.kind)
event_same law before job budget f g cmd (Refused p plan why) (Reserved q plan2) st su a b alike = absurd (words_apart (codes "refused") (codes "reserved") refl alike.kind)
event_same law before job budget f g cmd (Refused p plan why) (Refused q plan2 why2) st su a b alike = refused_same law before budget p q plan plan2 why why2 (same_pod p q (attempts_of cmd) (a.of_command ∙ sym b.of_command)) (same_at plan.at plan2.at alike.index) (planned before p budget plan st.follows.true_then a.timed.by) (planned before q budget plan2 su.follows.true_then b.timed.by) st.follows.fails su.follows.fails
event_same law before job budget f g cmd (Refused p plan why) (Wrote q l seen2) st su a b alike = absurd (words_apart (codes "refused") (codes "wrote") refl alike.kind)
event_same law before job budget f g cmd (Refused p plan why) (Conflict q l had2 now2) st su a b alike = absurd (words_apart (codes "refused") (codes "conflict") refl alike.kind)
event_same law before job budget f g cmd (Refused p plan why) (Unreserved q) st su a b alike = absurd (words_apart (codes "refused") (codes "unreserved") refl alike.kind)
event_same law before job budget f g cmd (Refused p plan why) (Bound q node2) st su a b alike = absurd (words_apart (codes "refused") (codes "bound") refl alike.kind)
event_same law before job budget f g cmd (Refused p plan why) (VerdictGiven q w) st su a b alike = absurd (words_apart (codes "refused") (codes "verdict") refl alike.kind)
event_same law before job budget f g cmd (Refused p plan why) (Contended q more) st su a b alike = absurd (words_apart (codes "refused") (codes "contended") refl alike.kind)
event_same law before job budget f g cmd (Refused p plan why) (Released q) st su a b alike = absurd (words_apart (codes "refused") (codes "released") refl alike.kind)
event_same law before job budget f g cmd (Refused p plan why) (Adopted l status2) st su a b alike = absurd (words_apart (codes "refused") (codes "adopted") refl alike.kind)
event_same law before job budget f g cmd (Refused p plan why) (Denied d s) st su a b alike = absurd (words_apart (codes "refused") (codes "denied") refl alike.kind)
event_same law before job budget f g cmd (Wrote p k seen) (Applied y n) st su a b alike = absurd (words_apart (codes "wrote") (codes "applied") refl alike.kind)
event_same law before job budget f g cmd (Wrote p k seen) (Deleted u) st su a b alike = absurd (words_apart (codes "wrote") (codes "deleted") refl alike.kind)
event_same law before job budget f g cmd (Wrote p k seen) (Reserved q plan2) st su a b alike = absurd (words_apart (codes "wrote") (codes "reserved") refl alike.kind)
event_same law before job budget f g cmd (Wrote p k seen) (Refused q plan2 why2) st su a b alike = absurd (words_apart (codes "wrote") (codes "refused") refl alike.kind)
event_same law before job budget f g cmd (Wrote p k seen) (Wrote q l seen2) st su a b alike = wrote_same (state_of before) job p q k l seen seen2 (same_pod p q (attempts_of cmd) (a.of_command ∙ sym b.of_command)) st.follows su.follows
event_same law before job budget f g cmd (Wrote p k seen) (Conflict q l had2 now2) st su a b alike = absurd (words_apart (codes "wrote") (codes "conflict") refl alike.kind)
event_same law before job budget f g cmd (Wrote p k seen) (Unreserved q) st su a b alike = absurd (words_apart (codes "wrote") (codes "unreserved") refl alike.kind)
event_same law before job budget f g cmd (Wrote p k seen) (Bound q node2) st su a b alike = absurd (words_apart (codes "wrote") (codes "bound") refl alike.kind)
event_same law before job budget f g cmd (Wrote p k seen) (VerdictGiven q w) st su a b alike = absurd (words_apart (codes "wrote") (codes "verdict") refl alike.kind)
event_same law before job budget f g cmd (Wrote p k seen) (Contended q more) st su a b alike = absurd (words_apart (codes "wrote") (codes "contended") refl alike.kind)
event_same law before job budget f g cmd (Wrote p k seen) (Released q) st su a b alike = absurd (words_apart (codes "wrote") (codes "released") refl alike.kind)
event_same law before job budget f g cmd (Wrote p k seen) (Adopted l status2) st su a b alike = absurd (words_apart (codes "wrote") (codes "adopted") refl alike.kind)
event_same law before job budget f g cmd (Wrote p k seen) (Denied d s) st su a b alike = absurd (words_apart (codes "wrote") (codes "denied") refl alike.kind)
event_same law before job budget f g cmd (Conflict p k had now) (Applied y n) st su a b alike = absurd (words_apart (codes "conflict") (codes "applied") refl alike.kind)
event_same law before job budget f g cmd (Conflict p k had now) (Deleted u) st su a b alike = absurd (words_apart (codes "conflict") (codes "deleted") refl alike.kind)
event_same law before job budget f g cmd (Conflict p k had now) (Reserved q plan2) st su a b alike = absurd (words_apart (codes "conflict") (codes "reserved") refl alike.kind)
event_same law before job budget f g cmd (Conflict p k had now) (Refused q plan2 why2) st su a b alike = absurd (words_apart (codes "conflict") (codes "refused") refl alike.kind)
event_same law before job budget f g cmd (Conflict p k had now) (Wrote q l seen2) st su a b alike = absurd (words_apart (codes "conflict") (codes "wrote") refl alike.kind)
event_same law before job budget f g cmd (Conflict p k had now) (Conflict q l had2 now2) st su a b alike = conflict_same (state_of before) job p q k l had had2 now now2 (same_pod p q (attempts_of cmd) (a.of_command ∙ sym b.of_command)) st.follows su.follows
event_same law before job budget f g cmd (Conflict p k had now) (Unreserved q) st su a b alike = absurd (words_apart (codes "conflict") (codes "unreserved") refl alike.kind)
event_same law before job budget f g cmd (Conflict p k had now) (Bound q node2) st su a b alike = absurd (words_apart (codes "conflict") (codes "bound") refl alike.kind)
event_same law before job budget f g cmd (Conflict p k had now) (VerdictGiven q w) st su a b alike = absurd (words_apart (codes "conflict") (codes "verdict") refl alike.kind)
event_same law before job budget f g cmd (Conflict p k had now) (Contended q more) st su a b alike = absurd (words_apart (codes "conflict") (codes "contended") refl alike.kind)
event_same law before job budget f g cmd (Conflict p k had now) (Released q) st su a b alike = absurd (words_apart (codes "conflict") (codes "released") refl alike.kind)
event_same law before job budget f g cmd (Conflict p k had now) (Adopted l status2) st su a b alike = absurd (words_apart (codes "conflict") (codes "adopted") refl alike.kind)
event_same law before job budget f g cmd (Conflict p k had now) (Denied d s) st su a b alike = absurd (words_apart (codes "conflict") (codes "denied") refl alike.kind)
event_same law before job budget f g cmd (Unreserved p) (Applied y n) st su a b alike = absurd (words_apart (codes "unreserved") (codes "applied") refl alike.kind)
event_same law before job budget f g cmd (Unreserved p) (Deleted u) st su a b alike = absurd (words_apart (codes "unreserved") (codes "deleted") refl alike.kind)
event_same law before job budget f g cmd (Unreserved p) (Reserved q plan2) st su a b alike = absurd (words_apart (codes "unreserved") (codes "reserved") refl alike.kind)
event_same law before job budget f g cmd (Unreserved p) (Refused q plan2 why2) st su a b alike = absurd (words_apart (codes "unreserved") (codes "refused") refl alike.kind)
event_same law before job budget f g cmd (Unreserved p) (Wrote q l seen2) st su a b alike = absurd (words_apart (codes "unreserved") (codes "wrote") refl alike.kind)
event_same law before job budget f g cmd (Unreserved p) (Conflict q l had2 now2) st su a b alike = absurd (words_apart (codes "unreserved") (codes "conflict") refl alike.kind)
event_same law before job budget f g cmd (Unreserved p) (Unreserved q) st su a b alike = ap Unreserved (same_pod p q (attempts_of cmd) (a.of_command ∙ sym b.of_command))
event_same law before job budget f g cmd (Unreserved p) (Bound q node2) st su a b alike = absurd (words_apart (codes "unreserved") (codes "bound") refl alike.kind)
event_same law before job budget f g cmd (Unreserved p) (VerdictGiven q w) st su a b alike = absurd (words_apart (codes "unreserved") (codes "verdict") refl alike.kind)
event_same law before job budget f g cmd (Unreserved p) (Contended q more) st su a b alike = absurd (words_apart (codes "unreserved") (codes "contended") refl alike.kind)
event_same law before job budget f g cmd (Unreserved p) (Released q) st su a b alike = absurd (words_apart (codes "unreserved") (codes "released") refl alike.kind)
event_same law before job budget f g cmd (Unreserved p) (Adopted l status2) st su a b alike = absurd (words_apart (codes "unreserved") (codes "adopted") refl alike.kind)
event_same law before job budget f g cmd (Unreserved p) (Denied d s) st su a b alike = absurd (words_apart (codes "unreserved") (codes "denied") refl alike.kind)
event_same law before job budget f g cmd (Bound p node) (Applied y n) st su a b alike = absurd (words_apart (codes "bound") (codes "applied") refl alike.kind)
event_same law before job budget f g cmd (Bound p node) (Deleted u) st su a b alike = absurd (words_apart (codes "bound") (codes "deleted") refl alike.kind)
event_same law before job budget f g cmd (Bound p node) (Reserved q plan2) st su a b alike = absurd (words_apart (codes "bound") (codes "reserved") refl alike.kind)
event_same law before job budget f g cmd (Bound p node) (Refused q plan2 why2) st su a b alike = absurd (words_apart (codes "bound") (codes "refused") refl alike.kind)
event_same law before job budget f g cmd (Bound p node) (Wrote q l seen2) st su a b alike = absurd (words_apart (codes "bound") (codes "wrote") refl alike.kind)
event_same law before job budget f g cmd (Bound p node) (Conflict q l had2 now2) st su a b alike = absurd (words_apart (codes "bound") (codes "conflict") refl alike.kind)
event_same law before job budget f g cmd (Bound p node) (Unreserved q) st su a b alike = absurd (words_apart (codes "bound") (codes "unreserved") refl alike.kind)
event_same law before job budget f g cmd (Bound p node) (Bound q node2) st su a b alike = bound_same (state_of before) job p q node node2 (same_pod p q (attempts_of cmd) (a.of_command ∙ sym b.of_command)) st.follows su.follows
event_same law before job budget f g cmd (Bound p node) (VerdictGiven q w) st su a b alike = absurd (words_apart (codes "bound") (codes "verdict") refl alike.kind)
event_same law before job budget f g cmd (Bound p node) (Contended q more) st su a b alike = absurd (words_apart (codes "bound") (codes "contended") refl alike.kind)
event_same law before job budget f g cmd (Bound p node) (Released q) st su a b alike = absurd (words_apart (codes "bound") (codes "released") refl alike.kind)
event_same law before job budget f g cmd (Bound p node) (Adopted l status2) st su a b alike = absurd (words_apart (codes "bound") (codes "adopted") refl alike.kind)
event_same law before job budget f g cmd (Bound p node) (Denied d s) st su a b alike = absurd (words_apart (codes "bound") (codes "denied") refl alike.kind)
event_same law before job budget f g cmd (VerdictGiven p v) (Applied y n) st su a b alike = absurd (words_apart (codes "verdict") (codes "applied") refl alike.kind)
event_same law before job budget f g cmd (VerdictGiven p v) (Deleted u) st su a b alike = absurd (words_apart (codes "verdict") (codes "deleted") refl alike.kind)
event_same law before job budget f g cmd (VerdictGiven p v) (Reserved q plan2) st su a b alike = absurd (words_apart (codes "verdict") (codes "reserved") refl alike.kind)
event_same law before job budget f g cmd (VerdictGiven p v) (Refused q plan2 why2) st su a b alike = absurd (words_apart (codes "verdict") (codes "refused") refl alike.kind)
event_same law before job budget f g cmd (VerdictGiven p v) (Wrote q l seen2) st su a b alike = absurd (words_apart (codes "verdict") (codes "wrote") refl alike.kind)
event_same law before job budget f g cmd (VerdictGiven p v) (Conflict q l had2 now2) st su a b alike = absurd (words_apart (codes "verdict") (codes "conflict") refl alike.kind)
event_same law before job budget f g cmd (VerdictGiven p v) (Unreserved q) st su a b alike = absurd (words_apart (codes "verdict") (codes "unreserved") refl alike.kind)
event_same law before job budget f g cmd (VerdictGiven p v) (Bound q node2) st su a b alike = absurd (words_apart (codes "verdict") (codes "bound") refl alike.kind)
event_same law before job budget f g cmd (VerdictGiven p v) (VerdictGiven q w) st su a b alike = judged_same law before budget p q v w (same_pod p q (attempts_of cmd) (a.of_command ∙ sym b.of_command)) (same_at v.at w.at alike.index) (judged before p budget v st.follows.true_then a.timed.by) (judged before q budget w su.follows.true_then b.timed.by)
event_same law before job budget f g cmd (VerdictGiven p v) (Contended q more) st su a b alike = absurd (words_apart (codes "verdict") (codes "contended") refl alike.kind)
event_same law before job budget f g cmd (VerdictGiven p v) (Released q) st su a b alike = absurd (words_apart (codes "verdict") (codes "released") refl alike.kind)
event_same law before job budget f g cmd (VerdictGiven p v) (Adopted l status2) st su a b alike = absurd (words_apart (codes "verdict") (codes "adopted") refl alike.kind)
event_same law before job budget f g cmd (VerdictGiven p v) (Denied d s) st su a b alike = absurd (words_apart (codes "verdict") (codes "denied") refl alike.kind)
event_same law before job budget f g cmd (Contended p many) (Applied y n) st su a b alike = absurd (words_apart (codes "contended") (codes "applied") refl alike.kind)
event_same law before job budget f g cmd (Contended p many) (Deleted u) st su a b alike = absurd (words_apart (codes "contended") (codes "deleted") refl alike.kind)
event_same law before job budget f g cmd (Contended p many) (Reserved q plan2) st su a b alike = absurd (words_apart (codes "contended") (codes "reserved") refl alike.kind)
event_same law before job budget f g cmd (Contended p many) (Refused q plan2 why2) st su a b alike = absurd (words_apart (codes "contended") (codes "refused") refl alike.kind)
event_same law before job budget f g cmd (Contended p many) (Wrote q l seen2) st su a b alike = absurd (words_apart (codes "contended") (codes "wrote") refl alike.kind)
event_same law before job budget f g cmd (Contended p many) (Conflict q l had2 now2) st su a b alike = absurd (words_apart (codes "contended") (codes "conflict") refl alike.kind)
event_same law before job budget f g cmd (Contended p many) (Unreserved q) st su a b alike = absurd (words_apart (codes "contended") (codes "unreserved") refl alike.kind)
event_same law before job budget f g cmd (Contended p many) (Bound q node2) st su a b alike = absurd (words_apart (codes "contended") (codes "bound") refl alike.kind)
event_same law before job budget f g cmd (Contended p many) (VerdictGiven q w) st su a b alike = absurd (words_apart (codes "contended") (codes "verdict") refl alike.kind)
event_same law before job budget f g cmd (Contended p many) (Contended q more) st su a b alike = contended_same p q many more (same_pod p q (attempts_of cmd) (a.of_command ∙ sym b.of_command)) (a.timed ∙ sym b.timed)
event_same law before job budget f g cmd (Contended p many) (Released q) st su a b alike = absurd (words_apart (codes "contended") (codes "released") refl alike.kind)
event_same law before job budget f g cmd (Contended p many) (Adopted l status2) st su a b alike = absurd (words_apart (codes "contended") (codes "adopted") refl alike.kind)
event_same law before job budget f g cmd (Contended p many) (Denied d s) st su a b alike = absurd (words_apart (codes "contended") (codes "denied") refl alike.kind)
event_same law before job budget f g cmd (Released p) (Applied y n) st su a b alike = absurd (words_apart (codes "released") (codes "applied") refl alike.kind)
event_same law before job budget f g cmd (Released p) (Deleted u) st su a b alike = absurd (words_apart (codes "released") (codes "deleted") refl alike.kind)
event_same law before job budget f g cmd (Released p) (Reserved q plan2) st su a b alike = absurd (words_apart (codes "released") (codes "reserved") refl alike.kind)
event_same law before job budget f g cmd (Released p) (Refused q plan2 why2) st su a b alike = absurd (words_apart (codes "released") (codes "refused") refl alike.kind)
event_same law before job budget f g cmd (Released p) (Wrote q l seen2) st su a b alike = absurd (words_apart (codes "released") (codes "wrote") refl alike.kind)
event_same law before job budget f g cmd (Released p) (Conflict q l had2 now2) st su a b alike = absurd (words_apart (codes "released") (codes "conflict") refl alike.kind)
event_same law before job budget f g cmd (Released p) (Unreserved q) st su a b alike = absurd (words_apart (codes "released") (codes "unreserved") refl alike.kind)
event_same law before job budget f g cmd (Released p) (Bound q node2) st su a b alike = absurd (words_apart (codes "released") (codes "bound") refl alike.kind)
event_same law before job budget f g cmd (Released p) (VerdictGiven q w) st su a b alike = absurd (words_apart (codes "released") (codes "verdict") refl alike.kind)
event_same law before job budget f g cmd (Released p) (Contended q more) st su a b alike = absurd (words_apart (codes "released") (codes "contended") refl alike.kind)
event_same law before job budget f g cmd (Released p) (Released q) st su a b alike = let same : command.Release p ≡ command.Release q = a.of_command ∙ sym b.of_command in cc
event_same law before job budget f g cmd (Released p) (Adopted l status2) st su a b alike = absurd (words_apart (codes "released") (codes "adopted") refl alike.kind)
event_same law before job budget f g cmd (Released p) (Denied d s) st su a b alike = absurd (words_apart (codes "released") (codes "denied") refl alike.kind)
event_same law before job budget f g cmd (Adopted k status) (Applied y n) st su a b alike = absurd (words_apart (codes "adopted") (codes "applied") refl alike.kind)
event_same law before job budget f g cmd (Adopted k status) (Deleted u) st su a b alike = absurd (words_apart (codes "adopted") (codes "deleted") refl alike.kind)
event_same law before job budget f g cmd (Adopted k status) (Reserved q plan2) st su a b alike = absurd (words_apart (codes "adopted") (codes "reserved") refl alike.kind)
event_same law before job budget f g cmd (Adopted k status) (Refused q plan2 why2) st su a b alike = absurd (words_apart (codes "adopted") (codes "refused") refl alike.kind)
event_same law before job budget f g cmd (Adopted k status) (Wrote q l seen2) st su a b alike = absurd (words_apart (codes "adopted") (codes "wrote") refl alike.kind)
event_same law before job budget f g cmd (Adopted k status) (Conflict q l had2 now2) st su a b alike = absurd (words_apart (codes "adopted") (codes "conflict") refl alike.kind)
event_same law before job budget f g cmd (Adopted k status) (Unreserved q) st su a b alike = absurd (words_apart (codes "adopted") (codes "unreserved") refl alike.kind)
event_same law before job budget f g cmd (Adopted k status) (Bound q node2) st su a b alike = absurd (words_apart (codes "adopted") (codes "bound") refl alike.kind)
event_same law before job budget f g cmd (Adopted k status) (VerdictGiven q w) st su a b alike = absurd (words_apart (codes "adopted") (codes "verdict") refl alike.kind)
event_same law before job budget f g cmd (Adopted k status) (Contended q more) st su a b alike = absurd (words_apart (codes "adopted") (codes "contended") refl alike.kind)
event_same law before job budget f g cmd (Adopted k status) (Released q) st su a b alike = absurd (words_apart (codes "adopted") (codes "released") refl alike.kind)
event_same law before job budget f g cmd (Adopted k status) (Adopted l status2) st su a b alike = let same : command.Adopt k status ≡ command.Adopt l status2 = a.of_command ∙ sym b.of_command in cc
event_same law before job budget f g cmd (Adopted k status) (Denied d s) st su a b alike = absurd (words_apart (codes "adopted") (codes "denied") refl alike.kind)
event_same law before job budget f g cmd (Denied c r) (Applied y n) st su a b alike = absurd (words_apart (codes "denied") (codes "applied") refl alike.kind)
event_same law before job budget f g cmd (Denied c r) (Deleted u) st su a b alike = absurd (words_apart (codes "denied") (codes "deleted") refl alike.kind)
event_same law before job budget f g cmd (Denied c r) (Reserved q plan2) st su a b alike = absurd (words_apart (codes "denied") (codes "reserved") refl alike.kind)
event_same law before job budget f g cmd (Denied c r) (Refused q plan2 why2) st su a b alike = absurd (words_apart (codes "denied") (codes "refused") refl alike.kind)
event_same law before job budget f g cmd (Denied c r) (Wrote q l seen2) st su a b alike = absurd (words_apart (codes "denied") (codes "wrote") refl alike.kind)
event_same law before job budget f g cmd (Denied c r) (Conflict q l had2 now2) st su a b alike = absurd (words_apart (codes "denied") (codes "conflict") refl alike.kind)
event_same law before job budget f g cmd (Denied c r) (Unreserved q) st su a b alike = absurd (words_apart (codes "denied") (codes "unreserved") refl alike.kind)
event_same law before job budget f g cmd (Denied c r) (Bound q node2) st su a b alike = absurd (words_apart (codes "denied") (codes "bound") refl alike.kind)
event_same law before job budget f g cmd (Denied c r) (VerdictGiven q w) st su a b alike = absurd (words_apart (codes "denied") (codes "verdict") refl alike.kind)
event_same law before job budget f g cmd (Denied c r) (Contended q more) st su a b alike = absurd (words_apart (codes "denied") (codes "contended") refl alike.kind)
event_same law before job budget f g cmd (Denied c r) (Released q) st su a b alike = absurd (words_apart (codes "denied") (codes "released") refl alike.kind)
event_same law before job budget f g cmd (Denied c r) (Adopted l status2) st su a b alike = absurd (words_apart (codes "denied") (codes "adopted") refl alike.kind)
event_same law before job budget f g cmd (Denied c r) (Denied d s) st su a b alike = denied_same (state_of before) c d r s (same_asked (attempts_of cmd) c d (a.of_command ∙ sym b.of_command)) st.follows su.follows

-- ---- histories

entry_parts : (i j : ℕ) (d e : Event) → i ≡ j → d ≡ e → ◌≡◌ {A = Entry} (record { job = i; event = d }) (record { job = j; event = e })
entry_parts i j d e p q = cc

entry_same : Unique → (commands : ℕ → Command) (budget : ℕ) (before : List Entry) (d e : Entry) → Step before d → Step before e
    → (from : ℕ) × JobStep (record { job = d.job; command = commands d.job; from = from; budget = budget }) before d.event
    → (from : ℕ) × JobStep (record { job = e.job; command = commands e.job; from = from; budget = budget }) before e.event → d.job ≡ e.job → AreAlike d.event e.event → d ≡ e
entry_same law commands budget before d e st su r t job alike =
    let st' : Step before (record { job = e.job; event = d.event }) = subst (λ (j : ℕ). Step before (record { job = j; event = d.event })) job st in
    let r' : JobStep (record { job = e.job; command = commands e.job; from = r.0; budget = budget }) before d.event =
    subst (λ (j : ℕ). JobStep (record { job = j; command = commands j; from = r.0; budget = budget }) before d.event) job r.1 in
    entry_parts d.job e.job d.event e.event job (event_same law before e.job budget r.0 t.0 (commands e.job) d.event e.event st' su r' t.1 alike)

along : Unique → (commands : ℕ → Command) (budget : ℕ) (before ds es : List Entry) → LegalAfter before ds → LegalAfter before es
    → Each (λ b e. (from : ℕ) × JobStep (record { job = e.job; command = commands e.job; from = from; budget = budget }) b e.event) before ds
    → Each (λ b e. (from : ℕ) × JobStep (record { job = e.job; command = commands e.job; from = from; budget = budget }) b e.event) before es → AllAlike ds es → ds ≡ es
unfolding LegalAfter Each
along law commands budget before [] [] l m r t alike = refl
along law commands budget before [] (e ∷ es) l m r t alike = absurd alike
along law commands budget before (d ∷ ds) [] l m r t alike = absurd alike
along law commands budget before (d ∷ ds) (e ∷ es) l m r t alike =
    let first : d ≡ e = entry_same law commands budget before d e l.0 m.0 r.0 t.0 alike.0 alike.1 in
    let l' : LegalAfter (before ++ e ∷ []) ds = subst (λ (x : Entry). LegalAfter (before ++ x ∷ []) ds) first l.1 in
    let r' : Each (λ b e. (from : ℕ) × JobStep (record { job = e.job; command = commands e.job; from = from; budget = budget }) b e.event) (before ++ e ∷ []) ds =
    subst (λ (x : Entry). Each (λ b e. (from : ℕ) × JobStep (record { job = e.job; command = commands e.job; from = from; budget = budget }) b e.event) (before ++ x ∷ []) ds) first r.1 in
    ap (λ x. x ∷ ds) first ∙ ap (λ xs. e ∷ xs) (along law commands budget (before ++ e ∷ []) ds es l' m.1 r' t.1 alike.2)

pub history_same : Unique → (commands : ℕ → Command) (budget : ℕ) (h g : List Entry) → Legal h → Legal g → RunBy commands budget h → RunBy commands budget g → AllAlike h g → h ≡ g
unfolding Legal
history_same law commands budget h g l m r t alike = along law commands budget [] h g l m r t alike

-- ---- from the runs of jobs

each_for : (P : ℕ → List Entry → Entry → Type 0) (before es : List Entry) → ((j : ℕ) → Each (P j) before es) → Each (λ b e. P e.job b e) before es
unfolding Each
each_for P before [] all = tt
each_for P before (e ∷ es) all = ((all e.job).0, each_for P (before ++ e ∷ []) es (λ j. (all j).1))

each_more : (P Q : List Entry → Entry → Type 0) (before es : List Entry) → ((b : List Entry) (e : Entry) → P b e → Q b e) → Each P before es → Each Q before es
unfolding Each
each_more P Q before [] step h = tt
each_more P Q before (e ∷ es) step h = (step before e h.0, each_more P Q (before ++ e ∷ []) es step h.1)

run_parts : (i j from m n : ℕ) (c : Command) → i ≡ j → m ≡ n → ◌≡◌ {A = Run} (record { job = i; command = c; from = from; budget = m }) (record { job = j; command = c; from = from; budget = n })
run_parts i j from m n c p q = cc

pub run_by : (runs : ℕ → Run) (budget : ℕ) (h : List Entry) → ((j : ℕ) → IsRunOf runs budget j h) → RunBy (λ j. (runs j).command) budget h
run_by runs budget h all =
    each_more (λ b e. e.job ≡ (runs e.job).job → JobStep (runs e.job) b e.event) (λ b e. (from : ℕ) × JobStep (record { job = e.job; command = (runs e.job).command; from = from; budget = budget }) b e.event) [] h
    (λ b e step.
    let r : Run = runs e.job in
    ((runs e.job).from, subst (λ (c : Run). JobStep c b e.event) (run_parts r.job e.job r.from r.budget budget r.command (all e.job).job (all e.job).budget) (step (sym (all e.job).job))))
    (each_for (λ j b e. e.job ≡ (runs j).job → JobStep (runs j) b e.event) [] h (λ j. (all j).kept))
