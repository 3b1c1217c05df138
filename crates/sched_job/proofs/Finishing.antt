-- What a job that has reserved may do next: in a legal history it has a next use to write, or may bind its pod.
use Rattle.std.proofs.Common.{ℕ, ◌≡◌, ◌∙◌, List, [], ◌∷◌, Bool, true, false, not, cond, ◌&&◌, Option, None, Some, refl, sym, ap, subst}
use Rattle.std.proofs.lemmas.Bool.{eqb-true}
use Rattle.std.specs.Prelude.{find, is_some}
use Rattle.std.specs.List.{list_all}
use Rattle.object_fields.specs.declared.key.Key.{Key}
use Rattle.pool_view.specs.Names.{at_key}
use Rattle.cluster.specs.declared.state.Phase.{Phase}
use Rattle.cluster.specs.declared.state.Phase.TheVariants as phase
use Rattle.cluster.specs.declared.state.PodState.{PodState}
use Rattle.cluster.specs.declared.state.State.{State}
use Rattle.cluster.specs.declared.state.Use.{Use}
use Rattle.cluster.specs.declared.state.Use.TheVariants.{Assumed, Written}
use Rattle.cluster.specs.Denied.{is_busy}
use Rattle.cluster.specs.State.{claims_of, has_written, is_idle, is_written, node_by, node_by_phase, taken_node, use_in}
use Rattle.histories.specs.Bound.{MayBind}
use Rattle.histories.specs.Conflict.{IsNextUse}
use Rattle.histories.specs.Unreserved.{MayUnreserve}
use Rattle.histories.specs.Users.{PodsUseClaims}
use Rattle.histories.specs.Wrote.{IsTaken}
use Rattle.sched_job.specs.declared.due.Due.{Due}
use Rattle.sched_job.specs.declared.due.Due.TheVariants as due
use Rattle.sched_job.specs.Moves.{due_by, due_for, due_of, is_taken_by, next_claim, taken_by}

-- ---- lists

cond_none : {X : Type 0} (b : Bool) (x : X) (o : Option X) → cond b (Some x) o ≡ None → (b ≡ false) × (o ≡ None)
cond_none true x o e = absurd cc
cond_none false x o e = (refl, e)

not_false : (b : Bool) → not b ≡ false → b ≡ true
not_false true e = refl
not_false false e = absurd cc

not_true : (b : Bool) → not b ≡ true → b ≡ false
not_true true e = absurd cc
not_true false e = refl

and_true : (a b : Bool) → (a && b) ≡ true → (a ≡ true) × (b ≡ true)
and_true true b e = (refl, e)
and_true false b e = absurd cc

-- where none fails the test, all pass it
none_fails : {X : Type 0} (p : X → Bool) (xs : List X) → find (λ x. not (p x)) xs ≡ None → list_all p xs ≡ true
none_fails p [] e = refl
none_fails p (x ∷ xs) e =
    let r = cond_none (not (p x)) x (find (λ y. not (p y)) xs) e in
    ap (λ (b : Bool). b && list_all p xs) (not_false (p x) r.0) ∙ none_fails p xs r.1

found_by : {X : Type 0} (p q : X → Bool) (b : Bool) (x y : X) (o : Option X) → not (p x) ≡ b → q x ≡ true → cond b (Some x) o ≡ Some y → (o ≡ Some y → (p y ≡ false) × (q y ≡ true)) → (p y ≡ false) × (q y ≡ true)
found_by p q true x y o is t e rest = let same : x ≡ y = cc in (subst (λ z. p z ≡ false) same (not_true (p x) is), subst (λ z. q z ≡ true) same t)
found_by p q false x y o is t e rest = rest e

-- the first that fails a test, among those that pass another
first_fails : {X : Type 0} (p q : X → Bool) (xs : List X) (y : X) → find (λ x. not (p x)) xs ≡ Some y → list_all q xs ≡ true → (p y ≡ false) × (q y ≡ true)
first_fails p q [] y e all = absurd cc
first_fails p q (x ∷ xs) y e all =
    let a = and_true (q x) (list_all q xs) all in
    found_by p q (not (p x)) x y (find (λ z. not (p z)) xs) refl a.0 e (λ f. first_fails p q xs y f a.1)

-- ---- the pod

-- the node that the pod is taken for
record TakenFor (s : State) (job : ℕ) (pod : Key) (state : PodState) : Type 0 where
  pub taken : IsTaken s pod job (taken_node s pod) state
  pub busy : is_busy (Some state) ≡ true

taken_phase : (job : ℕ) (ph : Phase) → is_taken_by job ph ≡ true → (node : List ℕ) × (ph ≡ phase.Taken job node)
taken_phase job phase.Idle e = absurd cc
taken_phase job (phase.Taken holder node) e = (node, ap (λ (n : ℕ). phase.Taken n node) (eqb-true holder job e))
taken_phase job (phase.Bound node) e = absurd cc

taken_for : (s : State) (job : ℕ) (pod : Key) (p : PodState) → at_key s.pods pod ≡ Some p → is_taken_by job p.phase ≡ true → TakenFor s job pod p
taken_for s job pod p there t =
    let q = taken_phase job p.phase t in
    let node : taken_node s pod ≡ q.0 = ap node_by there ∙ ap node_by_phase q.1 in
    record {
      taken = record { there = there; taken = q.1 ∙ ap (λ (n : List ℕ). phase.Taken job n) (sym node) };
      busy = ap (λ (ph : Phase). not (is_idle ph)) q.1;
    }

has_some : {X : Type 0} (o : Option X) → is_some o ≡ true → (x : X) × (o ≡ Some x)
has_some None e = absurd cc
has_some (Some x) e = (x, refl)

-- a use that isn't written is assumed
assumed : (o : Option Use) → is_some o ≡ true → is_written o ≡ false → (had : ℕ) × (o ≡ Some (Assumed had))
assumed None e f = absurd cc
assumed (Some (Assumed had)) e f = (had, refl)
assumed (Some Written) e f = absurd cc

-- what is next for a pod that is there
due_is : (s : State) (job : ℕ) (pod : Key) (o : Option PodState) (d : Due) → at_key s.pods pod ≡ o → due_by s job pod o ≡ d → (d ≡ due.Nothing → ⊥) → (p : PodState) × (o ≡ Some p) × (is_taken_by job p.phase ≡ true) × (due_for (next_claim s pod p) ≡ d)
due_is s job pod None d there e some = absurd (some (sym e))
due_is s job pod (Some p) d there e some = pick (is_taken_by job p.phase) refl e
  where
    pick : (b : Bool) → is_taken_by job p.phase ≡ b → cond b (due_for (next_claim s pod p)) due.Nothing ≡ d → (q : PodState) × (Some p ≡ Some q) × (is_taken_by job q.phase ≡ true) × (due_for (next_claim s pod q) ≡ d)
    pick true t f = (p, refl, t, f)
    pick false t f = absurd (some (sym f))

due_write : (o : Option Key) (claim : Key) → due_for o ≡ due.Write claim → o ≡ Some claim
due_write None claim e = absurd cc
due_write (Some k) claim e = cc

due_bind : (o : Option Key) → due_for o ≡ due.Bind → o ≡ None
due_bind None e = refl
due_bind (Some k) e = absurd cc

-- ---- what may be done

pub may_write : (s : State) (job : ℕ) (pod claim : Key) → PodsUseClaims s → due_of s job pod ≡ due.Write claim → (had : ℕ) × IsNextUse s pod job claim had
may_write s job pod claim uses e =
    let d = due_is s job pod (at_key s.pods pod) (due.Write claim) refl e (λ f. cc) in
    let t = taken_for s job pod d.0 d.1 d.2 in
    let next = due_write (next_claim s pod d.0) claim d.3 in
    let u = (uses.each pod d.0 d.1).used t.busy in
    let r = first_fails (λ k. has_written s pod k) (λ k. is_some (use_in pod (at_key s.claims k))) (claims_of d.0) claim next u in
    let had = assumed (use_in pod (at_key s.claims claim)) r.1 r.0 in
    (had.0, record { state = d.0; node = taken_node s pod; taken = t.taken; next = next; assumed = had.1 })

pub may_bind : (s : State) (job : ℕ) (pod : Key) → due_of s job pod ≡ due.Bind → MayBind s pod job (taken_node s pod)
may_bind s job pod e =
    let d = due_is s job pod (at_key s.pods pod) due.Bind refl e (λ f. cc) in
    let t = taken_for s job pod d.0 d.1 d.2 in
    record { state = d.0; taken = t.taken; written = none_fails (λ k. has_written s pod k) (claims_of d.0) (due_bind (next_claim s pod d.0) d.3) }

taken_there : (job : ℕ) (o : Option PodState) → taken_by job o ≡ true → (p : PodState) × (o ≡ Some p) × (is_taken_by job p.phase ≡ true)
taken_there job None e = absurd cc
taken_there job (Some p) e = (p, refl, e)

pub may_unreserve : (s : State) (job : ℕ) (pod : Key) → taken_by job (at_key s.pods pod) ≡ true → MayUnreserve s pod job
may_unreserve s job pod e =
    let d = taken_there job (at_key s.pods pod) e in
    let t = taken_for s job pod d.0 d.1 d.2 in
    record { state = d.0; node = taken_node s pod; taken = t.taken }
