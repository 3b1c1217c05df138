-- The entries of one job that is never set back, one after another.
use Rattle.std.proofs.Common.{ℕ, ◌≡◌, ◌∙◌, ◌≤◌, ◌+◌, ◌++◌, ◌==◌, ◌⊎◌, inl, inr, List, [], ◌∷◌, true, false, if◌then◌else◌, length, append_assoc, append-nil, refl, sym, ap, subst, arith}
use Rattle.std.proofs.lemmas.Bool.{eq-eqb}
use Rattle.object_fields.specs.declared.key.Key.{Key}
use Rattle.cluster.specs.declared.entry.Entry.{Entry}
use Rattle.cluster.specs.declared.entry.Event.{Event}
use Rattle.cluster.specs.declared.entry.Event.TheVariants.{Applied, Deleted, Reserved, Refused, Wrote, Conflict, Unreserved, Bound, VerdictGiven, Contended, Released, Adopted, Denied}
use Rattle.cluster.specs.declared.entry.JobState.{JobState}
use Rattle.cluster.specs.declared.entry.JobState.TheVariants as job_state
use Rattle.cluster.specs.Events.{after, allows, job_state_after}
use Rattle.cluster.specs.History.{job_state_of, state_of}
use Rattle.commands.specs.declared.command.Command.{Command}
use Rattle.commands.specs.declared.command.Command.TheVariants.{Adopt, Apply, Delete, Invalid, Release, Schedule}
use Rattle.histories.specs.Alone.{NeverSetBack, is_setback}
use Rattle.histories.specs.Histories.{Each}
use Rattle.histories.specs.JobRuns.{JobKept, JobStep, Run, attempts_of, command_of}
use Rattle.histories.specs.Legal.{Legal, LegalAfter, MayFollow, Step}
use Rattle.histories.specs.Wrote.{MayWrite}
use Rattle.short_jobs.specs.Short.{AllOf, HasFewClaims, PodsHaveFewClaims, entries_most}
use Rattle.short_jobs.proofs.Pods.{IsSmallEvent, NoneLeft, few_after, write_is_last}

-- what one entry more does
pub record Grows : Type 0 where
  pub state : (h : List Entry) (e : Entry) → state_of (h ++ e ∷ []) ≡ after (length h + 1) e.job e.event (state_of h)
  pub job_state : (h : List Entry) (e : Entry) (job : ℕ) → job_state_of (h ++ e ∷ []) job ≡ (if e.job == job then job_state_after (job_state_of h job) (length h + 1) e.event else job_state_of h job)

-- each of es is the job's, may follow, is of the command, and no setback
record Entered (c : Run) (g : List Entry) (e : Entry) : Type 0 where
  pub own : e.job ≡ c.job
  pub allowed : allows (job_state_of g c.job) e.event ≡ true
  pub follows : MayFollow g c.job e.event
  pub of_command : command_of (attempts_of c.command) e.event ≡ c.command
  pub never : is_setback e.event ≡ false

unfoldable Along : Run → List Entry → List Entry → Type 0
Along c g [] = Unit {0}
Along c g (e ∷ es) = Entered c g e × Along c (g ++ e ∷ []) es

entered : (c : Run) (g : List Entry) (e : Entry) → e.job ≡ c.job → Step g e → (e.job ≡ c.job → JobStep c g e.event) → (e.job ≡ c.job → is_setback e.event ≡ false) → Entered c g e
entered c g e own step kept never = record {
  own = own;
  allowed = subst (λ j. allows (job_state_of g j) e.event ≡ true) own step.allowed;
  follows = subst (λ j. MayFollow g j e.event) own step.follows;
  of_command = (kept own).of_command;
  never = never own;
}

along : (c : Run) (g es : List Entry) → AllOf c.job es → LegalAfter g es → Each (λ before e. e.job ≡ c.job → JobStep c before e.event) g es → Each (λ before e. e.job ≡ c.job → is_setback e.event ≡ false) g es → Along c g es
unfolding LegalAfter Each Along
along c g [] own legal kept never = tt
along c g (e ∷ es) own legal kept never = (entered c g e own.0 legal.0 kept.0 never.0, along c (g ++ e ∷ []) es own.1 legal.1 kept.1 never.1)

-- ---- what follows the entries before

each_behind : (P : List Entry → Entry → Type 0) (g before es : List Entry) → Each P g (before ++ es) → Each P (g ++ before) es
unfolding Each
each_behind P g [] es h = subst (λ l. Each P l es) (sym (append-nil g)) h
each_behind P g (e ∷ before) es h = subst (λ l. Each P l es) (append_assoc g (e ∷ []) before) (each_behind P (g ++ e ∷ []) before es h.1)

legal_behind : (g before es : List Entry) → LegalAfter g (before ++ es) → LegalAfter (g ++ before) es
unfolding LegalAfter
legal_behind g [] es h = subst (λ l. LegalAfter l es) (sym (append-nil g)) h
legal_behind g (e ∷ before) es h = subst (λ l. LegalAfter l es) (append_assoc g (e ∷ []) before) (legal_behind (g ++ e ∷ []) before es h.1)

legal_rest : (before es : List Entry) → Legal (before ++ es) → LegalAfter before es
unfolding Legal
legal_rest before es h = legal_behind [] before es h

-- ---- the job's state

state_next : Grows → (c : Run) (g : List Entry) (e : Entry) → e.job ≡ c.job → job_state_of (g ++ e ∷ []) c.job ≡ job_state_after (job_state_of g c.job) (length g + 1) e.event
state_next grows c g e own = grows.job_state g e c.job ∙ ap (λ b. if b then job_state_after (job_state_of g c.job) (length g + 1) e.event else job_state_of g c.job) (eq-eqb e.job c.job own)

-- a job that is ended may make no entry
ended_allows : (index : ℕ) (event : Event) → allows (job_state.Ended index) event ≡ true → ⊥
ended_allows index (Applied x mode) h = cc
ended_allows index (Deleted target) h = cc
ended_allows index (Reserved pod plan) h = cc
ended_allows index (Refused pod plan why) h = cc
ended_allows index (Wrote pod claim seen) h = cc
ended_allows index (Conflict pod claim had now) h = cc
ended_allows index (Unreserved pod) h = cc
ended_allows index (Bound pod node) h = cc
ended_allows index (VerdictGiven pod verdict) h = cc
ended_allows index (Contended pod failed) h = cc
ended_allows index (Released pod) h = cc
ended_allows index (Adopted claim status) h = cc
ended_allows index (Denied command refusal) h = cc

-- the job is ended by the event
record Ends (event : Event) : Type 0 where
  pub ends : (st : JobState) (index : ℕ) → job_state_after st index event ≡ job_state.Ended index

none_more : (c : Run) (g es : List Entry) (index : ℕ) → job_state_of g c.job ≡ job_state.Ended index → Along c g es → length es ≤ 0
unfolding Along
none_more c g [] index is h = omega arith
none_more c g (e ∷ es) index is h = absurd (ended_allows index e.event (subst (λ st. allows st e.event ≡ true) is h.0.allowed))

-- the entry that ends a job is its last
last_one : Grows → (c : Run) (g : List Entry) (e : Entry) (es : List Entry) → Ends e.event → e.job ≡ c.job → Along c (g ++ e ∷ []) es → length es ≤ 0
last_one grows c g e es ending own h = none_more c (g ++ e ∷ []) es (length g + 1) (state_next grows c g e own ∙ ending.ends (job_state_of g c.job) (length g + 1)) h

scheduled_pod : (a b : Key) (m n : ℕ) → Schedule a m ≡ Schedule b n → a ≡ b
scheduled_pod a b m n h = cc

-- ---- a job that has reserved

-- the event writes the use of a claim of the pod
record Writes (g : List Entry) (job : ℕ) (pod : Key) (event : Event) : Type 0 where
  pub claim : Key
  pub seen : ℕ
  pub is : event ≡ Wrote pod claim seen
  pub may : MayWrite (state_of g) pod job claim seen

wrote : (g : List Entry) (job : ℕ) (pod other claim : Key) (seen : ℕ) → other ≡ pod → MayWrite (state_of g) other job claim seen → Writes g job pod (Wrote other claim seen)
wrote g job pod other claim seen same may =
    record { claim = claim; seen = seen; is = ap (λ p. Wrote p claim seen) same; may = subst (λ p. MayWrite (state_of g) p job claim seen) same may }

after_reserved : (g : List Entry) (job k n attempts : ℕ) (pod : Key) (event : Event) → allows (job_state.Reserved k) event ≡ true → MayFollow g job event → command_of n event ≡ Schedule pod attempts → is_setback event ≡ false
    → Writes g job pod event ⊎ Ends event
after_reserved g job k n attempts pod (Applied x mode) allowed follows of_command never = absurd (cc)
after_reserved g job k n attempts pod (Deleted target) allowed follows of_command never = absurd (cc)
after_reserved g job k n attempts pod (Reserved other plan) allowed follows of_command never = absurd (cc)
after_reserved g job k n attempts pod (Refused other plan why) allowed follows of_command never = absurd (cc)
after_reserved g job k n attempts pod (Wrote other claim seen) allowed follows of_command never =
    inl (wrote g job pod other claim seen (scheduled_pod other pod n attempts of_command) follows)
after_reserved g job k n attempts pod (Conflict other claim had now) allowed follows of_command never = absurd (cc)
after_reserved g job k n attempts pod (Unreserved other) allowed follows of_command never = absurd (cc)
after_reserved g job k n attempts pod (Bound other node) allowed follows of_command never = inr (record { ends = λ st index. refl })
after_reserved g job k n attempts pod (VerdictGiven other verdict) allowed follows of_command never = absurd (cc)
after_reserved g job k n attempts pod (Contended other failed) allowed follows of_command never = absurd (cc)
after_reserved g job k n attempts pod (Released other) allowed follows of_command never = absurd (cc)
after_reserved g job k n attempts pod (Adopted claim status) allowed follows of_command never = absurd (cc)
after_reserved g job k n attempts pod (Denied command refusal) allowed follows of_command never = absurd (cc)

next_reserved : (c : Run) (pod : Key) (attempts k : ℕ) (g : List Entry) (e : Entry) → c.command ≡ Schedule pod attempts → job_state_of g c.job ≡ job_state.Reserved k → Entered c g e → Writes g c.job pod e.event ⊎ Ends e.event
next_reserved c pod attempts k g e command is h =
    after_reserved g c.job k (attempts_of c.command) attempts pod e.event (subst (λ st. allows st e.event ≡ true) is h.allowed) h.follows (h.of_command ∙ command) h.never

-- nothing is left to be written
no_write : (g : List Entry) (job : ℕ) (pod : Key) (event : Event) → NoneLeft (state_of g) pod → Writes g job pod event → ⊥
no_write g job pod event none w = none.none w.may.state w.claim w.may.taken.there w.may.next

one_more : Grows → (c : Run) (pod : Key) (attempts k : ℕ) (g es : List Entry) → c.command ≡ Schedule pod attempts → job_state_of g c.job ≡ job_state.Reserved k → NoneLeft (state_of g) pod → Along c g es → length es ≤ 1
unfolding Along
one_more grows c pod attempts k g [] command is none h = omega arith
one_more grows c pod attempts k g (e ∷ es) command is none h = elim (next_reserved c pod attempts k g e command is h.0) [
  | inl w ↦ absurd (no_write g c.job pod e.event none w)
  | inr ending ↦ omega (arith, last_one grows c g e es ending h.0.own h.1)
]

-- after the one use is written
left_written : Grows → (job : ℕ) (pod : Key) (g : List Entry) (e : Entry) → PodsHaveFewClaims (state_of g) → Writes g job pod e.event → NoneLeft (state_of (g ++ e ∷ [])) pod
left_written grows job pod g e few w =
    subst (λ s. NoneLeft s pod) (sym (grows.state g e ∙ ap (λ event. after (length g + 1) e.job event (state_of g)) w.is))
    (write_is_last (length g + 1) job pod w.claim w.seen (state_of g) few w.may)

stays_reserved : Grows → (c : Run) (pod : Key) (g : List Entry) (e : Entry) → e.job ≡ c.job → Writes g c.job pod e.event → (k : ℕ) × (job_state_of (g ++ e ∷ []) c.job ≡ job_state.Reserved k)
stays_reserved grows c pod g e own w = (_, state_next grows c g e own ∙ ap (job_state_after (job_state_of g c.job) (length g + 1)) w.is)

two_more : Grows → (c : Run) (pod : Key) (attempts k : ℕ) (g es : List Entry) → c.command ≡ Schedule pod attempts → job_state_of g c.job ≡ job_state.Reserved k → PodsHaveFewClaims (state_of g) → Along c g es → length es ≤ 2
unfolding Along
two_more grows c pod attempts k g [] command is few h = omega arith
two_more grows c pod attempts k g (e ∷ es) command is few h = elim (next_reserved c pod attempts k g e command is h.0) [
  | inl w ↦
      let still = stays_reserved grows c pod g e h.0.own w in
      omega (arith, one_more grows c pod attempts still.0 (g ++ e ∷ []) es command still.1 (left_written grows c.job pod g e few w) h.1)
  | inr ending ↦ omega (arith, last_one grows c g e es ending h.0.own h.1)
]

-- ---- a job that begins

-- the event reserves
record Reserves (n : ℕ) (command : Command) (event : Event) : Type 0 where
  pub pod : Key
  pub is : command ≡ Schedule pod n
  pub leaves : (st : JobState) (index : ℕ) → (k : ℕ) × (job_state_after st index event ≡ job_state.Reserved k)
  pub small : IsSmallEvent event

after_fresh : (n : ℕ) (command : Command) (event : Event) → allows job_state.Fresh event ≡ true → command_of n event ≡ command → is_setback event ≡ false → Reserves n command event ⊎ Ends event
after_fresh n command (Applied x mode) allowed of_command never = inr (record { ends = λ st index. refl })
after_fresh n command (Deleted target) allowed of_command never = inr (record { ends = λ st index. refl })
after_fresh n command (Reserved pod plan) allowed of_command never = inl (record { pod = pod; is = sym of_command; leaves = λ st index. (_, refl); small = tt })
after_fresh n command (Refused pod plan why) allowed of_command never = absurd (cc)
after_fresh n command (Wrote pod claim seen) allowed of_command never = absurd (cc)
after_fresh n command (Conflict pod claim had now) allowed of_command never = absurd (cc)
after_fresh n command (Unreserved pod) allowed of_command never = absurd (cc)
after_fresh n command (Bound pod node) allowed of_command never = absurd (cc)
after_fresh n command (VerdictGiven pod verdict) allowed of_command never = inr (record { ends = λ st index. refl })
after_fresh n command (Contended pod failed) allowed of_command never = absurd (cc)
after_fresh n command (Released pod) allowed of_command never = inr (record { ends = λ st index. refl })
after_fresh n command (Adopted claim status) allowed of_command never = inr (record { ends = λ st index. refl })
after_fresh n command (Denied asked refusal) allowed of_command never = inr (record { ends = λ st index. refl })

-- ---- the claims of pods

small_event : (event : Event) (command : Command) (n : ℕ) → command_of n event ≡ command → HasFewClaims command → IsSmallEvent event
small_event (Applied x mode) command n is few = subst HasFewClaims (sym is) few
small_event (Deleted target) command n is few = tt
small_event (Reserved pod plan) command n is few = tt
small_event (Refused pod plan why) command n is few = tt
small_event (Wrote pod claim seen) command n is few = tt
small_event (Conflict pod claim had now) command n is few = tt
small_event (Unreserved pod) command n is few = tt
small_event (Bound pod node) command n is few = tt
small_event (VerdictGiven pod verdict) command n is few = tt
small_event (Contended pod failed) command n is few = tt
small_event (Released pod) command n is few = tt
small_event (Adopted claim status) command n is few = tt
small_event (Denied asked refusal) command n is few = tt

few_next : Grows → (g : List Entry) (e : Entry) → IsSmallEvent e.event → PodsHaveFewClaims (state_of g) → PodsHaveFewClaims (state_of (g ++ e ∷ []))
few_next grows g e small few = subst PodsHaveFewClaims (sym (grows.state g e)) (few_after (length g + 1) e.job e.event (state_of g) small few)

few_along : Grows → (c : Run) (g es : List Entry) → HasFewClaims c.command → PodsHaveFewClaims (state_of g) → Along c g es → PodsHaveFewClaims (state_of (g ++ es))
unfolding Along
few_along grows c g [] own few h = subst (λ l. PodsHaveFewClaims (state_of l)) (sym (append-nil g)) few
few_along grows c g (e ∷ es) own few h =
    subst (λ l. PodsHaveFewClaims (state_of l)) (append_assoc g (e ∷ []) es)
    (few_along grows c (g ++ e ∷ []) es own (few_next grows g e (small_event e.event c.command (attempts_of c.command) h.0.of_command own) few) h.1)

-- ---- all of it

most_scheduled : (command : Command) (pod : Key) (n : ℕ) → command ≡ Schedule pod n → entries_most command ≡ 3
most_scheduled command pod n is = ap entries_most is

most_any : (command : Command) → 1 ≤ entries_most command
most_any (Apply x mode) = omega arith
most_any (Invalid error) = omega arith
most_any (Delete target) = omega arith
most_any (Schedule pod attempts) = omega arith
most_any (Release pod) = omega arith
most_any (Adopt claim status) = omega arith

all_few : Grows → (c : Run) (g es : List Entry) → job_state_of g c.job ≡ job_state.Fresh → PodsHaveFewClaims (state_of g) → Along c g es → length es ≤ entries_most c.command
unfolding Along
all_few grows c g [] is few h = omega arith
all_few grows c g (e ∷ es) is few h =
    elim (after_fresh (attempts_of c.command) c.command e.event (subst (λ st. allows st e.event ≡ true) is h.0.allowed) h.0.of_command h.0.never) [
      | inl r ↦
          let leaves = r.leaves (job_state_of g c.job) (length g + 1) in
          omega (
            arith,
            most_scheduled c.command r.pod _ r.is,
            two_more grows c r.pod _ leaves.0 (g ++ e ∷ []) es r.is (state_next grows c g e h.0.own ∙ leaves.1) (few_next grows g e r.small few) h.1,
          )
      | inr ending ↦ omega (arith, most_any c.command, last_one grows c g e es ending h.0.own h.1)
    ]

pub single_is_short : Grows → (c : Run) (before segment : List Entry) → Legal (before ++ segment) → PodsHaveFewClaims (state_of before) → HasFewClaims c.command
    → job_state_of before c.job ≡ job_state.Fresh → AllOf c.job segment → JobKept c (before ++ segment) → NeverSetBack c.job (before ++ segment)
    → (length segment ≤ entries_most c.command) × PodsHaveFewClaims (state_of (before ++ segment))
single_is_short grows c before segment legal few own fresh all kept never =
    let steps : Along c before segment = along c before segment all (legal_rest before segment legal) (each_behind _ [] before segment kept) (each_behind _ [] before segment never) in
    (all_few grows c before segment fresh few steps, few_along grows c before segment own few steps)
