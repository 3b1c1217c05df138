-- What a ledger keeps.
use Rattle.std.proofs.Common.{ℕ, ◌+◌, ◌<◌, ◌≤◌, ◌^◌, List, [], ◌∷◌, ◌++◌, ◌≡◌, ◌∙◌, true, cond, eqb, length, refl, sym, ap, subst, arith, length-append, eq-eqb}
use Rattle.std.proofs.lemmas.Bool.{and_from}
use Rattle.object_fields.specs.declared.key.Key.{Key}
use Rattle.counter_sets.specs.Holding.{AreHeld, Holders}
use Rattle.counter_sets.specs.Totals.{KeptCounters}
use Rattle.pool_totals.specs.Counting.{AreCounted}
use Rattle.cluster.specs.declared.entry.Entry.{Entry}
use Rattle.cluster.specs.declared.entry.Event.TheVariants.{Contended}
use Rattle.cluster.specs.declared.entry.JobState.{JobState}
use Rattle.cluster.specs.declared.state.State.{State}
use Rattle.cluster.specs.Events.{after, allows, job_state_after}
use Rattle.cluster.specs.Held.{HeldOnce, held}
use Rattle.cluster.specs.History.{state_of}
use Rattle.cluster.specs.JobState.{failures, has_failed}
use Rattle.cluster.specs.State.{empty_state}
use Rattle.histories.specs.Legal.{Legal, Step}
use Rattle.ledger_core.specs.Ledger.{IsKept, job_state_in}
use Rattle.ledger_core.proofs.Histories.{Legal-empty, Legal-more, failures_within, job_state_of-empty, state_of-empty, state_of-more}
use Rattle.ledger_core.proofs.Standing.{job_states_more}

pub kept_empty : (limit : ℕ) (holders : Holders) (totals : KeptCounters) → limit < 2 ^ 48 → AreHeld holders (held empty_state) → AreCounted empty_state.inventory holders totals → IsKept [] empty_state holders totals [] limit
kept_empty limit holders totals small none counted =
    record { legal = Legal-empty; state_is = sym state_of-empty; holders_are = none; counted = counted; job_states_are = λ j. sym (job_state_of-empty j); within = omega arith; small = small }

-- it keeps it with one entry more
pub kept_more : (es : List Entry) (e : Entry) (s s' : State) (hs hs' : Holders) (ts ts' : KeptCounters) (job_states ready job_states' : List (ℕ × JobState)) (limit : ℕ) → IsKept es s hs ts job_states limit → Step es e → length es < limit
    → s' ≡ after (length es + 1) e.job e.event s → AreHeld hs' (held s') → AreCounted s'.inventory hs' ts' → ((j : ℕ) → job_state_in ready j ≡ job_state_in job_states j)
    → ((j : ℕ) → job_state_in job_states' j ≡ cond (eqb e.job j) (job_state_after (job_state_in ready e.job) (length es + 1) e.event) (job_state_in ready j)) → IsKept (es ++ e ∷ []) s' hs' ts' job_states' limit
kept_more es e s s' hs hs' ts ts' job_states ready job_states' limit kept step room is holders counted same set = record {
  legal = Legal-more es e kept.legal step;
  state_is = is ∙ ap (λ (t : State). after (length es + 1) e.job e.event t) kept.state_is ∙ sym (state_of-more es e);
  holders_are = holders;
  counted = counted;
  job_states_are = job_states_more es ready job_states' e (λ j. same j ∙ kept.job_states_are j) set;
  within = omega (arith, length-append es (e ∷ []));
  small = kept.small;
}

-- no job has failed as often as a number of 64 bits can't say
pub few_tries : (es : List Entry) (s : State) (hs : Holders) (ts : KeptCounters) (job_states ready : List (ℕ × JobState)) (limit job : ℕ) → IsKept es s hs ts job_states limit → ((j : ℕ) → job_state_in ready j ≡ job_state_in job_states j)
    → failures (job_state_in ready job) < 2 ^ 48
few_tries es s hs ts job_states ready limit job kept same =
    let is : failures (job_state_in ready job) ≤ length es = subst (λ (st : JobState). failures st ≤ length es) (sym (same job ∙ kept.job_states_are job)) (failures_within es job) in
    let within = kept.within in
    let small = kept.small in
    omega (arith, is, within, small)

-- each device has one holder after a legal history
abbrev pub OneHolder : Type 0
OneHolder = (h : List Entry) → Legal h → HeldOnce (state_of h)

pub once_now : OneHolder → (es : List Entry) (s : State) (hs : Holders) (ts : KeptCounters) (job_states : List (ℕ × JobState)) (limit : ℕ) → IsKept es s hs ts job_states limit → HeldOnce s
once_now law es s hs ts job_states limit kept = subst (λ (t : State). HeldOnce t) (sym kept.state_is) (law es kept.legal)

pub once_after : OneHolder → (es : List Entry) (e : Entry) (s : State) (hs : Holders) (ts : KeptCounters) (job_states : List (ℕ × JobState)) (limit : ℕ) → IsKept es s hs ts job_states limit → Step es e
    → HeldOnce (after (length es + 1) e.job e.event s)
once_after law es e s hs ts job_states limit kept step =
    subst (λ (t : State). HeldOnce t) (state_of-more es e ∙ ap (λ (t : State). after (length es + 1) e.job e.event t) (sym kept.state_is)) (law (es ++ e ∷ []) (Legal-more es e kept.legal step))

-- a job whose last attempt has failed may say how many have
pub may_contend : (st : JobState) (pod : Key) → has_failed st ≡ true → allows st (Contended pod (failures st)) ≡ true
may_contend st pod failed = and_from (has_failed st) (eqb (failures st) (failures st)) failed (eq-eqb (failures st) (failures st) refl)
