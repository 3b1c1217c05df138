-- The table of the jobs' states.
use Rattle.std.proofs.Common.{ℕ, ◌≡◌, ◌∙◌, ◌+◌, ◌++◌, List, [], ◌∷◌, Bool, true, false, cond, eqb, length, Option, None, Some, Ok, Err, OnOk, OnErr, refl, sym, ap, is_some, eq-eqb}
use Rattle.std.specs.Prelude.{Result}
use Rattle.std.specs.Option.{unwrap_or}
use Rattle.std.specs.Ordering.{nat_cmp}
use Rattle.std.specs.BTreeMap.{insert_entry, is_at}
use Rattle.std.specs.Map.{set_value}
use Rattle.std.proofs.lemmas.Bool.{eqb-true}
use Rattle.cluster.specs.declared.entry.Entry.{Entry}
use Rattle.cluster.specs.declared.entry.JobState.{JobState}
use Rattle.cluster.specs.declared.entry.JobState.TheVariants.{Fresh}
use Rattle.cluster.specs.Events.{job_state_after}
use Rattle.cluster.specs.History.{job_state_of}
use Rattle.ledger_core.specs.Ledger.{at, job_state_in}
use Rattle.ledger_core.proofs.Rows.{at_insert, at_set}
use Rattle.ledger_core.proofs.Histories.{job_state_of-more}

fresh_by : (b : Bool) (o : Option JobState) → (b ≡ true → is_some o ≡ false) → unwrap_or (cond b (Some Fresh) o) Fresh ≡ unwrap_or o Fresh
fresh_by true None never = refl
fresh_by true (Some s) never = absurd (let e = never refl in cc)
fresh_by false o never = refl

made_same : (t : List (ℕ × JobState)) (job j : ℕ) → is_some (at t job) ≡ false → job_state_in (insert_entry nat_cmp t job Fresh) j ≡ job_state_in t j
made_same t job j none = ap (λ o. unwrap_or o Fresh) (at_insert t job Fresh j) ∙ fresh_by (eqb job j) (at t j) (λ e. ap (λ (n : ℕ). is_some (at t n)) (sym (eqb-true job j e)) ∙ none)

pub row_same : {E : Type 0} (t t' : List (ℕ × JobState)) (job : ℕ) (r : Result (Unit {0}) E) → is_some (at t job) ≡ false → OnOk r (t' ≡ insert_entry nat_cmp t job Fresh) → OnErr r (t' ≡ t) → (j : ℕ) → job_state_in t' j ≡ job_state_in t j
row_same t t' job (Ok x) none ok err j = ap (λ u. job_state_in u j) ok ∙ made_same t job j none
row_same t t' job (Err e) none ok err j = ap (λ u. job_state_in u j) err

row_made : (t : List (ℕ × JobState)) (job : ℕ) (w : JobState) → is_some (at (insert_entry nat_cmp t job w) job) ≡ true
row_made t job w = ap is_some (at_insert t job w job ∙ ap (λ (b : Bool). cond b (Some w) (at t job)) (eq-eqb job job refl))

pub row_there : {E : Type 0} (t t' : List (ℕ × JobState)) (job : ℕ) (r : Result (Unit {0}) E) → OnOk r (t' ≡ insert_entry nat_cmp t job Fresh) → OnOk r (is_some (at t' job) ≡ true)
row_there t t' job (Ok x) ok = ap (λ u. is_some (at u job)) ok ∙ row_made t job Fresh
row_there t t' job (Err e) ok = ok

set_pick : (b : Bool) (w : JobState) (o : Option JobState) → unwrap_or (cond b (Some w) o) Fresh ≡ cond b w (unwrap_or o Fresh)
set_pick true w o = refl
set_pick false w o = refl

pub row_set : (t : List (ℕ × JobState)) (job : ℕ) (v w : JobState) (j : ℕ) → at t job ≡ Some v → job_state_in (set_value (is_at (nat_cmp job)) t w) j ≡ cond (eqb job j) w (job_state_in t j)
row_set t job v w j is = ap (λ o. unwrap_or o Fresh) (at_set t job v w j is) ∙ set_pick (eqb job j) w (at t j)

set_found : (t t' : List (ℕ × JobState)) (job : ℕ) (w : JobState) (o : Option JobState) → at t job ≡ o → is_some o ≡ true → t' ≡ set_value (is_at (nat_cmp job)) t w → (j : ℕ) → job_state_in t' j ≡ cond (eqb job j) w (job_state_in t j)
set_found t t' job w None e there is j = absurd cc
set_found t t' job w (Some v) e there is j = ap (λ u. job_state_in u j) is ∙ row_set t job v w j e

pub row_set_to : (t t' : List (ℕ × JobState)) (job : ℕ) (w : JobState) → is_some (at t job) ≡ true → t' ≡ set_value (is_at (nat_cmp job)) t w → (j : ℕ) → job_state_in t' j ≡ cond (eqb job j) w (job_state_in t j)
row_set_to t t' job w there is j = set_found t t' job w (at t job) refl there is j

pick_same : (b : Bool) (w w' x x' : JobState) → (b ≡ true → w ≡ w') → x ≡ x' → cond b w x ≡ cond b w' x'
pick_same true w w' x x' e f = e refl
pick_same false w w' x x' e f = f

-- the jobs' states after a history, with one entry more
pub job_states_more : (es : List Entry) (job_states job_states' : List (ℕ × JobState)) (e : Entry) → ((j : ℕ) → job_state_in job_states j ≡ job_state_of es j)
    → ((j : ℕ) → job_state_in job_states' j ≡ cond (eqb e.job j) (job_state_after (job_state_in job_states e.job) (length es + 1) e.event) (job_state_in job_states j))
    → (j : ℕ) → job_state_in job_states' j ≡ job_state_of (es ++ e ∷ []) j
job_states_more es job_states job_states' e are set j =
    set j
    ∙ pick_same (eqb e.job j) (job_state_after (job_state_in job_states e.job) (length es + 1) e.event) (job_state_after (job_state_of es j) (length es + 1) e.event) (job_state_in job_states j) (job_state_of es j)
    (λ t. ap (λ (s : JobState). job_state_after s (length es + 1) e.event) (are e.job) ∙ ap (λ (i : ℕ). job_state_after (job_state_of es i) (length es + 1) e.event) (eqb-true e.job j t))
    (are j)
    ∙ sym (job_state_of-more es e j)
