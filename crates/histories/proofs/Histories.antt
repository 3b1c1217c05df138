-- What one entry more does to a history.
use Rattle.std.proofs.Common.{ℕ, ◌+◌, List, [], ◌∷◌, ◌++◌, ◌≡◌, ◌∙◌, cond, eqb, length, refl, ap, arith, append_assoc, subst, sym, append-nil}
use Rattle.cluster.specs.State.{empty_state}
use Rattle.cluster.specs.declared.entry.Entry.{Entry}
use Rattle.cluster.specs.declared.entry.JobState.TheVariants.{Fresh}
use Rattle.cluster.specs.Events.{after, job_state_after}
use Rattle.cluster.specs.History.{next_job_state, next_state, job_state_of, state_of, told}
use Rattle.histories.specs.Legal.{Step, LegalAfter, Legal}

told-more : {A : Type 0} (step : A → ℕ → Entry → A) (a : A) (n : ℕ) (es : List Entry) (e : Entry) → told step a n (es ++ e ∷ []) ≡ step (told step a n es) (n + length es + 1) e
unfolding told
told-more step a n [] e = let eq : n + 1 ≡ n + 0 + 1 = omega arith in ap (λ (k : ℕ). step a k e) eq
told-more step a n (d ∷ es) e =
    let eq : n + 1 + length es + 1 ≡ n + length (d ∷ es) + 1 = omega arith in
    told-more step (step a (n + 1) d) (n + 1) es e ∙ ap (λ (k : ℕ). step (told step (step a (n + 1) d) (n + 1) es) k e) eq

pub told_whole : {A : Type 0} (step : A → ℕ → Entry → A) (a : A) (es : List Entry) (e : Entry) → told step a 0 (es ++ e ∷ []) ≡ step (told step a 0 es) (length es + 1) e
told_whole step a es e =
    let eq : 0 + length es + 1 ≡ length es + 1 = omega arith in
    told-more step a 0 es e ∙ ap (λ (k : ℕ). step (told step a 0 es) k e) eq

pub state_of-empty : state_of [] ≡ empty_state
unfolding state_of told
state_of-empty = refl

pub job_state_of-empty : (job : ℕ) → job_state_of [] job ≡ Fresh
unfolding job_state_of told
job_state_of-empty job = refl

-- the state after one entry more
pub state_of-more : (es : List Entry) (e : Entry) → state_of (es ++ e ∷ []) ≡ after (length es + 1) e.job e.event (state_of es)
unfolding state_of
state_of-more es e = told_whole next_state empty_state es e

-- the state of a job after one entry more
pub job_state_of-more : (es : List Entry) (e : Entry) (job : ℕ) → job_state_of (es ++ e ∷ []) job ≡ cond (eqb e.job job) (job_state_after (job_state_of es job) (length es + 1) e.event) (job_state_of es job)
unfolding job_state_of
job_state_of-more es e job = told_whole (next_job_state job) Fresh es e

pub LegalAfter-more : (before es : List Entry) (e : Entry) → LegalAfter before es → Step (before ++ es) e → LegalAfter before (es ++ e ∷ [])
unfolding LegalAfter
LegalAfter-more before [] e legal step = (subst (λ (xs : List Entry). Step xs e) (append-nil before) step, tt)
LegalAfter-more before (d ∷ es) e legal step =
    (legal.0, LegalAfter-more (before ++ d ∷ []) es e legal.1 (subst (λ (xs : List Entry). Step xs e) (sym (append_assoc before (d ∷ []) es)) step))

pub Legal-empty : Legal []
unfolding Legal LegalAfter
Legal-empty = tt

-- a legal history stays so with an entry that may follow it
pub Legal-more : (es : List Entry) (e : Entry) → Legal es → Step es e → Legal (es ++ e ∷ [])
unfolding Legal
Legal-more es e legal step = LegalAfter-more [] es e legal step
