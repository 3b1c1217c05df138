-- What holds at first, and is kept by each entry that may follow, holds of each legal history.
use Rattle.std.proofs.Common.{◌+◌, List, [], ◌∷◌, ◌++◌, length, append_assoc, append-nil, subst, sym}
use Rattle.cluster.specs.declared.entry.Entry.{Entry}
use Rattle.cluster.specs.declared.state.State.{State}
use Rattle.cluster.specs.Events.{after}
use Rattle.cluster.specs.History.{state_of}
use Rattle.cluster.specs.State.{empty_state}
use Rattle.histories.specs.Legal.{Step, LegalAfter, Legal}
use Rattle.histories.proofs.Histories.{Legal-empty, Legal-more, state_of-empty, state_of-more}

pub always_along : (P : List Entry → Type 0) → ((h : List Entry) (e : Entry) → Legal h → P h → Step h e → P (h ++ e ∷ [])) → (before es : List Entry) → LegalAfter before es → Legal before → P before → P (before ++ es)
unfolding LegalAfter
always_along P step before [] legal first h = subst P (sym (append-nil before)) h
always_along P step before (e ∷ es) legal first h =
    subst P (append_assoc before (e ∷ []) es)
    (always_along P step (before ++ e ∷ []) es legal.1 (Legal-more before e first legal.0) (step before e first h legal.0))

-- what holds at first, and is kept by each entry that may follow, holds of each legal history
pub always : (P : List Entry → Type 0) → P [] → ((h : List Entry) (e : Entry) → Legal h → P h → Step h e → P (h ++ e ∷ [])) → (h : List Entry) → Legal h → P h
unfolding Legal
always P first step h legal = always_along P step [] h legal Legal-empty first

-- and so for states
pub always_state : (P : State → Type 0) → P empty_state → ((h : List Entry) (e : Entry) → Legal h → Step h e → P (state_of h) → P (after (length h + 1) e.job e.event (state_of h))) → (h : List Entry) → Legal h → P (state_of h)
always_state P first step h legal =
    always (λ h. P (state_of h)) (subst P (sym state_of-empty) first) (λ g e l p s. subst P (sym (state_of-more g e)) (step g e l s p)) h legal
