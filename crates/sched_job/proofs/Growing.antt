-- What one entry more does to what holds for each entry, to a job's last entry and to the state at an index.
use Rattle.std.proofs.Common.{ℕ, ◌≡◌, ◌∙◌, ◌+◌, ◌≤◌, ◌++◌, List, [], ◌∷◌, Bool, true, false, cond, eqb, length, sym, ap, subst, arith, append-nil, append_assoc, eq-eqb}
use Rattle.std.proofs.lemmas.List.{take-append-le}
use Rattle.cluster.specs.declared.entry.Entry.{Entry}
use Rattle.cluster.specs.Events.{job_state_after}
use Rattle.cluster.specs.History.{state_at, state_of, job_state_of, told}
use Rattle.histories.specs.Histories.{Each, last_place, next_last}

pub each_more : (P : List Entry → Entry → Type 0) (before es : List Entry) (e : Entry) → Each P before es → P (before ++ es) e → Each P before (es ++ e ∷ [])
unfolding Each
each_more P before [] e each step = (subst (λ (xs : List Entry). P xs e) (append-nil before) step, tt)
each_more P before (d ∷ es) e each step = (each.0, each_more P (before ++ d ∷ []) es e each.1 (subst (λ (xs : List Entry). P xs e) (sym (append_assoc before (d ∷ []) es)) step))

pub each_weaker : (P Q : List Entry → Entry → Type 0) → ((h : List Entry) (e : Entry) → P h e → Q h e) → (before es : List Entry) → Each P before es → Each Q before es
unfolding Each
each_weaker P Q f before [] each = tt
each_weaker P Q f before (e ∷ es) each = (f before e each.0, each_weaker P Q f (before ++ e ∷ []) es each.1)

told_more : {A : Type 0} (step : A → ℕ → Entry → A) (a : A) (n : ℕ) (es : List Entry) (e : Entry) → told step a n (es ++ e ∷ []) ≡ step (told step a n es) (n + length es + 1) e
unfolding told
told_more step a n [] e = let eq : n + 1 ≡ n + 0 + 1 = omega arith in ap (λ (k : ℕ). step a k e) eq
told_more step a n (d ∷ es) e =
    let eq : n + 1 + length es + 1 ≡ n + length (d ∷ es) + 1 = omega arith in
    told_more step (step a (n + 1) d) (n + 1) es e ∙ ap (λ (k : ℕ). step (told step (step a (n + 1) d) (n + 1) es) k e) eq

-- the index of a job's last entry after one more
pub last_more : (h : List Entry) (e : Entry) (job : ℕ) → last_place (h ++ e ∷ []) job ≡ cond (eqb e.job job) (length h + 1) (last_place h job)
unfolding last_place
last_more h e job =
    let eq : 0 + length h + 1 ≡ length h + 1 = omega arith in
    told_more (next_last job) 0 0 h e ∙ ap (λ (k : ℕ). next_last job (told (next_last job) 0 0 h) k e) eq

last_within_if : (b : Bool) (index last n : ℕ) → index ≤ n → last ≤ n → cond b index last ≤ n
last_within_if true index last n p q = p
last_within_if false index last n p q = q

last_from_within : (job last n : ℕ) (es : List Entry) → last ≤ n → told (next_last job) last n es ≤ n + length es
unfolding told
last_from_within job last n [] le = omega arith
last_from_within job last n (e ∷ es) le =
    let next : cond (eqb e.job job) (n + 1) last ≤ n + 1 = last_within_if (eqb e.job job) (n + 1) last (n + 1) (omega arith) (omega arith) in
    let r = last_from_within job (cond (eqb e.job job) (n + 1) last) (n + 1) es next in
    omega arith

-- it isn't past the entries
pub last_within : (h : List Entry) (job : ℕ) → last_place h job ≤ length h
unfolding last_place
last_within h job = let r = last_from_within job 0 0 h (omega arith) in omega arith

-- the state at an index stays, however the history grows
pub state_stays : (h es : List Entry) (at : ℕ) → at ≤ length h → state_at (h ++ es) at ≡ state_at h at
state_stays h es at le = ap state_of (take-append-le at h es le)

-- what one entry more does to a job's state
abbrev pub Grows : Type 0
Grows = (h : List Entry) (e : Entry) (job : ℕ) → job_state_of (h ++ e ∷ []) job ≡ cond (eqb e.job job) (job_state_after (job_state_of h job) (length h + 1) e.event) (job_state_of h job)

pub job_state_other : Grows → (h : List Entry) (e : Entry) (job : ℕ) → eqb e.job job ≡ false → job_state_of (h ++ e ∷ []) job ≡ job_state_of h job
job_state_other g h e job other = g h e job ∙ ap (λ (b : Bool). cond b (job_state_after (job_state_of h job) (length h + 1) e.event) (job_state_of h job)) other

pub job_state_own : Grows → (h : List Entry) (e : Entry) (job : ℕ) → e.job ≡ job → job_state_of (h ++ e ∷ []) job ≡ job_state_after (job_state_of h job) (length h + 1) e.event
job_state_own g h e job mine = g h e job ∙ ap (λ (b : Bool). cond b (job_state_after (job_state_of h job) (length h + 1) e.event) (job_state_of h job)) (eq-eqb e.job job mine)

pub last_other : (h : List Entry) (e : Entry) (job : ℕ) → eqb e.job job ≡ false → last_place (h ++ e ∷ []) job ≡ last_place h job
last_other h e job other = last_more h e job ∙ ap (λ (b : Bool). cond b (length h + 1) (last_place h job)) other
