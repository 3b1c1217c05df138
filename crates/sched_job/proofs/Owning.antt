-- What a call makes of a job while others may add entries too.
use Rattle.std.proofs.Common.{ℕ, ◌≡◌, ◌∙◌, ◌+◌, ◌≤◌, ◌<◌, ◌++◌, List, [], ◌∷◌, Bool, true, false, cond, eqb, length, refl, sym, ap, subst, arith, append-nil, append_assoc, length-append, eqb-true}
use Rattle.std.proofs.lemmas.Bool.Decides.{nat_tests}
use Rattle.cluster.specs.declared.entry.Entry.{Entry}
use Rattle.cluster.specs.declared.entry.JobState.TheVariants as job_state
use Rattle.cluster.specs.Events.{job_state_after}
use Rattle.cluster.specs.History.{job_state_of, next_job_state, told}
use Rattle.turn_lock.specs.Places.{times}
use Rattle.histories.specs.Histories.{Each}
use Rattle.sched_job.specs.Owned.{AllIn, AllMade, MadeAt, NoneOf, last_of}
use Rattle.histories.specs.JobRuns.{Run}

-- ---- what is said of each entry

pub each_front : (P : List Entry → Entry → Type 0) (before xs ys : List Entry) → Each P before (xs ++ ys) → Each P before xs
unfolding Each
each_front P before [] ys each = tt
each_front P before (x ∷ xs) ys each = (each.0, each_front P (before ++ x ∷ []) xs ys each.1)

pub each_back : (P : List Entry → Entry → Type 0) (before xs ys : List Entry) → Each P before (xs ++ ys) → Each P (before ++ xs) ys
unfolding Each
each_back P before [] ys each = subst (λ (b : List Entry). Each P b ys) (sym (append-nil before)) each
each_back P before (x ∷ xs) ys each = subst (λ (b : List Entry). Each P b ys) (append_assoc before (x ∷ []) xs) (each_back P (before ++ x ∷ []) xs ys each.1)

-- ---- indices

times_less : (k q : ℕ) (ps : List ℕ) → k < q → times k (ps ++ q ∷ []) ≡ times k ps
times_less k q [] lt = let e : eqb k q ≡ false = grind (arith, nat_tests) in ap (λ (b : Bool). cond b 1 0 + 0) e
times_less k q (p ∷ ps) lt = ap (λ (n : ℕ). cond (eqb k p) 1 0 + n) (times_less k q ps lt)

-- an index past the entries says nothing of them
pub in_less : (job q : ℕ) (ps : List ℕ) (before es : List Entry) → length before + length es < q → Each (λ b e. e.job ≡ job → 0 < times (length b + 1) (ps ++ q ∷ [])) before es → Each (λ b e. e.job ≡ job → 0 < times (length b + 1) ps) before es
unfolding Each
in_less job q ps before [] lt each = tt
in_less job q ps before (e ∷ es) lt each = (
  λ mine. subst (λ (n : ℕ). 0 < n) (times_less (length before + 1) q ps (omega arith)) (each.0 mine),
  in_less job q ps (before ++ e ∷ []) es (omega (arith, length-append before (e ∷ []))) each.1,
)

pub made_within : (c : Run) (h : List Entry) (last p : ℕ) → MadeAt c h last p → p ≤ length h
made_within c h last p m =
    let i = m.index_is in
    let n : length h ≡ length (m.before ++ record { job = c.job; event = m.event } ∷ m.rest) = ap length m.is in
    omega (arith, length-append m.before (record { job = c.job; event = m.event } ∷ m.rest))

pub times_past : (c : Run) (h : List Entry) (last : ℕ) (ps : List ℕ) (k : ℕ) → AllMade c h last ps → length h < k → times k ps ≡ 0
times_past c h last [] k made lt = refl
times_past c h last (p ∷ ps) k made lt =
    let w = made_within c h last p made.0 in
    let e : eqb k p ≡ false = grind (arith, nat_tests) in
    let s = times_past c h p ps k made.1 lt in
    let first : cond (eqb k p) 1 0 + times k ps ≡ 0 + times k ps = ap (λ (b : Bool). cond b 1 0 + times k ps) e in
    omega arith

pub last_within_made : (c : Run) (h : List Entry) (last : ℕ) (ps : List ℕ) → AllMade c h last ps → last ≤ length h → last_of last ps ≤ length h
last_within_made c h last [] made le = le
last_within_made c h last (p ∷ ps) made le = last_within_made c h p ps made.1 (made_within c h last p made.0)

pub made_more : (c : Run) (h more : List Entry) (last : ℕ) (ps : List ℕ) → AllMade c h last ps → AllMade c (h ++ more) last ps
made_more c h more last [] made = tt
made_more c h more last (p ∷ ps) made =
    let m = made.0 in (
      record {
        before = m.before;
        event = m.event;
        rest = m.rest ++ more;
        is = ap (λ (xs : List Entry). xs ++ more) m.is ∙ append_assoc m.before (record { job = c.job; event = m.event } ∷ m.rest) more;
        index_is = m.index_is;
        past = m.past;
        later = m.later;
        of_command = m.of_command;
        timed = m.timed;
      },
      made_more c h more p ps made.1,
    )

pub made_push : (c : Run) (h : List Entry) (last : ℕ) (ps : List ℕ) (p : ℕ) → AllMade c h last ps → MadeAt c h (last_of last ps) p → AllMade c h last (ps ++ p ∷ [])
made_push c h last [] p made m = (m, tt)
made_push c h last (q ∷ ps) p made m = (made.0, made_push c h q ps p made.1 m)

pub last_push : (last : ℕ) (ps : List ℕ) (p : ℕ) → last_of last (ps ++ p ∷ []) ≡ p
last_push last [] p = refl
last_push last (q ∷ ps) p = last_push q ps p

-- ---- entries of others

pub other_job : (a b : ℕ) → (a ≡ b → ⊥) → eqb a b ≡ false
other_job a b ne = pick (eqb a b) refl
  where
    pick : (x : Bool) → eqb a b ≡ x → eqb a b ≡ false
    pick true t = absurd (ne (eqb-true a b t))
    pick false t = t

-- where the job's entries are at indices of the history, none past it is the job's
pub none_past : (job n : ℕ) (ps : List ℕ) (before es : List Entry) → ((k : ℕ) → n < k → times k ps ≡ 0) → n ≤ length before → Each (λ b e. e.job ≡ job → 0 < times (length b + 1) ps) before es → NoneOf job before es
unfolding Each
none_past job n ps before [] past le each = tt
none_past job n ps before (e ∷ es) past le each = (
  λ mine. absurd (let z = past (length before + 1) (omega arith) in let s = each.0 mine in omega arith),
  none_past job n ps (before ++ e ∷ []) es past (omega (arith, length-append before (e ∷ []))) each.1,
)

-- what an entry of another job keeps, all such entries keep
pub past_others : (job : ℕ) (P : List Entry → Type 0) → ((h : List Entry) (e : Entry) → eqb e.job job ≡ false → P h → P (h ++ e ∷ [])) → (h more : List Entry) → NoneOf job h more → P h → P (h ++ more)
unfolding Each
past_others job P step h [] none p = subst P (sym (append-nil h)) p
past_others job P step h (e ∷ es) none p = subst P (append_assoc h (e ∷ []) es) (past_others job P step (h ++ e ∷ []) es none.1 (step h e (other_job e.job job none.0) p))

fresh_told : (job : ℕ) (n : ℕ) (before es : List Entry) → NoneOf job before es → told (next_job_state job) job_state.Fresh n es ≡ job_state.Fresh
unfolding told Each
fresh_told job n before [] none = refl
fresh_told job n before (e ∷ es) none =
    ap (λ (b : Bool). told (next_job_state job) (cond b (job_state_after job_state.Fresh (n + 1) e.event) job_state.Fresh) (n + 1) es) (other_job e.job job none.0) ∙ fresh_told job (n + 1) (before ++ e ∷ []) es none.1

-- a job without an entry is Fresh
pub none_fresh : (job : ℕ) (h : List Entry) → NoneOf job [] h → job_state_of h job ≡ job_state.Fresh
unfolding job_state_of
none_fresh job h none = fresh_told job 0 [] h none
