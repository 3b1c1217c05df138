-- Each job of several made all entries of its number.
use Rattle.std.proofs.Common.{ℕ, zero, suc, ◌≡◌, ◌∙◌, ◌+◌, ◌≤◌, ◌<◌, ◌++◌, ◌⊎◌, inl, inr, List, [], ◌∷◌, Bool, true, false, cond, eqb, length, refl, sym, ap, subst, arith, append_assoc, length-append, eq-eqb, eqb-true, ⊎_elim}
use Rattle.std.proofs.lemmas.Bool.Decides.{nat_tests}
use Rattle.cluster.specs.declared.entry.Entry.{Entry}
use Rattle.turn_lock.specs.Places.{OwnsAll, times}
use Rattle.histories.specs.Histories.{Each}
use Rattle.sched_job.specs.Owned.{AllIn, AllMade, NoneOf}
use Rattle.histories.specs.JobRuns.{Run}
use Rattle.sched_job.specs.Steps.{jobs_of}
use Rattle.sched_job.specs.Parts.{AllDid, Part, PartDid, added_of, run_in, works_of}

-- ---- lists

times_append : (k : ℕ) (xs ys : List ℕ) → times k (xs ++ ys) ≡ times k xs + times k ys
times_append k [] ys = omega arith
times_append k (x ∷ xs) ys = let r = times_append k xs ys in omega arith

-- the entry at an index is one
same_entry : (a b : List Entry) (x y : Entry) (xs ys : List Entry) → a ++ x ∷ xs ≡ b ++ y ∷ ys → length a ≡ length b → x ≡ y
same_entry [] [] x y xs ys e n = cc
same_entry [] (d ∷ b) x y xs ys e n = absurd (omega arith)
same_entry (c ∷ a) [] x y xs ys e n = absurd (omega arith)
same_entry (c ∷ a) (d ∷ b) x y xs ys e n = same_entry a b x y xs ys (cc) (omega arith)

-- ---- what a part made

-- the entry at an index that is one of those made is the run's
made_job : (c : Run) (h : List Entry) (last : ℕ) (ps : List ℕ) (before : List Entry) (e : Entry) (rest : List Entry) → AllMade c h last ps → h ≡ before ++ e ∷ rest → 0 < times (length before + 1) ps → e.job ≡ c.job
made_job c h last [] before e rest made is lt = absurd (omega arith)
made_job c h last (p ∷ ps) before e rest made is lt = pick (eqb (length before + 1) p) refl (λ there. made_job c h p ps before e rest made.1 is there)
  where
    pick : (b : Bool) → eqb (length before + 1) p ≡ b → (0 < times (length before + 1) ps → e.job ≡ c.job) → e.job ≡ c.job
    pick true t more =
        let m = made.0 in
        let here : length before + 1 ≡ p = eqb-true (length before + 1) p t in
        let i = m.index_is in
        ap (λ (x : Entry). x.job) (same_entry before m.before e (record { job = c.job; event = m.event }) rest m.rest (sym is ∙ m.is) (omega arith))
    pick false t more =
        let first : cond (eqb (length before + 1) p) 1 0 + times (length before + 1) ps ≡ 0 + times (length before + 1) ps = ap (λ (b : Bool). cond b 1 0 + times (length before + 1) ps) t in
        more (omega arith)

made_on : (c : Run) (h more : List Entry) (last : ℕ) (ps : List ℕ) → AllMade c h last ps → AllMade c (h ++ more) last ps
made_on c h more last [] made = tt
made_on c h more last (p ∷ ps) made =
    let m = made.0 in (
      record {
        before = m.before;
        event = m.event;
        rest = m.rest ++ more;
        is = ap (λ (xs : List Entry). xs ++ more) m.is ∙ append_assoc m.before (record { job = c.job; event = m.event } ∷ m.rest) more;
        index_is = m.index_is;
        past = m.past;
        later = m.later;
        of_command = m.of_command;
        timed = m.timed;
      },
      made_on c h more p ps made.1,
    )

made_in : (budget number base : ℕ) (h : List Entry) (p : Part) → PartDid budget number base h p → AllMade (run_in budget p) h 0 p.added
made_in budget number base h p d = subst (λ (xs : List Entry). AllMade (run_in budget p) xs 0 p.added) d.begins.1 (made_on (run_in budget p) p.front d.begins.0 0 p.added d.made)

-- ---- whose an index is

abbrev pub HasPart : Part → List Part → Type 0
HasPart d [] = ⊥
HasPart d (x ∷ xs) = (d ≡ x) ⊎ HasPart d xs

job_there : (d : Part) (ps : List Part) → HasPart d ps → 0 < times d.work.job (jobs_of (works_of ps))
job_there d [] in_ = absurd in_
job_there d (x ∷ xs) (inl e) =
    let same : eqb d.work.job x.work.job ≡ true = eq-eqb d.work.job x.work.job (ap (λ (p : Part). p.work.job) e) in
    let first : cond (eqb d.work.job x.work.job) 1 0 + times d.work.job (jobs_of (works_of xs)) ≡ 1 + times d.work.job (jobs_of (works_of xs)) = ap (λ (b : Bool). cond b 1 0 + times d.work.job (jobs_of (works_of xs))) same in
    omega arith
job_there d (x ∷ xs) (inr i) = let r = job_there d xs i in omega arith

-- no two parts are of one job
abbrev pub Apart : List Part → Type 0
Apart ps = (job : ℕ) → times job (jobs_of (works_of ps)) ≤ 1

pos_split : (a b : ℕ) → 0 < a + b → (0 < a) ⊎ (0 < b)
pos_split zero b lt = inr (omega arith)
pos_split (suc a) b lt = inl (omega arith)

count_same : (job x : ℕ) (js : List ℕ) → job ≡ x → times job (x ∷ js) ≡ 1 + times job js
count_same job x js e = ap (λ (b : Bool). cond b 1 0 + times job js) (eq-eqb job x e)

-- an index of the parts is one of a part of the entry's job
pub some_owner : (budget number base : ℕ) (h : List Entry) (ps : List Part) (before : List Entry) (e : Entry) (rest : List Entry) → AllDid budget number base h ps → h ≡ before ++ e ∷ rest → 0 < times (length before + 1) (added_of ps) → 0 < times e.job (jobs_of (works_of ps))
some_owner budget number base h [] before e rest did is lt = absurd (omega arith)
some_owner budget number base h (x ∷ xs) before e rest did is lt =
    let k : ℕ = length before + 1 in
    let s = times_append k x.added (added_of xs) in
    let both : 0 < times k x.added + times k (added_of xs) = omega arith in
    ⊎_elim {C = 0 < times e.job (jobs_of (works_of (x ∷ xs)))}
    (λ a.
    let c = count_same e.job x.work.job (jobs_of (works_of xs)) (made_job (run_in budget x) h 0 x.added before e rest (made_in budget number base h x did.0) is a) in
    omega arith)
    (λ b. let r = some_owner budget number base h xs before e rest did.1 is b in omega arith)
    (pos_split (times k x.added) (times k (added_of xs)) both)

-- an index of the parts, of an entry of a part's job, is one of that part
pub owner : (budget number base : ℕ) (h : List Entry) (ps : List Part) (d : Part) (before : List Entry) (e : Entry) (rest : List Entry) → AllDid budget number base h ps → Apart ps → h ≡ before ++ e ∷ rest → HasPart d ps → e.job ≡ d.work.job → 0 < times (length before + 1) (added_of ps) → 0 < times (length before + 1) d.added
owner budget number base h [] d before e rest did apart is there mine lt = absurd there
owner budget number base h (x ∷ xs) d before e rest did apart is there mine lt =
    let k : ℕ = length before + 1 in
    let s = times_append k x.added (added_of xs) in
    let both : 0 < times k x.added + times k (added_of xs) = omega arith in
    let apart' : Apart xs = λ job. let a = apart job in omega arith in
    ⊎_elim {C = 0 < times k d.added}
    (λ a.
    let of_x : e.job ≡ x.work.job = made_job (run_in budget x) h 0 x.added before e rest (made_in budget number base h x did.0) is a in
    ⊎_elim {C = 0 < times k d.added}
    (λ same. subst (λ (p : Part). 0 < times k p.added) (sym same) a)
    (λ i.
    let c = count_same d.work.job x.work.job (jobs_of (works_of xs)) (sym mine ∙ of_x) in
    let more = job_there d xs i in
    let most = apart d.work.job in
    absurd (omega arith))
    there)
    (λ b.
    ⊎_elim {C = 0 < times k d.added}
    (λ same.
    let of_x : e.job ≡ x.work.job = mine ∙ ap (λ (p : Part). p.work.job) same in
    let c = count_same e.job x.work.job (jobs_of (works_of xs)) of_x in
    let more = some_owner budget number base h xs before e rest did.1 is b in
    let most = apart e.job in
    absurd (omega arith))
    (λ i. owner budget number base h xs d before e rest did.1 apart' is i mine b)
    there)
    (pos_split (times k x.added) (times k (added_of xs)) both)

-- ---- each part made all entries of its job

-- what is said of each entry at its place
from_places : (P : List Entry → Entry → Type 0) (before es : List Entry) → ((b : List Entry) (e : Entry) (rest : List Entry) → before ++ es ≡ b ++ e ∷ rest → length before ≤ length b → P b e) → Each P before es
unfolding Each
from_places P before [] f = tt
from_places P before (e ∷ es) f = (
  f before e es refl (omega arith),
  from_places P (before ++ e ∷ []) es (λ b d rest is le. f b d rest (sym (append_assoc before (e ∷ []) es) ∙ is) (omega (arith, length-append before (e ∷ [])))),
)

-- an entry within the opening isn't one of a job that is new after it
at_opening : (job : ℕ) (before opening : List Entry) (b : List Entry) (e : Entry) (rest more : List Entry) → NoneOf job before opening → (before ++ opening) ++ more ≡ b ++ e ∷ rest → length before ≤ length b → length b < length before + length opening → e.job ≡ job → ⊥
unfolding Each
at_opening job before [] b e rest more none is le lt mine = omega arith
at_opening job before (d ∷ ds) b e rest more none is le lt mine =
    pick (eqb (length before) (length b)) refl
    (λ le' lt'. at_opening job (before ++ d ∷ []) ds b e rest more none.1 (ap (λ (xs : List Entry). xs ++ more) (append_assoc before (d ∷ []) ds) ∙ is) le' lt' mine)
  where
    pick : (x : Bool) → eqb (length before) (length b) ≡ x → (length (before ++ d ∷ []) ≤ length b → length b < length (before ++ d ∷ []) + length ds → ⊥) → ⊥
    pick true t further =
        let n : length before ≡ length b = eqb-true (length before) (length b) t in
        let same : d ≡ e = same_entry before b d e (ds ++ more) rest (sym (append_assoc before (d ∷ ds) more) ∙ is) n in
        none.0 (ap (λ (x : Entry). x.job) same ∙ mine)
    pick false t further =
        let n = length-append before (d ∷ []) in
        further (grind (arith, nat_tests)) (omega arith)

pub made_all : (budget number : ℕ) (opening more : List Entry) (ps : List Part) (d : Part) → AllDid budget number (length opening) (opening ++ more) ps → Apart ps → OwnsAll opening (opening ++ more) (added_of ps) → NoneOf d.work.job [] opening → HasPart d ps → AllIn d.work.job d.added (opening ++ more)
made_all budget number opening more ps d did apart owns none there =
    from_places (λ b e. e.job ≡ d.work.job → 0 < times (length b + 1) d.added) [] (opening ++ more)
    (λ b e rest is le mine. past b e rest is mine (ltb' (length b) (length opening)))
  where
    ltb' : (n m : ℕ) → (n < m) ⊎ (m < n + 1)
    ltb' n zero = inr (omega arith)
    ltb' zero (suc m) = inl (omega arith)
    ltb' (suc n) (suc m) = ⊎_elim {C = (suc n < suc m) ⊎ (suc m < suc n + 1)} (λ a. inl (omega arith)) (λ b. inr (omega arith)) (ltb' n m)

    past : (b : List Entry) (e : Entry) (rest : List Entry) → opening ++ more ≡ b ++ e ∷ rest → e.job ≡ d.work.job → (length b < length opening) ⊎ (length opening < length b + 1) → 0 < times (length b + 1) d.added
    past b e rest is mine (inl lt) = absurd (at_opening d.work.job [] opening b e rest more none is (omega arith) (omega arith) mine)
    past b e rest is mine (inr lt) =
        let n : length (opening ++ more) ≡ length (b ++ e ∷ rest) = ap length is in
        let within : length b + 1 ≤ length (opening ++ more) = omega (arith, length-append b (e ∷ rest)) in
        let one = owns.each (length b + 1) lt within in
        owner budget number (length opening) (opening ++ more) ps d b e rest did apart is there mine (omega arith)
