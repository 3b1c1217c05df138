-- Whose an entry is, by its index.
use Rattle.std.proofs.Common.{ℕ, zero, suc, ◌≡◌, ◌∙◌, ◌+◌, ◌≤◌, ◌<◌, ◌++◌, ◌⊎◌, inl, inr, List, [], ◌∷◌, Bool, true, false, cond, eqb, length, take, drop, refl, sym, ap, subst, arith, append_assoc, append-nil, eqb-true, ⊎_elim}
use Rattle.std.proofs.lemmas.List.{take-append-drop}
use Rattle.cluster.specs.declared.entry.Entry.{Entry}
use Rattle.turn_lock.specs.Places.{times}
use Rattle.histories.specs.Histories.{Each}
use Rattle.histories.specs.JobRuns.{Run}
use Rattle.sched_job.specs.Owned.{AllIn, AllMade}
use Rattle.api_server.specs.Connections.{job_of}
use Rattle.api_server.specs.Entries.{AreEntries, IsOfOne}
use Rattle.http_wire.specs.Requests.{Message}
use Rattle.api_server.specs.declared.service.Service.{Service}

-- ---- lists

times_append : (k : ℕ) (xs ys : List ℕ) → times k (xs ++ ys) ≡ times k xs + times k ys
times_append k [] ys = omega arith
times_append k (x ∷ xs) ys = let r = times_append k xs ys in omega arith

pos_split : (a b : ℕ) → 0 < a + b → (0 < a) ⊎ (0 < b)
pos_split zero b lt = inr (omega arith)
pos_split (suc a) b lt = inl (omega arith)

-- the entry at an index is one
same_entry : (a b : List Entry) (x y : Entry) (xs ys : List Entry) → a ++ x ∷ xs ≡ b ++ y ∷ ys → length a ≡ length b → x ≡ y
same_entry [] [] x y xs ys e n = cc
same_entry [] (d ∷ b) x y xs ys e n = absurd (omega arith)
same_entry (c ∷ a) [] x y xs ys e n = absurd (omega arith)
same_entry (c ∷ a) (d ∷ b) x y xs ys e n = same_entry a b x y xs ys (cc) (omega arith)

-- the first entries of a longer list
pub take_front : (xs ys : List Entry) → take (length xs) (xs ++ ys) ≡ xs
take_front [] ys = refl
take_front (x ∷ xs) ys = ap (λ (zs : List Entry). x ∷ zs) (take_front xs ys)

pub take_again : (i : ℕ) (xs ys : List Entry) → take (length (take i xs)) (xs ++ ys) ≡ take i xs
take_again i xs ys =
    let split : xs ++ ys ≡ take i xs ++ (drop i xs ++ ys) = ap (λ (zs : List Entry). zs ++ ys) (sym (take-append-drop i xs)) ∙ append_assoc (take i xs) (drop i xs) ys in
    ap (λ (zs : List Entry). take (length (take i xs)) zs) split ∙ take_front (take i xs) (drop i xs ++ ys)

-- ---- what is said of each entry

each_map : (P Q : List Entry → Entry → Type 0) (before es : List Entry) → ((b : List Entry) (e : Entry) (rest : List Entry) → before ++ es ≡ b ++ e ∷ rest → P b e → Q b e) → Each P before es → Each Q before es
unfolding Each
each_map P Q before [] f each = tt
each_map P Q before (e ∷ es) f each = (
  f before e es refl each.0,
  each_map P Q (before ++ e ∷ []) es (λ b d rest is p. f b d rest (sym (append_assoc before (e ∷ []) es) ∙ is) p) each.1,
)

each_mid : (P : List Entry → Entry → Type 0) (before b : List Entry) (e : Entry) (rest : List Entry) → Each P before (b ++ e ∷ rest) → P (before ++ b) e
unfolding Each
each_mid P before [] e rest each = subst (λ (xs : List Entry). P xs e) (sym (append-nil before)) each.0
each_mid P before (x ∷ xs) e rest each = subst (λ (ys : List Entry). P ys e) (append_assoc before (x ∷ []) xs) (each_mid P (before ++ x ∷ []) xs e rest each.1)

-- an entry of the job is at one of the indices
pub there : (job : ℕ) (places : List ℕ) (h b : List Entry) (e : Entry) (rest : List Entry) → h ≡ b ++ e ∷ rest → AllIn job places h → e.job ≡ job → 0 < times (length b + 1) places
there job places h b e rest is all mine = each_mid (λ before e. e.job ≡ job → 0 < times (length before + 1) places) [] b e rest (subst (λ (xs : List Entry). AllIn job places xs) is all) mine

-- none of the indices is one of an entry of the job
abbrev pub NotAt : ℕ → List ℕ → List Entry → Type 0
NotAt job places h = (b : List Entry) (e : Entry) (rest : List Entry) → h ≡ b ++ e ∷ rest → 0 < times (length b + 1) places → e.job ≡ job → ⊥

pub only_last : (job : ℕ) (xs ys : List ℕ) (h : List Entry) → NotAt job xs h → AllIn job (xs ++ ys) h → AllIn job ys h
only_last job xs ys h not_at all =
    each_map (λ before e. e.job ≡ job → 0 < times (length before + 1) (xs ++ ys)) (λ before e. e.job ≡ job → 0 < times (length before + 1) ys) [] h
    (λ b e rest is p mine. ⊎_elim {C = 0 < times (length b + 1) ys} (λ a. absurd (not_at b e rest is a mine)) (λ c. c)
    (pos_split (times (length b + 1) xs) (times (length b + 1) ys) (let s = times_append (length b + 1) xs ys in let q = p mine in omega arith))) all

pub only_first : (job : ℕ) (xs ys : List ℕ) (h : List Entry) → NotAt job ys h → AllIn job (xs ++ ys) h → AllIn job xs h
only_first job xs ys h not_at all =
    each_map (λ before e. e.job ≡ job → 0 < times (length before + 1) (xs ++ ys)) (λ before e. e.job ≡ job → 0 < times (length before + 1) xs) [] h
    (λ b e rest is p mine. ⊎_elim {C = 0 < times (length b + 1) xs} (λ a. a) (λ c. absurd (not_at b e rest is c mine))
    (pos_split (times (length b + 1) xs) (times (length b + 1) ys) (let s = times_append (length b + 1) xs ys in let q = p mine in omega arith))) all

-- what holds of the entries at these indices
pub fact_at : (P : Entry → Type 0) (from : ℕ) (h : List Entry) (ps : List ℕ) (b : List Entry) (e : Entry) (rest : List Entry) → AreEntries P from h ps → h ≡ b ++ e ∷ rest → 0 < times (length b + 1) ps → P e
fact_at P from h [] b e rest are is lt = absurd (omega arith)
fact_at P from h (p ∷ ps) b e rest are is lt = pick (eqb (length b + 1) p) refl (λ more. fact_at P from h ps b e rest are.1 is more)
  where
    pick : (x : Bool) → eqb (length b + 1) p ≡ x → (0 < times (length b + 1) ps → P e) → P e
    pick true t more =
        let m = are.0 in
        let here : length b + 1 ≡ p = eqb-true (length b + 1) p t in
        let i = m.place_is in
        subst P (same_entry m.before b m.entry e m.rest rest (sym m.is ∙ is) (omega (arith, here, i))) m.fact
    pick false t more =
        let first : cond {A = ℕ} (eqb (length b + 1) p) 1 0 + times (length b + 1) ps ≡ 0 + times (length b + 1) ps = ap (λ (x : Bool). cond {A = ℕ} x 1 0 + times (length b + 1) ps) t in
        more (omega arith)

-- an index that a job made is past the job's begin
pub past_begin : (c : Run) (h : List Entry) (last : ℕ) (ps : List ℕ) (k : ℕ) → AllMade c h last ps → 0 < times k ps → c.from < k
past_begin c h last [] k made lt = absurd (omega arith)
past_begin c h last (p ∷ ps) k made lt = pick (eqb k p) refl (λ more. past_begin c h p ps k made.1 more)
  where
    pick : (x : Bool) → eqb k p ≡ x → (0 < times k ps → c.from < k) → c.from < k
    pick true t more = let here : k ≡ p = eqb-true k p t in let past = made.0.past in omega (arith, here, past)
    pick false t more =
        let first : cond {A = ℕ} (eqb k p) 1 0 + times k ps ≡ 0 + times k ps = ap (λ (x : Bool). cond {A = ℕ} x 1 0 + times k ps) t in
        more (omega arith)

-- ---- jobs of a connection

-- requests that come later are others' jobs
pub apart : (s : Service) (index at : ℕ) (ms : List Message) (e : Entry) → IsOfOne s at ms e → index < at → e.job ≡ job_of s.number index → ⊥
apart s index at [] e is lt mine = is
apart s index at (m ∷ ms) e (inl is) lt mine = let j : e.job ≡ job_of s.number at = is.job_is in omega (arith, j, mine, lt)
apart s index at (m ∷ ms) e (inr is) lt mine = apart s index (at + 1) ms e is (omega (arith, lt)) mine

-- requests that came before too
pub apart_before : (s : Service) (index at : ℕ) (ms : List Message) (e : Entry) → IsOfOne s at ms e → at + length ms ≤ index → e.job ≡ job_of s.number index → ⊥
apart_before s index at [] e is le mine = is
apart_before s index at (m ∷ ms) e (inl is) le mine = let j : e.job ≡ job_of s.number at = is.job_is in omega (arith, j, mine, le)
apart_before s index at (m ∷ ms) e (inr is) le mine = apart_before s index (at + 1) ms e is (omega (arith, le)) mine
