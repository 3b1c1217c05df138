-- A budget along a list of items.
use Rattle.std.proofs.Common.{ℕ, zero, suc, ◌<◌, ◌-◌, ◌≡◌, ◌≢◌, List, [], ◌∷◌, ◌++◌, Bool, true, false, cond, Option, Some, None, length, take, leb, refl, sym, ap, ◌∙◌, arith}
use Rattle.std.specs.List.{find}
use Rattle.std.proofs.lemmas.Bool.Decides.{nat_tests}
use Rattle.walk.specs.Walk.{Item, Mark, Part, Full, Fault}
use Rattle.walk.specs.Outcome.{Outcome, Ended, Unsat, Budget, ends, mark_ends, outcome, outcome_by}
use Rattle.deep_search.specs.declared.answer.Status.{Status}
use Rattle.deep_search.specs.declared.answer.Status.TheVariants as status
use Rattle.deep_search.specs.Progress.{Progress, Stopped, Left, progress, report, onward}

left_ended : (t : Bool) (x : Item) (o q r : Progress) (b : ℕ) → cond t (Stopped (Ended x)) q ≡ Left b → (q ≡ Left b → r ≡ o) → cond t (Stopped (Ended x)) r ≡ o
left_ended true x o q r b e f = absurd (cc)
left_ended false x o q r b e f = f e

-- where the first part leaves a budget, the rest goes on with it
pub progress-left : (b b' : ℕ) (xs ys : List Item) → progress b xs ≡ Left b' → progress b (xs ++ ys) ≡ progress b' ys
unfolding progress
progress-left b b' [] ys e = let same : b ≡ b' = cc in ap (λ (n : ℕ). progress n ys) same
progress-left zero b' (x ∷ xs) ys e = absurd (cc)
progress-left (suc b) b' (x ∷ xs) ys e = left_ended (ends x) x (progress b' ys) (progress b xs) (progress b (xs ++ ys)) b' e (progress-left b b' xs ys)

stopped_ended : (t : Bool) (x : Item) (o : Outcome) (q r : Progress) → cond t (Stopped (Ended x)) q ≡ Stopped o → (q ≡ Stopped o → r ≡ Stopped o) → cond t (Stopped (Ended x)) r ≡ Stopped o
stopped_ended true x o q r e f = e
stopped_ended false x o q r e f = f e

-- where the first part stops, the rest changes nothing
pub progress-stopped : (b : ℕ) (o : Outcome) (xs ys : List Item) → progress b xs ≡ Stopped o → progress b (xs ++ ys) ≡ Stopped o
unfolding progress
progress-stopped b o [] ys e = absurd (cc)
progress-stopped zero o (x ∷ xs) ys e = e
progress-stopped (suc b) o (x ∷ xs) ys e = stopped_ended (ends x) x o (progress b xs) (progress b (xs ++ ys)) e (progress-stopped b o xs ys)

-- the same for a status that isn't Searching
pub progress-report : (b b' : ℕ) (r : Status) (c l : List ℕ) (xs ys : List Item) → r ≢ status.Searching → progress b xs ≡ report r b' c l → progress b (xs ++ ys) ≡ report r b' c l
progress-report b b' status.Searching c l xs ys n e = absurd (n refl)
progress-report b b' status.Full c l xs ys n e = progress-stopped b (Ended (record { choice = c; positions = l; mark = Full })) xs ys e
progress-report b b' status.Fault c l xs ys n e = progress-stopped b (Ended (record { choice = c; positions = []; mark = Fault })) xs ys e
progress-report b b' status.Spent c l xs ys n e = progress-stopped b Budget xs ys e

pub progress-none : (b : ℕ) (x : Item) (xs : List Item) → b ≡ 0 → progress b (x ∷ xs) ≡ Stopped Budget
unfolding progress
progress-none zero x xs e = refl
progress-none (suc b) x xs e = absurd (omega arith)

pub progress-part : (b : ℕ) (x : Item) (xs : List Item) → 0 < b → x.mark ≡ Part → progress b (x ∷ xs) ≡ progress (b - 1) xs
unfolding progress
progress-part zero x xs h m = absurd (omega arith)
progress-part (suc b) x xs h m =
    let e : suc b - 1 ≡ b = omega arith in
    ap (λ (k : Mark). cond (mark_ends k) (Stopped (Ended x)) (progress b xs)) m ∙ sym (ap (λ (n : ℕ). progress n xs) e)

pub progress-last : (b : ℕ) (x : Item) (xs : List Item) → 0 < b → mark_ends x.mark ≡ true → progress b (x ∷ xs) ≡ Stopped (Ended x)
unfolding progress
progress-last zero x xs h m = absurd (omega arith)
progress-last (suc b) x xs h m = ap (λ (t : Bool). cond t (Stopped (Ended x)) (progress b xs)) m

abbrev pub outcome_of : Progress → Outcome
outcome_of (Stopped o) = o
outcome_of (Left b) = Unsat

outcome_step : (t : Bool) (x : Item) (q : Option Item) (s : Bool) (r : Progress) → outcome_by q s ≡ outcome_of r → outcome_by (cond t (Some x) q) s ≡ outcome_of (cond t (Stopped (Ended x)) r)
outcome_step true x q s r e = refl
outcome_step false x q s r e = e

leb-suc : (m n : ℕ) → leb (suc m) (suc n) ≡ leb m n
leb-suc m n = grind (arith, nat_tests)

-- the outcome, item by item
pub outcome_is : (b : ℕ) (xs : List Item) → outcome b xs ≡ outcome_of (progress b xs)
unfolding outcome progress
outcome_is zero [] = refl
outcome_is (suc b) [] = let e : leb 0 (suc b) ≡ true = grind (arith, nat_tests) in ap (outcome_by None) e
outcome_is zero (x ∷ xs) = let e : leb (suc (length xs)) 0 ≡ false = grind (arith, nat_tests) in ap (outcome_by None) e
outcome_is (suc b) (x ∷ xs) =
    let e : leb (suc (length xs)) (suc b) ≡ leb (length xs) b = leb-suc (length xs) b in
    ap (outcome_by (cond (ends x) (Some x) (find ends (take b xs)))) e
    ∙ outcome_step (ends x) x (find ends (take b xs)) (leb (length xs) b) (progress b xs) (outcome_is b xs)

-- what the search's result states about the outcome
pub outcome-over : (b b' : ℕ) (xs : List Item) → progress b xs ≡ Left b' → outcome b xs ≡ Unsat
outcome-over b b' xs e = outcome_is b xs ∙ ap outcome_of e

pub outcome-stopped : (b : ℕ) (o : Outcome) (xs : List Item) → progress b xs ≡ Stopped o → outcome b xs ≡ o
outcome-stopped b o xs e = outcome_is b xs ∙ ap outcome_of e

-- where nothing is to come, a status states the same
pub onward-over : (r : Status) (b : ℕ) (c l : List ℕ) → onward r b c l [] ≡ report r b c l
unfolding progress
onward-over status.Searching b c l = refl
onward-over status.Full b c l = refl
onward-over status.Fault b c l = refl
onward-over status.Spent b c l = refl

pub onward-stopped : (r : Status) (b : ℕ) (c l : List ℕ) (rest : List Item) → r ≢ status.Searching → onward r b c l rest ≡ report r b c l
onward-stopped status.Searching b c l rest n = absurd (n refl)
onward-stopped status.Full b c l rest n = refl
onward-stopped status.Fault b c l rest n = refl
onward-stopped status.Spent b c l rest n = refl
