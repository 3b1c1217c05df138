-- Lists of lanes, whatever a lane is: it has a pass, jobs and ends.
use Rattle.std.proofs.Common.{◌≡◌, ℕ, zero, suc, ◌+◌, ◌<◌, ◌≤◌, All, List, [], ◌∷◌, ◌++◌, length, map, sum, slice_index_or, take, drop, ap, sym, ◌∙◌, refl, subst, arith}
use Rattle.std.proofs.lemmas.List.Sums.{sum_by-cons}
use Rattle.std.specs.List.{flat_map}
use Rattle.turn_lock.specs.Known.{Known}
use Rattle.crew.specs.Chains.{Ready, Ran, AllReady, AllRan}

-- one more of what is mapped, from what is left
pub map_more : {A B : Type 0} (f : A → B) (xs xs' : List A) (a : A) (b : B) (rest rest' whole : List B) → xs' ≡ xs ++ a ∷ [] → f a ≡ b → rest ≡ b ∷ rest' → map f xs ++ rest ≡ whole → map f xs' ++ rest' ≡ whole
map_more f xs xs' a b rest rest' whole grown is left h =
    ap (λ l. map f l ++ rest') grown ∙ moved f xs a b rest' is ∙ ap (λ l. map f xs ++ l) (sym left) ∙ h
  where
    moved : {A B : Type 0} (f : A → B) (xs : List A) (a : A) (b : B) (rest : List B) → f a ≡ b → map f (xs ++ a ∷ []) ++ rest ≡ map f xs ++ b ∷ rest
    moved f [] a b rest is = ap (λ x. x ∷ rest) is
    moved f (x ∷ xs) a b rest is = ap (λ l. f x ∷ l) (moved f xs a b rest is)

sum_map : {A B : Type 0} (f : A → List B) (xs : List A) → sum (map (λ a. length (f a)) xs) ≡ sum (map (λ l. length l) (map f xs))
sum_map f [] = refl
sum_map f (a ∷ xs) =
    sum_by-cons (λ n. n) (length (f a)) (map (λ z. length (f z)) xs)
    ∙ ap (λ n. length (f a) + n) (sum_map f xs)
    ∙ sym (sum_by-cons (λ n. n) (length (f a)) (map (λ l. length l) (map f xs)))

module _ {J X E : Type 0} (needs : J → Known E → Type 0) (gives : J → Known E → X → Known E → Type 0) where
  pub as_many : (ls : List (List J)) (ps : List (Known E)) → AllReady needs gives ls ps → length ps ≡ length ls
  as_many [] [] h = refl
  as_many [] (p ∷ ps) h = absurd h
  as_many (l ∷ ls) [] h = absurd h
  as_many (l ∷ ls) (p ∷ ps) h = ap suc (as_many ls ps h.1)

  ran_length : (js : List J) (xs : List X) (p q : Known E) → Ran needs gives js xs p q → length xs ≡ length js
  ran_length [] [] p q r = refl
  ran_length [] (x ∷ xs) p q r = absurd r
  ran_length (j ∷ js) [] p q r = absurd r
  ran_length (j ∷ js) (x ∷ xs) p q r = ap suc (ran_length js xs r.0 q r.2)

  module _ {L : Type 0} (pass : L → Known E) (jobs : L → List J) (ends : L → List X) where
    pub lane_ready : (ls : List L) → AllReady needs gives (map jobs ls) (map pass ls) → All (λ l. ends l ≡ []) ls → (k : ℕ) (d : L) → k < length ls
        → Ready needs gives (jobs (slice_index_or ls k d)) (pass (slice_index_or ls k d)) × (ends (slice_index_or ls k d) ≡ [])
    lane_ready [] h a k d lt = absurd (omega arith)
    lane_ready (l ∷ ls) h a zero d lt = (h.0, a 0 l (omega arith))
    lane_ready (l ∷ ls) h a (suc k) d lt = lane_ready ls h.1 (λ i e b. a (suc i) e (omega arith)) k d (omega arith)

    -- what holds of each lane, before and after
    abbrev EachRan : List L → List L → Type 0
    EachRan ls ms = (k : ℕ) (d : L) → k < length ls → Ran needs gives (jobs (slice_index_or ls k d)) (ends (slice_index_or ms k d)) (pass (slice_index_or ls k d)) (pass (slice_index_or ms k d))

    pub lanes_ran : (ls ms : List L) → length ms ≡ length ls → EachRan ls ms → AllRan needs gives (map jobs ls) (flat_map ends ms) (map pass ls) (map pass ms)
    lanes_ran [] [] e h = refl
    lanes_ran [] (m ∷ ms) e h = absurd (omega arith)
    lanes_ran (l ∷ ls) [] e h = absurd (omega arith)
    lanes_ran (l ∷ ls) (m ∷ ms) e h = (ends m, flat_map ends ms, refl, h 0 l (omega arith), lanes_ran ls ms (omega arith) (λ k d lt. h (suc k) d (omega arith)))

    as_many_ends : (ls ms : List L) → length ms ≡ length ls → EachRan ls ms → sum (map (λ m. length (ends m)) ms) ≡ sum (map (λ l. length (jobs l)) ls)
    as_many_ends [] [] e h = refl
    as_many_ends [] (m ∷ ms) e h = absurd (omega arith)
    as_many_ends (l ∷ ls) [] e h = absurd (omega arith)
    as_many_ends (l ∷ ls) (m ∷ ms) e h =
        let one = ran_length (jobs l) (ends m) (pass l) (pass m) (h 0 l (omega arith)) in
        let rest = as_many_ends ls ms (omega arith) (λ k d lt. h (suc k) d (omega arith)) in
        sum_by-cons (λ n. n) (length (ends m)) (map (λ z. length (ends z)) ms)
        ∙ omega (arith, one, rest)
        ∙ sym (sum_by-cons (λ n. n) (length (jobs l)) (map (λ z. length (jobs z)) ls))

    -- the lanes have as many ends as the lists have jobs
    pub count_ends : {V : Type 0} (items : V → List J) (vs : List V) (ls ms : List L) → map jobs ls ≡ map items vs → length ms ≡ length ls → EachRan ls ms → sum (map (λ m. length (ends m)) ms) ≡ sum (map (λ v. length (items v)) vs)
    count_ends items vs ls ms same e h = as_many_ends ls ms e h ∙ sum_map jobs ls ∙ ap (λ xs. sum (map (λ l. length l) xs)) same ∙ sym (sum_map items vs)

    pub ready_lanes : (ls now : List L) (js : List (List J)) (ps : List (Known E)) → map jobs ls ≡ js → map pass ls ≡ ps → now ≡ ls → All (λ l. ends l ≡ []) ls → AllReady needs gives js ps → (k : ℕ) (d : L) → k < length now
        → Ready needs gives (jobs (slice_index_or now k d)) (pass (slice_index_or now k d)) × (ends (slice_index_or now k d) ≡ [])
    ready_lanes ls now js ps e f same fresh h =
        let ready : AllReady needs gives (map jobs ls) (map pass ls) = subst (λ z. AllReady needs gives z (map pass ls)) (sym e) (subst (λ z. AllReady needs gives js z) (sym f) h) in
        subst (λ (l : List L). (k : ℕ) (d : L) → k < length l → Ready needs gives (jobs (slice_index_or l k d)) (pass (slice_index_or l k d)) × (ends (slice_index_or l k d) ≡ [])) (sym same) (lane_ready ls ready fresh)

    -- `ls` are the lanes before, `ms` after, and `whole` is the vector that has them again
    pub ran_lanes : (ls now ms whole : List L) (js : List (List J)) (ps qs : List (Known E)) (xs : List X) → map jobs ls ≡ js → map pass ls ≡ ps → now ≡ ls → whole ≡ ms → qs ≡ map pass whole → xs ≡ flat_map ends whole → length ms ≡ length now → EachRan now ms
        → AllRan needs gives js xs ps qs
    ran_lanes ls now ms whole js ps qs xs e f same back q x len h =
        let ran : AllRan needs gives (map jobs ls) (flat_map ends ms) (map pass ls) (map pass ms) = lanes_ran ls ms (len ∙ ap length same) (subst (λ (l : List L). EachRan l ms) same h) in
        subst (λ (z : List (Known E)). AllRan needs gives js xs ps z) (sym (q ∙ ap (map pass) back))
        (subst (λ (z : List (Known E)). AllRan needs gives js xs z (map pass ms)) f
        (subst (λ (z : List (List J)). AllRan needs gives z xs (map pass ls) (map pass ms)) e
        (subst (λ (z : List X). AllRan needs gives (map jobs ls) z (map pass ls) (map pass ms)) (sym (x ∙ ap (flat_map ends) back)) ran)))

    pub count_lanes : {V : Type 0} (items : V → List J) (vs : List V) (ls now ms whole : List L) → map jobs ls ≡ map items vs → now ≡ ls → whole ≡ ms → length ms ≡ length now → EachRan now ms → sum (map (λ m. length (ends m)) whole) ≡ sum (map (λ v. length (items v)) vs)
    count_lanes items vs ls now ms whole e same back len h =
        ap (λ z. sum (map (λ m. length (ends m)) z)) back ∙ count_ends items vs ls ms e (len ∙ ap length same) (subst (λ (l : List L). EachRan l ms) same h)

-- a vector whose elements were lent as a slice, and came back as many
pub whole_again : {L : Type 0} (n : ℕ) (now old : List L) → length now ≡ length old → length old ≡ n → take n (now ++ drop (length now) old) ≡ now
whole_again zero [] [] e f = refl
whole_again (suc n) [] [] e f = absurd (omega arith)
whole_again n [] (y ∷ ys) e f = absurd (omega arith)
whole_again n (x ∷ xs) [] e f = absurd (omega arith)
whole_again zero (x ∷ xs) (y ∷ ys) e f = absurd (omega arith)
whole_again (suc n) (x ∷ xs) (y ∷ ys) e f = ap (λ l. x ∷ l) (whole_again n xs ys (omega arith) (omega arith))

pub enough : (count count' room : ℕ) → count ≡ count' → room ≡ count' → count ≤ room
enough count count' room e f = omega arith
