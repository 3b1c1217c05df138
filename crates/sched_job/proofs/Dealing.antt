-- What is dealt to all workers is all works.
use Rattle.std.proofs.Common.{ℕ, zero, suc, ◌≡◌, ◌∙◌, ◌+◌, ◌%◌, ◌≤◌, ◌<◌, ◌++◌, ◌⊎◌, inl, inr, ⊎_elim, List, [], ◌∷◌, Bool, true, false, cond, eqb, ◌||◌, map, get_or, set, length, refl, sym, ap, subst, arith, eq-eqb, eqb-true, mod-lt}
use Rattle.std.proofs.lemmas.Bool.Decides.{nat_tests}
use Rattle.std.specs.List.{list_any}
use Rattle.std.specs.Prelude.{nat_eq}
use Rattle.turn_lock.specs.Places.{times}
use Rattle.sched_job.specs.declared.work.Work.{Work}
use Rattle.sched_job.specs.Steps.{Differ, jobs_of}
use Rattle.sched_job.specs.declared.member.Member.{Member}
use Rattle.std.proofs.lemmas.List.{get_or-map, get_or-set_same, get_or-set_other, length-map, map-set}
use Rattle.cluster.specs.declared.entry.Entry.{Entry}
use Rattle.turn_lock.specs.Known.{Opened}
use Rattle.sched_job.specs.Dealt.{AreMembers, IsMember, dealt, works_in}
use Rattle.sched_job.specs.Together.{In, SameWorks}
use Rattle.sched_job.proofs.Laning.{all_works}

-- ---- whose a work is

dealt_same : (k n i : ℕ) (w : Work) (ws : List Work) → eqb (i % n) k ≡ true → dealt k n i (w ∷ ws) ≡ w ∷ dealt k n (i + 1) ws
dealt_same k n i w ws e = ap (λ (b : Bool). cond b (w ∷ dealt k n (i + 1) ws) (dealt k n (i + 1) ws)) e

in_if : (b : Bool) (w v : Work) (vs : List Work) → In w vs → In w (cond b (v ∷ vs) vs)
in_if true w v vs i = inr i
in_if false w v vs i = i

if_in : (b : Bool) (w v : Work) (vs : List Work) → In w (cond b (v ∷ vs) vs) → (w ≡ v) ⊎ In w vs
if_in true w v vs i = i
if_in false w v vs i = inr i

dealt_has : (n i : ℕ) (w : Work) (ws : List Work) → 0 < n → In w ws → (k : ℕ) × (k < n) × In w (dealt k n i ws)
dealt_has n i w [] some there = absurd there
dealt_has n i w (v ∷ vs) some (inl e) = (i % n, mod-lt i some, subst (In w) (sym (dealt_same (i % n) n i v vs (eq-eqb (i % n) (i % n) refl))) (inl e))
dealt_has n i w (v ∷ vs) some (inr there) =
    let r = dealt_has n (i + 1) w vs some there in
    (r.0, r.1, in_if (eqb (i % n) r.0) w v (dealt r.0 n (i + 1) vs) r.2)

dealt_of : (k n i : ℕ) (w : Work) (ws : List Work) → In w (dealt k n i ws) → In w ws
dealt_of k n i w [] there = there
dealt_of k n i w (v ∷ vs) there =
    ⊎_elim {C = In w (v ∷ vs)} (λ e. inl e) (λ d. inr (dealt_of k n (i + 1) w vs d)) (if_in (eqb (i % n) k) w v (dealt k n (i + 1) vs) there)

-- ---- a work is dealt

dealt_other : (k n i : ℕ) (w : Work) (ws : List Work) → eqb (i % n) k ≡ false → dealt k n i (w ∷ ws) ≡ dealt k n (i + 1) ws
dealt_other k n i w ws e = ap (λ (b : Bool). cond b (w ∷ dealt k n (i + 1) ws) (dealt k n (i + 1) ws)) e

works_push : {X : Type 0} (ms : List (Member X)) (m : Member X) (ws : List Work) → works_in (ms ++ m ∷ []) ++ ws ≡ works_in ms ++ m.work ∷ ws
works_push [] m ws = refl
works_push (x ∷ xs) m ws = ap (λ (vs : List Work). x.work ∷ vs) (works_push xs m ws)

members_push : {X : Type 0} (lock : Opened Entry) (budget : ℕ) (ms : List (Member X)) (m : Member X) → AreMembers lock budget ms → IsMember lock budget m → AreMembers lock budget (ms ++ m ∷ [])
members_push lock budget [] m are is = (is, tt)
members_push lock budget (x ∷ xs) m are is = (are.0, members_push lock budget xs m are.1 is)

module _ {X V : Type 0} (f : V → List (Member X)) (at : ℕ) (vs : List V) (v v' : V) (m : Member X) (lt : at < length vs) (is : v ≡ get_or vs at v) (now : f v' ≡ f v ++ m ∷ []) where
  pushed_at : (d : List (Member X)) → get_or (map f (set vs at v')) at d ≡ get_or (map f vs) at d ++ m ∷ []
  pushed_at d =
      ap (λ (ls : List (List (Member _))). get_or ls at d) (map-set f vs at v') ∙ get_or-set_same (map f vs) at (f v') d ((let l = length-map vs f in omega arith)) ∙ now
      ∙ ap (λ (ms : List (Member _)). ms ++ m ∷ []) (ap f is ∙ sym (get_or-map f vs at v d lt))

  other_at : (k : ℕ) (d : List (Member X)) → eqb at k ≡ false → get_or (map f (set vs at v')) k d ≡ get_or (map f vs) k d
  other_at k d e = ap (λ (ls : List (List (Member _))). get_or ls k d) (map-set f vs at v') ∙ get_or-set_other (map f vs) at k (f v') d (grind (arith, nat_tests))

pub dealt_step : {X V : Type 0} (f : V → List (Member X)) (n i : ℕ) (vs : List V) (v v' : V) (m : Member X) (before ws all : List Work) → before ≡ m.work ∷ ws → 0 < n → length vs ≡ n → v ≡ get_or vs (i % n) v → f v' ≡ f v ++ m ∷ []
    → ((k : ℕ) (d : List (Member X)) → k < n → works_in (get_or (map f vs) k d) ++ dealt k n i before ≡ dealt k n 0 all)
    → (k : ℕ) (d : List (Member X)) → k < n → works_in (get_or (map f (set vs (i % n) v')) k d) ++ dealt k n (i + 1) ws ≡ dealt k n 0 all
dealt_step f n i vs v v' m before ws all first some len is now so k d lt = pick (eqb (i % n) k) refl
  where
    was : works_in (get_or (map f vs) k d) ++ dealt k n i (m.work ∷ ws) ≡ dealt k n 0 all
    was = subst (λ (xs : List Work). works_in (get_or (map f vs) k d) ++ dealt k n i xs ≡ dealt k n 0 all) first (so k d lt)

    within : i % n < length vs
    within = let l = mod-lt i some in omega arith

    pick : (b : Bool) → eqb (i % n) k ≡ b → works_in (get_or (map f (set vs (i % n) v')) k d) ++ dealt k n (i + 1) ws ≡ dealt k n 0 all
    pick true t =
        let e : i % n ≡ k = eqb-true (i % n) k t in
        let here : get_or (map f (set vs (i % n) v')) k d ≡ get_or (map f vs) k d ++ m ∷ [] = subst (λ (x : ℕ). get_or (map f (set vs (i % n) v')) x d ≡ get_or (map f vs) x d ++ m ∷ []) e (pushed_at f (i % n) vs v v' m within is now d) in
        ap (λ (ms : List (Member _)). works_in ms ++ dealt k n (i + 1) ws) here ∙ works_push (get_or (map f vs) k d) m (dealt k n (i + 1) ws) ∙ ap (λ (xs : List Work). works_in (get_or (map f vs) k d) ++ xs) (sym (dealt_same k n i m.work ws t)) ∙ was
    pick false t =
        ap (λ (ms : List (Member _)). works_in ms ++ dealt k n (i + 1) ws) (other_at f (i % n) vs v v' m within is now k d t) ∙ ap (λ (xs : List Work). works_in (get_or (map f vs) k d) ++ xs) (sym (dealt_other k n i m.work ws t)) ∙ was

pub members_step : {X V : Type 0} (f : V → List (Member X)) (lock : Opened Entry) (budget n at : ℕ) (vs : List V) (v v' : V) (m : Member X) → at < n → length vs ≡ n → v ≡ get_or vs at v → f v' ≡ f v ++ m ∷ [] → IsMember lock budget m
    → ((k : ℕ) (d : List (Member X)) → k < n → AreMembers lock budget (get_or (map f vs) k d))
    → (k : ℕ) (d : List (Member X)) → k < n → AreMembers lock budget (get_or (map f (set vs at v')) k d)
members_step f lock budget n at vs v v' m some len is now member so k d lt = pick (eqb at k) refl
  where
    within : at < length vs
    within = omega arith

    pick : (b : Bool) → eqb at k ≡ b → AreMembers lock budget (get_or (map f (set vs at v')) k d)
    pick true t =
        let e : at ≡ k = eqb-true at k t in
        let here : get_or (map f (set vs at v')) k d ≡ get_or (map f vs) k d ++ m ∷ [] = subst (λ (x : ℕ). get_or (map f (set vs at v')) x d ≡ get_or (map f vs) x d ++ m ∷ []) e (pushed_at f at vs v v' m within is now d) in
        subst (AreMembers lock budget) (sym here) (members_push lock budget (get_or (map f vs) k d) m (so k d lt) member)
    pick false t = subst (AreMembers lock budget) (sym (other_at f at vs v v' m within is now k d t)) (so k d lt)

-- ---- all lists

in_left : (w : Work) (xs ys : List Work) → In w xs → In w (xs ++ ys)
in_left w [] ys i = absurd i
in_left w (x ∷ xs) ys (inl e) = inl e
in_left w (x ∷ xs) ys (inr i) = inr (in_left w xs ys i)

in_right : (w : Work) (xs ys : List Work) → In w ys → In w (xs ++ ys)
in_right w [] ys i = i
in_right w (x ∷ xs) ys i = inr (in_right w xs ys i)

in_cases : (w : Work) (xs ys : List Work) → In w (xs ++ ys) → In w xs ⊎ In w ys
in_cases w [] ys i = inr i
in_cases w (x ∷ xs) ys (inl e) = inl (inl e)
in_cases w (x ∷ xs) ys (inr i) = ⊎_elim {C = In w (x ∷ xs) ⊎ In w ys} (λ a. inl (inr a)) (λ b. inr b) (in_cases w xs ys i)

in_list : {X : Type 0} (w : Work) (ls : List (List (Member X))) (k : ℕ) (d : List (Member X)) → k < length ls → In w (works_in (get_or ls k d)) → In w (all_works ls)
in_list w [] k d lt i = absurd (omega arith)
in_list w (l ∷ ls) zero d lt i = in_left w (works_in l) (all_works ls) i
in_list w (l ∷ ls) (suc k) d lt i = in_right w (works_in l) (all_works ls) (in_list w ls k d (omega arith) i)

list_of : {X : Type 0} (w : Work) (ls : List (List (Member X))) (d : List (Member X)) → In w (all_works ls) → (k : ℕ) × (k < length ls) × In w (works_in (get_or ls k d))
list_of w [] d i = absurd i
list_of w (l ∷ ls) d i =
    ⊎_elim {C = (k : ℕ) × (k < length (l ∷ ls)) × In w (works_in (get_or (l ∷ ls) k d))}
    (λ a. (0, omega arith, a))
    (λ b. let r = list_of w ls d b in (suc r.0, omega arith, r.2))
    (in_cases w (works_in l) (all_works ls) i)

-- ---- how often a job is dealt

-- f of each worker before c, added up
abbrev sum_to : (ℕ → ℕ) → ℕ → ℕ
sum_to f zero = 0
sum_to f (suc c) = sum_to f c + f c

sum_same : (f g : ℕ → ℕ) (c : ℕ) → ((k : ℕ) → k < c → f k ≡ g k) → sum_to f c ≡ sum_to g c
sum_same f g zero e = refl
sum_same f g (suc c) e = let r = sum_same f g c (λ k lt. e k (omega arith)) in let s = e c (omega arith) in omega arith

sum_none : (c : ℕ) → sum_to (λ k. 0) c ≡ 0
sum_none zero = refl
sum_none (suc c) = let r = sum_none c in omega arith

sum_before : (f g : ℕ → ℕ) (m a c : ℕ) → ((k : ℕ) → eqb m k ≡ false → f k ≡ g k) → c ≤ m → sum_to f c ≡ sum_to g c
sum_before f g m a zero other le = refl
sum_before f g m a (suc c) other le =
    let r = sum_before f g m a c other (omega arith) in
    let ne : eqb m c ≡ false = grind (arith, nat_tests) in
    let s = other c ne in
    omega arith

-- one of them has a more
sum_one : (f g : ℕ → ℕ) (m a c : ℕ) → ((k : ℕ) → eqb m k ≡ false → f k ≡ g k) → f m ≡ a + g m → m < c → sum_to f c ≡ a + sum_to g c
sum_one f g m a zero other here lt = absurd (omega arith)
sum_one f g m a (suc c) other here lt = pick (eqb m c) refl (λ before. sum_one f g m a c other here before)
  where
    pick : (b : Bool) → eqb m c ≡ b → (m < c → sum_to f c ≡ a + sum_to g c) → sum_to f c + f c ≡ a + (sum_to g c + g c)
    pick true t further =
        let e : m ≡ c = eqb-true m c t in
        let r = sum_before f g m a c other (omega arith) in
        let h : f c ≡ a + g c = subst (λ (k : ℕ). f k ≡ a + g k) e here in
        omega arith
    pick false t further =
        let lt' : m < c = grind (arith, nat_tests) in
        let r = further lt' in
        let s = other c t in
        omega arith

abbrev count : ℕ → List Work → ℕ
count job ws = times job (jobs_of ws)

count_if : (b : Bool) (job : ℕ) (w : Work) (ws : List Work) → b ≡ false → count job (cond b (w ∷ ws) ws) ≡ count job ws
count_if b job w ws e = ap (λ (x : Bool). count job (cond x (w ∷ ws) ws)) e

often : (job n i : ℕ) (ws : List Work) → 0 < n → sum_to (λ k. count job (dealt k n i ws)) n ≡ count job ws
often job n i [] some = sum_none n
often job n i (w ∷ ws) some =
    let r = often job n (i + 1) ws some in
    let s = sum_one (λ k. count job (dealt k n i (w ∷ ws))) (λ k. count job (dealt k n (i + 1) ws)) (i % n) (cond (eqb job w.job) 1 0) n
    (λ k ne. count_if (eqb (i % n) k) job w (dealt k n (i + 1) ws) ne)
    (ap (count job) (dealt_same (i % n) n i w ws (eq-eqb (i % n) (i % n) refl)))
    (mod-lt i some) in
    s ∙ ap (λ (x : ℕ). cond (eqb job w.job) 1 0 + x) r

count_append : (job : ℕ) (xs ys : List Work) → count job (xs ++ ys) ≡ count job xs + count job ys
count_append job [] ys = omega arith
count_append job (x ∷ xs) ys = let r = count_append job xs ys in omega arith

-- the lists one by one, by their index from the end
sum_shift : (f : ℕ → ℕ) (c : ℕ) → sum_to f (suc c) ≡ f 0 + sum_to (λ k. f (suc k)) c
sum_shift f zero = omega arith
sum_shift f (suc c) = let r = sum_shift f c in omega arith

count_lists : {X : Type 0} (job : ℕ) (ls : List (List (Member X))) (d : List (Member X)) → count job (all_works ls) ≡ sum_to (λ k. count job (works_in (get_or ls k d))) (length ls)
count_lists job [] d = refl
count_lists job (l ∷ ls) d =
    let r = count_lists job ls d in
    let a = count_append job (works_in l) (all_works ls) in
    let s = sum_shift (λ k. count job (works_in (get_or (l ∷ ls) k d))) (length ls) in
    a ∙ ap (λ (x : ℕ). count job (works_in l) + x) r ∙ sym s

-- what is in the lists are the works
pub dealt_is_same : {X : Type 0} (n : ℕ) (ls : List (List (Member X))) (ws : List Work) → 0 < n → length ls ≡ n → ((k : ℕ) (d : List (Member X)) → k < n → works_in (get_or ls k d) ≡ dealt k n 0 ws) → SameWorks (all_works ls) ws
dealt_is_same n ls ws some len are = record {
  there = λ w i.
      let r = dealt_has n 0 w ws some i in
      in_list w ls r.0 [] (omega (arith, r.1)) (subst (In w) (sym (are r.0 [] r.1)) r.2);
  back = λ w i.
      let r = list_of w ls [] i in
      dealt_of r.0 n 0 w ws (subst (In w) (are r.0 [] (omega (arith, r.1))) r.2);
  often = λ job.
      count_lists job ls [] ∙ ap (sum_to (λ k. count job (works_in (get_or ls k [])))) len ∙ sum_same (λ k. count job (works_in (get_or ls k []))) (λ k. count job (dealt k n 0 ws)) n (λ k lt. ap (count job) (are k [] lt)) ∙ often job n 0 ws some;
}

-- ---- jobs that differ

or_false : (a b : Bool) → (a || b) ≡ false → (a ≡ false) × (b ≡ false)
or_false true b e = absurd cc
or_false false b e = (refl, e)

none_times : (j : ℕ) (js : List ℕ) → list_any (nat_eq j) js ≡ false → times j js ≡ 0
none_times j [] e = refl
none_times j (k ∷ ks) e =
    let p = or_false (eqb j k) (list_any (nat_eq j) ks) e in
    let first : cond (eqb j k) 1 0 + times j ks ≡ 0 + times j ks = ap (λ (b : Bool). cond b 1 0 + times j ks) p.0 in
    let r = none_times j ks p.1 in
    omega arith

one_if : (b : Bool) → b ≡ true → cond {A = ℕ} b 1 0 ≡ 1
one_if b e = ap (λ (x : Bool). cond {A = ℕ} x 1 0) e

pub none_if : (b : Bool) → b ≡ false → cond {A = ℕ} b 1 0 ≡ 0
none_if b e = ap (λ (x : Bool). cond {A = ℕ} x 1 0) e

pub differ_times : (js : List ℕ) (j : ℕ) → Differ js → times j js ≤ 1
differ_times [] j differ = omega arith
differ_times (k ∷ ks) j differ = pick (eqb j k) refl (differ_times ks j differ.1)
  where
    pick : (b : Bool) → eqb j k ≡ b → times j ks ≤ 1 → cond (eqb j k) 1 0 + times j ks ≤ 1
    pick true t few =
        let e : j ≡ k = eqb-true j k t in
        let none : times j ks ≡ 0 = subst (λ (n : ℕ). times n ks ≡ 0) (sym e) (none_times k ks differ.0) in
        let first = one_if (eqb j k) t in
        omega arith
    pick false t few =
        let first = none_if (eqb j k) t in
        omega arith
