-- The results of a plan as those of an allocation: they make its grants again, and each claim has few.
use Rattle.std.proofs.Common.{ℕ, suc, ◌+◌, ◌<◌, ◌≤◌, ◌≡◌, ◌≢◌, List, [], ◌∷◌, ◌++◌, Bool, true, false, cond, eqb, length, map, filter, refl, sym, ap, ◌∙◌, arith, append_assoc, append-nil}
use Rattle.std.specs.Bool.{beq}
use Rattle.std.specs.List.{count_by}
use Rattle.std.proofs.lemmas.Bool.Decides.{nat_tests}
use Rattle.std.proofs.lemmas.List.{length-map, map-append}
use Rattle.std.proofs.lemmas.List.Elements.{filter-append}
use Rattle.std.proofs.lemmas.List.Sums.{count_by-le-length, sum_by-append, sum_by-cons}
use Rattle.object_fields.specs.declared.key.DeviceId.{DeviceId}
use Rattle.object_fields.specs.declared.key.Key.{Key}
use Rattle.api_claim.specs.declared.types.ResourceClaim.{ResourceClaim}
use Rattle.pool_view.specs.Names.{text_eq}
use Rattle.cluster.specs.declared.plan.DeviceResult.{DeviceResult}
use Rattle.cluster.specs.declared.plan.Grant.{Grant}
use Rattle.allocations.specs.Input.{device_result, grant_of, grants_by}
use Rattle.request_rules.specs.Allocation.{Result}
use Rattle.request_rules.specs.Grants.{grants_from, grants_of, named_result, results_at}
use Rattle.request_rules.specs.Input.{SearchInput}
use Rattle.request_rules.specs.Lists.{Each}
use Rattle.request_rules.specs.Names.{result_name}
use Rattle.request_rules.specs.Problem.{most_results}
use Rattle.plan_rules.specs.Chosen.{Due, asked_in, dues_for, dues_from}
use Rattle.plan_rules.specs.Shaped.{is_for}
use Rattle.plan_rules.proofs.Cuts.{AllShaped, labels_above, labels_in, results_for}
use Rattle.plan_rules.proofs.Elements.{each_join, each_left, each_right, each_to_map}
use Rattle.plan_rules.proofs.Tests.{at_most, left_of, number_is, other_number, right_of, same_from_beq, same_from_key_eq, same_from_text_eq, same_number}

-- a result as an allocation has it
abbrev pub result_for : Due → Result
result_for d = record { label = d.asked.label; device = d.result.device }

same_result : (n m : List ℕ) (d : DeviceId) (a b : Bool) → n ≡ m → a ≡ b → ◌≡◌ {A = DeviceResult} (record { name = n; device = d; admin = a }) (record { name = m; device = d; admin = b })
same_result n m d a b e f = cc

pub admin_is : (d : Due) → is_for d.asked d.result ≡ true → d.result.admin ≡ d.asked.label.admin
admin_is d e = same_from_beq d.result.admin d.asked.label.admin (right_of (text_eq (result_name d.asked.label) d.result.name) (beq d.result.admin d.asked.label.admin) e)

result_again : (d : Due) → is_for d.asked d.result ≡ true → device_result (named_result (result_for d)) ≡ d.result
result_again d e =
    same_result (result_name d.asked.label) d.result.name d.result.device d.asked.label.admin d.result.admin
    (same_from_text_eq (result_name d.asked.label) d.result.name (left_of (text_eq (result_name d.asked.label) d.result.name) (beq d.result.admin d.asked.label.admin) e))
    (sym (admin_is d e))

results_again : (ds : List Due) → Each (λ d. is_for d.asked d.result ≡ true) ds → map device_result (map named_result (map result_for ds)) ≡ map (λ d. d.result) ds
results_again [] h = refl
results_again (d ∷ ds) h =
    ap (λ (r : DeviceResult). r ∷ map device_result (map named_result (map result_for ds))) (result_again d (h 0 d refl))
    ∙ ap (λ (l : List DeviceResult). d.result ∷ l) (results_again ds (λ i x e. h (suc i) x e))

-- ---- the results of a claim among all

filter_none : {X : Type 0} (p : X → Bool) (xs : List X) → Each (λ x. p x ≡ false) xs → filter p xs ≡ []
filter_none p [] h = refl
filter_none p (x ∷ xs) h = ap (λ (b : Bool). cond b (x ∷ filter p xs) (filter p xs)) (h 0 x refl) ∙ filter_none p xs (λ i y e. h (suc i) y e)

filter_all : {X : Type 0} (p : X → Bool) (xs : List X) → Each (λ x. p x ≡ true) xs → filter p xs ≡ xs
filter_all p [] h = refl
filter_all p (x ∷ xs) h = ap (λ (b : Bool). cond b (x ∷ filter p xs) (filter p xs)) (h 0 x refl) ∙ ap (λ l. x ∷ l) (filter_all p xs (λ i y e. h (suc i) y e))

less_number : (a b : ℕ) → a < b → eqb a b ≡ false
less_number a b h = grind (arith, nat_tests, h)

greater_number : (a b : ℕ) → b < a → eqb a b ≡ false
greater_number a b h = grind (arith, nat_tests, h)

pub results_are : (i : ℕ) (before mine rest : List Result) → Each (λ r. r.label.claim < i) before → Each (λ r. r.label.claim ≡ i) mine → Each (λ r. i + 1 ≤ r.label.claim) rest
    → results_at i (before ++ (mine ++ rest)) ≡ mine
results_are i before mine rest low same high =
    let p : Result → Bool = λ r. eqb r.label.claim i in
    filter-append p before (mine ++ rest)
    ∙ ap (λ (l : List Result). l ++ filter p (mine ++ rest)) (filter_none p before (λ j r e. less_number r.label.claim i (low j r e)))
    ∙ filter-append p mine rest
    ∙ ap (λ (l : List Result). l ++ filter p rest) (filter_all p mine (λ j r e. same_number r.label.claim i (same j r e)))
    ∙ ap (λ (l : List Result). mine ++ l) (filter_none p rest (λ j r e. greater_number r.label.claim i (let h = high j r e in omega (arith, h))))
    ∙ append-nil mine

same_grant : (k l : Key) (rs ss : List DeviceResult) → k ≡ l → rs ≡ ss → ◌≡◌ {A = Grant} (record { claim = k; results = rs }) (record { claim = l; results = ss })
same_grant k l rs ss e f = cc

cut_is : (w : SearchInput) (i : ℕ) (cs : List ResourceClaim) (gs : List Grant) (before : List Result) → Each (λ r. r.label.claim < i) before → AllShaped w i cs gs
    → Each (λ d. is_for d.asked d.result ≡ true) (dues_from w i cs gs) → map grant_of (grants_from i cs (before ++ map result_for (dues_from w i cs gs))) ≡ gs
cut_is w i [] [] before low s h = refl
cut_is w i [] (g ∷ gs) before low s h = absurd s
cut_is w i (c ∷ cs) [] before low s h = absurd s
cut_is w i (c ∷ cs) (g ∷ gs) before low s h =
    let ds = dues_for w c.key (asked_in i c g.results) g.results in
    let es = dues_from w (i + 1) cs gs in
    let mine : List Result = map result_for ds in
    let rest : List Result = map result_for es in
    let whole : before ++ map result_for (ds ++ es) ≡ before ++ (mine ++ rest) = ap (λ (l : List Result). before ++ l) (map-append result_for ds es) in
    let same : Each (λ r. r.label.claim ≡ i) mine = each_to_map result_for (λ (r : Result). r.label.claim ≡ i) ds (labels_in w i c g.results) in
    let high : Each (λ r. i + 1 ≤ r.label.claim) rest = each_to_map result_for (λ (r : Result). i + 1 ≤ r.label.claim) es (labels_above w (i + 1) cs gs) in
    let first : map device_result (map named_result mine) ≡ g.results = results_again ds (each_left (λ (d : Due). is_for d.asked d.result ≡ true) ds es h) ∙ results_for w c.key (asked_in i c g.results) g.results s.0.parts in
    let later = cut_is w (i + 1) cs gs (before ++ mine)
    (each_join (λ (r : Result). r.label.claim < i + 1) before mine (λ j r e. let k = low j r e in omega (arith, k)) (λ j r e. let k = same j r e in omega (arith, k))) s.1
    (each_right (λ (d : Due). is_for d.asked d.result ≡ true) ds es h) in
    ap (λ (l : List Result). map grant_of (grants_from i (c ∷ cs) l)) whole
    ∙ ap (λ (l : List Result). grant_of (record { claim = c.key; results = map named_result l }) ∷ map grant_of (grants_from (i + 1) cs (before ++ (mine ++ rest)))) (results_are i before mine rest low same high)
    ∙ ap (λ (z : Grant). z ∷ map grant_of (grants_from (i + 1) cs (before ++ (mine ++ rest)))) (same_grant c.key g.claim (map device_result (map named_result mine)) g.results (sym (same_from_key_eq g.claim c.key s.0.key)) first)
    ∙ ap (λ (l : List Result). g ∷ map grant_of (grants_from (i + 1) cs l)) (sym (append_assoc before mine rest))
    ∙ ap (λ (l : List Grant). g ∷ l) later

-- cut by claims, the results are the grants
pub grants_again : (w : SearchInput) (gs : List Grant) → AllShaped w 0 w.claims gs → Each (λ d. is_for d.asked d.result ≡ true) (dues_from w 0 w.claims gs)
    → gs ≡ grants_by w (map result_for (dues_from w 0 w.claims gs))
unfolding grants_by grants_of
grants_again w gs s h = sym (cut_is w 0 w.claims gs [] (λ i r e. absurd (cc)) s h)

-- ---- how many results a claim has

count_none : {X : Type 0} (p : X → Bool) (xs : List X) → Each (λ x. p x ≡ false) xs → count_by p xs ≡ 0
count_none p [] h = refl
count_none p (x ∷ xs) h =
    let rest = count_none p xs (λ i y e. h (suc i) y e) in
    let all : count_by p (x ∷ xs) ≡ 0 + count_by p xs = sum_by-cons (λ x. cond (p x) 1 0) x xs ∙ ap (λ (b : Bool). cond b 1 0 + count_by p xs) (h 0 x refl) in
    omega (arith, all, rest)

other_claims : (j : ℕ) (ds : List Due) → Each (λ d. d.asked.label.claim ≢ j) ds → count_by (λ r. eqb r.label.claim j) (map result_for ds) ≡ 0
other_claims j ds h =
    count_none (λ (r : Result). eqb r.label.claim j) (map result_for ds)
    (each_to_map result_for (λ (r : Result). eqb r.label.claim j ≡ false) ds (λ n d e. other_number d.asked.label.claim j (h n d e)))

few_step : (w : SearchInput) (i j : ℕ) (ds es : List Due) (b : Bool) → eqb i j ≡ b → i ≤ j → length ds ≤ most_results → Each (λ d. d.asked.label.claim ≡ i) ds → Each (λ d. i + 1 ≤ d.asked.label.claim) es
    → (i + 1 ≤ j → count_by (λ r. eqb r.label.claim j) (map result_for es) ≤ most_results)
    → count_by (λ r. eqb r.label.claim j) (map result_for ds) + count_by (λ r. eqb r.label.claim j) (map result_for es) ≤ most_results
few_step w i j ds es true e h few same high rest =
    let f = number_is i j e in
    let none = other_claims j es (λ n d g k. let l = high n d g in absurd (omega (arith, l, f, k))) in
    let most = count_by-le-length (λ (r : Result). eqb r.label.claim j) (map result_for ds) in
    let n = length-map ds result_for in
    omega (arith, none, most, n, few)
few_step w i j ds es false e h few same high rest =
    let f : i + 1 ≤ j = grind (arith, nat_tests, e, h) in
    let none = other_claims j ds (λ n d g k. let l = same n d g in absurd (omega (arith, l, f, k))) in
    let most = rest f in
    omega (arith, none, most)

few_from : (w : SearchInput) (i : ℕ) (cs : List ResourceClaim) (gs : List Grant) → AllShaped w i cs gs → (j : ℕ) → i ≤ j → count_by (λ r. eqb r.label.claim j) (map result_for (dues_from w i cs gs)) ≤ most_results
few_from w i [] gs s j h = omega arith
few_from w i (c ∷ cs) [] s j h = omega arith
few_from w i (c ∷ cs) (g ∷ gs) s j h =
    let ds = dues_for w c.key (asked_in i c g.results) g.results in
    let es = dues_from w (i + 1) cs gs in
    let n : length ds ≡ length g.results = sym (length-map ds (λ (d : Due). d.result)) ∙ ap length (results_for w c.key (asked_in i c g.results) g.results s.0.parts) in
    let m = at_most (length g.results) most_results s.0.few in
    let e : count_by (λ r. eqb r.label.claim j) (map result_for (ds ++ es)) ≡ count_by (λ r. eqb r.label.claim j) (map result_for ds) + count_by (λ r. eqb r.label.claim j) (map result_for es) =
    ap (count_by (λ (r : Result). eqb r.label.claim j)) (map-append result_for ds es) ∙ sum_by-append (λ (r : Result). cond (eqb r.label.claim j) 1 0) (map result_for ds) (map result_for es) in
    let k = few_step w i j ds es (eqb i j) refl h (omega (arith, n, m)) (labels_in w i c g.results) (labels_above w (i + 1) cs gs) (λ l. few_from w (i + 1) cs gs s.1 j l) in
    omega (arith, e, k)

-- no claim has more results than it may have
pub few_all : (w : SearchInput) (gs : List Grant) → AllShaped w 0 w.claims gs → (j : ℕ) → count_by (λ r. eqb r.label.claim j) (map result_for (dues_from w 0 w.claims gs)) ≤ most_results
few_all w gs s j = few_from w 0 w.claims gs s j (omega arith)
