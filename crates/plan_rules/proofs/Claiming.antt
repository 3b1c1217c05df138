-- The grants of an allocation, claim by claim.
use Rattle.std.proofs.Common.{ℕ, suc, ◌+◌, ◌<◌, ◌≤◌, ◌≡◌, ◌≢◌, List, [], ◌∷◌, ◌++◌, Bool, true, cond, eqb, length, map, take, drop, refl, sym, ap, ◌∙◌, subst, arith, append_assoc}
use Rattle.std.specs.List.{count_by}
use Rattle.std.proofs.lemmas.List.{length-map, map-append, take-append-drop}
use Rattle.std.proofs.lemmas.List.Sums.{sum_by-append, sum_by-cons}
use Rattle.walk.specs.Walk.{IsChoice}
use Rattle.api_claim.specs.Limits.{CountKept, EachOf, RequestsKept}
use Rattle.api_claim.specs.declared.types.ResourceClaim.{ResourceClaim}
use Rattle.cluster.specs.declared.plan.DeviceResult.{DeviceResult}
use Rattle.cluster.specs.declared.plan.Grant.{Grant}
use Rattle.allocations.specs.Input.{device_result, grant_of, grants_by}
use Rattle.request_rules.specs.Allocation.{Result, result_of, taken}
use Rattle.request_rules.specs.Asked.{Asked, Wish, asked, asked_by, asked_from, ways_of, wishes_from}
use Rattle.request_rules.specs.Grants.{grants_from, grants_of, named_result}
use Rattle.request_rules.specs.Input.{SearchInput}
use Rattle.request_rules.specs.Lists.{Each, EachTwo, add_some}
use Rattle.request_rules.specs.Problem.{most_results}
use Rattle.request_rules.specs.Rules.{Pick, id_of}
use Rattle.request_rules.specs.Ways.{wishes_in}
use Rattle.plan_rules.specs.Chosen.{asked_in, choice_of}
use Rattle.plan_rules.specs.Shaped.{are_parts}
use Rattle.plan_rules.proofs.Choices.{Follows, add_append, follows_all, follows_next, results_here, way, way_in, ways_same}
use Rattle.plan_rules.proofs.Cuts.{AllShaped, Shaped, claim_by, cuts_for, cuts_from, part_of}
use Rattle.plan_rules.proofs.Elements.{each_join, each_to_map, get-map, two_left, two_right, two_to_map}
use Rattle.plan_rules.proofs.Fitting.{Ids, Parts, asked_again, choice_back, counts_kept, differ_true, parts_again, parts_split, parts_true, picks_true}
use Rattle.plan_rules.proofs.GrantsAgain.{results_are}
use Rattle.plan_rules.proofs.NamesPick.{each_from, labels_taken, shown}
use Rattle.plan_rules.proofs.Tests.{key_eq-same, same_number, test_at_most}

-- ---- cutting at a claim's end

asked_nil : (ts : List Wish) → asked_from ts [] ≡ []
asked_nil [] = refl
asked_nil (t ∷ ts) = refl

pub asked_cut : (qs ts : List Wish) (ks : List ℕ) → asked_from (qs ++ ts) ks ≡ asked_from qs (take (length qs) ks) ++ asked_from ts (drop (length qs) ks)
asked_cut [] ts ks = refl
asked_cut (q ∷ qs) ts [] = sym (asked_nil ts)
asked_cut (q ∷ qs) ts (k ∷ ks) =
    ap (add_some (asked_by q q.request.kind k)) (asked_cut qs ts ks)
    ∙ add_append (asked_by q q.request.kind k) (asked_from qs (take (length qs) ks)) (asked_from ts (drop (length qs) ks))

taken_nil : (asks : List Asked) → taken asks [] ≡ []
taken_nil [] = refl
taken_nil (a ∷ asks) = refl

taken_cut : (xs ys : List Asked) (ls : List (List ℕ)) → taken (xs ++ ys) ls ≡ taken xs (take (length xs) ls) ++ taken ys (drop (length xs) ls)
taken_cut [] ys ls = refl
taken_cut (a ∷ xs) ys [] = sym (taken_nil ys)
taken_cut (a ∷ xs) ys (l ∷ ls) =
    ap (λ (ps : List Pick). map (λ x. record { label = a.label; position = x }) l ++ ps) (taken_cut xs ys ls)
    ∙ sym (append_assoc (map (λ x. record { label = a.label; position = x }) l) (taken xs (take (length xs) ls)) (taken ys (drop (length xs) ls)))

choice_split : (xs ys : List Wish) (ks : List ℕ) → IsChoice (map (λ q. ways_of q.request.kind) (xs ++ ys)) ks
    → IsChoice (map (λ q. ways_of q.request.kind) xs) (take (length xs) ks) × IsChoice (map (λ q. ways_of q.request.kind) ys) (drop (length xs) ks)
choice_split [] ys ks c = (tt, c)
choice_split (x ∷ xs) ys [] c = absurd c
choice_split (x ∷ xs) ys (k ∷ ks) c = let r = choice_split xs ys ks c.1 in ((c.0, r.0), r.1)

-- ---- the grants

abbrev pub asks_in : ℕ → ResourceClaim → List ℕ → List Asked
asks_in i c ks = asked_from (wishes_in i c.key c.requests) (take (length (wishes_in i c.key c.requests)) ks)

abbrev pub picks_in : ℕ → ResourceClaim → List ℕ → List (List ℕ) → List Pick
picks_in i c ks ls = taken (asks_in i c ks) (take (length (asks_in i c ks)) ls)

abbrev pub grant_in : SearchInput → ℕ → ResourceClaim → List ℕ → List (List ℕ) → Grant
grant_in w i c ks ls = record { claim = c.key; results = map (shown w) (picks_in i c ks ls) }

-- the grants of a choice and the positions of its requests
abbrev pub grants_for : SearchInput → ℕ → List ResourceClaim → List ℕ → List (List ℕ) → List Grant
grants_for w i [] ks ls = []
grants_for w i (c ∷ cs) ks ls = grant_in w i c ks ls ∷ grants_for w (i + 1) cs (drop (length (wishes_in i c.key c.requests)) ks) (drop (length (asks_in i c ks)) ls)

abbrev pub picks_of : ℕ → List ResourceClaim → List ℕ → List (List ℕ) → List Pick
picks_of i cs ks ls = taken (asked_from (wishes_from i cs) ks) ls

abbrev pub Differs : SearchInput → Pick → Pick → Type 0
Differs w p q = p.label.claim ≡ q.label.claim → id_of w p ≢ id_of w q

-- what is known of the claims from an index on
pub record Given (w : SearchInput) (i : ℕ) (cs : List ResourceClaim) (ks : List ℕ) (ls : List (List ℕ)) : Type 0 where
  pub choice : IsChoice (map (λ q. ways_of q.request.kind) (wishes_from i cs)) ks
  pub parts : Parts w (asked_from (wishes_from i cs) ks) ls
  pub kept : EachOf (λ c. RequestsKept c.requests) cs
  pub apart : EachTwo (Differs w) (picks_of i cs ks ls)
  pub few : (j : ℕ) → i ≤ j → j < i + length cs → count_by (λ r. eqb r.label.claim j) (map (result_of w) (picks_of i cs ks ls)) ≤ most_results

-- of the first of them
pub record First (w : SearchInput) (i : ℕ) (c : ResourceClaim) (ks : List ℕ) (ls : List (List ℕ)) : Type 0 where
  pub choice : IsChoice (map (λ q. ways_of q.request.kind) (wishes_in i c.key c.requests)) (take (length (wishes_in i c.key c.requests)) ks)
  pub parts : Parts w (asks_in i c ks) (take (length (asks_in i c ks)) ls)
  pub kept : RequestsKept c.requests
  pub apart : EachTwo (Differs w) (picks_in i c ks ls)
  pub few : count_by (λ r. eqb r.label.claim i) (map (result_of w) (picks_in i c ks ls)) ≤ most_results

picks_cut : (i : ℕ) (c : ResourceClaim) (cs : List ResourceClaim) (ks : List ℕ) (ls : List (List ℕ))
    → picks_of i (c ∷ cs) ks ls ≡ picks_in i c ks ls ++ picks_of (i + 1) cs (drop (length (wishes_in i c.key c.requests)) ks) (drop (length (asks_in i c ks)) ls)
picks_cut i c cs ks ls =
    let mine = wishes_in i c.key c.requests in
    ap (λ (asks : List Asked). taken asks ls) (asked_cut mine (wishes_from (i + 1) cs) ks)
    ∙ taken_cut (asks_in i c ks) (asked_from (wishes_from (i + 1) cs) (drop (length mine) ks)) ls

counts_join : (w : SearchInput) (j : ℕ) (xs ys zs : List Pick) → zs ≡ xs ++ ys
    → count_by (λ r. eqb r.label.claim j) (map (result_of w) zs) ≡ count_by (λ r. eqb r.label.claim j) (map (result_of w) xs) + count_by (λ r. eqb r.label.claim j) (map (result_of w) ys)
counts_join w j xs ys zs e =
    ap (λ (l : List Pick). count_by (λ r. eqb r.label.claim j) (map (result_of w) l)) e
    ∙ ap (count_by (λ (r : Result). eqb r.label.claim j)) (map-append (result_of w) xs ys)
    ∙ sum_by-append (λ (r : Result). cond (eqb r.label.claim j) 1 0) (map (result_of w) xs) (map (result_of w) ys)

first_of : (w : SearchInput) (i : ℕ) (c : ResourceClaim) (cs : List ResourceClaim) (ks : List ℕ) (ls : List (List ℕ)) → Given w i (c ∷ cs) ks ls → First w i c ks ls
first_of w i c cs ks ls g =
    let mine = wishes_in i c.key c.requests in
    let rest = wishes_from (i + 1) cs in
    let back = picks_of (i + 1) cs (drop (length mine) ks) (drop (length (asks_in i c ks)) ls) in
    let cut = picks_cut i c cs ks ls in
    record {
      choice = (choice_split mine rest ks g.choice).0;
      parts = (parts_split w (asks_in i c ks) (asked_from rest (drop (length mine) ks)) ls (subst (λ (asks : List Asked). Parts w asks ls) (asked_cut mine rest ks) g.parts)).0;
      kept = g.kept.0;
      apart = two_left (Differs w) (picks_in i c ks ls) back (subst (λ (ps : List Pick). EachTwo (Differs w) ps) cut g.apart);
      few =
          let n = counts_join w i (picks_in i c ks ls) back (picks_of i (c ∷ cs) ks ls) cut in
          let m = g.few i (omega arith) (omega arith) in
          omega (arith, n, m);
    }

rest_of : (w : SearchInput) (i : ℕ) (c : ResourceClaim) (cs : List ResourceClaim) (ks : List ℕ) (ls : List (List ℕ)) → Given w i (c ∷ cs) ks ls
    → Given w (i + 1) cs (drop (length (wishes_in i c.key c.requests)) ks) (drop (length (asks_in i c ks)) ls)
rest_of w i c cs ks ls g =
    let mine = wishes_in i c.key c.requests in
    let rest = wishes_from (i + 1) cs in
    let back = picks_of (i + 1) cs (drop (length mine) ks) (drop (length (asks_in i c ks)) ls) in
    let cut = picks_cut i c cs ks ls in
    record {
      choice = (choice_split mine rest ks g.choice).1;
      parts = (parts_split w (asks_in i c ks) (asked_from rest (drop (length mine) ks)) ls (subst (λ (asks : List Asked). Parts w asks ls) (asked_cut mine rest ks) g.parts)).1;
      kept = g.kept.1;
      apart = two_right (Differs w) (picks_in i c ks ls) back (subst (λ (ps : List Pick). EachTwo (Differs w) ps) cut g.apart);
      few = λ j low high.
          let n = counts_join w j (picks_in i c ks ls) back (picks_of i (c ∷ cs) ks ls) cut in
          let m = g.few j (omega arith) (omega arith) in
          omega (arith, n, m);
    }

-- each chosen request of claims that keep their limits asks for one device at least
pub counts_all : (i : ℕ) (cs : List ResourceClaim) (ks : List ℕ) → EachOf (λ c. RequestsKept c.requests) cs → Each (λ a. CountKept a.ask.mode) (asked_from (wishes_from i cs) ks)
counts_all i [] ks h n a e = absurd (cc)
counts_all i (c ∷ cs) ks h n a e =
    let mine = wishes_in i c.key c.requests in
    let rest = asked_from (wishes_from (i + 1) cs) (drop (length mine) ks) in
    subst (λ (asks : List Asked). Each (λ a. CountKept a.ask.mode) asks) (sym (asked_cut mine (wishes_from (i + 1) cs) ks))
    (each_join (λ (a : Asked). CountKept a.ask.mode) (asks_in i c ks) rest
    (counts_kept i c.key c.requests (take (length mine) ks) h.0)
    (counts_all (i + 1) cs (drop (length mine) ks) h.1)) n a e

-- ---- one claim

claims_asked : (i : ℕ) (c : ResourceClaim) (ks : List ℕ) → Each (λ a. a.label.claim ≡ i) (asked_from (wishes_in i c.key c.requests) ks)
claims_asked i c ks n a e =
    let f = each_from (wishes_in i c.key c.requests) ks n a e in
    let r = get-map (λ r. record { claim = i; key = c.key; request = r }) c.requests f.place f.wish f.wish_is in
    claim_by f.wish f.wish.request.kind f.number a f.asks ∙ sym (ap (λ (q : Wish). q.claim) r.2)

pub claims_in : (i : ℕ) (c : ResourceClaim) (ks : List ℕ) (ls : List (List ℕ)) → Each (λ p. p.label.claim ≡ i) (picks_in i c ks ls)
claims_in i c ks ls = labels_taken (λ l. l.claim ≡ i) (asks_in i c ks) (take (length (asks_in i c ks)) ls) (claims_asked i c (take (length (wishes_in i c.key c.requests)) ks))

count_all : {X : Type 0} (p : X → Bool) (xs : List X) → Each (λ x. p x ≡ true) xs → count_by p xs ≡ length xs
count_all p [] h = refl
count_all p (x ∷ xs) h =
    let rest = count_all p xs (λ i y e. h (suc i) y e) in
    let all : count_by p (x ∷ xs) ≡ 1 + count_by p xs = sum_by-cons (λ x. cond (p x) 1 0) x xs ∙ ap (λ (b : Bool). cond b 1 0 + count_by p xs) (h 0 x refl) in
    omega (arith, all, rest)

way_first : (w : SearchInput) (i : ℕ) (c : ResourceClaim) (ks : List ℕ) (ls : List (List ℕ)) → First w i c ks ls
    → map (way_in (map (shown w) (picks_in i c ks ls))) (wishes_in i c.key c.requests) ≡ take (length (wishes_in i c.key c.requests)) ks
way_first w i c ks ls f = choice_back w i c.key c.requests (take (length (wishes_in i c.key c.requests)) ks) (take (length (asks_in i c ks)) ls) f.kept f.parts f.choice

asked_first : (w : SearchInput) (i : ℕ) (c : ResourceClaim) (ks : List ℕ) (ls : List (List ℕ)) → First w i c ks ls → asked_in i c (map (shown w) (picks_in i c ks ls)) ≡ asks_in i c ks
asked_first w i c ks ls f = asked_again (map (shown w) (picks_in i c ks ls)) (wishes_in i c.key c.requests) (take (length (wishes_in i c.key c.requests)) ks) (way_first w i c ks ls f)

shaped_first : (w : SearchInput) → Ids w → (i : ℕ) (c : ResourceClaim) (ks : List ℕ) (ls : List (List ℕ)) → First w i c ks ls → Shaped w i c (grant_in w i c ks ls)
shaped_first w ids i c ks ls f =
    let ps = picks_in i c ks ls in
    let rs : List DeviceResult = map (shown w) ps in
    let own = claims_in i c ks ls in
    let n : count_by (λ r. eqb r.label.claim i) (map (result_of w) ps) ≡ length (map (result_of w) ps) =
    count_all (λ (r : Result). eqb r.label.claim i) (map (result_of w) ps) (each_to_map (result_of w) (λ (r : Result). eqb r.label.claim i ≡ true) ps (λ j p e. same_number p.label.claim i (own j p e))) in
    let m = length-map ps (result_of w) in
    let l = length-map ps (shown w) in
    let few = f.few in
    record {
      key = key_eq-same c.key;
      picks = picks_true rs (wishes_in i c.key c.requests) (subst (λ (z : List ℕ). IsChoice (map (λ q. ways_of q.request.kind) (wishes_in i c.key c.requests)) z) (sym (way_first w i c ks ls f)) f.choice);
      parts = ap (λ (asks : List Asked). are_parts w asks rs) (asked_first w i c ks ls f) ∙ parts_true w ids (asks_in i c ks) (take (length (asks_in i c ks)) ls) f.parts;
      apart = differ_true rs (two_to_map (shown w) (λ (r s : DeviceResult). r.device ≢ s.device) ps (λ j k p q lt e g. f.apart j k p q lt e g (own j p e ∙ sym (own k q g))));
      few = test_at_most (length rs) most_results (omega (arith, n, m, l, few));
    }

-- ---- all claims

pub shaped_back : (w : SearchInput) → Ids w → (i : ℕ) (cs : List ResourceClaim) (ks : List ℕ) (ls : List (List ℕ)) → Given w i cs ks ls → AllShaped w i cs (grants_for w i cs ks ls)
shaped_back w ids i [] ks ls g = tt
shaped_back w ids i (c ∷ cs) ks ls g = (
  shaped_first w ids i c ks ls (first_of w i c cs ks ls g),
  shaped_back w ids (i + 1) cs (drop (length (wishes_in i c.key c.requests)) ks) (drop (length (asks_in i c ks)) ls) (rest_of w i c cs ks ls g),
)

no_parts : (w : SearchInput) (ks : List ℕ) (ls : List (List ℕ)) → Parts w (asked_from [] ks) ls → [] ≡ ls
no_parts w ks [] p = refl
no_parts w ks (l ∷ ls) p = absurd p

no_choice : (ks : List ℕ) → IsChoice [] ks → [] ≡ ks
no_choice [] c = refl
no_choice (k ∷ ks) c = absurd c

pub parts_back : (w : SearchInput) → Ids w → (i : ℕ) (cs : List ResourceClaim) (ks : List ℕ) (ls : List (List ℕ)) → Given w i cs ks ls → map (part_of w) (cuts_from w i cs (grants_for w i cs ks ls)) ≡ ls
parts_back w ids i [] ks ls g = no_parts w ks ls g.parts
parts_back w ids i (c ∷ cs) ks ls g =
    let mine = wishes_in i c.key c.requests in
    let rs : List DeviceResult = map (shown w) (picks_in i c ks ls) in
    let ks2 = drop (length mine) ks in
    let ls2 = drop (length (asks_in i c ks)) ls in
    let back = cuts_from w (i + 1) cs (grants_for w (i + 1) cs ks2 ls2) in
    let f = first_of w i c cs ks ls g in
    map-append (part_of w) (cuts_for w c.key (asked_in i c rs) rs) back
    ∙ ap (λ (asks : List Asked). map (part_of w) (cuts_for w c.key asks rs) ++ map (part_of w) back) (asked_first w i c ks ls f)
    ∙ ap (λ (l : List (List ℕ)). l ++ map (part_of w) back) (parts_again w ids c.key (asks_in i c ks) (take (length (asks_in i c ks)) ls) f.parts)
    ∙ ap (λ (l : List (List ℕ)). take (length (asks_in i c ks)) ls ++ l) (parts_back w ids (i + 1) cs ks2 ls2 (rest_of w i c cs ks ls g))
    ∙ take-append-drop (length (asks_in i c ks)) ls

ways_back : (w : SearchInput) (grants : List Grant) (i : ℕ) (cs : List ResourceClaim) (ks : List ℕ) (ls : List (List ℕ)) → Given w i cs ks ls → Follows grants i (grants_for w i cs ks ls)
    → map (way grants) (wishes_from i cs) ≡ ks
ways_back w grants i [] ks ls g h = no_choice ks g.choice
ways_back w grants i (c ∷ cs) ks ls g h =
    let mine = wishes_in i c.key c.requests in
    let rest = wishes_from (i + 1) cs in
    let ks2 = drop (length mine) ks in
    let ls2 = drop (length (asks_in i c ks)) ls in
    let later = grants_for w (i + 1) cs ks2 ls2 in
    let here = results_here grants i (grant_in w i c ks ls) later h in
    map-append (way grants) mine rest
    ∙ ap (λ (l : List ℕ). l ++ map (way grants) rest) (ways_same grants (map (shown w) (picks_in i c ks ls)) i c.key c.requests here ∙ way_first w i c ks ls (first_of w i c cs ks ls g))
    ∙ ap (λ (l : List ℕ). take (length mine) ks ++ l) (ways_back w grants (i + 1) cs ks2 ls2 (rest_of w i c cs ks ls g) (follows_next grants i (grant_in w i c ks ls) later h))
    ∙ take-append-drop (length mine) ks

-- the names of the results pick the choice
pub choice_again : (w : SearchInput) (ks : List ℕ) (ls : List (List ℕ)) → Given w 0 w.claims ks ls → choice_of w (grants_for w 0 w.claims ks ls) ≡ ks
unfolding choice_of
choice_again w ks ls g = ways_back w (grants_for w 0 w.claims ks ls) 0 w.claims ks ls g (follows_all (grants_for w 0 w.claims ks ls))

-- ---- the grants are those of the allocation

claims_from : (i : ℕ) (cs : List ResourceClaim) (ks : List ℕ) (ls : List (List ℕ)) → Each (λ p. i ≤ p.label.claim) (picks_of i cs ks ls)
claims_from i [] ks ls j p e = absurd (cc)
claims_from i (c ∷ cs) ks ls j p e =
    let ks2 = drop (length (wishes_in i c.key c.requests)) ks in
    let ls2 = drop (length (asks_in i c ks)) ls in
    subst (λ (ps : List Pick). Each (λ p. i ≤ p.label.claim) ps) (sym (picks_cut i c cs ks ls))
    (each_join (λ (p : Pick). i ≤ p.label.claim) (picks_in i c ks ls) (picks_of (i + 1) cs ks2 ls2)
    (λ n p f. let same = claims_in i c ks ls n p f in omega (arith, same))
    (λ n p f. let low = claims_from (i + 1) cs ks2 ls2 n p f in omega (arith, low))) j p e

shown_all : (w : SearchInput) (ps : List Pick) → map device_result (map named_result (map (result_of w) ps)) ≡ map (shown w) ps
shown_all w [] = refl
shown_all w (p ∷ ps) = ap (λ (l : List DeviceResult). shown w p ∷ l) (shown_all w ps)

cut_back : (w : SearchInput) (i : ℕ) (cs : List ResourceClaim) (ks : List ℕ) (ls : List (List ℕ)) (before : List Result) → Each (λ r. r.label.claim < i) before
    → map grant_of (grants_from i cs (before ++ map (result_of w) (picks_of i cs ks ls))) ≡ grants_for w i cs ks ls
cut_back w i [] ks ls before low = refl
cut_back w i (c ∷ cs) ks ls before low =
    let ks2 = drop (length (wishes_in i c.key c.requests)) ks in
    let ls2 = drop (length (asks_in i c ks)) ls in
    let ps = picks_in i c ks ls in
    let qs = picks_of (i + 1) cs ks2 ls2 in
    let mine : List Result = map (result_of w) ps in
    let rest : List Result = map (result_of w) qs in
    let whole : before ++ map (result_of w) (picks_of i (c ∷ cs) ks ls) ≡ before ++ (mine ++ rest) =
    ap (λ (l : List Pick). before ++ map (result_of w) l) (picks_cut i c cs ks ls) ∙ ap (λ (l : List Result). before ++ l) (map-append (result_of w) ps qs) in
    let same : Each (λ r. r.label.claim ≡ i) mine = each_to_map (result_of w) (λ (r : Result). r.label.claim ≡ i) ps (claims_in i c ks ls) in
    let high : Each (λ r. i + 1 ≤ r.label.claim) rest = each_to_map (result_of w) (λ (r : Result). i + 1 ≤ r.label.claim) qs (claims_from (i + 1) cs ks2 ls2) in
    let later = cut_back w (i + 1) cs ks2 ls2 (before ++ mine)
    (each_join (λ (r : Result). r.label.claim < i + 1) before mine (λ j r e. let k = low j r e in omega (arith, k)) (λ j r e. let k = same j r e in omega (arith, k))) in
    ap (λ (l : List Result). map grant_of (grants_from i (c ∷ cs) l)) whole
    ∙ ap (λ (l : List Result). grant_of (record { claim = c.key; results = map named_result l }) ∷ map grant_of (grants_from (i + 1) cs (before ++ (mine ++ rest)))) (results_are i before mine rest low same high)
    ∙ ap (λ (l : List DeviceResult). record { claim = c.key; results = l } ∷ map grant_of (grants_from (i + 1) cs (before ++ (mine ++ rest)))) (shown_all w ps)
    ∙ ap (λ (l : List Result). grant_in w i c ks ls ∷ map grant_of (grants_from (i + 1) cs l)) (sym (append_assoc before mine rest))
    ∙ ap (λ (l : List Grant). grant_in w i c ks ls ∷ l) later

pub grants_back : (w : SearchInput) (ks : List ℕ) (ls : List (List ℕ)) → grants_by w (map (result_of w) (taken (asked w ks) ls)) ≡ grants_for w 0 w.claims ks ls
unfolding asked grants_by grants_of
grants_back w ks ls = cut_back w 0 w.claims ks ls [] (λ i r e. absurd (cc))
