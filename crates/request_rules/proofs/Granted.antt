-- The results of an allocation, claim by claim.
use Rattle.std.proofs.Common.{ℕ, zero, suc, ◌+◌, ◌<◌, ◌≤◌, ◌≡◌, List, [], ◌∷◌, ◌++◌, Bool, true, false, cond, eqb, Option, None, Some, length, map, filter, drop, refl, sym, ap, ◌∙◌, subst, arith, append_assoc, append-nil}
use Rattle.std.specs.List.{slice_get, flat_map}
use Rattle.std.specs.Option.{option_map}
use Rattle.std.proofs.lemmas.Bool.Decides.{nat_tests}
use Rattle.std.proofs.lemmas.List.{map-append}
use Rattle.std.proofs.lemmas.List.Elements.{filter-append}
use Rattle.std.proofs.lemmas.List.Concat.{flat_map-cons}
use Rattle.object_fields.specs.declared.key.Key.{Key}
use Rattle.api_claim.specs.declared.types.DeviceRequest.{DeviceRequest}
use Rattle.api_claim.specs.declared.types.DeviceSubRequest.{DeviceSubRequest}
use Rattle.api_claim.specs.declared.types.RequestKind.{RequestKind}
use Rattle.api_claim.specs.declared.types.RequestKind.TheVariants.{Exactly, FirstAvailable}
use Rattle.api_claim.specs.declared.types.ResourceClaim.{ResourceClaim}
use Rattle.request_rules.specs.Lists.{Each, add_some}
use Rattle.request_rules.specs.Input.{SearchInput}
use Rattle.request_rules.specs.Asked.{Asked, Wish, asked, asked_by, asked_from, asked_sub, wishes_from}
use Rattle.request_rules.specs.Rules.{Pick}
use Rattle.request_rules.specs.Allocation.{IsAllocation, Result, result_of, taken}
use Rattle.request_rules.specs.Grants.{ClaimResults, NamedResult, grants_from, grants_of, named_result, results_at}
use Rattle.request_rules.proofs.Tests.{same_number}
use Rattle.request_rules.proofs.Places.{each_join, get-map}

-- the results of each claim, after those of the claims before it
abbrev Blocks : ℕ → List ResourceClaim → List Result → Type 0
Blocks i [] rs = rs ≡ []
Blocks i (c ∷ cs) rs = (mine : List Result) × (rest : List Result) × (rs ≡ mine ++ rest) × Each (λ r. r.label.claim ≡ i) mine × Blocks (i + 1) cs rest

-- ---- cutting

filter_none : {X : Type 0} (p : X → Bool) (xs : List X) → Each (λ x. p x ≡ false) xs → filter p xs ≡ []
filter_none p [] h = refl
filter_none p (x ∷ xs) h = ap (λ (b : Bool). cond b (x ∷ filter p xs) (filter p xs)) (h 0 x refl) ∙ filter_none p xs (λ i y e. h (suc i) y e)

filter_all : {X : Type 0} (p : X → Bool) (xs : List X) → Each (λ x. p x ≡ true) xs → filter p xs ≡ xs
filter_all p [] h = refl
filter_all p (x ∷ xs) h = ap (λ (b : Bool). cond b (x ∷ filter p xs) (filter p xs)) (h 0 x refl) ∙ ap (λ l. x ∷ l) (filter_all p xs (λ i y e. h (suc i) y e))

other_number : (a b : ℕ) → a < b → eqb a b ≡ false
other_number a b h = grind (arith, nat_tests, h)

greater_number : (a b : ℕ) → b < a → eqb a b ≡ false
greater_number a b h = grind (arith, nat_tests, h)

above : (i : ℕ) (cs : List ResourceClaim) (rs : List Result) → Blocks i cs rs → Each (λ r. i ≤ r.label.claim) rs
above i [] rs e k r g = let f : slice_get [] k ≡ Some r = ap (λ (l : List Result). slice_get l k) (sym e) ∙ g in absurd (cc)
above i (c ∷ cs) rs b k r g =
    each_join (λ r. i ≤ r.label.claim) b.0 b.1
    (λ j x e. let same = b.3 j x e in omega (arith, same))
    (λ j x e. let low = above (i + 1) cs b.1 b.4 j x e in omega (arith, low))
    k r (ap (λ (l : List Result). slice_get l k) (sym b.2) ∙ g)

results_are : (i : ℕ) (before mine rest : List Result) → Each (λ r. r.label.claim < i) before → Each (λ r. r.label.claim ≡ i) mine → Each (λ r. i + 1 ≤ r.label.claim) rest
    → results_at i (before ++ (mine ++ rest)) ≡ mine
results_are i before mine rest low same high =
    let p : Result → Bool = λ r. eqb r.label.claim i in
    filter-append p before (mine ++ rest)
    ∙ ap (λ (l : List Result). l ++ filter p (mine ++ rest)) (filter_none p before (λ j r e. other_number r.label.claim i (low j r e)))
    ∙ filter-append p mine rest
    ∙ ap (λ (l : List Result). l ++ filter p rest) (filter_all p mine (λ j r e. same_number r.label.claim i (same j r e)))
    ∙ ap (λ (l : List Result). mine ++ l) (filter_none p rest (λ j r e. greater_number r.label.claim i (let h = high j r e in omega (arith, h))))
    ∙ append-nil mine

cut_is : (i : ℕ) (cs : List ResourceClaim) (before rs : List Result) → Each (λ r. r.label.claim < i) before → Blocks i cs rs → flat_map (λ g. g.results) (grants_from i cs (before ++ rs)) ≡ map named_result rs
cut_is i [] before rs low b = sym (ap (map named_result) b)
cut_is i (c ∷ cs) before rs low b =
    let mine = b.0 in
    let rest = b.1 in
    let whole : before ++ rs ≡ before ++ (mine ++ rest) = ap (λ (l : List Result). before ++ l) b.2 in
    let shift : before ++ (mine ++ rest) ≡ (before ++ mine) ++ rest = sym (append_assoc before mine rest) in
    let later = cut_is (i + 1) cs (before ++ mine) rest
    (each_join (λ r. r.label.claim < i + 1) before mine (λ j r e. let h = low j r e in omega (arith, h)) (λ j r e. let h = b.3 j r e in omega (arith, h))) b.4 in
    ap (λ (l : List Result). flat_map (λ g. g.results) (grants_from i (c ∷ cs) l)) whole
    ∙ flat_map-cons (λ (g : ClaimResults). g.results) (record { claim = c.key; results = map named_result (results_at i (before ++ (mine ++ rest))) }) (grants_from (i + 1) cs (before ++ (mine ++ rest)))
    ∙ ap (λ (l : List Result). map named_result l ++ flat_map (λ g. g.results) (grants_from (i + 1) cs (before ++ (mine ++ rest)))) (results_are i before mine rest low b.3 (above (i + 1) cs rest b.4))
    ∙ ap (λ (l : List Result). map named_result mine ++ flat_map (λ g. g.results) (grants_from (i + 1) cs l)) shift
    ∙ ap (λ (l : List NamedResult). map named_result mine ++ l) later
    ∙ sym (map-append named_result mine rest)
    ∙ sym (ap (map named_result) b.2)

-- ---- the requests of each claim

asked_nil : (ts : List Wish) → asked_from ts [] ≡ []
asked_nil [] = refl
asked_nil (t ∷ ts) = refl

add_append : {X : Type 0} (o : Option X) (xs ys : List X) → add_some o (xs ++ ys) ≡ add_some o xs ++ ys
add_append None xs ys = refl
add_append (Some x) xs ys = refl

asked_split : (qs ts : List Wish) (ks : List ℕ) → (ms : List ℕ) × (asked_from (qs ++ ts) ks ≡ asked_from qs ks ++ asked_from ts ms)
asked_split [] ts ks = (ks, refl)
asked_split (q ∷ qs) ts [] = ([], sym (asked_nil ts))
asked_split (q ∷ qs) ts (k ∷ ks) =
    let r = asked_split qs ts ks in
    (r.0, ap (add_some (asked_by q q.request.kind k)) r.1 ∙ add_append (asked_by q q.request.kind k) (asked_from qs ks) (asked_from ts r.0))

sub_claim : (q : Wish) (o : Option DeviceSubRequest) (a : Asked) → option_map (asked_sub q) o ≡ Some a → a.label.claim ≡ q.claim
sub_claim q None a e = absurd (cc)
sub_claim q (Some s) a e = let f : asked_sub q s ≡ a = cc in sym (ap (λ (z : Asked). z.label.claim) f)

some_is : {X : Type 0} (x y : X) → Some x ≡ Some y → x ≡ y
some_is x y e = cc

claim_by : (q : Wish) (kind : RequestKind) (k : ℕ) (a : Asked) → asked_by q kind k ≡ Some a → a.label.claim ≡ q.claim
claim_by q (Exactly r) k a e =
    let b : Asked = record { label = record { claim = q.claim; request = q.request.name; sub = None; admin = r.admin }; key = q.key; ask = r.ask } in
    sym (ap (λ (z : Asked). z.label.claim) (some_is b a e))
claim_by q (FirstAvailable rs) k a e = sub_claim q (slice_get rs k) a e

each_added : (P : Asked → Type 0) (o : Option Asked) (xs : List Asked) → ((a : Asked) → o ≡ Some a → P a) → Each P xs → Each P (add_some o xs)
each_added P None xs f g i x e = g i x e
each_added P (Some a) xs f g zero x e = let h : a ≡ x = cc in subst P h (f a refl)
each_added P (Some a) xs f g (suc i) x e = g i x e

claim_asked : (i : ℕ) (key : Key) (rs : List DeviceRequest) (ks : List ℕ) → Each (λ a. a.label.claim ≡ i) (asked_from (map (λ r. record { claim = i; key = key; request = r }) rs) ks)
claim_asked i key [] ks j a e = absurd (cc)
claim_asked i key (r ∷ rs) [] j a e = absurd (cc)
claim_asked i key (r ∷ rs) (k ∷ ks) j a e =
    each_added (λ a. a.label.claim ≡ i) (asked_by (record { claim = i; key = key; request = r }) r.kind k) (asked_from (map (λ r. record { claim = i; key = key; request = r }) rs) ks)
    (λ a e. claim_by (record { claim = i; key = key; request = r }) r.kind k a e) (claim_asked i key rs ks) j a e

-- ---- their results

taken_nil : (asks : List Asked) → taken asks [] ≡ []
taken_nil [] = refl
taken_nil (a ∷ asks) = refl

taken_split : (prefix back : List Asked) (parts : List (List ℕ)) → taken (prefix ++ back) parts ≡ taken prefix parts ++ taken back (drop (length prefix) parts)
taken_split [] back parts = refl
taken_split (a ∷ prefix) back [] = sym (taken_nil back)
taken_split (a ∷ prefix) back (l ∷ ls) =
    ap (λ (ps : List Pick). map (λ x. record { label = a.label; position = x }) l ++ ps) (taken_split prefix back ls)
    ∙ sym (append_assoc (map (λ x. record { label = a.label; position = x }) l) (taken prefix ls) (taken back (drop (length prefix) ls)))

claim_taken : (i : ℕ) (asks : List Asked) (parts : List (List ℕ)) → Each (λ a. a.label.claim ≡ i) asks → Each (λ p. p.label.claim ≡ i) (taken asks parts)
claim_taken i [] parts h j p e = absurd (cc)
claim_taken i (a ∷ asks) [] h j p e = absurd (cc)
claim_taken i (a ∷ asks) (l ∷ ls) h j p e =
    each_join (λ p. p.label.claim ≡ i) (map (λ x. record { label = a.label; position = x }) l) (taken asks ls)
    (λ j p e. let r = get-map (λ x. record { label = a.label; position = x }) l j p e in sym (ap (λ (z : Pick). z.label.claim) r.2) ∙ h 0 a refl)
    (claim_taken i asks ls (λ j b e. h (suc j) b e)) j p e

claim_results : (w : SearchInput) (i : ℕ) (ps : List Pick) → Each (λ p. p.label.claim ≡ i) ps → Each (λ r. r.label.claim ≡ i) (map (result_of w) ps)
claim_results w i ps h j r e =
    let p = get-map (result_of w) ps j r e in
    sym (ap (λ (z : Result). z.label.claim) p.2) ∙ h j p.0 p.1

blocks : (w : SearchInput) (i : ℕ) (cs : List ResourceClaim) (ks : List ℕ) (parts : List (List ℕ)) → Blocks i cs (map (result_of w) (taken (asked_from (wishes_from i cs) ks) parts))
blocks w i [] ks parts = refl
blocks w i (c ∷ cs) ks parts =
    let qs : List Wish = map (λ r. record { claim = i; key = c.key; request = r }) c.requests in
    let s = asked_split qs (wishes_from (i + 1) cs) ks in
    let mine = taken (asked_from qs ks) parts in
    let left = drop (length (asked_from qs ks)) parts in
    let rest = taken (asked_from (wishes_from (i + 1) cs) s.0) left in (
      map (result_of w) mine,
      map (result_of w) rest,
      ap (λ (asks : List Asked). map (result_of w) (taken asks parts)) s.1
          ∙ ap (map (result_of w)) (taken_split (asked_from qs ks) (asked_from (wishes_from (i + 1) cs) s.0) parts)
          ∙ map-append (result_of w) mine rest,
      claim_results w i mine (claim_taken i (asked_from qs ks) parts (claim_asked i c.key c.requests ks)),
      blocks w (i + 1) cs s.0 left,
    )

of_taken : (w : SearchInput) (c : List ℕ) (parts : List (List ℕ)) → Blocks 0 w.claims (map (result_of w) (taken (asked w c) parts))
unfolding asked
of_taken w c parts = blocks w 0 w.claims c parts

cut_whole : (w : SearchInput) (rs : List Result) → Blocks 0 w.claims rs → flat_map (λ g. g.results) (grants_of w rs) ≡ map named_result rs
unfolding grants_of
cut_whole w rs b = cut_is 0 w.claims [] rs (λ i r e. absurd (cc)) b

pub each_result : (w : SearchInput) (c : List ℕ) (rs : List Result) → IsAllocation w c rs → flat_map (λ g. g.results) (grants_of w rs) ≡ map named_result rs
each_result w c rs a = cut_whole w rs (subst (λ (l : List Result). Blocks 0 w.claims l) (sym a.in_order) (of_taken w c a.parts))

claims_of : (i : ℕ) (cs : List ResourceClaim) (rs : List Result) → map (λ g. g.claim) (grants_from i cs rs) ≡ map (λ c. c.key) cs
claims_of i [] rs = refl
claims_of i (c ∷ cs) rs = ap (λ (ks : List Key). c.key ∷ ks) (claims_of (i + 1) cs rs)

pub each_claim : (w : SearchInput) (rs : List Result) → map (λ g. g.claim) (grants_of w rs) ≡ map (λ c. c.key) w.claims
unfolding grants_of
each_claim w rs = claims_of 0 w.claims rs
