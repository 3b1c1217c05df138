-- The choice that the names of results pick, and what it asks for.
use Rattle.std.proofs.Common.{ℕ, zero, suc, ◌+◌, ◌<◌, ◌≡◌, List, [], ◌∷◌, ◌++◌, true, Option, None, Some, length, map, refl, sym, ap, ◌∙◌, subst, arith}
use Rattle.std.specs.List.{slice_get}
use Rattle.std.specs.Option.{is_some, option_map}
use Rattle.std.proofs.lemmas.List.{map-append}
use Rattle.walk.specs.Walk.{IsChoice}
use Rattle.object_fields.specs.declared.key.Key.{Key}
use Rattle.api_claim.specs.declared.types.DeviceRequest.{DeviceRequest}
use Rattle.api_claim.specs.declared.types.RequestKind.{RequestKind}
use Rattle.api_claim.specs.declared.types.RequestKind.TheVariants.{Exactly, FirstAvailable}
use Rattle.api_claim.specs.declared.types.ResourceClaim.{ResourceClaim}
use Rattle.cluster.specs.declared.plan.DeviceResult.{DeviceResult}
use Rattle.cluster.specs.declared.plan.Grant.{Grant}
use Rattle.request_rules.specs.Asked.{Asked, Wish, asked, asked_by, asked_from, asked_sub, options, ways_of, wishes_from}
use Rattle.request_rules.specs.Input.{SearchInput}
use Rattle.request_rules.specs.Lists.{add_some}
use Rattle.request_rules.specs.Ways.{wishes_in}
use Rattle.plan_rules.specs.Chosen.{asked_each, asked_for, asked_in, choice_of, named_sub, named_way, results_at, results_by}
use Rattle.plan_rules.specs.Shaped.{picks_each}
use Rattle.plan_rules.proofs.Cuts.{AllShaped, Cut, asked_for_are, cuts_for, cuts_from}
use Rattle.plan_rules.proofs.Tests.{left_of, right_of}

-- these are the grants from this index on
abbrev pub Follows : List Grant → ℕ → List Grant → Type 0
Follows grants i gs = (j : ℕ) → slice_get grants (i + j) ≡ slice_get gs j

pub follows_all : (grants : List Grant) → Follows grants 0 grants
follows_all grants j = let e : 0 + j ≡ j = omega arith in ap (slice_get grants) e

pub follows_next : (grants : List Grant) (i : ℕ) (g : Grant) (gs : List Grant) → Follows grants i (g ∷ gs) → Follows grants (i + 1) gs
follows_next grants i g gs h j = let e : i + 1 + j ≡ i + suc j = omega arith in ap (slice_get grants) e ∙ h (suc j)

pub results_here : (grants : List Grant) (i : ℕ) (g : Grant) (gs : List Grant) → Follows grants i (g ∷ gs) → results_at grants i ≡ g.results
results_here grants i g gs h =
    let e : i ≡ i + 0 = omega arith in
    ap results_by (ap (slice_get grants) e ∙ h 0)

abbrev pub way : List Grant → Wish → ℕ
way grants q = named_way (results_at grants q.claim) q q.request.kind

abbrev pub way_in : List DeviceResult → Wish → ℕ
way_in rs q = named_way rs q q.request.kind

pub ways_same : (grants : List Grant) (rs : List DeviceResult) (i : ℕ) (key : Key) (requests : List DeviceRequest) → results_at grants i ≡ rs
    → map (way grants) (wishes_in i key requests) ≡ map (way_in rs) (wishes_in i key requests)
ways_same grants rs i key [] e = refl
ways_same grants rs i key (r ∷ requests) e =
    let q : Wish = record { claim = i; key = key; request = r } in
    ap (λ (l : List ℕ). named_way (results_at grants i) q r.kind ∷ l) (ways_same grants rs i key requests e)
    ∙ ap (λ (z : List DeviceResult). named_way z q r.kind ∷ map (way_in rs) (wishes_in i key requests)) e

pub asked_same : (rs : List DeviceResult) (qs : List Wish) → asked_from qs (map (way_in rs) qs) ≡ asked_each rs qs
asked_same rs [] = refl
asked_same rs (q ∷ qs) = ap (add_some (asked_for rs q)) (asked_same rs qs)

pub add_append : {X : Type 0} (o : Option X) (xs ys : List X) → add_some o (xs ++ ys) ≡ add_some o xs ++ ys
add_append None xs ys = refl
add_append (Some x) xs ys = refl

asked_join : (f : Wish → ℕ) (xs ys : List Wish) → asked_from (xs ++ ys) (map f (xs ++ ys)) ≡ asked_from xs (map f xs) ++ asked_from ys (map f ys)
asked_join f [] ys = refl
asked_join f (q ∷ xs) ys =
    ap (add_some (asked_by q q.request.kind (f q))) (asked_join f xs ys)
    ∙ add_append (asked_by q q.request.kind (f q)) (asked_from xs (map f xs)) (asked_from ys (map f ys))

asked_whole : (w : SearchInput) (grants : List Grant) (i : ℕ) (cs : List ResourceClaim) (gs : List Grant) → Follows grants i gs → AllShaped w i cs gs
    → asked_from (wishes_from i cs) (map (way grants) (wishes_from i cs)) ≡ map (λ u. u.asked) (cuts_from w i cs gs)
asked_whole w grants i [] gs h s = refl
asked_whole w grants i (c ∷ cs) [] h s = absurd s
asked_whole w grants i (c ∷ cs) (g ∷ gs) h s =
    let mine = wishes_in i c.key c.requests in
    let rest = wishes_from (i + 1) cs in
    asked_join (way grants) mine rest
    ∙ ap (λ (l : List Asked). l ++ asked_from rest (map (way grants) rest))
    (ap (asked_from mine) (ways_same grants g.results i c.key c.requests (results_here grants i g gs h)) ∙ asked_same g.results mine)
    ∙ ap (λ (l : List Asked). asked_in i c g.results ++ l) (asked_whole w grants (i + 1) cs gs (follows_next grants i g gs h) s.1)
    ∙ ap (λ (l : List Asked). l ++ map (λ u. u.asked) (cuts_from w (i + 1) cs gs)) (sym (asked_for_are w c.key (asked_in i c g.results) g.results))
    ∙ sym (map-append (λ (u : Cut). u.asked) (cuts_for w c.key (asked_in i c g.results) g.results) (cuts_from w (i + 1) cs gs))

-- what the choice asks for
pub asks_are : (w : SearchInput) (grants : List Grant) → AllShaped w 0 w.claims grants → asked w (choice_of w grants) ≡ map (λ u. u.asked) (cuts_from w 0 w.claims grants)
unfolding asked choice_of
asks_are w grants s = asked_whole w grants 0 w.claims grants (follows_all grants) s

-- ---- it is a choice

within : {X Y : Type 0} (f : X → Y) (xs : List X) (k : ℕ) → is_some (option_map f (slice_get xs k)) ≡ true → k < length xs
within f [] k e = absurd (cc)
within f (x ∷ xs) zero e = omega arith
within f (x ∷ xs) (suc k) e = let h = within f xs k e in omega (arith, h)

pub below_ways : (rs : List DeviceResult) (q : Wish) (kind : RequestKind) → is_some (asked_by q kind (named_way rs q kind)) ≡ true → named_way rs q kind < ways_of kind
below_ways rs q (Exactly r) e = omega arith
below_ways rs q (FirstAvailable ss) e = within (asked_sub q) ss (named_sub rs q ss) e

choice_join : (f : Wish → ℕ) (xs ys : List Wish) → IsChoice (map (λ q. ways_of q.request.kind) xs) (map f xs) → IsChoice (map (λ q. ways_of q.request.kind) ys) (map f ys)
    → IsChoice (map (λ q. ways_of q.request.kind) (xs ++ ys)) (map f (xs ++ ys))
choice_join f [] ys a b = b
choice_join f (q ∷ xs) ys a b = (a.0, choice_join f xs ys a.1 b)

choice_in : (rs : List DeviceResult) (i : ℕ) (key : Key) (requests : List DeviceRequest) → picks_each rs (wishes_in i key requests) ≡ true
    → IsChoice (map (λ q. ways_of q.request.kind) (wishes_in i key requests)) (map (way_in rs) (wishes_in i key requests))
choice_in rs i key [] e = tt
choice_in rs i key (r ∷ requests) e =
    let q : Wish = record { claim = i; key = key; request = r } in (
      below_ways rs q r.kind (left_of (is_some (asked_for rs q)) (picks_each rs (wishes_in i key requests)) e),
      choice_in rs i key requests (right_of (is_some (asked_for rs q)) (picks_each rs (wishes_in i key requests)) e),
    )

choice_whole : (w : SearchInput) (grants : List Grant) (i : ℕ) (cs : List ResourceClaim) (gs : List Grant) → Follows grants i gs → AllShaped w i cs gs
    → IsChoice (map (λ q. ways_of q.request.kind) (wishes_from i cs)) (map (way grants) (wishes_from i cs))
choice_whole w grants i [] gs h s = tt
choice_whole w grants i (c ∷ cs) [] h s = absurd s
choice_whole w grants i (c ∷ cs) (g ∷ gs) h s =
    let mine = wishes_in i c.key c.requests in
    choice_join (way grants) mine (wishes_from (i + 1) cs)
    (subst (λ (l : List ℕ). IsChoice (map (λ q. ways_of q.request.kind) mine) l) (sym (ways_same grants g.results i c.key c.requests (results_here grants i g gs h))) (choice_in g.results i c.key c.requests s.0.picks))
    (choice_whole w grants (i + 1) cs gs (follows_next grants i g gs h) s.1)

pub choice_is : (w : SearchInput) (grants : List Grant) → AllShaped w 0 w.claims grants → IsChoice (options w) (choice_of w grants)
unfolding choice_of
choice_is w grants s = choice_whole w grants 0 w.claims grants (follows_all grants) s
