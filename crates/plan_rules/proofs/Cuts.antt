-- The results of grants, cut into those of each chosen request.
use Rattle.std.proofs.Common.{ℕ, zero, suc, ◌+◌, ◌≤◌, ◌≡◌, List, [], ◌∷◌, ◌++◌, true, ◌&&◌, leb, Option, None, Some, length, map, take, drop, refl, sym, ap, ◌∙◌, subst, arith}
use Rattle.std.specs.List.{slice_get, flat_map}
use Rattle.std.specs.Option.{option_map}
use Rattle.std.proofs.lemmas.List.{map-append, take-append-drop}
use Rattle.std.proofs.lemmas.Grind.{flat_map-append}
use Rattle.object_fields.specs.declared.key.Key.{Key}
use Rattle.api_claim.specs.declared.types.DeviceRequest.{DeviceRequest}
use Rattle.api_claim.specs.declared.types.DeviceSubRequest.{DeviceSubRequest}
use Rattle.api_claim.specs.declared.types.RequestKind.{RequestKind}
use Rattle.api_claim.specs.declared.types.RequestKind.TheVariants.{Exactly, FirstAvailable}
use Rattle.api_claim.specs.declared.types.ResourceClaim.{ResourceClaim}
use Rattle.pool_view.specs.Names.{key_eq}
use Rattle.cluster.specs.declared.failure.Failure.TheVariants.{Shape}
use Rattle.cluster.specs.declared.plan.DeviceResult.{DeviceResult}
use Rattle.cluster.specs.declared.plan.Grant.{Grant}
use Rattle.request_rules.specs.Allocation.{taken}
use Rattle.request_rules.specs.Asked.{Asked, Wish, asked_by, asked_sub}
use Rattle.request_rules.specs.Input.{SearchInput}
use Rattle.request_rules.specs.Lists.{Each, add_some}
use Rattle.request_rules.specs.Problem.{most_results}
use Rattle.request_rules.specs.Rules.{Pick}
use Rattle.request_rules.specs.Ways.{wishes_in}
use Rattle.plan_rules.specs.Chosen.{Due, asked_each, asked_for, asked_in, due, due_for, dues_for, dues_from, named_way, pick_of, place_of}
use Rattle.plan_rules.specs.Shaped.{are_parts, differ, is_part, is_shaped, picks_each, shape_from}
use Rattle.plan_rules.specs.Standing.{all_results}
use Rattle.plan_rules.proofs.Elements.{each_join, each_to_map}
use Rattle.plan_rules.proofs.Tests.{cond_parts, left_of, right_of, some_is}

-- the results for a request of a claim
pub record Cut : Type 0 where
  pub claim : Key
  pub asked : Asked
  pub results : List DeviceResult

abbrev pub cuts_for : SearchInput → Key → List Asked → List DeviceResult → List Cut
cuts_for w k [] rs = []
cuts_for w k (a ∷ asks) rs = record { claim = k; asked = a; results = take (due w a) rs } ∷ cuts_for w k asks (drop (due w a) rs)

abbrev pub cuts_from : SearchInput → ℕ → List ResourceClaim → List Grant → List Cut
cuts_from w i [] gs = []
cuts_from w i (c ∷ cs) [] = []
cuts_from w i (c ∷ cs) (g ∷ gs) = cuts_for w c.key (asked_in i c g.results) g.results ++ cuts_from w (i + 1) cs gs

abbrev pub dues_of : Cut → List Due
dues_of u = map (due_for u.claim u.asked) u.results

abbrev pub part_of : SearchInput → Cut → List ℕ
part_of w u = map (place_of w) u.results

-- ---- results and picks, cut by cut

dues_for_are : (w : SearchInput) (k : Key) (asks : List Asked) (rs : List DeviceResult) → dues_for w k asks rs ≡ flat_map dues_of (cuts_for w k asks rs)
dues_for_are w k [] rs = refl
dues_for_are w k (a ∷ asks) rs = ap (λ (l : List Due). map (due_for k a) (take (due w a) rs) ++ l) (dues_for_are w k asks (drop (due w a) rs))

pub dues_are : (w : SearchInput) (i : ℕ) (cs : List ResourceClaim) (gs : List Grant) → dues_from w i cs gs ≡ flat_map dues_of (cuts_from w i cs gs)
dues_are w i [] gs = refl
dues_are w i (c ∷ cs) [] = refl
dues_are w i (c ∷ cs) (g ∷ gs) =
    ap (λ (l : List Due). l ++ dues_from w (i + 1) cs gs) (dues_for_are w c.key (asked_in i c g.results) g.results)
    ∙ ap (λ (l : List Due). flat_map dues_of (cuts_for w c.key (asked_in i c g.results) g.results) ++ l) (dues_are w (i + 1) cs gs)
    ∙ sym (flat_map-append dues_of (cuts_for w c.key (asked_in i c g.results) g.results) (cuts_from w (i + 1) cs gs))

one_taken : (w : SearchInput) (k : Key) (a : Asked) (rs : List DeviceResult) → map (λ x. record { label = a.label; position = x }) (map (place_of w) rs) ≡ map (pick_of w) (map (due_for k a) rs)
one_taken w k a [] = refl
one_taken w k a (r ∷ rs) = ap (λ (l : List Pick). record { label = a.label; position = place_of w r } ∷ l) (one_taken w k a rs)

pub taken_is : (w : SearchInput) (us : List Cut) → taken (map (λ u. u.asked) us) (map (part_of w) us) ≡ map (pick_of w) (flat_map dues_of us)
taken_is w [] = refl
taken_is w (u ∷ us) =
    ap (λ (l : List Pick). l ++ taken (map (λ u. u.asked) us) (map (part_of w) us)) (one_taken w u.claim u.asked u.results)
    ∙ ap (λ (l : List Pick). map (pick_of w) (dues_of u) ++ l) (taken_is w us)
    ∙ sym (map-append (pick_of w) (dues_of u) (flat_map dues_of us))

pub asked_for_are : (w : SearchInput) (k : Key) (asks : List Asked) (rs : List DeviceResult) → map (λ u. u.asked) (cuts_for w k asks rs) ≡ asks
asked_for_are w k [] rs = refl
asked_for_are w k (a ∷ asks) rs = ap (λ (l : List Asked). a ∷ l) (asked_for_are w k asks (drop (due w a) rs))

-- ---- grants of the right shape

-- the grant is the claim's, whose shape it has
pub record Shaped (w : SearchInput) (i : ℕ) (c : ResourceClaim) (g : Grant) : Type 0 where
  pub key : key_eq g.claim c.key ≡ true
  pub picks : picks_each g.results (wishes_in i c.key c.requests) ≡ true
  pub parts : are_parts w (asked_in i c g.results) g.results ≡ true
  pub apart : differ g.results ≡ true
  pub few : leb (length g.results) most_results ≡ true

abbrev pub AllShaped : SearchInput → ℕ → List ResourceClaim → List Grant → Type 0
AllShaped w i [] [] = Unit {0}
AllShaped w i [] (g ∷ gs) = ⊥
AllShaped w i (c ∷ cs) [] = ⊥
AllShaped w i (c ∷ cs) (g ∷ gs) = Shaped w i c g × AllShaped w (i + 1) cs gs

shaped_of : (w : SearchInput) (i : ℕ) (c : ResourceClaim) (g : Grant) → (key_eq g.claim c.key && is_shaped w i c g.results) ≡ true → Shaped w i c g
unfolding is_shaped
shaped_of w i c g e =
    let one = picks_each g.results (wishes_in i c.key c.requests) in
    let two = are_parts w (asked_in i c g.results) g.results in
    let three = differ g.results in
    let four = leb (length g.results) most_results in
    let all = right_of (key_eq g.claim c.key) (one && (two && (three && four))) e in
    let rest = right_of one (two && (three && four)) all in
    let last = right_of two (three && four) rest in
    record {
      key = left_of (key_eq g.claim c.key) (one && (two && (three && four))) e;
      picks = left_of one (two && (three && four)) all;
      parts = left_of two (three && four) rest;
      apart = left_of three four last;
      few = right_of three four last;
    }

pub shaped_all : (w : SearchInput) (i : ℕ) (cs : List ResourceClaim) (gs : List Grant) → shape_from w i cs gs ≡ None → AllShaped w i cs gs
shaped_all w i [] [] e = tt
shaped_all w i [] (g ∷ gs) e = absurd (cc)
shaped_all w i (c ∷ cs) [] e = absurd (cc)
shaped_all w i (c ∷ cs) (g ∷ gs) e =
    let p = cond_parts (key_eq g.claim c.key && is_shaped w i c g.results) (shape_from w (i + 1) cs gs) (Shape c.key) e in
    (shaped_of w i c g p.0, shaped_all w (i + 1) cs gs p.1)

-- ---- the parts of requests

parts_for : (w : SearchInput) (k : Key) (asks : List Asked) (rs : List DeviceResult) → are_parts w asks rs ≡ true → Each (λ u. is_part w u.asked u.results ≡ true) (cuts_for w k asks rs)
parts_for w k [] rs e i u h = absurd (cc)
parts_for w k (a ∷ asks) rs e zero u h =
    let s : ◌≡◌ {A = Cut} (record { claim = k; asked = a; results = take (due w a) rs }) u = cc in
    subst (λ (v : Cut). is_part w v.asked v.results ≡ true) s (left_of (is_part w a (take (due w a) rs)) (are_parts w asks (drop (due w a) rs)) e)
parts_for w k (a ∷ asks) rs e (suc i) u h =
    parts_for w k asks (drop (due w a) rs) (right_of (is_part w a (take (due w a) rs)) (are_parts w asks (drop (due w a) rs)) e) i u h

pub parts_all : (w : SearchInput) (i : ℕ) (cs : List ResourceClaim) (gs : List Grant) → AllShaped w i cs gs → Each (λ u. is_part w u.asked u.results ≡ true) (cuts_from w i cs gs)
parts_all w i [] gs s j u h = absurd (cc)
parts_all w i (c ∷ cs) [] s j u h = absurd (cc)
parts_all w i (c ∷ cs) (g ∷ gs) s j u h =
    each_join (λ (u : Cut). is_part w u.asked u.results ≡ true) (cuts_for w c.key (asked_in i c g.results) g.results) (cuts_from w (i + 1) cs gs)
    (parts_for w c.key (asked_in i c g.results) g.results s.0.parts) (parts_all w (i + 1) cs gs s.1) j u h

unmarked : (k : Key) (a : Asked) (rs : List DeviceResult) → map (λ d. d.result) (map (due_for k a) rs) ≡ rs
unmarked k a [] = refl
unmarked k a (r ∷ rs) = ap (λ (l : List DeviceResult). r ∷ l) (unmarked k a rs)

pub results_for : (w : SearchInput) (k : Key) (asks : List Asked) (rs : List DeviceResult) → are_parts w asks rs ≡ true → map (λ d. d.result) (dues_for w k asks rs) ≡ rs
results_for w k [] [] e = refl
results_for w k [] (r ∷ rs) e = absurd (cc)
results_for w k (a ∷ asks) rs e =
    map-append (λ (d : Due). d.result) (map (due_for k a) (take (due w a) rs)) (dues_for w k asks (drop (due w a) rs))
    ∙ ap (λ (l : List DeviceResult). l ++ map (λ d. d.result) (dues_for w k asks (drop (due w a) rs))) (unmarked k a (take (due w a) rs))
    ∙ ap (λ (l : List DeviceResult). take (due w a) rs ++ l) (results_for w k asks (drop (due w a) rs) (right_of (is_part w a (take (due w a) rs)) (are_parts w asks (drop (due w a) rs)) e))
    ∙ take-append-drop (due w a) rs

-- the results of the grants, one after another
pub results_all : (w : SearchInput) (i : ℕ) (cs : List ResourceClaim) (gs : List Grant) → AllShaped w i cs gs → map (λ d. d.result) (dues_from w i cs gs) ≡ all_results gs
results_all w i [] [] s = refl
results_all w i [] (g ∷ gs) s = absurd s
results_all w i (c ∷ cs) [] s = absurd s
results_all w i (c ∷ cs) (g ∷ gs) s =
    map-append (λ (d : Due). d.result) (dues_for w c.key (asked_in i c g.results) g.results) (dues_from w (i + 1) cs gs)
    ∙ ap (λ (l : List DeviceResult). l ++ map (λ d. d.result) (dues_from w (i + 1) cs gs)) (results_for w c.key (asked_in i c g.results) g.results s.0.parts)
    ∙ ap (λ (l : List DeviceResult). g.results ++ l) (results_all w (i + 1) cs gs s.1)

-- ---- the claims of labels

sub_claim : (q : Wish) (o : Option DeviceSubRequest) (a : Asked) → option_map (asked_sub q) o ≡ Some a → a.label.claim ≡ q.claim
sub_claim q None a e = absurd (cc)
sub_claim q (Some s) a e = let f : asked_sub q s ≡ a = cc in sym (ap (λ (z : Asked). z.label.claim) f)

pub claim_by : (q : Wish) (kind : RequestKind) (k : ℕ) (a : Asked) → asked_by q kind k ≡ Some a → a.label.claim ≡ q.claim
claim_by q (Exactly r) k a e =
    let b : Asked = record { label = record { claim = q.claim; request = q.request.name; sub = None; admin = r.admin }; key = q.key; ask = r.ask } in
    sym (ap (λ (z : Asked). z.label.claim) (some_is b a e))
claim_by q (FirstAvailable ss) k a e = sub_claim q (slice_get ss k) a e

pub each_added : (P : Asked → Type 0) (o : Option Asked) (xs : List Asked) → ((a : Asked) → o ≡ Some a → P a) → Each P xs → Each P (add_some o xs)
each_added P None xs f g i x e = g i x e
each_added P (Some a) xs f g zero x e = let h : a ≡ x = cc in subst P h (f a refl)
each_added P (Some a) xs f g (suc i) x e = g i x e

claim_each : (i : ℕ) (key : Key) (requests : List DeviceRequest) (rs : List DeviceResult) → Each (λ a. a.label.claim ≡ i) (asked_each rs (wishes_in i key requests))
claim_each i key [] rs j a e = absurd (cc)
claim_each i key (r ∷ requests) rs j a e =
    let q : Wish = record { claim = i; key = key; request = r } in
    each_added (λ (a : Asked). a.label.claim ≡ i) (asked_for rs q) (asked_each rs (wishes_in i key requests))
    (λ b f. claim_by q r.kind (named_way rs q r.kind) b f) (claim_each i key requests rs) j a e

labels_for : (w : SearchInput) (k : Key) (i : ℕ) (asks : List Asked) (rs : List DeviceResult) → Each (λ a. a.label.claim ≡ i) asks → Each (λ d. d.asked.label.claim ≡ i) (dues_for w k asks rs)
labels_for w k i [] rs h j d e = absurd (cc)
labels_for w k i (a ∷ asks) rs h j d e =
    each_join (λ (d : Due). d.asked.label.claim ≡ i) (map (due_for k a) (take (due w a) rs)) (dues_for w k asks (drop (due w a) rs))
    (each_to_map (due_for k a) (λ (d : Due). d.asked.label.claim ≡ i) (take (due w a) rs) (λ n r f. h 0 a refl))
    (labels_for w k i asks (drop (due w a) rs) (λ n b f. h (suc n) b f)) j d e

-- the results of a claim have its index
pub labels_in : (w : SearchInput) (i : ℕ) (c : ResourceClaim) (rs : List DeviceResult) → Each (λ d. d.asked.label.claim ≡ i) (dues_for w c.key (asked_in i c rs) rs)
labels_in w i c rs = labels_for w c.key i (asked_in i c rs) rs (claim_each i c.key c.requests rs)

-- those of later claims have later ones
pub labels_above : (w : SearchInput) (i : ℕ) (cs : List ResourceClaim) (gs : List Grant) → Each (λ d. i ≤ d.asked.label.claim) (dues_from w i cs gs)
labels_above w i [] gs j d e = absurd (cc)
labels_above w i (c ∷ cs) [] j d e = absurd (cc)
labels_above w i (c ∷ cs) (g ∷ gs) j d e =
    each_join (λ (d : Due). i ≤ d.asked.label.claim) (dues_for w c.key (asked_in i c g.results) g.results) (dues_from w (i + 1) cs gs)
    (λ n x f. let same = labels_in w i c g.results n x f in omega (arith, same))
    (λ n x f. let low = labels_above w (i + 1) cs gs n x f in omega (arith, low)) j d e
