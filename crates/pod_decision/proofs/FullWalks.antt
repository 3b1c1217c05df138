-- A walk of one choice, of which no list that begins with a position is good, has one item.
use Rattle.std.proofs.Common.{ℕ, zero, suc, ◌≤◌, ◌≡◌, ◌⊎◌, List, [], ◌∷◌, ◌++◌, Bool, true, false, cond, None, map, refl, ap, ◌∙◌, inl, inr, arith}
use Rattle.std.specs.List.{filter, flat_map}
use Rattle.std.proofs.lemmas.Bool.{cond-false, cond-true, le-leb, ne_eqb}
use Rattle.std.proofs.lemmas.List.Elements.{filter-append}
use Rattle.walk.specs.Lists.{choices, fronted, numbers, position_lists}
use Rattle.walk.specs.Walk.{Full, Hopeless, Item, Open, Part, Problem, Shape, items, lists_by, mark_by, walk}
use Rattle.walk.specs.Outcome.{Unsat, outcome, outcome_by}

-- ---- lists of positions

-- no list that begins with a number passes the test
pub record NoneBegins (test : List ℕ → Bool) : Type 0 where
  pub fails : (x : ℕ) (l : List ℕ) → test (x ∷ l) ≡ false

no_mapped : (test : List ℕ → Bool) (x : ℕ) (lists : List (List ℕ)) → NoneBegins test → filter test (map (λ l. x ∷ l) lists) ≡ []
no_mapped test x [] none = refl
no_mapped test x (l ∷ ls) none = cond-false (test (x ∷ l)) ((x ∷ l) ∷ filter test (map (λ m. x ∷ m) ls)) (filter test (map (λ m. x ∷ m) ls)) (none.fails x l) ∙ no_mapped test x ls none

no_fronted : (test : List ℕ → Bool) (lists : List (List ℕ)) (fronts : List ℕ) → NoneBegins test → filter test (fronted lists fronts) ≡ []
no_fronted test lists [] none = refl
no_fronted test lists (x ∷ xs) none =
    filter-append test (map (λ l. x ∷ l) lists) (fronted lists xs) ∙ ap (λ (l : List (List ℕ)). l ++ filter test (fronted lists xs)) (no_mapped test x lists none) ∙ no_fronted test lists xs none

one_list : (test : List ℕ → Bool) (devices most : ℕ) → test [] ≡ true → NoneBegins test → filter test (position_lists devices most) ≡ [] ∷ []
unfolding position_lists
one_list test devices zero starts none = cond-true (test []) ([] ∷ []) [] starts
one_list test devices (suc most) starts none =
    let rest = filter test (fronted (position_lists devices most) (numbers 0 devices)) in
    cond-true (test []) ([] ∷ rest) rest starts ∙ ap (λ (l : List (List ℕ)). [] ∷ l) (no_fronted test (position_lists devices most) (numbers 0 devices) none)

-- ---- items

abbrev pub part_of : List ℕ → Item
part_of c = record { choice = c; positions = []; mark = Part }

-- the choice has slots, and no devices are good for them
pub record IsBlocked (p : Problem) (c : List ℕ) : Type 0 where
  pub most : ℕ
  pub opens : p.shape c ≡ Open (suc most)
  pub starts : p.good c [] ≡ true
  pub none : NoneBegins (p.good c)

abbrev items_by : Problem → List ℕ → Shape → List Item
items_by p c s = map (λ l. record { choice = c; positions = l; mark = mark_by s l }) (lists_by p c s)

unfilled : (most : ℕ) (c : List ℕ) → ◌≡◌ {A = Item} (record { choice = c; positions = []; mark = mark_by (Open (suc most)) [] }) (part_of c)
unfilled most c = ap (λ (b : Bool). record { choice = c; positions = []; mark = cond b Full Part }) (ne_eqb zero (suc most) (λ e. absurd (omega arith)))

blocked_items : (p : Problem) (c : List ℕ) (most : ℕ) → p.good c [] ≡ true → NoneBegins (p.good c) → items_by p c (Open (suc most)) ≡ part_of c ∷ []
blocked_items p c most starts none =
    ap (λ (ls : List (List ℕ)). map (λ l. record { choice = c; positions = l; mark = mark_by (Open (suc most)) l }) ls) (one_list (p.good c) p.devices (suc most) starts none)
    ∙ ap (λ (x : Item). x ∷ []) (unfilled most c)

one_item : (p : Problem) (c : List ℕ) → (p.shape c ≡ Hopeless) ⊎ IsBlocked p c → items p c ≡ part_of c ∷ []
unfolding items
one_item p c (inl e) = ap (λ (s : Shape). items_by p c s) e
one_item p c (inr b) = ap (λ (s : Shape). items_by p c s) b.opens ∙ blocked_items p c b.most b.starts b.none

one_walk : (p : Problem) (c : List ℕ) → choices p.options ≡ c ∷ [] → (p.shape c ≡ Hopeless) ⊎ IsBlocked p c → walk p ≡ part_of c ∷ []
unfolding walk
one_walk p c only h = ap (λ (cs : List (List ℕ)). flat_map (items p) cs) only ∙ ap (λ (l : List Item). l ++ []) (one_item p c h)

-- ---- the outcome

one_part : (budget : ℕ) (c : List ℕ) → 1 ≤ budget → outcome budget (part_of c ∷ []) ≡ Unsat
unfolding outcome
one_part zero c h = absurd (omega arith)
one_part (suc zero) c h = refl
one_part (suc (suc more)) c h = ap (λ (b : Bool). outcome_by None b) (le-leb 1 (suc (suc more)) (omega arith))

pub blocked_outcome : (p : Problem) (c : List ℕ) (budget : ℕ) → choices p.options ≡ c ∷ [] → (p.shape c ≡ Hopeless) ⊎ IsBlocked p c → 1 ≤ budget → outcome budget (walk p) ≡ Unsat
blocked_outcome p c budget only h some = ap (outcome budget) (one_walk p c only h) ∙ one_part budget c some
