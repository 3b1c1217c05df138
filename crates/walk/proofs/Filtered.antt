-- The walk of a problem with fewer good lists of positions.
use Rattle.std.proofs.Common.{ℕ, ◌<◌, ◌≤◌, ◌+◌, ◌≡◌, ◌⊎◌, List, [], ◌∷◌, ◌++◌, Bool, true, false, cond, map, length, refl, sym, ap, ◌∙◌, subst, inl, inr, arith}
use Rattle.std.specs.List.{flat_map, filter}
use Rattle.walk.specs.Lists.{choices, position_lists}
use Rattle.walk.specs.Walk.{Problem, Shape, Faulty, Hopeless, Open, Item, Mark, Part, Full, Fault, mark_by, items, lists_by, walk, MayBe}
use Rattle.walk.specs.Narrower.{IsNarrower, stays, stays_by}
use Rattle.walk.specs.Outcome.{Unsat, ends, outcome}
use Rattle.walk.proofs.Members.{In, In-filter, In-from_filter}
use Rattle.walk.proofs.Each.{IsItem-from_walk}
use Rattle.walk.proofs.Meant.{no_end, none_passes, part_by, unsat_there, whole_walk}

-- ---- filters

cond_append : {X : Type 0} (b : Bool) (x : X) (xs ys : List X) → cond b (x ∷ xs ++ ys) (xs ++ ys) ≡ cond b (x ∷ xs) xs ++ ys
cond_append true x xs ys = refl
cond_append false x xs ys = refl

filter-append : {X : Type 0} (f : X → Bool) (xs ys : List X) → filter f (xs ++ ys) ≡ filter f xs ++ filter f ys
filter-append f [] ys = refl
filter-append f (x ∷ xs) ys = ap (λ l. cond (f x) (x ∷ l) l) (filter-append f xs ys) ∙ cond_append (f x) x (filter f xs) (filter f ys)

filter-flat_map : {X Y : Type 0} (f : Y → Bool) (g h : X → List Y) (xs : List X) → ((x : X) → h x ≡ filter f (g x)) → flat_map h xs ≡ filter f (flat_map g xs)
filter-flat_map f g h [] e = refl
filter-flat_map {X} {Y} f g h (x ∷ xs) e =
    ap (λ (l : List Y). l ++ flat_map h xs) (e x)
    ∙ ap (λ (l : List Y). filter f (g x) ++ l) (filter-flat_map f g h xs e)
    ∙ sym (filter-append f (g x) (flat_map g xs))

cond_map : {X Y : Type 0} (g : X → Y) (b : Bool) (x : X) (xs : List X) → cond b (g x ∷ map g xs) (map g xs) ≡ map g (cond b (x ∷ xs) xs)
cond_map g true x xs = refl
cond_map g false x xs = refl

filter-map : {X Y : Type 0} (f : Y → Bool) (g : X → Y) (t : X → Bool) (xs : List X) → ((x : X) → f (g x) ≡ t x) → filter f (map g xs) ≡ map g (filter t xs)
filter-map f g t [] e = refl
filter-map {X} {Y} f g t (x ∷ xs) e =
    ap (λ (l : List Y). cond (f (g x)) (g x ∷ l) l) (filter-map f g t xs e)
    ∙ ap (λ (b : Bool). cond b (g x ∷ map g (filter t xs)) (map g (filter t xs))) (e x)
    ∙ cond_map g (t x) x (filter t xs)

again_by : {X : Type 0} (f : X → Bool) (t s : Bool) (x : X) (ys zs : List X) → f x ≡ t → (t ≡ true → s ≡ true) → filter f ys ≡ zs → filter f (cond s (x ∷ ys) ys) ≡ cond t (x ∷ zs) zs
again_by f true true x ys zs e h r = ap (λ b. cond b (x ∷ filter f ys) (filter f ys)) e ∙ ap (λ l. x ∷ l) r
again_by f true false x ys zs e h r = let g = h refl in absurd (cc)
again_by f false true x ys zs e h r = ap (λ b. cond b (x ∷ filter f ys) (filter f ys)) e ∙ r
again_by f false false x ys zs e h r = r

-- what passes a second test that implies the first
filter-again : {X : Type 0} (f g : X → Bool) (xs : List X) → ((x : X) → f x ≡ true → g x ≡ true) → filter f (filter g xs) ≡ filter f xs
filter-again f g [] h = refl
filter-again f g (x ∷ xs) h = again_by f (f x) (g x) x (filter g xs) (filter f xs) refl (h x) (filter-again f g xs h)

cond_within : {X : Type 0} (b : Bool) (x : X) (xs : List X) (m : ℕ) → length xs ≤ m → length (cond b (x ∷ xs) xs) ≤ m + 1
cond_within true x xs m h = omega (arith, h)
cond_within false x xs m h = omega (arith, h)

filter-within : {X : Type 0} (f : X → Bool) (xs : List X) → length (filter f xs) ≤ length xs
filter-within f [] = omega arith
filter-within f (x ∷ xs) = omega (arith, cond_within (f x) x (filter f xs) (length xs) (filter-within f xs))

-- ---- one choice

abbrev item_by : List ℕ → Shape → List ℕ → Item
item_by c s l = record { choice = c; positions = l; mark = mark_by s l }

abbrev items_by : Problem → List ℕ → Shape → List Item
items_by p c s = map (item_by c s) (lists_by p c s)

items_are : (p : Problem) (c : List ℕ) → items p c ≡ items_by p c (p.shape c)
unfolding items
items_are p c = refl

stays_open : (q : Problem) (c l : List ℕ) (s : Shape) → q.shape c ≡ s → stays q (item_by c s l) ≡ stays_by q (item_by c s l) s
stays_open q c l s e = ap (stays_by q (item_by c s l)) e

one_stays : (q : Problem) (x : Item) → stays q x ≡ true → x ∷ [] ≡ filter (stays q) (x ∷ [])
one_stays q x e = sym (ap (λ (b : Bool). cond b (x ∷ []) []) e)

choice_by : (p q : Problem) (c : List ℕ) (s : Shape) → q.shape c ≡ s → q.devices ≡ p.devices → ((l : List ℕ) → q.good c l ≡ true → p.good c l ≡ true) → items_by q c s ≡ filter (stays q) (items_by p c s)
choice_by p q c Faulty e d h = one_stays q (item_by c Faulty []) (stays_open q c [] Faulty e)
choice_by p q c Hopeless e d h = one_stays q (item_by c Hopeless []) (stays_open q c [] Hopeless e)
choice_by p q c (Open slots) e d h =
    let lists = position_lists p.devices slots in
    ap (λ (n : ℕ). map (item_by c (Open slots)) (filter (q.good c) (position_lists n slots))) d
    ∙ ap (map (item_by c (Open slots))) (sym (filter-again (q.good c) (p.good c) lists h))
    ∙ sym (filter-map (stays q) (item_by c (Open slots)) (q.good c) (filter (p.good c) lists) (λ l. stays_open q c l (Open slots) e))

choice_is : (p q : Problem) → IsNarrower p q → (c : List ℕ) → items q c ≡ filter (stays q) (items p c)
choice_is p q h c =
    items_are q c
    ∙ choice_by p q c (q.shape c) refl h.devices (h.good c)
    ∙ ap (λ (s : Shape). filter (stays q) (items_by p c s)) (h.shape c)
    ∙ ap (filter (stays q)) (sym (items_are p c))

-- ---- all of them

pub walk_is : (p q : Problem) → IsNarrower p q → walk q ≡ filter (stays q) (walk p)
unfolding walk
walk_is p q h =
    ap (λ (ks : List ℕ). flat_map (items q) (choices ks)) h.options
    ∙ filter-flat_map (stays q) (items p) (items q) (choices p.options) (choice_is p q h)

pub no_longer : (p q : Problem) → IsNarrower p q → length (walk q) ≤ length (walk p)
no_longer p q h = let e = ap length (walk_is p q h) in omega (arith, e, filter-within (stays q) (walk p))

pub among : (p q : Problem) (x : Item) → IsNarrower p q → In x (walk q) → In x (walk p)
among p q x h i = (In-from_filter (stays q) x (walk p) (subst (λ (xs : List Item). In x xs) (walk_is p q h) i)).0

neither_fault : (P Q : Type 0) (m : Mark) → (P × (m ≡ Part)) ⊎ (Q × (m ≡ Full)) → m ≡ Fault → ⊥
neither_fault P Q m (inl h) e = let f = h.1 in absurd (cc)
neither_fault P Q m (inr h) e = let f = h.1 in absurd (cc)

-- a Fault item stays, whatever is good
fault_stays : (p q : Problem) (x : Item) (s : Shape) → MayBe p x s → x.mark ≡ Fault → q.shape x.choice ≡ s → stays q x ≡ true
fault_stays p q x Faulty k m e = ap (stays_by q x) e
fault_stays p q x Hopeless k m e = ap (stays_by q x) e
fault_stays p q x (Open slots) k m e = absurd (neither_fault (length x.positions < slots) (length x.positions ≡ slots) x.mark k.filled m)

pub fault_goes_on : (p q : Problem) (x : Item) → IsNarrower p q → In x (walk p) → x.mark ≡ Fault → In x (walk q)
fault_goes_on p q x h i m =
    let known = (IsItem-from_walk p x i).kind in
    let kept = fault_stays p q x (p.shape x.choice) known m (h.shape x.choice) in
    subst (λ (xs : List Item). In x xs) (sym (walk_is p q h)) (In-filter (stays q) x (walk p) i kept)

pub still_unsat : (p q : Problem) (b : ℕ) → IsNarrower p q → outcome b (walk p) ≡ Unsat → outcome b (walk q) ≡ Unsat
still_unsat p q b h e =
    let none = no_end b (walk p) e in
    unsat_there b (walk q) (omega (arith, no_longer p q h, whole_walk b (walk p) e))
    (λ x i. part_by x.mark (none_passes ends (walk p) x none (among p q x h i)))
