-- What the items of a walk are.
use Rattle.std.proofs.Common.{ℕ, zero, suc, ◌<◌, ◌≤◌, ◌≡◌, ◌⊎◌, List, Bool, true, false, cond, eqb, length, refl, sym, subst, inl, inr, arith}
use Rattle.std.specs.List.{flat_map}
use Rattle.std.proofs.lemmas.List.Elements.{All-from_recursion, recursion_from_All}
use Rattle.std.proofs.lemmas.Bool.Decides.{nat_tests}
use borrow.Author.Tests.{eqb-true}
use Rattle.walk.specs.Lists.{numbers, position_lists, choices}
use Rattle.walk.specs.Walk.{Shape, Faulty, Hopeless, Open, Problem, Mark, Part, Full, Item, mark_by, item, lists_by, items, walk, MayBe, IsItem}
use Rattle.walk.proofs.Members.{In, In-map, In-from_map, In-filter, In-from_filter, In-flat_map, In-from_flat_map}
use Rattle.walk.proofs.Exact.{In-position_lists, In-from_position_lists, In-from_fronted, In-choices, In-from_choices}

length-position_lists : (n most : ℕ) (l : List ℕ) → In l (position_lists n most) → length l ≤ most
unfolding position_lists
length-position_lists n zero l (inl e) = subst (λ (w : List ℕ). length w ≤ 0) e (omega arith)
length-position_lists n zero l (inr h) = absurd h
length-position_lists n (suc most) l (inl e) = subst (λ (w : List ℕ). length w ≤ suc most) e (omega arith)
length-position_lists n (suc most) l (inr h) =
    let r = In-from_fronted (position_lists n most) (numbers 0 n) l h in
    let shorter = length-position_lists n most r.1 r.3 in
    subst (λ (w : List ℕ). length w ≤ suc most) r.4 (omega (arith, shorter))

filled_by : (k n : ℕ) (b : Bool) → eqb k n ≡ b → k ≤ n → ((k < n) × (cond b Full Part ≡ Part)) ⊎ ((k ≡ n) × (cond b Full Part ≡ Full))
filled_by k n true e h = inr (eqb-true k n e, refl)
filled_by k n false e h = let less : k < n = grind (arith, nat_tests, e, h) in inl (less, refl)

marked_by : (k n : ℕ) (m : Mark) (b : Bool) → eqb k n ≡ b → ((k < n) × (m ≡ Part)) ⊎ ((k ≡ n) × (m ≡ Full)) → cond b Full Part ≡ m
marked_by k n m true e (inl h) = let same = eqb-true k n e in absurd (omega (arith, h.0, same))
marked_by k n m true e (inr h) = sym h.1
marked_by k n m false e (inl h) = sym h.1
marked_by k n m false e (inr h) = let same = h.0 in absurd (grind (arith, nat_tests, e, same))

within : (k n : ℕ) (m : Mark) → ((k < n) × (m ≡ Part)) ⊎ ((k ≡ n) × (m ≡ Full)) → k ≤ n
within k n m (inl h) = omega (arith, h.0)
within k n m (inr h) = omega (arith, h.0)

MayBe-from_list : (p : Problem) (c l : List ℕ) (s : Shape) → In l (lists_by p c s) → MayBe p (record { choice = c; positions = l; mark = mark_by s l }) s
MayBe-from_list p c l Faulty (inl e) = (sym e, refl)
MayBe-from_list p c l Faulty (inr h) = absurd h
MayBe-from_list p c l Hopeless (inl e) = (sym e, refl)
MayBe-from_list p c l Hopeless (inr h) = absurd h
MayBe-from_list p c l (Open slots) i =
    let r = In-from_filter (p.good c) l (position_lists p.devices slots) i in
    record {
      known = All-from_recursion (λ d. d < p.devices) l (In-from_position_lists p.devices slots l r.0);
      good = r.1;
      filled = filled_by (length l) slots (eqb (length l) slots) refl (length-position_lists p.devices slots l r.0);
    }

pub IsItem-from_walk : (p : Problem) (x : Item) → In x (walk p) → IsItem p x
unfolding walk items
IsItem-from_walk p x h =
    let r = In-from_flat_map (items p) x (choices p.options) h in
    let s = In-from_map (item p r.0) x (lists_by p r.0 (p.shape r.0)) r.2 in
    let made : IsItem p (item p r.0 s.0) = record { choice = In-from_choices p.options r.0 r.1; kind = MayBe-from_list p r.0 s.0 (p.shape r.0) s.1 } in
    subst (λ (i : Item). IsItem p i) s.2 made

listed : (p : Problem) (x : Item) (s : Shape) → MayBe p x s → In x.positions (lists_by p x.choice s) × (mark_by s x.positions ≡ x.mark)
listed p x Faulty h = (inl (sym h.0), sym h.1)
listed p x Hopeless h = (inl (sym h.0), sym h.1)
listed p x (Open slots) h = (
  In-filter (p.good x.choice) x.positions (position_lists p.devices slots)
      (In-position_lists p.devices slots x.positions (within (length x.positions) slots x.mark h.filled) (recursion_from_All (λ d. d < p.devices) x.positions h.known)) h.good,
  marked_by (length x.positions) slots x.mark (eqb (length x.positions) slots) refl h.filled,
)

pub In-walk_from_item : (p : Problem) (x : Item) → IsItem p x → In x (walk p)
unfolding walk items
In-walk_from_item p x a =
    let r = listed p x (p.shape x.choice) a.kind in
    let there = In-flat_map (items p) x.choice (item p x.choice x.positions) (choices p.options) (In-choices p.options x.choice a.choice)
    (In-map (item p x.choice) x.positions (lists_by p x.choice (p.shape x.choice)) r.0) in
    subst (λ (m : Mark). In (record { choice = x.choice; positions = x.positions; mark = m }) (flat_map (items p) (choices p.options))) r.1 there
