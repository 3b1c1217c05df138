-- A pass has seen its own entries.
use Rattle.std.proofs.Common.{◌≡◌, ◌⊎◌, ℕ, ◌+◌, ◌≤◌, List, [], ◌∷◌, ◌++◌, length, inl, inr, sym, ap, subst, arith, length-append, eq-eqb, ne_eqb}
use Rattle.std.specs.Prelude.{IfSome}
use Rattle.std.specs.List.{AllByRecursion}
use Rattle.turn_lock.specs.declared.view.View.{View}
use Rattle.turn_lock.specs.declared.view.Stage.TheVariants.{Holding}
use Rattle.turn_lock.specs.Places.{new_places, Grown}
use Rattle.turn_lock.specs.Stages.{turn_of}

abbrev Within : ℕ → List ℕ → Type 0
Within most own = AllByRecursion (λ n. n ≤ most) own

within_more : (a b : ℕ) (own : List ℕ) → a ≤ b → Within a own → Within b own
within_more a b [] le h = tt
within_more a b (n ∷ ns) le h = let x = h.0 in (omega (arith, le, x), within_more a b ns le h.1)

within_both : (most : ℕ) (own more : List ℕ) → Within most own → Within most more → Within most (own ++ more)
within_both most [] more h k = k
within_both most (n ∷ ns) more h k = (h.0, within_both most ns more h.1 k)

new_within : (a b : ℕ) → (b ≡ a) ⊎ (b ≡ a + 1) → Within b (new_places a b)
new_within a b (inl e) = rw (eq-eqb a b (sym e)) tt
new_within a b (inr e) = rw (ne_eqb a b (λ q. absurd (omega (arith, e, q)))) (omega arith, tt)

grown_by : {E : Type 0} (old now : List E) → Grown old now → (length now ≡ length old) ⊎ (length now ≡ length old + 1)
grown_by old now (inl e) = inl (ap length e)
grown_by old now (inr e) = let x = ap length e.1 in let y = length-append old (e.0 ∷ []) in inr (omega (arith, x, y))

later : (a b : ℕ) → (b ≡ a) ⊎ (b ≡ a + 1) → a ≤ b
later a b (inl e) = omega (arith, e)
later a b (inr e) = omega (arith, e)

turn_later : {E : Type 0} (v : View E) (t : ℕ) (old : List E) → v.stage ≡ Holding t old → IfSome (turn_of v.stage) (λ h. length v.front ≤ length h) → length v.front ≤ length old
turn_later v t old is h = subst (λ st. IfSome (turn_of st) (λ x. length v.front ≤ length x)) is h

-- after a turn that began with `old` and ended with `now`
pub own_after : {E : Type 0} (v : View E) (t : ℕ) (old now : List E) → v.stage ≡ Holding t old → AllByRecursion (λ n. n ≤ length v.front) v.own → IfSome (turn_of v.stage) (λ h. length v.front ≤ length h) → Grown old now
    → AllByRecursion (λ n. n ≤ length now) (v.own ++ new_places (length old) (length now))
own_after v t old now is own begins grown =
    let by = grown_by old now grown in
    let first = turn_later v t old is begins in
    let second = later (length old) (length now) by in
    within_both (length now) v.own (new_places (length old) (length now)) (within_more (length v.front) (length now) v.own (omega (arith, first, second)) own) (new_within (length old) (length now) by)
