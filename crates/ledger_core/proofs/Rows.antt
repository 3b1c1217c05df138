-- What is at a number in a table that was changed.
use Rattle.std.proofs.Common.{ℕ, ◌≡◌, ◌∙◌, ◌<◌, ◌≤◌, List, [], ◌∷◌, Bool, true, false, cond, eqb, None, Some, refl, sym, ap, arith, eq-eqb, ne_eqb}
use Rattle.std.specs.Ordering.{nat_cmp, is_eq, MatchOrdering, match_ordering}
use Rattle.std.specs.declared.cmp.Ordering.{Ordering}
use Rattle.std.specs.declared.cmp.Ordering.TheVariants.{Less, Equal, Greater}
use Rattle.std.specs.BTreeMap.{insert_entry, is_at}
use Rattle.std.specs.Map.{set_value}
use Rattle.std.proofs.lemmas.Cmp.{ranked}
use Rattle.std.proofs.lemmas.Bool.{eqb-true}
use Rattle.cluster.specs.declared.entry.JobState.{JobState}
use Rattle.ledger_core.specs.Ledger.{at}
use Rattle.ledger_core.specs.Rows.{AreBelow}

test_by : (j k : ℕ) (o : Ordering) → MatchOrdering o (j < k) (j ≡ k) (k < j) → is_eq o ≡ eqb k j
test_by j k Less lt = sym (ne_eqb k j (λ e. omega arith))
test_by j k Equal e = sym (eq-eqb k j (sym e))
test_by j k Greater lt = sym (ne_eqb k j (λ e. omega arith))

-- which key a look-up finds
pub test_is : (j k : ℕ) → is_at (nat_cmp j) k ≡ eqb k j
test_is j k = test_by j k (nat_cmp j k) (ranked j k (nat_cmp j k) refl)

twice : {X : Type 0} (b : Bool) (x y z : X) → cond b x z ≡ cond b x (cond b y z)
twice true x y z = refl
twice false x y z = refl

apart : {X : Type 0} (a b : Bool) (x y z : X) → (a ≡ true → b ≡ true → ⊥) → cond b y (cond a x z) ≡ cond a x (cond b y z)
apart true true x y z never = absurd (never refl refl)
apart true false x y z never = refl
apart false b x y z never = refl

insert_by : {V : Type 0} (k j : ℕ) (w : V) (e : ℕ × V) (es : List (ℕ × V)) (o : Ordering) → MatchOrdering o (k < e.0) (k ≡ e.0) (e.0 < k)
    → at (insert_entry nat_cmp es k w) j ≡ cond (eqb k j) (Some w) (at es j)
    → at (match_ordering o ((k, w) ∷ e ∷ es) ((e.0, w) ∷ es) (e ∷ insert_entry nat_cmp es k w)) j ≡ cond (eqb k j) (Some w) (at (e ∷ es) j)
insert_by k j w e es Less lt later = ap (λ (b : Bool). cond b (Some w) (at (e ∷ es) j)) (test_is j k)
insert_by k j w e es Equal same later =
    ap (λ (b : Bool). cond b (Some w) (at es j)) (test_is j e.0)
    ∙ twice (eqb e.0 j) (Some w) (Some e.1) (at es j)
    ∙ ap (λ (b : Bool). cond (eqb e.0 j) (Some w) (cond b (Some e.1) (at es j))) (sym (test_is j e.0))
    ∙ ap (λ (n : ℕ). cond (eqb n j) (Some w) (at (e ∷ es) j)) (sym same)
insert_by k j w e es Greater lt later =
    ap (λ (b : Bool). cond b (Some e.1) (at (insert_entry nat_cmp es k w) j)) (test_is j e.0)
    ∙ ap (λ r. cond (eqb e.0 j) (Some e.1) r) later
    ∙ apart (eqb k j) (eqb e.0 j) (Some w) (Some e.1) (at es j) (λ p q. let x = eqb-true k j p in let y = eqb-true e.0 j q in omega arith)
    ∙ ap (λ (b : Bool). cond (eqb k j) (Some w) (cond b (Some e.1) (at es j))) (sym (test_is j e.0))

pub at_insert : {V : Type 0} (t : List (ℕ × V)) (k : ℕ) (w : V) (j : ℕ) → at (insert_entry nat_cmp t k w) j ≡ cond (eqb k j) (Some w) (at t j)
at_insert [] k w j = ap (λ (b : Bool). cond b (Some w) None) (test_is j k)
at_insert (e ∷ es) k w j = insert_by k j w e es (nat_cmp k e.0) (ranked k e.0 (nat_cmp k e.0) refl) (at_insert es k w j)

set_by : {V : Type 0} (k j : ℕ) (w v : V) (e : ℕ × V) (es : List (ℕ × V)) (b : Bool) → eqb e.0 k ≡ b → cond b (Some e.1) (at es k) ≡ Some v
    → (at es k ≡ Some v → at (set_value (is_at (nat_cmp k)) es w) j ≡ cond (eqb k j) (Some w) (at es j))
    → at (cond b ((e.0, w) ∷ es) (e ∷ set_value (is_at (nat_cmp k)) es w)) j ≡ cond (eqb k j) (Some w) (at (e ∷ es) j)
set_by k j w v e es true t is later =
    let same : e.0 ≡ k = eqb-true e.0 k t in
    ap (λ (b : Bool). cond b (Some w) (at es j)) (test_is j e.0)
    ∙ twice (eqb e.0 j) (Some w) (Some e.1) (at es j)
    ∙ ap (λ (b : Bool). cond (eqb e.0 j) (Some w) (cond b (Some e.1) (at es j))) (sym (test_is j e.0))
    ∙ ap (λ (n : ℕ). cond (eqb n j) (Some w) (at (e ∷ es) j)) same
set_by k j w v e es false t is later =
    ap (λ (b : Bool). cond b (Some e.1) (at (set_value (is_at (nat_cmp k)) es w) j)) (test_is j e.0)
    ∙ ap (λ r. cond (eqb e.0 j) (Some e.1) r) (later is)
    ∙ apart (eqb k j) (eqb e.0 j) (Some w) (Some e.1) (at es j) (λ p q. let x = eqb-true k j p in let y = eqb-true e.0 j q in let z : eqb e.0 k ≡ true = eq-eqb e.0 k (omega arith) in cc)
    ∙ ap (λ (b : Bool). cond (eqb k j) (Some w) (cond b (Some e.1) (at es j))) (sym (test_is j e.0))

pub at_set : {V : Type 0} (t : List (ℕ × V)) (k : ℕ) (v w : V) (j : ℕ) → at t k ≡ Some v → at (set_value (is_at (nat_cmp k)) t w) j ≡ cond (eqb k j) (Some w) (at t j)
at_set [] k v w j is = absurd cc
at_set (e ∷ es) k v w j is =
    let b = test_is k e.0 in
    ap (λ (x : Bool). at (cond x ((e.0, w) ∷ es) (e ∷ set_value (is_at (nat_cmp k)) es w)) j) b
    ∙ set_by k j w v e es (eqb e.0 k) refl (ap (λ (x : Bool). cond x (Some e.1) (at es k)) (sym b) ∙ is) (at_set es k v w j)

-- ---- what is kept beside the rows

pub at_inserted : {V : Type 0} (t : List (ℕ × V)) (k : ℕ) (w : V) → at (insert_entry nat_cmp t k w) k ≡ Some w
at_inserted t k w = at_insert t k w k ∙ ap (λ (b : Bool). cond b (Some w) (at t k)) (eq-eqb k k refl)

pub at_one_set : {V : Type 0} (t : List (ℕ × V)) (k : ℕ) (v w : V) → at t k ≡ Some v → at (set_value (is_at (nat_cmp k)) t w) k ≡ Some w
at_one_set t k v w is = at_set t k v w k is ∙ ap (λ (b : Bool). cond b (Some w) (at t k)) (eq-eqb k k refl)

pub below_inserted : (t : List (ℕ × JobState)) (most more k : ℕ) (w : JobState) → AreBelow t most → most ≤ more → k ≤ more → AreBelow (insert_entry nat_cmp t k w) more
below_inserted t most more k w below le within j lt =
    at_insert t k w j ∙ ap (λ (b : Bool). cond b (Some w) (at t j)) (ne_eqb k j (λ e. omega (arith, lt, within, e))) ∙ below j (omega (arith, lt, le))

never_above : (t : List (ℕ × JobState)) (most k j : ℕ) (v : JobState) → AreBelow t most → at t k ≡ Some v → most < j → k ≡ j → ⊥
never_above t most k j v below is lt e = absurd (let none = below j lt in cc)

pub below_set : (t : List (ℕ × JobState)) (most k : ℕ) (v w : JobState) → AreBelow t most → at t k ≡ Some v → AreBelow (set_value (is_at (nat_cmp k)) t w) most
below_set t most k v w below is j lt = at_set t k v w j is ∙ ap (λ (b : Bool). cond b (Some w) (at t j)) (ne_eqb k j (never_above t most k j v below is lt)) ∙ below j lt
