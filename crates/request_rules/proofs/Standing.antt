-- Devices that may be allocated together, fact by fact.
use Rattle.std.proofs.Common.{ℕ, ◌≡◌, ◌≢◌, List, [], Bool, true, false, not, ◌&&◌, ◌||◌, cond, eqb, leb, Option, None, Some, take, refl, sym, ap, ◌∙◌, subst, ⊎_elim, arith}
use Rattle.std.specs.List.{slice_get, list_all, Contains}
use Rattle.std.specs.Option.{is_some, IsSome}
use Rattle.std.proofs.lemmas.Bool.Decides.{nat_tests}
use borrow.Author.Tests.{eqb-true}
use Rattle.object_fields.specs.declared.key.Key.{Key}
use Rattle.object_fields.specs.declared.key.DeviceId.{DeviceId}
use Rattle.pool_view.specs.Names.{device_eq}
use Rattle.request_rules.proofs.Equal.{device_eq-same, equal_devices, equal_values, same_values-from, same_from_device_eq}
use Rattle.request_rules.specs.Draws.{CounterId, Draw, is_within}
use Rattle.request_rules.specs.Rules.{Pick}
use Rattle.request_rules.specs.Input.{SearchInput}
use Rattle.request_rules.specs.Lists.{each_after, Each, EachTwo}
use Rattle.request_rules.specs.Asked.{Rule, rules_of}
use Rattle.request_rules.specs.Rules.{agrees, apart, covers, device_draws, draws, excludes, id_of, is_for, is_held, may_join, same_values, total, value_of, within}
use Rattle.request_rules.specs.Allocation.{IsCovered, IsKept}
use Rattle.request_rules.proofs.Tests.{left_of, right_of, both, either, implied, implies, is_false, is_true, false_from, not_both, not_both_from, or_left, or_right, same_number}
use Rattle.request_rules.proofs.Places.{all_at, all_from, each_at, each_from, prefix_at, prefix_from, get-from_contains, none_at, none_from, Contains-from_get}
use Rattle.request_rules.proofs.Covered.{covered, covered-after}

pub record Standing (w : SearchInput) (ps : List Pick) : Type 0 where
  pub distinct : EachTwo (λ p q. p.label.claim ≡ q.label.claim → id_of w p ≢ id_of w q) ps
  pub unheld : Each (λ p. p.label.admin ≡ false → (holder : Key) → Contains w.held (id_of w p, holder) → ⊥) ps
  pub exclusive : EachTwo (λ p q. p.label.admin ≡ false → q.label.admin ≡ false → id_of w p ≡ id_of w q → p.label.claim ≡ q.label.claim) ps
  pub covered : Each (λ p. p.label.admin ≡ false → (d : Draw) → Contains (device_draws w p) d → IsCovered w ps d.counter) ps
  pub kept : (r : Rule) → Contains (rules_of w) r → IsKept w ps r

-- ---- the parts of the test

pub apart_of : (w : SearchInput) (before : List Pick) (p : Pick) → may_join w before p ≡ true → list_all (λ q. apart w q p) before ≡ true
unfolding may_join
apart_of w before p e = left_of (list_all (λ q. apart w q p) before) ((p.label.admin || not (is_held w p)) && (covers w before p && list_all (λ r. agrees w r before p) (rules_of w))) e

rest_of : (w : SearchInput) (before : List Pick) (p : Pick) → may_join w before p ≡ true → ((p.label.admin || not (is_held w p)) && (covers w before p && list_all (λ r. agrees w r before p) (rules_of w))) ≡ true
unfolding may_join
rest_of w before p e = right_of (list_all (λ q. apart w q p) before) ((p.label.admin || not (is_held w p)) && (covers w before p && list_all (λ r. agrees w r before p) (rules_of w))) e

pub free_of : (w : SearchInput) (before : List Pick) (p : Pick) → may_join w before p ≡ true → (p.label.admin || not (is_held w p)) ≡ true
free_of w before p e = left_of (p.label.admin || not (is_held w p)) (covers w before p && list_all (λ r. agrees w r before p) (rules_of w)) (rest_of w before p e)

last_of : (w : SearchInput) (before : List Pick) (p : Pick) → may_join w before p ≡ true → (covers w before p && list_all (λ r. agrees w r before p) (rules_of w)) ≡ true
last_of w before p e = right_of (p.label.admin || not (is_held w p)) (covers w before p && list_all (λ r. agrees w r before p) (rules_of w)) (rest_of w before p e)

pub covers_of : (w : SearchInput) (before : List Pick) (p : Pick) → may_join w before p ≡ true → covers w before p ≡ true
covers_of w before p e = left_of (covers w before p) (list_all (λ r. agrees w r before p) (rules_of w)) (last_of w before p e)

pub agrees_of : (w : SearchInput) (before : List Pick) (p : Pick) → may_join w before p ≡ true → list_all (λ r. agrees w r before p) (rules_of w) ≡ true
agrees_of w before p e = right_of (covers w before p) (list_all (λ r. agrees w r before p) (rules_of w)) (last_of w before p e)

pub joins_from : (w : SearchInput) (before : List Pick) (p : Pick) → list_all (λ q. apart w q p) before ≡ true → (p.label.admin || not (is_held w p)) ≡ true → covers w before p ≡ true → list_all (λ r. agrees w r before p) (rules_of w) ≡ true
    → may_join w before p ≡ true
unfolding may_join
joins_from w before p a f c r =
    both (list_all (λ q. apart w q p) before) ((p.label.admin || not (is_held w p)) && (covers w before p && list_all (λ r. agrees w r before p) (rules_of w))) a
    (both (p.label.admin || not (is_held w p)) (covers w before p && list_all (λ r. agrees w r before p) (rules_of w)) f
    (both (covers w before p) (list_all (λ r. agrees w r before p) (rules_of w)) c r))

-- ---- counters

draws_plain : (w : SearchInput) (p : Pick) → p.label.admin ≡ false → draws w p ≡ (device_draws w p)
draws_plain w p e = ap (λ (t : Bool). cond t [] (device_draws w p)) e

enough_by : (w : SearchInput) (ps : List Pick) (k : CounterId) (o : Option ℕ) → w.value k ≡ o → is_within o (total w k ps) ≡ true → IsCovered w ps k
enough_by w ps k None e h = absurd (cc)
enough_by w ps k (Some v) e h = record { value = v; there = e; enough = grind (arith, nat_tests, h) }

within_from : (w : SearchInput) (ps : List Pick) (k : CounterId) → IsCovered w ps k → within w k (total w k ps) ≡ true
within_from w ps k f =
    let h = f.enough in
    let g : leb (total w k ps) f.value ≡ true = grind (arith, nat_tests, h) in
    ap (λ (o : Option ℕ). is_within o (total w k ps)) f.there ∙ g

covered_of : (w : SearchInput) (ps : List Pick) → covered w ps ≡ true → Each (λ p. p.label.admin ≡ false → (d : Draw) → Contains (device_draws w p) d → IsCovered w ps d.counter) ps
covered_of w ps e i p g plain d h =
    let k = draws_plain w p plain in
    let inside : Contains (draws w p) d = subst (λ (ds : List Draw). Contains ds d) (sym k) h in
    let row = all_at (λ q. list_all (λ d. within w d.counter (total w d.counter ps)) (draws w q)) ps e i p g in
    enough_by w ps d.counter (w.value d.counter) refl (all_at (λ d. within w d.counter (total w d.counter ps)) (draws w p) row inside.0 d (get-from_contains (draws w p) d inside))

row_from : (w : SearchInput) (ps : List Pick) (p : Pick) (b : Bool) → p.label.admin ≡ b → (p.label.admin ≡ false → (d : Draw) → Contains (device_draws w p) d → IsCovered w ps d.counter)
    → list_all (λ d. within w d.counter (total w d.counter ps)) (draws w p) ≡ true
row_from w ps p true e h = ap (λ (t : Bool). list_all (λ d. within w d.counter (total w d.counter ps)) (cond t [] (device_draws w p))) e
row_from w ps p false e h =
    let k = draws_plain w p e in
    ap (λ (ds : List Draw). list_all (λ d. within w d.counter (total w d.counter ps)) ds) k
    ∙ all_from (λ d. within w d.counter (total w d.counter ps)) (device_draws w p)
    (λ i d g. within_from w ps d.counter (h e d (Contains-from_get (device_draws w p) i d g)))

covered_from : (w : SearchInput) (ps : List Pick) → Each (λ p. p.label.admin ≡ false → (d : Draw) → Contains (device_draws w p) d → IsCovered w ps d.counter) ps → covered w ps ≡ true
covered_from w ps h = all_from (λ q. list_all (λ d. within w d.counter (total w d.counter ps)) (draws w q)) ps (λ i p g. row_from w ps p p.label.admin refl (h i p g))

-- ---- constraints

valued : (w : SearchInput) (r : Rule) (before : List Pick) (p : Pick) → agrees w r before p ≡ true → is_for r p.label ≡ true → IsSome (value_of w r p)
unfolding agrees
valued w r before p e n =
    left_of (is_some (value_of w r p)) (list_all (λ q. not (is_for r q.label) || same_values (value_of w r q) (value_of w r p)) before)
    (implied (is_for r p.label) (is_some (value_of w r p) && list_all (λ q. not (is_for r q.label) || same_values (value_of w r q) (value_of w r p)) before) e n)

alike : (w : SearchInput) (r : Rule) (before : List Pick) (p : Pick) → agrees w r before p ≡ true → is_for r p.label ≡ true → list_all (λ q. not (is_for r q.label) || same_values (value_of w r q) (value_of w r p)) before ≡ true
unfolding agrees
alike w r before p e n =
    right_of (is_some (value_of w r p)) (list_all (λ q. not (is_for r q.label) || same_values (value_of w r q) (value_of w r p)) before)
    (implied (is_for r p.label) (is_some (value_of w r p) && list_all (λ q. not (is_for r q.label) || same_values (value_of w r q) (value_of w r p)) before) e n)

agrees_from : (w : SearchInput) (r : Rule) (before : List Pick) (p : Pick) → (is_for r p.label ≡ true → IsSome (value_of w r p))
    → (is_for r p.label ≡ true → list_all (λ q. not (is_for r q.label) || same_values (value_of w r q) (value_of w r p)) before ≡ true) → agrees w r before p ≡ true
unfolding agrees
agrees_from w r before p v a =
    implies (is_for r p.label) (is_some (value_of w r p) && list_all (λ q. not (is_for r q.label) || same_values (value_of w r q) (value_of w r p)) before)
    (λ n. both (is_some (value_of w r p)) (list_all (λ q. not (is_for r q.label) || same_values (value_of w r q) (value_of w r p)) before) (v n) (a n))

kept_of : (w : SearchInput) (ps : List Pick) (r : Rule) → ((i : ℕ) (p : Pick) → slice_get ps i ≡ Some p → agrees w r (take i ps) p ≡ true) → IsKept w ps r
kept_of w ps r h = record {
  present = λ i p g n. valued w r (take i ps) p (h i p g) n;
  same = λ i j p q k g e n m.
      let one = prefix_at (λ z. not (is_for r z.label) || same_values (value_of w r z) (value_of w r q)) ps j (alike w r (take j ps) q (h j q e) m) i p k g in
      equal_values (value_of w r p) (value_of w r q) (implied (is_for r p.label) (same_values (value_of w r p) (value_of w r q)) one n);
}

kept_from : (w : SearchInput) (ps : List Pick) (r : Rule) → IsKept w ps r → (i : ℕ) (p : Pick) → slice_get ps i ≡ Some p → agrees w r (take i ps) p ≡ true
kept_from w ps r f i p g =
    agrees_from w r (take i ps) p (f.present i p g)
    (λ n. prefix_from (λ z. not (is_for r z.label) || same_values (value_of w r z) (value_of w r p)) ps i
    (λ j q k e. implies (is_for r q.label) (same_values (value_of w r q) (value_of w r p))
    (λ m. same_values-from (value_of w r q) (value_of w r p) (f.same j i q p k e g m n) (f.present j q e m))))

-- ---- all of them

neither_admin : (a b : Bool) → a ≡ false → b ≡ false → (not a && not b) ≡ true
neither_admin a b e f = both (not a) (not b) (is_true a e) (is_true b f)

two_apart : (w : SearchInput) (ps : List Pick) → each_after (may_join w) [] ps ≡ true → EachTwo (λ p q. excludes p q ≡ true → id_of w p ≢ id_of w q) ps
two_apart w ps e i j p q k g h x same =
    let one = prefix_at (λ z. apart w z q) ps j (apart_of w (take j ps) q (each_at (may_join w) [] ps e j q h)) i p k g in
    not_both (excludes p q) (device_eq (id_of w p) (id_of w q)) one x (equal_devices (id_of w p) (id_of w q) same)

free_by : (w : SearchInput) (p : Pick) → (p.label.admin || not (is_held w p)) ≡ true → p.label.admin ≡ false → (holder : Key) → Contains w.held (id_of w p, holder) → ⊥
free_by w p e plain holder h =
    ⊎_elim
    (λ (t : p.label.admin ≡ true). let f : true ≡ false = sym t ∙ plain in absurd (cc))
    (λ (t : not (is_held w p) ≡ true).
    let f = none_at (λ (z : DeviceId × Key). device_eq z.0 (id_of w p)) w.held (is_false (is_held w p) t) h.0 (id_of w p, holder) (get-from_contains w.held (id_of w p, holder) h) in
    let g = device_eq-same (id_of w p) in
    let bad : true ≡ false = sym g ∙ f in
    absurd (cc))
    (either p.label.admin (not (is_held w p)) e)

pair_is : (w : SearchInput) (d e : DeviceId) (k : Key) → d ≡ e → Contains w.held (d, k) → Contains w.held (e, k)
pair_is w d e k s h = subst (λ (z : DeviceId). Contains w.held (z, k)) s h

free_from : (w : SearchInput) (p : Pick) (b : Bool) → p.label.admin ≡ b → (p.label.admin ≡ false → (holder : Key) → Contains w.held (id_of w p, holder) → ⊥) → (p.label.admin || not (is_held w p)) ≡ true
free_from w p true e h = or_left p.label.admin (not (is_held w p)) e
free_from w p false e h =
    or_right p.label.admin (not (is_held w p))
    (is_true (is_held w p) (none_from (λ (z : DeviceId × Key). device_eq z.0 (id_of w p)) w.held
    (λ i z g. false_from (device_eq z.0 (id_of w p)) (λ t.
    h e z.1 (pair_is w z.0 (id_of w p) z.1 (same_from_device_eq z.0 (id_of w p) t) (Contains-from_get w.held i z g))))))

pub standing_of : (w : SearchInput) (ps : List Pick) → each_after (may_join w) [] ps ≡ true → Standing w ps
standing_of w ps e =
    let at : (i : ℕ) (p : Pick) → slice_get ps i ≡ Some p → may_join w (take i ps) p ≡ true = each_at (may_join w) [] ps e in
    let two = two_apart w ps e in
    record {
      distinct = λ i j p q k g h same. two i j p q k g h (or_left (eqb p.label.claim q.label.claim) (not p.label.admin && not q.label.admin) (same_number p.label.claim q.label.claim same));
      unheld = λ i p g. free_by w p (free_of w (take i ps) p (at i p g));
      exclusive = λ i j p q k g h a b same. absurd (two i j p q k g h (or_right (eqb p.label.claim q.label.claim) (not p.label.admin && not q.label.admin) (neither_admin p.label.admin q.label.admin a b)) same);
      covered = covered_of w ps (sym (covered-after w [] ps refl) ∙ each_from (covers w) [] ps (λ i p g. covers_of w (take i ps) p (at i p g)));
      kept = λ r h. kept_of w ps r (λ i p g. all_at (λ r. agrees w r (take i ps) p) (rules_of w) (agrees_of w (take i ps) p (at i p g)) h.0 r (get-from_contains (rules_of w) r h));
    }

pub standing_from : (w : SearchInput) (ps : List Pick) → Standing w ps → each_after (may_join w) [] ps ≡ true
standing_from w ps f =
    let c : each_after (covers w) [] ps ≡ true = covered-after w [] ps refl ∙ covered_from w ps f.covered in
    each_from (may_join w) [] ps (λ i p g.
    joins_from w (take i ps) p
    (prefix_from (λ q. apart w q p) ps i (λ j q k h. not_both_from (excludes q p) (device_eq (id_of w q) (id_of w p)) (λ x same.
    let e = same_from_device_eq (id_of w q) (id_of w p) same in
    ⊎_elim
    (λ (t : eqb q.label.claim p.label.claim ≡ true). f.distinct j i q p k h g (eqb-true q.label.claim p.label.claim t) e)
    (λ (t : (not q.label.admin && not p.label.admin) ≡ true).
    f.distinct j i q p k h g
    (f.exclusive j i q p k h g (is_false q.label.admin (left_of (not q.label.admin) (not p.label.admin) t)) (is_false p.label.admin (right_of (not q.label.admin) (not p.label.admin) t)) e) e)
    (either (eqb q.label.claim p.label.claim) (not q.label.admin && not p.label.admin) x))))
    (free_from w p p.label.admin refl (f.unheld i p g))
    (each_at (covers w) [] ps c i p g)
    (all_from (λ r. agrees w r (take i ps) p) (rules_of w) (λ j r h. kept_from w ps r (f.kept r (Contains-from_get (rules_of w) j r h)) i p g)))
