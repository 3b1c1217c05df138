-- Results whose devices differ, and devices that no claim holds.
use Rattle.std.proofs.Common.{ℕ, zero, suc, ◌+◌, ◌≡◌, ◌≢◌, List, [], ◌∷◌, ◌++◌, Bool, true, false, not, ◌&&◌, cond, Option, None, Some, find, map, refl, sym, ap, ◌∙◌, subst, arith}
use Rattle.std.specs.List.{Contains}
use Rattle.object_fields.specs.declared.key.DeviceId.{DeviceId}
use Rattle.object_fields.specs.declared.key.Key.{Key}
use Rattle.api_claim.specs.declared.types.ResourceClaim.{ResourceClaim}
use Rattle.pool_view.specs.Names.{device_eq}
use Rattle.cluster.specs.declared.plan.DeviceResult.{DeviceResult}
use Rattle.cluster.specs.declared.plan.Grant.{Grant}
use Rattle.request_rules.specs.Input.{SearchInput}
use Rattle.request_rules.specs.Lists.{Each, EachTwo, or_else}
use Rattle.plan_rules.specs.Chosen.{Due, asked_in, dues_for, dues_from}
use Rattle.plan_rules.specs.Shaped.{differ, is_among}
use Rattle.plan_rules.specs.Standing.{HeldPairs, held_behind, held_by, held_from, holder_of, taker_of, takes}
use Rattle.plan_rules.proofs.Cuts.{AllShaped, labels_above, labels_in, results_for}
use Rattle.plan_rules.proofs.Elements.{each_left, each_right, found_none, get-from_contains, none_at, two_join, two_of_map}
use Rattle.plan_rules.proofs.Tests.{both_none, device_eq-same, equal_devices, found_parts, is_false, left_of, no_image, right_of, truth_isnt}

-- ---- the results of a claim

pub differ_two : (rs : List DeviceResult) → differ rs ≡ true → EachTwo (λ r s. r.device ≢ s.device) rs
differ_two [] e i j r s lt g h = absurd (cc)
differ_two (z ∷ rs) e i zero r s lt g h = absurd (omega arith)
differ_two (z ∷ rs) e zero (suc j) r s lt g h =
    let f : z ≡ r = cc in
    let other = none_at (λ t. device_eq z.device t.device) rs (is_false (is_among z rs) (left_of (not (is_among z rs)) (differ rs) e)) j s h in
    λ same. truth_isnt (device_eq z.device s.device) (equal_devices z.device s.device (ap (λ (t : DeviceResult). t.device) f ∙ same)) other
differ_two (z ∷ rs) e (suc i) (suc j) r s lt g h = differ_two rs (right_of (not (is_among z rs)) (differ rs) e) i j r s (omega arith) g h

-- results of one claim are of two devices
abbrev pub Distinct : Due → Due → Type 0
Distinct d e = d.asked.label.claim ≡ e.asked.label.claim → d.result.device ≢ e.result.device

distinct_in : (ds : List Due) (rs : List DeviceResult) → map (λ d. d.result) ds ≡ rs → differ rs ≡ true → EachTwo Distinct ds
distinct_in ds rs f e =
    let two = two_of_map (λ (d : Due). d.result) (λ (r s : DeviceResult). r.device ≢ s.device) ds (subst (λ (l : List DeviceResult). EachTwo (λ r s. r.device ≢ s.device) l) (sym f) (differ_two rs e)) in
    λ i j x y lt g h same. two i j x y lt g h

pub distinct_all : (w : SearchInput) (i : ℕ) (cs : List ResourceClaim) (gs : List Grant) → AllShaped w i cs gs → EachTwo Distinct (dues_from w i cs gs)
distinct_all w i [] gs s n m d e lt g h = absurd (cc)
distinct_all w i (c ∷ cs) [] s n m d e lt g h = absurd (cc)
distinct_all w i (c ∷ cs) (g ∷ gs) s n m d e lt k h =
    let mine = dues_for w c.key (asked_in i c g.results) g.results in
    two_join Distinct mine (dues_from w (i + 1) cs gs)
    (distinct_in mine g.results (results_for w c.key (asked_in i c g.results) g.results s.0.parts) s.0.apart)
    (distinct_all w (i + 1) cs gs s.1)
    (λ n d e m f h same.
    let one = labels_in w i c g.results n d e in
    let two = labels_above w (i + 1) cs gs m f h in
    absurd (omega (arith, one, two, same)))
    n m d e lt k h

-- ---- holders

unheld_pairs : (pairs : List (DeviceId × Key)) (id : DeviceId) → holder_of pairs id ≡ None → Each (λ (h : DeviceId × Key). device_eq h.0 id ≡ false) pairs
unheld_pairs [] id e i h g = absurd (cc)
unheld_pairs (p ∷ ps) id e zero h g =
    let f : p ≡ h = cc in
    ap (λ (z : DeviceId × Key). device_eq z.0 id) (sym f) ∙ (found_parts (device_eq p.0 id) p.1 (holder_of ps id) e).0
unheld_pairs (p ∷ ps) id e (suc i) h g = unheld_pairs ps id (found_parts (device_eq p.0 id) p.1 (holder_of ps id) e).1 i h g

-- a device for which there is no holder is held by no claim
pub unheld_of : (pairs : List (DeviceId × Key)) (id : DeviceId) → holder_of pairs id ≡ None → (holder : Key) → Contains pairs (id, holder) → ⊥
unheld_of pairs id e holder h =
    truth_isnt (device_eq id id) (device_eq-same id) (unheld_pairs pairs id e h.0 (id, holder) (get-from_contains pairs (id, holder) h))

-- of two results without admin access
abbrev pub Excludes : Due → Due → Type 0
Excludes d e = d.result.admin ≡ false → e.result.admin ≡ false → d.result.device ≢ e.result.device

pub record Unheld (pairs : HeldPairs) (before ds : List Due) : Type 0 where
  pub free : Each (λ d. d.result.admin ≡ false → holder_of pairs d.result.device ≡ None) ds
  pub fresh : Each (λ d. Each (λ b. Excludes b d) before) ds
  pub once : EachTwo Excludes ds

untaken : (before : List Due) (d : Due) → taker_of before d.result.device ≡ None → d.result.admin ≡ false → Each (λ b. Excludes b d) before
untaken before d e plain i b g =
    let f = found_none (takes d.result.device) before (no_image (λ (t : Due). t.claim) (find (takes d.result.device) before) e) i b g in
    λ free other same.
    truth_isnt (takes d.result.device b)
    (ap (λ (t : Bool). not t && device_eq b.result.device d.result.device) free ∙ equal_devices b.result.device d.result.device same) f

unheld_by : (d : Due) (o : Option Key) → held_by d o ≡ None → o ≡ None
unheld_by d None e = refl
unheld_by d (Some k) e = absurd (cc)

behind_parts : (pairs : HeldPairs) (before : List Due) (d : Due) → held_behind pairs before d ≡ None → d.result.admin ≡ false → (holder_of pairs d.result.device ≡ None) × (taker_of before d.result.device ≡ None)
behind_parts pairs before d e plain =
    let o = or_else (holder_of pairs d.result.device) (taker_of before d.result.device) in
    both_none (holder_of pairs d.result.device) (taker_of before d.result.device)
    (unheld_by d o (sym (ap (λ (t : Bool). cond t None (held_by d o)) plain) ∙ e))

free_all : (pairs : HeldPairs) (z : Due) (ds : List Due) → (z.result.admin ≡ false → holder_of pairs z.result.device ≡ None) → Each (λ d. d.result.admin ≡ false → holder_of pairs d.result.device ≡ None) ds
    → Each (λ d. d.result.admin ≡ false → holder_of pairs d.result.device ≡ None) (z ∷ ds)
free_all pairs z ds f h zero d g = let s : z ≡ d = cc in subst (λ (t : Due). t.result.admin ≡ false → holder_of pairs t.result.device ≡ None) s f
free_all pairs z ds f h (suc i) d g = h i d g

fresh_all : (before : List Due) (z : Due) (ds : List Due) → (z.result.admin ≡ false → Each (λ b. Excludes b z) before) → Each (λ d. Each (λ b. Excludes b d) (before ++ z ∷ [])) ds
    → Each (λ d. Each (λ b. Excludes b d) before) (z ∷ ds)
fresh_all before z ds f h zero d g = let s : z ≡ d = cc in subst (λ (t : Due). Each (λ b. Excludes b t) before) s (λ i b k free plain. f plain i b k free plain)
fresh_all before z ds f h (suc i) d g = each_left (λ (b : Due). Excludes b d) before (z ∷ []) (h i d g)

once_all : (before : List Due) (z : Due) (ds : List Due) → Each (λ d. Each (λ b. Excludes b d) (before ++ z ∷ [])) ds → EachTwo Excludes ds → EachTwo Excludes (z ∷ ds)
once_all before z ds f h i zero d e lt g k = absurd (omega arith)
once_all before z ds f h zero (suc j) d e lt g k =
    let s : z ≡ d = cc in
    subst (λ (t : Due). Excludes t e) s (each_right (λ (b : Due). Excludes b e) before (z ∷ []) (f j e k) 0 z refl)
once_all before z ds f h (suc i) (suc j) d e lt g k = h i j d e (omega arith) g k

pub unheld_all : (pairs : HeldPairs) (before ds : List Due) → held_from pairs before ds ≡ None → Unheld pairs before ds
unheld_all pairs before [] e = record { free = λ i d g. absurd (cc); fresh = λ i d g. absurd (cc); once = λ i j d f lt g h. absurd (cc) }
unheld_all pairs before (z ∷ ds) e =
    let p = both_none (held_behind pairs before z) (held_from pairs (before ++ z ∷ []) ds) e in
    let rest = unheld_all pairs (before ++ z ∷ []) ds p.1 in
    let here : z.result.admin ≡ false → (holder_of pairs z.result.device ≡ None) × (taker_of before z.result.device ≡ None) = behind_parts pairs before z p.0 in
    record {
      free = free_all pairs z ds (λ plain. (here plain).0) rest.free;
      fresh = fresh_all before z ds (λ plain. untaken before z (here plain).1 plain) rest.fresh;
      once = once_all before z ds rest.fresh rest.once;
    }
