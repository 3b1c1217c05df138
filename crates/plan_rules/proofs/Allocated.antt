-- Grants without a failure are an allocation.
use Rattle.std.proofs.Common.{ℕ, suc, ◌<◌, ◌≤◌, ◌≡◌, ◌≢◌, List, [], ◌∷◌, true, false, eqb, None, find, length, map, refl, sym, ap, ◌∙◌, subst}
use Rattle.std.specs.List.{count_by, flat_map, list_all, Contains}
use Rattle.std.proofs.lemmas.List.{length-map}
use Rattle.std.proofs.lemmas.Option.{slice_get_within}
use Rattle.walk.specs.Walk.{IsChoice}
use Rattle.object_fields.specs.declared.key.DeviceId.{DeviceId}
use Rattle.object_fields.specs.declared.key.Key.{Key}
use Rattle.api_claim.specs.declared.types.AllocationMode.TheVariants.{ExactCount, All}
use Rattle.api_claim.specs.declared.types.DeviceConstraint.{DeviceConstraint}
use Rattle.request_rules.specs.Agreeing as agreeing
use Rattle.constraints.specs.Keeping.{KeepsConstraint}
use Rattle.request_rules.specs.Draws.{Draw}
use Rattle.cluster.specs.declared.failure.Failure.TheVariants as failure
use Rattle.cluster.specs.declared.plan.DeviceResult.{DeviceResult}
use Rattle.cluster.specs.declared.plan.Grant.{Grant}
use Rattle.allocations.specs.Input.{grants_by}
use Rattle.request_rules.specs.Allocation.{IsAllocation, IsCovered, IsExact, IsKept, IsWhole, Met, Result, Tolerates, result_of, taken}
use Rattle.request_rules.specs.Asked.{Asked, Rule, asked, options, rules_of}
use Rattle.request_rules.specs.Faults.{FaultPlace, GivesNone, fault_for, fault_of}
use Rattle.request_rules.specs.Input.{SearchInput}
use Rattle.request_rules.specs.Lists.{Each, EachBoth, EachTwo, or_else}
use Rattle.request_rules.specs.Problem.{most_results}
use Rattle.request_rules.specs.Rules.{Pick, device_draws, id_by, id_of}
use Rattle.plan_rules.specs.Chosen.{Due, choice_of, due_for, dues, dues_from, pick_of, place_of}
use Rattle.plan_rules.specs.Failing.{failing_in, failing_shaped, failing_standing, failing_tolerated}
use Rattle.plan_rules.specs.Shaped.{is_for, is_part, misshapen, sits}
use Rattle.plan_rules.specs.Standing.{all_results, constraint_broken, counter_short, device_gone, held, holder_of, is_off, is_unmet, selector_fault, selector_no, tainted}
use Rattle.plan_rules.proofs.Apart.{Distinct, Excludes, Unheld, distinct_all, unheld_all, unheld_of}
use Rattle.plan_rules.proofs.Choices.{asks_are, choice_is}
use Rattle.plan_rules.proofs.Covering.{constraints_kept, covered_of}
use Rattle.plan_rules.proofs.Cuts.{Cut, cuts_from, dues_are, dues_of, part_of, parts_all, results_all, shaped_all, taken_is}
use Rattle.plan_rules.proofs.Elements.{all_at, both_to_map, each_of_flat, each_of_map, each_to_flat, each_to_map, firsts_none, found_none, map-at, two_to_map}
use Rattle.plan_rules.proofs.GrantsAgain.{admin_is, few_all, grants_again, result_for}
use Rattle.plan_rules.proofs.Meets.{Placed, exact_of, gives_none, met_of, placed, whole_of}
use Rattle.plan_rules.proofs.Tolerating.{FitLaw, tolerated_all}
use Rattle.plan_rules.proofs.Tests.{both_none, left_of, no_image, right_of}

-- a law of `constraints`
abbrev pub KeepLaw : Type 0
KeepLaw = (c : DeviceConstraint) (xs : List agreeing.Pick) → agreeing.each_agrees c [] xs ≡ true → KeepsConstraint c xs

-- ---- the grants have no failure

pub record Nothing (w : SearchInput) (grants : List Grant) (c : List ℕ) (ds : List Due) : Type 0 where
  pub gone : device_gone w.devices grants ≡ None
  pub shape : misshapen w grants ≡ None
  pub unmet : selector_no w ds ≡ None
  pub fault : selector_fault w c ≡ None
  pub tolerated : tainted w ds ≡ None
  pub taken : held w.held ds ≡ None
  pub short : counter_short w (map (pick_of w) ds) ≡ None
  pub broken : constraint_broken w (map (pick_of w) ds) ≡ None

nothing_by : (w : SearchInput) (grants : List Grant) (c : List ℕ) (ds : List Due) → device_gone w.devices grants ≡ None → misshapen w grants ≡ None → failing_shaped w c ds ≡ None → Nothing w grants c ds
nothing_by w grants c ds gone shape e =
    let standing = failing_standing w ds in
    let one = both_none (selector_no w ds) (or_else (selector_fault w c) (failing_tolerated w ds)) e in
    let two = both_none (selector_fault w c) (failing_tolerated w ds) one.1 in
    let three = both_none (tainted w ds) standing two.1 in
    let four = both_none (held w.held ds) (or_else (counter_short w (map (pick_of w) ds)) (constraint_broken w (map (pick_of w) ds))) three.1 in
    let five = both_none (counter_short w (map (pick_of w) ds)) (constraint_broken w (map (pick_of w) ds)) four.1 in
    record { gone = gone; shape = shape; unmet = one.0; fault = two.0; tolerated = three.0; taken = four.0; short = five.0; broken = five.1 }

nothing_of : (w : SearchInput) (grants : List Grant) → failing_in w grants ≡ None → Nothing w grants (choice_of w grants) (dues_from w 0 w.claims grants)
unfolding failing_in dues
nothing_of w grants e =
    let ds = dues_from w 0 w.claims grants in
    let one = both_none (device_gone w.devices grants) (or_else (misshapen w grants) (failing_shaped w (choice_of w grants) ds)) e in
    let two = both_none (misshapen w grants) (failing_shaped w (choice_of w grants) ds) one.1 in
    nothing_by w grants (choice_of w grants) ds one.0 two.0 two.1

-- ---- what an allocation means, over what is asked for and the picks as variables

pub record Meant (w : SearchInput) (rs : List Result) (asks : List Asked) (parts : List (List ℕ)) (ps : List Pick) : Type 0 where
  pub parts_are : length parts ≡ length asks
  pub in_order : rs ≡ map (result_of w) ps
  pub exact_count : EachBoth (λ a l. (n : ℕ) → a.ask.mode ≡ ExactCount n → IsExact n l) asks parts
  pub all_devices : EachBoth (λ a l. a.ask.mode ≡ All → IsWhole w a l) asks parts
  pub devices_match : EachBoth (λ a l. Each (Met w a) l) asks parts
  pub unfaulted : Each (λ a. GivesNone w a w.devices) asks
  pub distinct : EachTwo (λ p q. p.label.claim ≡ q.label.claim → id_of w p ≢ id_of w q) ps
  pub unheld : Each (λ p. p.label.admin ≡ false → (holder : Key) → Contains w.held (id_of w p, holder) → ⊥) ps
  pub exclusive : EachTwo (λ p q. p.label.admin ≡ false → q.label.admin ≡ false → id_of w p ≡ id_of w q → p.label.claim ≡ q.label.claim) ps
  pub covered : Each (λ p. p.label.admin ≡ false → (d : Draw) → Contains (device_draws w p) d → IsCovered w ps d.counter) ps
  pub tolerated : EachBoth (λ a l. Each (Tolerates w a) l) asks parts
  pub constraints_hold : (r : Rule) → Contains (rules_of w) r → IsKept w ps r
  pub few : (i : ℕ) → i < length w.claims → count_by (λ r. eqb r.label.claim i) rs ≤ most_results

meant_to : (w : SearchInput) (c : List ℕ) (rs : List Result) (asks : List Asked) (parts : List (List ℕ)) (ps : List Pick) → IsChoice (options w) c → asked w c ≡ asks → taken asks parts ≡ ps
    → Meant w rs asks parts ps → IsAllocation w c rs
meant_to w c rs asks parts ps choice e t m =
    let f : Meant w rs asks parts (taken asks parts) = subst (λ (z : List Pick). Meant w rs asks parts z) (sym t) m in
    let g : Meant w rs (asked w c) parts (taken (asked w c) parts) = subst (λ (z : List Asked). Meant w rs z parts (taken z parts)) (sym e) f in
    record {
      choice_is = choice;
      parts = parts;
      parts_are = g.parts_are;
      in_order = g.in_order;
      exact_count = g.exact_count;
      all_devices = g.all_devices;
      devices_match = g.devices_match;
      unfaulted = g.unfaulted;
      distinct = g.distinct;
      unheld = g.unheld;
      exclusive = g.exclusive;
      covered = g.covered;
      tolerated = g.tolerated;
      constraints_hold = g.constraints_hold;
      few = g.few;
    }

-- ---- fact by fact

pub fits_all : (w : SearchInput) (us : List Cut) → Each (λ u. is_part w u.asked u.results ≡ true) us → Each (λ d. is_for d.asked d.result ≡ true) (flat_map dues_of us)
fits_all w us h =
    each_to_flat dues_of (λ (d : Due). is_for d.asked d.result ≡ true) us
    (λ i u g. each_to_map (due_for u.claim u.asked) (λ (d : Due). is_for d.asked d.result ≡ true) u.results
    (all_at (is_for u.asked) u.results (left_of (list_all (is_for u.asked) u.results) (sits w u.asked u.asked.ask.mode (part_of w u)) (h i u g))))

sits_all : (w : SearchInput) (us : List Cut) → Each (λ u. is_part w u.asked u.results ≡ true) us → Each (λ u. sits w u.asked u.asked.ask.mode (part_of w u) ≡ true) us
sits_all w us h i u g = right_of (list_all (is_for u.asked) u.results) (sits w u.asked u.asked.ask.mode (part_of w u)) (h i u g)

placed_all : (w : SearchInput) (grants : List Grant) (ds : List Due) → map (λ d. d.result) ds ≡ all_results grants → device_gone w.devices grants ≡ None → Each (λ d. Placed w d.result) ds
placed_all w grants ds e f =
    let on : Each (λ r. is_off w.devices r ≡ false) (all_results grants) = found_none (is_off w.devices) (all_results grants) (no_image (λ (r : DeviceResult). failure.DeviceGone r.device) (find (is_off w.devices) (all_results grants)) f) in
    let each = each_of_map (λ (d : Due). d.result) (λ (r : DeviceResult). is_off w.devices r ≡ false) ds (subst (λ (l : List DeviceResult). Each (λ r. is_off w.devices r ≡ false) l) (sym e) on) in
    λ i d g. placed w d.result (each i d g)

meets_all : (w : SearchInput) (ds : List Due) → selector_no w ds ≡ None → Each (λ d. is_unmet w d ≡ false) ds
meets_all w ds e = found_none (is_unmet w) ds (no_image (λ (d : Due). failure.SelectorNo d.result.device) (find (is_unmet w) ds) e)

unfaulted_all : (w : SearchInput) (c : List ℕ) → selector_fault w c ≡ None → Each (λ a. GivesNone w a w.devices) (asked w c)
unfolding fault_of
unfaulted_all w c e =
    let each = firsts_none (fault_for w) (asked w c) (no_image (λ (f : FaultPlace). failure.SelectorFault f.device) (fault_of w c) e) in
    λ i a g. gives_none w a (each i a g)

met_in : (w : SearchInput) (u : Cut) → Each (λ d. Placed w d.result) (dues_of u) → Each (λ d. is_unmet w d ≡ false) (dues_of u) → GivesNone w u.asked w.devices → Each (Met w u.asked) (part_of w u)
met_in w u p m none =
    each_to_map (place_of w) (Met w u.asked) u.results (λ n r f.
    let g = map-at (due_for u.claim u.asked) u.results n r f in
    met_of w u.asked r (p n (due_for u.claim u.asked r) g) (m n (due_for u.claim u.asked r) g) none)

tolerated_in : (w : SearchInput) (u : Cut) → Each (λ d. Tolerates w d.asked (place_of w d.result)) (dues_of u) → Each (Tolerates w u.asked) (part_of w u)
tolerated_in w u h =
    each_to_map (place_of w) (Tolerates w u.asked) u.results (λ n r f. h n (due_for u.claim u.asked r) (map-at (due_for u.claim u.asked) u.results n r f))

pub id_fact : (w : SearchInput) (d : Due) → Placed w d.result → id_of w (pick_of w d) ≡ d.result.device
id_fact w d p = ap id_by p.at ∙ p.id

results_picked : (w : SearchInput) (ds : List Due) → Each (λ d. Placed w d.result) ds → map result_for ds ≡ map (result_of w) (map (pick_of w) ds)
results_picked w [] h = refl
results_picked w (d ∷ ds) h =
    ap (λ (z : DeviceId). record { label = d.asked.label; device = z } ∷ map result_for ds) (sym (id_fact w d (h 0 d refl)))
    ∙ ap (λ (l : List Result). result_of w (pick_of w d) ∷ l) (results_picked w ds (λ i x e. h (suc i) x e))

distinct_picks : (w : SearchInput) (ds : List Due) → Each (λ d. Placed w d.result) ds → EachTwo Distinct ds → EachTwo (λ p q. p.label.claim ≡ q.label.claim → id_of w p ≢ id_of w q) (map (pick_of w) ds)
distinct_picks w ds p h =
    two_to_map (pick_of w) (λ (p q : Pick). p.label.claim ≡ q.label.claim → id_of w p ≢ id_of w q) ds
    (λ i j d e lt g k same f. h i j d e lt g k same (sym (id_fact w d (p i d g)) ∙ f ∙ id_fact w e (p j e k)))

unheld_picks : (w : SearchInput) (ds : List Due) → Each (λ d. Placed w d.result) ds → Each (λ d. is_for d.asked d.result ≡ true) ds → Each (λ d. d.result.admin ≡ false → holder_of w.held d.result.device ≡ None) ds
    → Each (λ p. p.label.admin ≡ false → (holder : Key) → Contains w.held (id_of w p, holder) → ⊥) (map (pick_of w) ds)
unheld_picks w ds p fits h =
    each_to_map (pick_of w) (λ (p : Pick). p.label.admin ≡ false → (holder : Key) → Contains w.held (id_of w p, holder) → ⊥) ds
    (λ i d g plain holder k.
    unheld_of w.held d.result.device (h i d g (admin_is d (fits i d g) ∙ plain)) holder
    (subst (λ (z : DeviceId). Contains w.held (z, holder)) (id_fact w d (p i d g)) k))

exclusive_picks : (w : SearchInput) (ds : List Due) → Each (λ d. Placed w d.result) ds → Each (λ d. is_for d.asked d.result ≡ true) ds → EachTwo Excludes ds
    → EachTwo (λ p q. p.label.admin ≡ false → q.label.admin ≡ false → id_of w p ≡ id_of w q → p.label.claim ≡ q.label.claim) (map (pick_of w) ds)
exclusive_picks w ds p fits h =
    two_to_map (pick_of w) (λ (p q : Pick). p.label.admin ≡ false → q.label.admin ≡ false → id_of w p ≡ id_of w q → p.label.claim ≡ q.label.claim) ds
    (λ i j d e lt g k plain free same.
    absurd (h i j d e lt g k (admin_is d (fits i d g) ∙ plain) (admin_is e (fits j e k) ∙ free) (sym (id_fact w d (p i d g)) ∙ same ∙ id_fact w e (p j e k))))

below_picks : (w : SearchInput) (ds : List Due) → Each (λ d. Placed w d.result) ds → Each (λ p. p.position < length w.devices) (map (pick_of w) ds)
below_picks w ds p =
    each_to_map (pick_of w) (λ (p : Pick). p.position < length w.devices) ds
    (λ i d g. let at = p i d g in slice_get_within w.devices (place_of w d.result) at.offered at.at)

-- ---- all of them

allocation_by : (law : KeepLaw) (fit : FitLaw) (w : SearchInput) (grants : List Grant) (c : List ℕ) (ds : List Due) (us : List Cut) → IsChoice (options w) c → asked w c ≡ map (λ u. u.asked) us
    → ds ≡ flat_map dues_of us → Each (λ u. is_part w u.asked u.results ≡ true) us → map (λ d. d.result) ds ≡ all_results grants
    → EachTwo Distinct ds → Unheld w.held [] ds → ((i : ℕ) → count_by (λ r. eqb r.label.claim i) (map result_for ds) ≤ most_results) → Nothing w grants c ds → IsAllocation w c (map result_for ds)
allocation_by law fit w grants c ds us choice asks cut parts all apart unheld few n =
    let fits : Each (λ d. is_for d.asked d.result ≡ true) ds = subst (λ (l : List Due). Each (λ d. is_for d.asked d.result ≡ true) l) (sym cut) (fits_all w us parts) in
    let seat = sits_all w us parts in
    let at : Each (λ d. Placed w d.result) ds = placed_all w grants ds all n.gone in
    let atu : Each (λ u. Each (λ d. Placed w d.result) (dues_of u)) us = each_of_flat dues_of (λ (d : Due). Placed w d.result) us (subst (λ (l : List Due). Each (λ d. Placed w d.result) l) cut at) in
    let meets : Each (λ u. Each (λ d. is_unmet w d ≡ false) (dues_of u)) us =
    each_of_flat dues_of (λ (d : Due). is_unmet w d ≡ false) us (subst (λ (l : List Due). Each (λ d. is_unmet w d ≡ false) l) cut (meets_all w ds n.unmet)) in
    let tolerates : Each (λ u. Each (λ d. Tolerates w d.asked (place_of w d.result)) (dues_of u)) us =
    each_of_flat dues_of (λ (d : Due). Tolerates w d.asked (place_of w d.result)) us (subst (λ (l : List Due). Each (λ d. Tolerates w d.asked (place_of w d.result)) l) cut (tolerated_all fit w ds n.tolerated)) in
    let clear : Each (λ a. GivesNone w a w.devices) (map (λ u. u.asked) us) = subst (λ (l : List Asked). Each (λ a. GivesNone w a w.devices) l) asks (unfaulted_all w c n.fault) in
    let clearu = each_of_map (λ (u : Cut). u.asked) (λ (a : Asked). GivesNone w a w.devices) us clear in
    let same : taken (map (λ u. u.asked) us) (map (part_of w) us) ≡ map (pick_of w) ds = taken_is w us ∙ ap (map (pick_of w)) (sym cut) in
    meant_to w c (map result_for ds) (map (λ u. u.asked) us) (map (part_of w) us) (map (pick_of w) ds) choice asks same
    (record {
      parts_are = length-map us (part_of w) ∙ sym (length-map us (λ (u : Cut). u.asked));
      in_order = results_picked w ds at;
      exact_count = both_to_map (λ (u : Cut). u.asked) (part_of w) (λ (a : Asked) (l : List ℕ). (n : ℕ) → a.ask.mode ≡ ExactCount n → IsExact n l) us (λ i u g. exact_of w u.asked (part_of w u) (seat i u g));
      all_devices = both_to_map (λ (u : Cut). u.asked) (part_of w) (λ (a : Asked) (l : List ℕ). a.ask.mode ≡ All → IsWhole w a l) us (λ i u g. whole_of w u.asked (part_of w u) (seat i u g));
      devices_match = both_to_map (λ (u : Cut). u.asked) (part_of w) (λ (a : Asked) (l : List ℕ). Each (Met w a) l) us (λ i u g. met_in w u (atu i u g) (meets i u g) (clearu i u g));
      unfaulted = clear;
      distinct = distinct_picks w ds at apart;
      unheld = unheld_picks w ds at fits unheld.free;
      exclusive = exclusive_picks w ds at fits unheld.once;
      covered = covered_of w (map (pick_of w) ds) n.short;
      tolerated = both_to_map (λ (u : Cut). u.asked) (part_of w) (λ (a : Asked) (l : List ℕ). Each (Tolerates w a) l) us (λ i u g. tolerated_in w u (tolerates i u g));
      constraints_hold = constraints_kept w (map (pick_of w) ds) law (below_picks w ds at) n.broken;
      few = λ i h. few i;
    })

-- grants without a failure are an allocation, and those that its results make
pub allocation_of : (law : KeepLaw) (fit : FitLaw) (w : SearchInput) (grants : List Grant) → failing_in w grants ≡ None → (rs : List Result) × IsAllocation w (choice_of w grants) rs × (grants ≡ grants_by w rs)
allocation_of law fit w grants e =
    let n = nothing_of w grants e in
    let s = shaped_all w 0 w.claims grants n.shape in
    let ds = dues_from w 0 w.claims grants in
    let us = cuts_from w 0 w.claims grants in
    let parts = parts_all w 0 w.claims grants s in
    let cut = dues_are w 0 w.claims grants in
    let fits : Each (λ d. is_for d.asked d.result ≡ true) ds = subst (λ (l : List Due). Each (λ d. is_for d.asked d.result ≡ true) l) (sym cut) (fits_all w us parts) in (
      map result_for ds,
      allocation_by law fit w grants (choice_of w grants) ds us (choice_is w grants s) (asks_are w grants s) cut parts (results_all w 0 w.claims grants s)
          (distinct_all w 0 w.claims grants s) (unheld_all w.held [] ds n.taken) (few_all w grants s) n,
      grants_again w grants s fits,
    )
