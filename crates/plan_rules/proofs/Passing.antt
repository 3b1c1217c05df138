-- The grants of an allocation have no failure.
use Rattle.std.proofs.Common.{ℕ, ◌≤◌, ◌≡◌, ◌≢◌, List, [], true, false, eqb, None, map, sym, ap, ◌∙◌, subst, arith}
use Rattle.std.specs.List.{count_by, flat_map, Contains}
use Rattle.std.specs.Option.{option_map}
use Rattle.object_fields.specs.declared.key.DeviceId.{DeviceId}
use Rattle.object_fields.specs.declared.key.Key.{Key}
use Rattle.api_claim.specs.Limits.{EachOf, RequestsKept}
use Rattle.api_claim.specs.declared.types.DeviceConstraint.{DeviceConstraint}
use Rattle.request_rules.specs.Agreeing as agreeing
use Rattle.constraints.specs.Keeping.{KeepsConstraint}
use Rattle.cluster.specs.declared.failure.Failure.TheVariants as failure
use Rattle.cluster.specs.declared.plan.DeviceResult.{DeviceResult}
use Rattle.cluster.specs.declared.plan.Grant.{Grant}
use Rattle.allocations.specs.Input.{grants_by}
use Rattle.request_rules.specs.Allocation.{IsAllocation, Met, Result, Tolerates, taken}
use Rattle.request_rules.specs.Asked.{Asked, asked, asked_from, wishes_from}
use Rattle.request_rules.specs.Faults.{GivesNone}
use Rattle.request_rules.specs.Input.{SearchInput}
use Rattle.request_rules.specs.Lists.{Each, EachBoth, EachTwo, or_else}
use Rattle.request_rules.specs.Problem.{most_results}
use Rattle.request_rules.specs.Rules.{Pick, id_of}
use Rattle.plan_rules.specs.Chosen.{Due, choice_of, due_for, dues, dues_from, pick_of, place_of}
use Rattle.plan_rules.specs.Failing.{failing_in, failing_shaped, failing_standing, failing_tolerated}
use Rattle.plan_rules.specs.Shaped.{is_for, misshapen}
use Rattle.plan_rules.specs.Standing.{all_results, constraint_broken, counter_short, device_gone, held, holder_of, is_no, is_off, is_unmet, selector_fault, selector_no, tainted}
use Rattle.plan_rules.proofs.Allocated.{Meant, Nothing, fits_all, id_fact}
use Rattle.plan_rules.proofs.Apart.{Excludes}
use Rattle.plan_rules.proofs.Choices.{asks_are}
use Rattle.plan_rules.proofs.Claiming.{Given, choice_again, counts_all, grants_back, grants_for, parts_back, shaped_back}
use Rattle.plan_rules.proofs.Clearing.{is_on, no_holder, none_broken, none_faults, none_held, none_misshapen, none_short}
use Rattle.plan_rules.proofs.Cuts.{AllShaped, Cut, cuts_from, dues_are, dues_of, part_of, parts_all, results_all, taken_is}
use Rattle.plan_rules.proofs.Elements.{both_of_map, each_of_map, each_to_flat, each_to_map, none_found, two_of_map}
use Rattle.plan_rules.proofs.Fitting.{Ids, parts_from}
use Rattle.plan_rules.proofs.GrantsAgain.{admin_is}
use Rattle.plan_rules.proofs.Meets.{Placed, placed}
use Rattle.plan_rules.proofs.Tests.{none_from}
use Rattle.plan_rules.proofs.Tolerating.{OnlyLaw, none_tainted}

-- a law of `constraints`
abbrev pub AgreeLaw : Type 0
AgreeLaw = (c : DeviceConstraint) (xs : List agreeing.Pick) → KeepsConstraint c xs → agreeing.each_agrees c [] xs ≡ true

-- ---- what an allocation means, over variables

meant_of : (w : SearchInput) (c : List ℕ) (rs : List Result) → (a : IsAllocation w c rs) → Meant w rs (asked w c) a.parts (taken (asked w c) a.parts)
meant_of w c rs a = record {
  parts_are = a.parts_are;
  in_order = a.in_order;
  exact_count = a.exact_count;
  all_devices = a.all_devices;
  devices_match = a.devices_match;
  unfaulted = a.unfaulted;
  distinct = a.distinct;
  unheld = a.unheld;
  exclusive = a.exclusive;
  covered = a.covered;
  tolerated = a.tolerated;
  constraints_hold = a.constraints_hold;
  few = a.few;
}

meant_by : (w : SearchInput) (rs : List Result) (asks bsks : List Asked) (parts qarts : List (List ℕ)) (ps qs : List Pick) → asks ≡ bsks → parts ≡ qarts → ps ≡ qs → Meant w rs asks parts ps → Meant w rs bsks qarts qs
meant_by w rs asks bsks parts qarts ps qs e f g m =
    subst (λ (z : List Asked). Meant w rs z qarts qs) e (subst (λ (z : List (List ℕ)). Meant w rs asks z qs) f (subst (λ (z : List Pick). Meant w rs asks parts z) g m))

given_of : (w : SearchInput) (c : List ℕ) (rs : List Result) → EachOf (λ c. RequestsKept c.requests) w.claims → (a : IsAllocation w c rs) → Given w 0 w.claims c a.parts
unfolding asked
given_of w c rs kept a =
    let asks = asked_from (wishes_from 0 w.claims) c in
    record {
      choice = a.choice_is;
      parts = parts_from w asks a.parts a.parts_are (counts_all 0 w.claims c kept) a.exact_count a.all_devices a.devices_match;
      kept = kept;
      apart = a.distinct;
      few = λ j low high. subst (λ (l : List Result). count_by (λ r. eqb r.label.claim j) l ≤ most_results) a.in_order (a.few j (omega arith));
    }

-- ---- fact by fact

met_all : (w : SearchInput) (us : List Cut) → EachBoth (λ a l. Each (Met w a) l) (map (λ u. u.asked) us) (map (part_of w) us) → Each (λ d. Met w d.asked (place_of w d.result)) (flat_map dues_of us)
met_all w us h =
    let each = both_of_map (λ (u : Cut). u.asked) (part_of w) (λ (a : Asked) (l : List ℕ). Each (Met w a) l) us h in
    each_to_flat dues_of (λ (d : Due). Met w d.asked (place_of w d.result)) us
    (λ i u g. each_to_map (due_for u.claim u.asked) (λ (d : Due). Met w d.asked (place_of w d.result)) u.results (each_of_map (place_of w) (Met w u.asked) u.results (each i u g)))

tolerated_dues : (w : SearchInput) (us : List Cut) → EachBoth (λ a l. Each (Tolerates w a) l) (map (λ u. u.asked) us) (map (part_of w) us) → Each (λ d. Tolerates w d.asked (place_of w d.result)) (flat_map dues_of us)
tolerated_dues w us h =
    let each = both_of_map (λ (u : Cut). u.asked) (part_of w) (λ (a : Asked) (l : List ℕ). Each (Tolerates w a) l) us h in
    each_to_flat dues_of (λ (d : Due). Tolerates w d.asked (place_of w d.result)) us
    (λ i u g. each_to_map (due_for u.claim u.asked) (λ (d : Due). Tolerates w d.asked (place_of w d.result)) u.results (each_of_map (place_of w) (Tolerates w u.asked) u.results (each i u g)))

none_gone : (w : SearchInput) (grants : List Grant) (ds : List Due) → map (λ d. d.result) ds ≡ all_results grants → Each (λ d. Met w d.asked (place_of w d.result)) ds → device_gone w.devices grants ≡ None
none_gone w grants ds e h =
    ap (option_map (λ (r : DeviceResult). failure.DeviceGone r.device))
    (none_found (is_off w.devices) (all_results grants)
    (subst (λ (l : List DeviceResult). Each (λ r. is_off w.devices r ≡ false) l) e
    (each_to_map (λ (d : Due). d.result) (λ (r : DeviceResult). is_off w.devices r ≡ false) ds (λ i d g. is_on w d.result (h i d g).on_node))))

none_unmet : (w : SearchInput) (ds : List Due) → Each (λ d. Met w d.asked (place_of w d.result)) ds → selector_no w ds ≡ None
none_unmet w ds h =
    ap (option_map (λ (d : Due). failure.SelectorNo d.result.device))
    (none_found (is_unmet w) ds (λ i d g. ap is_no (h i d g).matched))

free_dues : (w : SearchInput) (ds : List Due) → Each (λ d. Placed w d.result) ds → Each (λ d. is_for d.asked d.result ≡ true) ds
    → Each (λ p. p.label.admin ≡ false → (holder : Key) → Contains w.held (id_of w p, holder) → ⊥) (map (pick_of w) ds) → Each (λ d. d.result.admin ≡ false → holder_of w.held d.result.device ≡ None) ds
free_dues w ds at fits h =
    let each = each_of_map (pick_of w) (λ (p : Pick). p.label.admin ≡ false → (holder : Key) → Contains w.held (id_of w p, holder) → ⊥) ds h in
    λ i d g plain.
    no_holder w.held d.result.device
    (λ holder k. each i d g (sym (admin_is d (fits i d g)) ∙ plain) holder (subst (λ (z : DeviceId). Contains w.held (z, holder)) (sym (id_fact w d (at i d g))) k))

once_dues : (w : SearchInput) (ds : List Due) → Each (λ d. Placed w d.result) ds → Each (λ d. is_for d.asked d.result ≡ true) ds
    → EachTwo (λ p q. p.label.claim ≡ q.label.claim → id_of w p ≢ id_of w q) (map (pick_of w) ds)
    → EachTwo (λ p q. p.label.admin ≡ false → q.label.admin ≡ false → id_of w p ≡ id_of w q → p.label.claim ≡ q.label.claim) (map (pick_of w) ds) → EachTwo Excludes ds
once_dues w ds at fits distinct exclusive =
    let one = two_of_map (pick_of w) (λ (p q : Pick). p.label.claim ≡ q.label.claim → id_of w p ≢ id_of w q) ds distinct in
    let two = two_of_map (pick_of w) (λ (p q : Pick). p.label.admin ≡ false → q.label.admin ≡ false → id_of w p ≡ id_of w q → p.label.claim ≡ q.label.claim) ds exclusive in
    λ i j d e lt g k plain free same.
    let ids : id_of w (pick_of w d) ≡ id_of w (pick_of w e) = id_fact w d (at i d g) ∙ same ∙ sym (id_fact w e (at j e k)) in
    one i j d e lt g k (two i j d e lt g k (sym (admin_is d (fits i d g)) ∙ plain) (sym (admin_is e (fits j e k)) ∙ free) ids) ids

-- ---- all of them

nothing_from : (law : AgreeLaw) (only : OnlyLaw) (w : SearchInput) (grants : List Grant) (rs : List Result) (c : List ℕ) (ds : List Due) (us : List Cut) → AllShaped w 0 w.claims grants → asked w c ≡ map (λ u. u.asked) us → ds ≡ flat_map dues_of us
    → Each (λ d. is_for d.asked d.result ≡ true) ds → map (λ d. d.result) ds ≡ all_results grants → Meant w rs (map (λ u. u.asked) us) (map (part_of w) us) (map (pick_of w) ds) → Nothing w grants c ds
nothing_from law only w grants rs c ds us s asks cut fits all m =
    let met : Each (λ d. Met w d.asked (place_of w d.result)) ds = subst (λ (l : List Due). Each (λ d. Met w d.asked (place_of w d.result)) l) (sym cut) (met_all w us m.devices_match) in
    let at : Each (λ d. Placed w d.result) ds = λ i d g. placed w d.result (is_on w d.result (met i d g).on_node) in
    record {
      gone = none_gone w grants ds all met;
      shape = none_misshapen w 0 w.claims grants s;
      unmet = none_unmet w ds met;
      fault = none_faults w c (subst (λ (l : List Asked). Each (λ a. GivesNone w a w.devices) l) (sym asks) m.unfaulted);
      tolerated = none_tainted only w ds (subst (λ (l : List Due). Each (λ d. Tolerates w d.asked (place_of w d.result)) l) (sym cut) (tolerated_dues w us m.tolerated));
      taken = none_held w.held [] ds (free_dues w ds at fits m.unheld) (λ i d g j b k. absurd (cc)) (once_dues w ds at fits m.distinct m.exclusive);
      short = none_short w (map (pick_of w) ds) m.covered;
      broken = none_broken w (map (pick_of w) ds) law m.constraints_hold;
    }

failing_by : (w : SearchInput) (grants : List Grant) (c : List ℕ) (ds : List Due) → Nothing w grants c ds → or_else (device_gone w.devices grants) (or_else (misshapen w grants) (failing_shaped w c ds)) ≡ None
failing_by w grants c ds n =
    let ps : List Pick = map (pick_of w) ds in
    none_from (device_gone w.devices grants) (or_else (misshapen w grants) (failing_shaped w c ds)) n.gone
    (none_from (misshapen w grants) (failing_shaped w c ds) n.shape
    (none_from (selector_no w ds) (or_else (selector_fault w c) (failing_tolerated w ds)) n.unmet
    (none_from (selector_fault w c) (failing_tolerated w ds) n.fault
    (none_from (tainted w ds) (failing_standing w ds) n.tolerated
    (none_from (held w.held ds) (or_else (counter_short w ps) (constraint_broken w ps)) n.taken
    (none_from (counter_short w ps) (constraint_broken w ps) n.short n.broken))))))

failing_from : (w : SearchInput) (grants : List Grant) (c : List ℕ) → choice_of w grants ≡ c → Nothing w grants c (dues_from w 0 w.claims grants) → failing_in w grants ≡ None
unfolding failing_in dues
failing_from w grants c e n =
    ap (λ (z : List ℕ). or_else (device_gone w.devices grants) (or_else (misshapen w grants) (failing_shaped w z (dues_from w 0 w.claims grants)))) e
    ∙ failing_by w grants c (dues_from w 0 w.claims grants) n

passes : (law : AgreeLaw) (only : OnlyLaw) (w : SearchInput) → Ids w → EachOf (λ c. RequestsKept c.requests) w.claims → (c : List ℕ) (rs : List Result) → (a : IsAllocation w c rs) → failing_in w (grants_for w 0 w.claims c a.parts) ≡ None
passes law only w ids kept c rs a =
    let g = given_of w c rs kept a in
    let gs = grants_for w 0 w.claims c a.parts in
    let s = shaped_back w ids 0 w.claims c a.parts g in
    let us = cuts_from w 0 w.claims gs in
    let ds = dues_from w 0 w.claims gs in
    let cut = dues_are w 0 w.claims gs in
    let choice = choice_again w c a.parts g in
    let asks : asked w c ≡ map (λ u. u.asked) us = ap (asked w) (sym choice) ∙ asks_are w gs s in
    let parts : map (part_of w) us ≡ a.parts = parts_back w ids 0 w.claims c a.parts g in
    let picks : taken (asked w c) a.parts ≡ map (pick_of w) ds =
    ap (λ (z : List Asked). taken z a.parts) asks ∙ ap (taken (map (λ u. u.asked) us)) (sym parts) ∙ taken_is w us ∙ ap (map (pick_of w)) (sym cut) in
    let fits : Each (λ d. is_for d.asked d.result ≡ true) ds = subst (λ (l : List Due). Each (λ d. is_for d.asked d.result ≡ true) l) (sym cut) (fits_all w us (parts_all w 0 w.claims gs s)) in
    let m = meant_by w rs (asked w c) (map (λ u. u.asked) us) a.parts (map (part_of w) us) (taken (asked w c) a.parts) (map (pick_of w) ds) asks (sym parts) picks (meant_of w c rs a) in
    failing_from w gs c choice (nothing_from law only w gs rs c ds us s asks cut fits (results_all w 0 w.claims gs s) m)

-- the grants that an allocation's results make have no failure
pub nothing_stands : (law : AgreeLaw) (only : OnlyLaw) (w : SearchInput) → Ids w → EachOf (λ c. RequestsKept c.requests) w.claims → (c : List ℕ) (rs : List Result) (grants : List Grant) → IsAllocation w c rs → grants ≡ grants_by w rs → failing_in w grants ≡ None
nothing_stands law only w ids kept c rs grants a e =
    let same : grants ≡ grants_for w 0 w.claims c a.parts = e ∙ ap (grants_by w) a.in_order ∙ grants_back w c a.parts in
    ap (failing_in w) same ∙ passes law only w ids kept c rs a
