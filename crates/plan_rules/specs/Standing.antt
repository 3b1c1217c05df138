-- Failures of results that are of the right shape.
use Rattle.std.specs.Prelude.{ℕ, ◌+◌, List, [], ◌∷◌, ◌++◌, Bool, true, false, not, ◌&&◌, Option, None, Some, is_none, option_map, find, if◌then◌else◌}
use Rattle.std.specs.List.{flat_map}
use Rattle.std.specs.Map.{lookup}
use Rattle.object_fields.specs.declared.key.DeviceId.{DeviceId}
use Rattle.object_fields.specs.declared.key.Key.{Key}
use Rattle.api_claim.specs.declared.types.DeviceConstraint.{DeviceConstraint}
use Rattle.api_claim.specs.declared.types.ResourceClaim.{ResourceClaim}
use Rattle.pool_view.specs.declared.matching.Match.{Match}
use Rattle.pool_view.specs.declared.matching.Match.TheVariants.{Yes, No, Fault}
use Rattle.pool_view.specs.Names.{device_eq}
use Rattle.pool_view.specs.Pools.{Offered}
use Rattle.pool_view.specs.Views.{position_of}
use Rattle.request_rules.specs.Agreeing.{each_agrees}
use Rattle.request_rules.specs.Draws.{CounterId, Draw}
use Rattle.cluster.specs.declared.plan.DeviceResult.{DeviceResult}
use Rattle.cluster.specs.declared.plan.Grant.{Grant}
use Rattle.request_rules.specs.Asked.{match_at, tolerated_at}
use Rattle.request_rules.specs.Faults.{fault_of}
use Rattle.request_rules.specs.Input.{SearchInput}
use Rattle.request_rules.specs.Joining.{seen_all}
use Rattle.request_rules.specs.Lists.{first_some, or_else}
use Rattle.request_rules.specs.Rules.{Pick, device_draws, total, within}
use Rattle.plan_rules.specs.Chosen.{Due, place_of}
use Rattle.cluster.specs.declared.failure.Failure.{Failure}
use Rattle.cluster.specs.declared.failure.Failure.TheVariants as failure
use Rattle.cluster.specs.declared.failure.Shortfall.{Shortfall}

-- ---- devices

abbrev pub is_off : List Offered → DeviceResult → Bool
is_off devices r = is_none (position_of r.device devices)

abbrev pub all_results : List Grant → List DeviceResult
all_results grants = flat_map (λ g. g.results) grants

-- the first result whose device isn't one of the node's
abbrev pub device_gone : List Offered → List Grant → Option Failure
device_gone devices grants = option_map (λ r. failure.DeviceGone r.device) (find (is_off devices) (all_results grants))

-- ---- selectors

abbrev pub is_no : Match → Bool
is_no Yes = false
is_no No = true
is_no (Fault n why) = false

abbrev pub is_unmet : SearchInput → Due → Bool
is_unmet w d = is_no (match_at w d.asked.ask (place_of w d.result))

-- the first result whose device doesn't meet its request
abbrev pub selector_no : SearchInput → List Due → Option Failure
selector_no w ds = option_map (λ d. failure.SelectorNo d.result.device) (find (is_unmet w) ds)

-- the device of the first request of the choice that has an evaluation error, on which it has it first
abbrev pub selector_fault : SearchInput → List ℕ → Option Failure
selector_fault w choice = option_map (λ f. failure.SelectorFault f.device) (fault_of w choice)

-- ---- taints

abbrev pub is_untolerated : SearchInput → Due → Bool
is_untolerated w d = not (tolerated_at w d.asked.ask (place_of w d.result))

-- the first result whose device has a taint that its request doesn't tolerate
abbrev pub tainted : SearchInput → List Due → Option Failure
tainted w ds = option_map (λ d. failure.Tainted d.result.device) (find (is_untolerated w) ds)

-- ---- holders

-- the devices that claims hold, each with its claim
abbrev pub HeldPairs : Type 0
HeldPairs = List (DeviceId × Key)

abbrev pub holder_of : HeldPairs → DeviceId → Option Key
holder_of pairs id = lookup (λ d. device_eq d id) pairs

-- a result without admin access is of the device
abbrev pub takes : DeviceId → Due → Bool
takes id d = not d.result.admin && device_eq d.result.device id

-- the claim of the first of the results without admin access of the device
abbrev pub taker_of : List Due → DeviceId → Option Key
taker_of before id = option_map (λ d. d.claim) (find (takes id) before)

abbrev pub held_by : Due → Option Key → Option Failure
held_by d None = None
held_by d (Some claim) = Some (failure.Held d.result.device claim)

-- a device without admin access that a claim holds, or else an earlier claim of the plan has
abbrev pub held_behind : HeldPairs → List Due → Due → Option Failure
held_behind pairs before d = if d.result.admin then None else held_by d (or_else (holder_of pairs d.result.device) (taker_of before d.result.device))

abbrev pub held_from : HeldPairs → List Due → List Due → Option Failure
held_from pairs before [] = None
held_from pairs before (d ∷ ds) = or_else (held_behind pairs before d) (held_from pairs (before ++ d ∷ []) ds)

abbrev pub held : HeldPairs → List Due → Option Failure
held pairs ds = held_from pairs [] ds

-- ---- counters

-- the counter doesn't cover what is drawn from it, with all results
abbrev pub is_short : SearchInput → List Pick → Draw → Bool
is_short w ps d = not (within w d.counter (total w d.counter ps))

abbrev pub shortfall : SearchInput → List Pick → CounterId → Shortfall
shortfall w ps c = record { set = c.set; counter = c.counter; drawn = total w c ps; value = w.value c }

-- the first counter of a device that doesn't have enough, in the order of the device's list, and then of the
-- names' bytes
abbrev pub short_on : SearchInput → List Pick → Pick → Option Shortfall
short_on w ps p = option_map (λ d. shortfall w ps d.counter) (find (is_short w ps) (device_draws w p))

-- admin access draws nothing
abbrev pub short_for : SearchInput → List Pick → Pick → Option Failure
short_for w ps p = if p.label.admin then None else option_map failure.Counter (short_on w ps p)

abbrev pub counter_short : SearchInput → List Pick → Option Failure
counter_short w ps = first_some (short_for w ps) ps

-- ---- constraints

-- the results of the claim at an index that the constraint names have its attribute, with one value
abbrev pub agree : SearchInput → List Pick → ℕ → DeviceConstraint → Bool
agree w ps i c = each_agrees c [] (seen_all w (record { claim = i; constraint = c }) ps)

-- the first constraint of a claim, the first of which has this index, of which the test is false
abbrev pub broken_by : (DeviceConstraint → Bool) → Key → ℕ → List DeviceConstraint → Option Failure
broken_by holds key n [] = None
broken_by holds key n (c ∷ cs) = if holds c then broken_by holds key (n + 1) cs else Some (failure.Constraint key n)

abbrev pub disagreed_from : SearchInput → List Pick → ℕ → List ResourceClaim → Option Failure
disagreed_from w ps i [] = None
disagreed_from w ps i (c ∷ cs) = or_else (broken_by (agree w ps i) c.key 0 c.constraints) (disagreed_from w ps (i + 1) cs)

abbrev pub constraint_broken : SearchInput → List Pick → Option Failure
constraint_broken w ps = disagreed_from w ps 0 w.claims
