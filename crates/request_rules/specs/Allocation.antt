-- What an allocation is.
use Rattle.std.specs.Prelude.{ℕ, ◌<◌, ◌≤◌, ◌≡◌, ◌≢◌, ◌==◌, List, [], ◌∷◌, ◌++◌, true, false, Some, IsSome, Contains, map, length, slice_get}
use Rattle.std.specs.List.{count_by}
use Rattle.walk.specs.Walk.{IsChoice}
use Rattle.object_fields.specs.declared.key.DeviceId.{DeviceId}
use Rattle.object_fields.specs.declared.key.Key.{Key}
use Rattle.api_claim.specs.declared.types.AllocationMode.TheVariants.{ExactCount, All}
use Rattle.pool_view.specs.declared.matching.Match.TheVariants.{Yes}
use Rattle.device_taints.specs.Tolerating.{IsTolerated}
use Rattle.device_taints.specs.declared.types.Taint.{Taint}
use Rattle.pool_view.specs.Pools.{Offered}
use Rattle.request_rules.specs.Lists.{Each, EachTwo, EachBoth}
use Rattle.request_rules.specs.Names.{Label}
use Rattle.request_rules.specs.Draws.{CounterId, Draw}
use Rattle.request_rules.specs.Input.{SearchInput}
use Rattle.request_rules.specs.Asked.{Asked, Rule, asked, match_at, matching, options, rules_of, slots}
use Rattle.request_rules.specs.Faults.{GivesNone}
use Rattle.request_rules.specs.Rules.{Pick, device_draws, id_of, is_for, picks, total, value_of}
use Rattle.request_rules.specs.Problem.{most_results}

-- a device for a claim's request
pub record Result : Type 0 where
  pub label : Label
  pub device : DeviceId

abbrev pub result_of : SearchInput → Pick → Result
result_of w p = record { label = p.label; device = id_of w p }

-- the devices at the positions that each chosen request takes
abbrev pub taken : List Asked → List (List ℕ) → List Pick
taken [] parts = []
taken (a ∷ asks) [] = []
taken (a ∷ asks) (l ∷ ls) = map (λ x. record { label = a.label; position = x }) l ++ taken asks ls

-- n of them, in increasing position
pub record IsExact (n : ℕ) (l : List ℕ) : Type 0 where
  pub count : length l ≡ n
  pub rising : EachTwo (λ x y. x < y) l

-- all devices that meet the request, in increasing position, and at least one
pub record IsWhole (w : SearchInput) (a : Asked) (l : List ℕ) : Type 0 where
  pub all : l ≡ matching w a.ask
  pub some : l ≢ []
  pub unbroken : w.broken ≡ false

-- a device of the node that meets the request
pub record Met (w : SearchInput) (a : Asked) (x : ℕ) : Type 0 where
  pub on_node : x < length w.devices
  pub matched : match_at w a.ask x ≡ Yes

-- each taint of the device is tolerated by a toleration of the request
pub record Tolerates (w : SearchInput) (a : Asked) (x : ℕ) : Type 0 where
  pub each : (o : Offered) (t : Taint) → slice_get w.devices x ≡ Some o → Contains o.device.taints t → IsTolerated a.ask.tolerations t

-- the counter exists, and is covered
pub record IsCovered (w : SearchInput) (ps : List Pick) (k : CounterId) : Type 0 where
  pub value : ℕ
  pub there : w.value k ≡ Some value
  pub enough : total w k ps ≤ value

-- all results that the constraint names have its attribute, with one type and one value
pub record IsKept (w : SearchInput) (ps : List Pick) (r : Rule) : Type 0 where
  pub present : Each (λ p. is_for r p.label ≡ true → IsSome (value_of w r p)) ps
  pub same : EachTwo (λ p q. is_for r p.label ≡ true → is_for r q.label ≡ true → value_of w r p ≡ value_of w r q) ps

-- The results are an allocation of the claims, for a choice.
pub record IsAllocation (w : SearchInput) (c : List ℕ) (results : List Result) : Type 0 where
  -- a subrequest for each request with `firstAvailable`, and 0 for `exactly`
  pub choice_is : IsChoice (options w) c
  -- the positions that each chosen request takes
  pub parts : List (List ℕ)
  pub parts_are : length parts ≡ length (asked w c)
  -- The results follow the requests in order, with the chosen names, and have admin access where
  -- the request has.
  pub in_order : results ≡ map (result_of w) (taken (asked w c) parts)
  pub exact_count : EachBoth (λ a l. (n : ℕ) → a.ask.mode ≡ ExactCount n → IsExact n l) (asked w c) parts
  pub all_devices : EachBoth (λ a l. a.ask.mode ≡ All → IsWhole w a l) (asked w c) parts
  pub devices_match : EachBoth (λ a l. Each (Met w a) l) (asked w c) parts
  -- no chosen request has an evaluation error on any device
  pub unfaulted : Each (λ a. GivesNone w a w.devices) (asked w c)
  -- the devices of one claim differ
  pub distinct : EachTwo (λ p q. p.label.claim ≡ q.label.claim → id_of w p ≢ id_of w q) (taken (asked w c) parts)
  -- a device without admin access isn't held, and is without admin access in one claim only
  pub unheld : Each (λ p. p.label.admin ≡ false → (holder : Key) → Contains w.held (id_of w p, holder) → ⊥) (taken (asked w c) parts)
  pub exclusive : EachTwo (λ p q. p.label.admin ≡ false → q.label.admin ≡ false → id_of w p ≡ id_of w q → p.label.claim ≡ q.label.claim) (taken (asked w c) parts)
  -- each counter that a device without admin access draws on
  pub covered : Each (λ p. p.label.admin ≡ false → (d : Draw) → Contains (device_draws w p) d → IsCovered w (taken (asked w c) parts) d.counter) (taken (asked w c) parts)
  -- with admin access or without
  pub tolerated : EachBoth (λ a l. Each (Tolerates w a) l) (asked w c) parts
  pub constraints_hold : (r : Rule) → Contains (rules_of w) r → IsKept w (taken (asked w c) parts) r
  -- the results of each claim
  pub few : (i : ℕ) → i < length w.claims → count_by (λ r. r.label.claim == i) results ≤ most_results

-- the results at the positions
abbrev pub results_of : SearchInput → List ℕ → List ℕ → List Result
results_of w c l = map (result_of w) (picks (slots w c) l)

-- the results without admin access hold devices that no claim held, each once
pub record HoldsOnce (w : SearchInput) (results : List Result) : Type 0 where
  pub unheld : Each (λ r. r.label.admin ≡ false → (holder : Key) → Contains w.held (r.device, holder) → ⊥) results
  pub once : EachTwo (λ r s. r.label.admin ≡ false → s.label.admin ≡ false → r.device ≢ s.device) results
