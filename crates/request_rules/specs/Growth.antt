-- Inputs in which more devices are held, and more is drawn from their counters.
use Rattle.std.specs.Prelude.{ℕ, ◌≡◌, ◌≤◌, List, true, map, Option, option_map}
use Rattle.api_claim.specs.declared.types.DeviceConstraint.{DeviceConstraint}
use Rattle.api_claim.specs.declared.types.DeviceRequest.{DeviceRequest}
use Rattle.api_claim.specs.declared.types.ResourceClaim.{ResourceClaim}
use Rattle.api_cluster.specs.declared.types.DeviceClass.{DeviceClass}
use Rattle.pool_view.specs.declared.stored.Stored.{Stored}
use Rattle.pool_view.specs.Names.{at_name}
use Rattle.pool_view.specs.Pools.{Offered, id_in}
use Rattle.request_rules.specs.Draws.{Draw, draws_of, is_held}
use Rattle.request_rules.specs.Input.{SearchInput}
use Rattle.request_rules.specs.Lists.{Each}
use Rattle.request_rules.specs.Match.{ClassTable}
use Rattle.request_rules.specs.Ways.{all_asked}

-- what a claim asks for, whatever its name
pub record ClaimSpec : Type 0 where
  pub requests : List DeviceRequest
  pub constraints : List DeviceConstraint

abbrev pub spec_of : ResourceClaim → ClaimSpec
spec_of c = record { requests = c.requests; constraints = c.constraints }

-- what claims ask for, one after another
abbrev pub specs_of : List ResourceClaim → List ClaimSpec
specs_of claims = map spec_of claims

-- The same is asked for over the same devices, but claims hold more of these devices, and more is drawn from their
-- counters.
pub record IsFuller (v w : SearchInput) : Type 0 where
  pub devices : w.devices ≡ v.devices
  pub specs : specs_of w.claims ≡ specs_of v.claims
  -- each request and subrequest evaluates to the same for each device
  pub matched : Each (λ a. Each (λ o. w.matched a.ask o ≡ v.matched a.ask o) v.devices) (all_asked v)
  pub broken : w.broken ≡ v.broken
  -- a device that was held is held
  pub held : Each (λ o. is_held v.held (id_in o) ≡ true → is_held w.held (id_in o) ≡ true) v.devices
  -- each counter on which a device draws has the same value, and at least as much is drawn from it
  pub values : Each (λ o. Each (λ d. w.value d.counter ≡ v.value d.counter) (draws_of o)) v.devices
  pub drawn : Each (λ o. Each (λ d. v.drawn d.counter ≤ w.drawn d.counter) (draws_of o)) v.devices

-- the selectors of a class, if it exists
abbrev pub class_selectors : ClassTable → List ℕ → Option (List (List ℕ))
class_selectors classes name = option_map (λ (c : Stored DeviceClass). c.object.selectors) (at_name classes name)

-- what is drawn, is drawn from a counter of the device's pool
pub record IsOfPool (o : Offered) (d : Draw) : Type 0 where
  pub driver : d.counter.driver ≡ o.slice.driver
  pub pool : d.counter.pool ≡ o.slice.pool.name
