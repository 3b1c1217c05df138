-- Where a choice has an evaluation error.
use Rattle.std.specs.Prelude.{ℕ, ◌≡◌, ◌≢◌, List, ◌∷◌, ◌++◌, Option, None, Some, Contains}
use Rattle.object_fields.specs.declared.key.DeviceId.{DeviceId}
use Rattle.object_fields.specs.declared.key.Key.{Key}
use Rattle.pool_view.specs.declared.matching.Match.{Match}
use Rattle.pool_view.specs.declared.matching.Match.TheVariants.{Yes, No, Fault}
use Rattle.pool_view.specs.declared.verdict.Cause.{Cause}
use Rattle.pool_view.specs.Pools.{Offered, id_in}
use Rattle.request_rules.specs.Lists.{first_some}
use Rattle.request_rules.specs.Names.{result_name}
use Rattle.request_rules.specs.Input.{SearchInput}
use Rattle.request_rules.specs.Asked.{Asked, asked}

-- a request of a claim, the number of selectors before the one that is neither true nor false of the
-- device, and why it is neither
pub record FaultPlace : Type 0 where
  pub claim : Key
  pub request : List ℕ
  pub selector : ℕ
  pub device : DeviceId
  pub cause : Cause

abbrev pub fault_by : Asked → Offered → Match → Option FaultPlace
fault_by a o Yes = None
fault_by a o No = None
fault_by a o (Fault n why) = Some (record { claim = a.key; request = result_name a.label; selector = n; device = id_in o; cause = why })

-- the evaluation error that a request has on a device
abbrev pub fault_on : SearchInput → Asked → Offered → Option FaultPlace
fault_on w a o = fault_by a o (w.matched a.ask o)

-- the one on the first device, in order, on which a request has one
abbrev pub fault_for : SearchInput → Asked → Option FaultPlace
fault_for w a = first_some (fault_on w a) w.devices

-- the first request that a choice picks, in order, that has an evaluation error, on the first device
unfoldable pub fault_of : SearchInput → List ℕ → Option FaultPlace
fault_of w c = first_some (fault_for w) (asked w c)

-- the request has no evaluation error on these devices
pub record GivesNone (w : SearchInput) (a : Asked) (devices : List Offered) : Type 0 where
  pub none : (o : Offered) (n : ℕ) (why : Cause) → Contains devices o → w.matched a.ask o ≢ Fault n why

-- A chosen request is the first with an evaluation error, on this device first.
pub record IsFirstFault (w : SearchInput) (c : List ℕ) (fault : FaultPlace) : Type 0 where
  pub before : List Asked
  pub request : Asked
  pub after : List Asked
  pub requests_are : asked w c ≡ before ++ request ∷ after
  pub none_before : (other : Asked) → Contains before other → GivesNone w other w.devices
  pub prefix : List Offered
  pub device : Offered
  pub back : List Offered
  pub devices_are : w.devices ≡ prefix ++ device ∷ back
  pub none_in_prefix : GivesNone w request prefix
  pub says : w.matched request.ask device ≡ Fault fault.selector fault.cause
  pub claim_is : fault.claim ≡ request.key
  pub request_is : fault.request ≡ result_name request.label
  pub device_is : fault.device ≡ id_in device
