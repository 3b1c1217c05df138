-- Claims that ask for devices of their own, and a node that has none left for them.
use Rattle.std.specs.Prelude.{◌==◌, List, [], ◌∷◌, Bool, true, false, not, ◌&&◌, is_some}
use Rattle.std.specs.List.{list_any, list_all}
use Rattle.api_claim.specs.declared.types.AllocationMode.{AllocationMode}
use Rattle.api_claim.specs.declared.types.AllocationMode.TheVariants.{ExactCount, All}
use Rattle.api_claim.specs.declared.types.DeviceRequest.{DeviceRequest}
use Rattle.api_claim.specs.declared.types.RequestKind.{RequestKind}
use Rattle.api_claim.specs.declared.types.RequestKind.TheVariants.{Exactly, FirstAvailable}
use Rattle.api_claim.specs.declared.types.ResourceClaim.{ResourceClaim}
use Rattle.pool_view.specs.Pools.{Offered, id_in}
use Rattle.counter_sets.specs.Holding.{Holders, holder_in}
use Rattle.request_rules.specs.Asked.{is_fault}
use Rattle.request_rules.specs.Match.{ClassTable, matched_by}

-- it asks for at least one device, or for all
abbrev pub asks_some : AllocationMode → Bool
asks_some (ExactCount n) = not (n == 0)
asks_some All = true

-- without alternatives and without admin access, for at least one device or for all
abbrev pub is_exclusive : RequestKind → Bool
is_exclusive (Exactly r) = not r.admin && asks_some r.ask.mode
is_exclusive (FirstAvailable rs) = false

abbrev pub has_any : List DeviceRequest → Bool
has_any [] = false
has_any (r ∷ rs) = true

-- each request is exclusive, and there is one
unfoldable pub are_exclusive : List ResourceClaim → Bool
are_exclusive claims = list_all (λ c. list_all (λ r. is_exclusive r.kind) c.requests) claims && list_any (λ c. has_any c.requests) claims

-- a request without alternatives has no evaluation error on any of the devices
abbrev pub is_unfaulted : ClassTable → List Offered → RequestKind → Bool
is_unfaulted classes devices (Exactly r) = list_all (λ o. not (is_fault (matched_by classes r.ask o))) devices
is_unfaulted classes devices (FirstAvailable rs) = true

-- no request without alternatives has an evaluation error on any of the devices
unfoldable pub are_unfaulted : ClassTable → List Offered → List ResourceClaim → Bool
are_unfaulted classes devices claims = list_all (λ c. list_all (λ r. is_unfaulted classes devices r.kind) c.requests) claims

-- a claim holds each of the devices
unfoldable pub all_held : Holders → List Offered → Bool
all_held h devices = list_all (λ o. is_some (holder_in h (id_in o))) devices
