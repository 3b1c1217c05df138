-- What is asked of a node, as the input of its search.
use Rattle.std.specs.Prelude.{ℕ, List, [], Bool, Option, None}
use Rattle.object_fields.specs.declared.key.DeviceId.{DeviceId}
use Rattle.object_fields.specs.declared.key.Key.{Key}
use Rattle.api_claim.specs.declared.types.ResourceClaim.{ResourceClaim}
use Rattle.pool_view.specs.Pools.{Offered}
use Rattle.request_rules.specs.Draws.{CounterId}
use Rattle.request_rules.specs.Input.{SearchInput}
use Rattle.request_rules.specs.Match.{ClassTable, matched_by}

-- claims, each under its key, and the classes that exist
pub record WantsFields : Type 0 where
  pub claims : List ResourceClaim
  pub classes : ClassTable

-- The input of a search that asks this of these devices, with nothing held and no
-- counters. What a choice asks for depends on neither.
abbrev pub asking : WantsFields → List Offered → Bool → SearchInput
asking wants devices broken = record {
  devices = devices;
  claims = wants.claims;
  matched = matched_by wants.classes;
  held = [];
  value = λ k. None;
  drawn = λ k. 0;
  broken = broken;
}

-- what rows are made of
pub record RowsFields : Type 0 where
  pub wants : WantsFields
  pub devices : List Offered
  pub broken : Bool

-- as the input of a search
abbrev pub input_of : RowsFields → SearchInput
input_of r = asking r.wants r.devices r.broken

-- the same with these devices held, these counters, and these amounts drawn from them
abbrev pub with_held : SearchInput → List (DeviceId × Key) → (CounterId → Option ℕ) → (CounterId → ℕ) → SearchInput
with_held w held value drawn = record w { held = held; value = value; drawn = drawn }
