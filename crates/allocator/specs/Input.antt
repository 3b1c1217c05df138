-- The input of a node's search, with what is held and what counters have.
use Rattle.std.specs.Prelude.{ℕ, List, Option}
use Rattle.object_fields.specs.declared.key.DeviceId.{DeviceId}
use Rattle.object_fields.specs.declared.key.Key.{Key}
use Rattle.request_rules.specs.Draws.{CounterId}
use Rattle.request_rules.specs.Input.{SearchInput}

-- what is asked, with what is held, and with what counters have and what is drawn from them
abbrev pub with_counters : SearchInput → List (DeviceId × Key) → (CounterId → Option ℕ) → (CounterId → ℕ) → SearchInput
with_counters v held value drawn = record {
  devices = v.devices;
  claims = v.claims;
  matched = v.matched;
  held = held;
  value = value;
  drawn = drawn;
  broken = v.broken;
}
