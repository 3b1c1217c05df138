-- When a connection ends because it failed.
use Rattle.std.specs.Prelude.{ℕ, ◌≡◌, ◌≤◌, Bool, true, false, Option, None, Some}
use Rattle.dra_ports.specs.Causes.{Rose}
use Rattle.http_wire.specs.declared.error.WireError.{WireError}
use Rattle.http_wire.specs.declared.error.WireError.TheVariants as wire
use Rattle.api_server.specs.declared.end.ConnEnd.{ConnEnd}
use Rattle.api_server.specs.declared.end.ConnEnd.TheVariants as end

-- a read or a write failed
abbrev pub is_fault : ConnEnd → Bool
is_fault end.Closed = false
is_fault (end.Wire wire.BadHead) = false
is_fault (end.Wire wire.NoLength) = false
is_fault (end.Wire wire.TooLong) = false
is_fault (end.Wire wire.EndedEarly) = false
is_fault (end.Wire wire.ReadFault) = true
is_fault (end.Wire wire.WriteFault) = true
is_fault (end.Wire wire.Memory) = false
is_fault (end.Full n) = false
is_fault end.Memory = false

-- the error count never falls, a connection ends by a fault only if it rose or is at its last value, and with every other end
-- it does not change
pub record HasEndCause (before now : ℕ) (e : ConnEnd) : Type 0 where
  pub later : before ≤ now
  pub failed : is_fault e ≡ true → Rose before now
  pub other : is_fault e ≡ false → now ≡ before

-- the same of one step; the count does not change if the connection goes on
abbrev pub HasStepCause : ℕ → ℕ → Option ConnEnd → Type 0
HasStepCause before now None = now ≡ before
HasStepCause before now (Some e) = HasEndCause before now e

-- after an error of the reader: what it counted itself is not counted again
abbrev pub HasStopCause : WireError → ℕ → ℕ → ConnEnd → Type 0
HasStopCause wire.BadHead before now e = HasEndCause before now e
HasStopCause wire.NoLength before now e = HasEndCause before now e
HasStopCause wire.TooLong before now e = HasEndCause before now e
HasStopCause wire.EndedEarly before now e = now ≡ before
HasStopCause wire.ReadFault before now e = now ≡ before
HasStopCause wire.WriteFault before now e = now ≡ before
HasStopCause wire.Memory before now e = now ≡ before
