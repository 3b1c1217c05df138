-- What all doors in memory expose together.
use Rattle.std.specs.Prelude.{◌≡◌, Bool, true, false, List, Result, Ok, Err}
use Rattle.dra_ports.specs.declared.error.PortError.{PortError}
use Rattle.dra_ports.specs.declared.error.PortError.TheVariants.{Failed, Memory}
use Rattle.door_ports.specs.Visits.{Ended}
use Rattle.door_ports.specs.MemDoors.{ended_in}
use Rattle.door_ports.specs.declared.mem_doors.MemDoors.{MemDoors}

-- the connections that have ended at doors that were closed
abbrev pub all_ended : MemDoors → List Ended
all_ended m = ended_in m.closed.items

-- the result of an opening that is to fail, or that isn't
abbrev pub Opens : {T : Type 0} → Bool → Result T PortError → Type 0
Opens true result = result ≡ Err Failed
Opens false (Ok doors) = Unit {0}
Opens false (Err e) = e ≡ Memory
