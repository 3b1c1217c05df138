-- Slots, shapes and evaluation errors as those of an input.
use Rattle.walk.specs.Walk as walks
use Rattle.request_rules.specs.Input.{SearchInput}
use Rattle.request_rules.specs.Asked as rules
use Rattle.request_rules.specs.Faults as faults
use Rattle.request_rows.specs.declared.choice.Seat.{Seat}
use Rattle.request_rows.specs.declared.choice.Seat.TheVariants.{First, Next, Due}
use Rattle.request_rows.specs.declared.choice.Shape.{Shape}
use Rattle.request_rows.specs.declared.choice.Shape.TheVariants.{Faulty, Hopeless, Open}
use Rattle.request_rows.specs.declared.choice.Slot.{Slot}
use Rattle.request_rows.specs.declared.fault.FaultPlace.{FaultPlace}
use Rattle.request_rules.specs.Ways.{asked_at}

abbrev pub seat_seen : Seat → rules.Seat
seat_seen First = rules.First
seat_seen Next = rules.Next
seat_seen (Due x) = rules.Due x

abbrev pub slot_seen : SearchInput → Slot → rules.Slot
slot_seen w s = record { asked = asked_at w s.row; seat = seat_seen s.seat }

abbrev pub shape_seen : Shape → walks.Shape
shape_seen Faulty = walks.Faulty
shape_seen Hopeless = walks.Hopeless
shape_seen (Open n) = walks.Open n

abbrev pub fault_seen : FaultPlace → faults.FaultPlace
fault_seen f = record { claim = f.claim; request = f.request; selector = f.selector; device = f.device; cause = f.cause }
