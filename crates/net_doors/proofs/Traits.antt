-- What the traits ask of doors that don't expose their connections.
use Rattle.std.proofs.Common.{◌≡◌, ◌∷◌, [], ℕ, List, None, Option, map, refl}
use Rattle.door_ports.specs.Shares.{IsNew, share_of}
use Rattle.door_ports.specs.Visits.{Ended, handed_on}
use Rattle.net_doors.specs.NetDoors.{IsNewDoor, door_share}
use Rattle.net_doors.specs.declared.door.NetDoor.{NetDoor}

pub new_is : (i n connections : ℕ) (d : NetDoor) → IsNewDoor i n connections d → IsNew (share_of i n connections) (door_share d) d.in_service d.served d.faults None
new_is i n connections d new = record { share = new.share; in_service = new.in_service; served = new.served; faults = new.faults; ended = tt }

abbrev nothing : Option (List Ended)
nothing = None

pub handed_none : {D : Type 0} (ds : List D) → nothing ≡ handed_on nothing (map (λ d. nothing) ds)
unfolding handed_on
handed_none [] = refl
handed_none (d ∷ ds) = handed_none ds
