-- The steps of a call for the next request: its head's end, its head, its body.
use Rattle.std.specs.Prelude.{ℕ, ◌≡◌, ◌≤◌, ◌<◌, List, [], Option, None, Some, Result, Ok, Err, length, take, drop, Vec}
use Rattle.std.specs.declared.alloc.Global.{Global}
use Rattle.std.specs.Io.KnownBytes.{Consumes, IsAtEnd}
use Rattle.http_wire.specs.declared.error.WireError.{WireError}
use Rattle.http_wire.specs.declared.error.WireError.TheVariants as error
use Rattle.http_wire.specs.declared.head.Head.{Head}
use Rattle.http_wire.specs.declared.scan.Place.{Place}
use Rattle.http_wire.specs.declared.scan.Place.TheVariants.{Before}
use Rattle.http_wire.specs.declared.scan.Scan.{Scan}
use Rattle.dra_ports.specs.Prefixes.{ConsumesPrefix}
use Rattle.http_wire.specs.Heads.{IsBlank, IsHead, IsLongHead, IsOpenHead}
use Rattle.http_wire.specs.Requests.{IsBadHead, IsTooLong, IsOpen, Says}
use Rattle.http_wire.specs.Reader.{Begins, IsUndone, remaining}

-- the bytes ahead begin with a head, which was found
pub record Found (ahead : List ℕ) (scan : Scan) : Type 0 where
  pub count_within : scan.count ≤ length ahead
  pub blank_within : scan.blank ≤ scan.count
  pub head : IsHead (take scan.count ahead) (drop scan.blank (take scan.count ahead))

-- no byte was gone over
abbrev pub Kept : List ℕ → List ℕ → Option (List ℕ) → Option (List ℕ) → Type 0
Kept ahead ahead_now left left_now = Consumes (remaining ahead left) (remaining ahead_now left_now) []

-- finding the end of a head
abbrev pub Finds : List ℕ → List ℕ → Option (List ℕ) → Option (List ℕ) → Result (Option Scan) WireError → Type 0
Finds ahead ahead_now left left_now (Ok (Some scan)) = Kept ahead ahead_now left left_now × Found ahead_now scan
Finds ahead ahead_now left left_now (Ok None) = Kept ahead ahead_now left left_now × IsBlank ahead_now × IsAtEnd left_now
Finds ahead ahead_now left left_now (Err error.BadHead) = ⊥
Finds ahead ahead_now left left_now (Err error.NoLength) = ⊥
Finds ahead ahead_now left left_now (Err error.TooLong) = Kept ahead ahead_now left left_now × IsLongHead ahead_now
Finds ahead ahead_now left left_now (Err error.EndedEarly) = Kept ahead ahead_now left left_now × IsOpenHead ahead_now × IsAtEnd left_now
Finds ahead ahead_now left left_now (Err error.ReadFault) = Kept ahead ahead_now left left_now × IsUndone ahead_now
Finds ahead ahead_now left left_now (Err error.WriteFault) = ⊥
Finds ahead ahead_now left left_now (Err error.Memory) = ConsumesPrefix (remaining ahead left) left_now

-- taking a head
abbrev pub TakesHead : List ℕ → List ℕ → Option (List ℕ) → Option (List ℕ) → Result (Option Head) WireError → Type 0
TakesHead ahead ahead_now left left_now (Ok (Some head)) = Begins ahead left (remaining ahead_now left_now) (λ prefix. Says prefix (Ok head))
TakesHead ahead ahead_now left left_now (Ok None) = Begins ahead left (remaining ahead_now left_now) IsBlank × IsAtEnd (remaining ahead_now left_now)
TakesHead ahead ahead_now left left_now (Err error.BadHead) = (rest : List ℕ) × Begins ahead left (remaining rest left_now) IsBadHead
TakesHead ahead ahead_now left left_now (Err error.NoLength) = (rest : List ℕ) × Begins ahead left (remaining rest left_now) (λ prefix. Says prefix (Err error.NoLength))
TakesHead ahead ahead_now left left_now (Err error.TooLong) = (rest : List ℕ) × Begins ahead left (remaining rest left_now) IsTooLong
TakesHead ahead ahead_now left left_now (Err error.EndedEarly) = Begins ahead left left_now IsOpen × IsAtEnd left_now
TakesHead ahead ahead_now left left_now (Err error.ReadFault) = Begins ahead left left_now IsUndone
TakesHead ahead ahead_now left left_now (Err error.WriteFault) = ⊥
TakesHead ahead ahead_now left left_now (Err error.Memory) = ConsumesPrefix (remaining ahead left) left_now

-- so many bytes of a body were taken, fewer than it has
pub record IsPart (ahead : List ℕ) (left left_now : Option (List ℕ)) (long : ℕ) : Type 0 where
  pub part : List ℕ
  pub consumed : Consumes (remaining ahead left) left_now part
  pub short : length part < long

-- the bytes were taken, `long` of them
pub record IsTaken (ahead ahead_now : List ℕ) (left left_now : Option (List ℕ)) (body : List ℕ) (long : ℕ) : Type 0 where
  pub consumed : Consumes (remaining ahead left) (remaining ahead_now left_now) body
  pub long_is : length body ≡ long

-- taking a body
abbrev pub TakesBody : List ℕ → List ℕ → Option (List ℕ) → Option (List ℕ) → ℕ → Result (Vec ℕ Global) WireError → Type 0
TakesBody ahead ahead_now left left_now long (Ok body) = IsTaken ahead ahead_now left left_now body.items long
TakesBody ahead ahead_now left left_now long (Err error.BadHead) = ⊥
TakesBody ahead ahead_now left left_now long (Err error.NoLength) = ⊥
TakesBody ahead ahead_now left left_now long (Err error.TooLong) = ⊥
TakesBody ahead ahead_now left left_now long (Err error.EndedEarly) = IsPart ahead left left_now long × IsAtEnd left_now
TakesBody ahead ahead_now left left_now long (Err error.ReadFault) = IsPart ahead left left_now long
TakesBody ahead ahead_now left left_now long (Err error.WriteFault) = ⊥
TakesBody ahead ahead_now left left_now long (Err error.Memory) = ConsumesPrefix (remaining ahead left) left_now

-- what is found if the input ends and the next byte would be at this place
abbrev pub EndsAt : Place → Result (Option Scan) WireError → Type 0
EndsAt place (Ok (Some scan)) = ⊥
EndsAt place (Ok None) = place ≡ Before
EndsAt place (Err error.BadHead) = ⊥
EndsAt place (Err error.NoLength) = ⊥
EndsAt place (Err error.TooLong) = ⊥
EndsAt place (Err error.EndedEarly) = place ≡ Before → ⊥
EndsAt place (Err error.ReadFault) = ⊥
EndsAt place (Err error.WriteFault) = ⊥
EndsAt place (Err error.Memory) = ⊥
