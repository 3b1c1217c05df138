-- How bytes of the source are appended to those ahead.
use Rattle.std.specs.Prelude.{ℕ, ◌≡◌, ◌<◌, Bool, List, [], ◌++◌, Option, Result, Ok, Err, MatchBool, length}
use Rattle.std.specs.Io.KnownBytes.{Consumes, IsAtEnd}
use Rattle.dra_ports.specs.declared.error.PortError.{PortError}
use Rattle.dra_ports.specs.declared.error.PortError.TheVariants as port
use Rattle.dra_ports.specs.Prefixes.{ConsumesPrefix}
use Rattle.http_wire.specs.Reader.{remaining}

-- a piece of `count` bytes was appended to those ahead; 0 means that none is left
pub record Joined (ahead ahead_now : List ℕ) (left left_now : Option (List ℕ)) (count : ℕ) : Type 0 where
  pub piece : List ℕ
  pub joined : ahead_now ≡ ahead ++ piece
  pub consumed : Consumes left left_now piece
  pub count_is : length piece ≡ count
  pub end : count ≡ 0 → IsAtEnd left_now

-- reading a piece
abbrev pub ReadsPiece : List ℕ → List ℕ → Option (List ℕ) → Option (List ℕ) → Result ℕ PortError → Type 0
ReadsPiece ahead ahead_now left left_now (Ok count) = Joined ahead ahead_now left left_now count
ReadsPiece ahead ahead_now left left_now (Err port.Failed) = (ahead_now ≡ ahead) × Consumes left left_now []
ReadsPiece ahead ahead_now left left_now (Err port.Memory) = (ahead_now ≡ ahead) × ConsumesPrefix left left_now

-- a piece was appended to the bytes ahead, or none is left
pub record Filled (ahead ahead_now : List ℕ) (left left_now : Option (List ℕ)) (more : Bool) : Type 0 where
  pub piece : List ℕ
  pub joined : ahead_now ≡ ahead ++ piece
  pub consumed : Consumes left left_now piece
  pub some : MatchBool more (0 < length piece) ((piece ≡ []) × IsAtEnd left_now)

abbrev pub Fills : List ℕ → List ℕ → Option (List ℕ) → Option (List ℕ) → Result Bool PortError → Type 0
Fills ahead ahead_now left left_now (Ok more) = Filled ahead ahead_now left left_now more
Fills ahead ahead_now left left_now (Err port.Failed) = (ahead_now ≡ ahead) × Consumes left left_now []
Fills ahead ahead_now left left_now (Err port.Memory) = (ahead_now ≡ ahead) × ConsumesPrefix left left_now

-- whether something is ahead; no byte was gone over
pub record Ready (ahead ahead_now : List ℕ) (left left_now : Option (List ℕ)) (more : Bool) : Type 0 where
  pub kept : Consumes (remaining ahead left) (remaining ahead_now left_now) []
  pub some : MatchBool more (0 < length ahead_now) ((ahead_now ≡ []) × IsAtEnd left_now)

abbrev pub HasMore : List ℕ → List ℕ → Option (List ℕ) → Option (List ℕ) → Result Bool PortError → Type 0
HasMore ahead ahead_now left left_now (Ok more) = Ready ahead ahead_now left left_now more
HasMore ahead ahead_now left left_now (Err port.Failed) = (ahead_now ≡ []) × Consumes (remaining ahead left) left_now []
HasMore ahead ahead_now left left_now (Err port.Memory) = ConsumesPrefix (remaining ahead left) left_now
