-- What a call for the next request returns.
use Rattle.std.specs.Prelude.{ℕ, ◌≡◌, ◌≤◌, ◌⊎◌, List, Option, None, Some, Result, Ok, Err, IfErr, IsErrOf, OnOk}
use Rattle.std.specs.Io.KnownBytes.{Consumes, IsAtEnd, prepend_known}
use Rattle.dra_ports.specs.Causes.{Rose}
use Rattle.dra_ports.specs.Prefixes.{ConsumesPrefix}
use Rattle.dra_ports.specs.declared.error.PortError.{PortError}
use Rattle.dra_ports.specs.declared.error.PortError.TheVariants as port
use Rattle.http_wire.specs.declared.error.WireError.{WireError}
use Rattle.http_wire.specs.declared.error.WireError.TheVariants as error
use Rattle.http_wire.specs.declared.request.Request.{Request}
use Rattle.http_wire.specs.Heads.{IsBlank}
use Rattle.http_wire.specs.Requests.{Message, next_count, IsBadHead, IsTooLong, IsOpen, Says}

-- the error of a read that fails
abbrev pub read_error : PortError → WireError
read_error port.Failed = error.ReadFault
read_error port.Memory = error.Memory

-- what remains: the bytes that were taken of the source and belong to no request so far, and those that it has left
abbrev pub remaining : List ℕ → Option (List ℕ) → Option (List ℕ)
remaining ahead left = prepend_known ahead left

-- what remained begins with bytes of which this holds, and the rest follows them
pub record Begins (ahead : List ℕ) (left rest : Option (List ℕ)) (P : List ℕ → Type 0) : Type 0 where
  pub prefix : List ℕ
  pub consumed : Consumes (remaining ahead left) rest prefix
  pub fact : P prefix

abbrev pub message : Request → Message
message r = record { method = r.method; target = r.target; body = r.body.items; last = r.last }

-- no request is begun, or one is and doesn't end
abbrev pub IsUndone : List ℕ → Type 0
IsUndone prefix = IsBlank prefix ⊎ IsOpen prefix

-- a reader: the bytes that it has taken of the source and that belong to no request so far, and how many requests it has
-- returned, counted up to the most of a connection
pub record Reading : Type 0 where
  pub ahead : List ℕ
  pub taken : ℕ

-- the count after a call that returned this
abbrev pub count_after : ℕ → Option Request → ℕ
count_after taken None = taken
count_after taken (Some r) = next_count taken

-- what each result means for the bytes that remained before the call and remain after it, if a request is what P says. A
-- request that is refused is followed by what else was taken from the source, and what it has left
abbrev pub Answers : (List ℕ → Message → Type 0) → List ℕ → List ℕ → Option (List ℕ) → Option (List ℕ) → Result (Option Request) WireError → Type 0
Answers P ahead ahead_now left left_now (Ok (Some r)) = Begins ahead left (remaining ahead_now left_now) (λ prefix. P prefix (message r))
Answers P ahead ahead_now left left_now (Ok None) = Begins ahead left (remaining ahead_now left_now) IsBlank × IsAtEnd (remaining ahead_now left_now)
Answers P ahead ahead_now left left_now (Err error.BadHead) = (rest : List ℕ) × Begins ahead left (remaining rest left_now) IsBadHead
Answers P ahead ahead_now left left_now (Err error.NoLength) = (rest : List ℕ) × Begins ahead left (remaining rest left_now) (λ prefix. Says prefix (Err error.NoLength))
Answers P ahead ahead_now left left_now (Err error.TooLong) = (rest : List ℕ) × Begins ahead left (remaining rest left_now) IsTooLong
Answers P ahead ahead_now left left_now (Err error.EndedEarly) = Begins ahead left left_now IsOpen × IsAtEnd left_now
Answers P ahead ahead_now left left_now (Err error.ReadFault) = Begins ahead left left_now IsUndone
Answers P ahead ahead_now left left_now (Err error.WriteFault) = ⊥
Answers P ahead ahead_now left left_now (Err error.Memory) = ConsumesPrefix (remaining ahead left) left_now

-- the error count never falls, `ReadFault` is returned only if it rose or is at its last value, and with every
-- other result it does not change
pub record HasReadCause {T : Type 0} (before now : ℕ) (result : Result T WireError) : Type 0 where
  pub later : before ≤ now
  pub failed : IsErrOf result error.ReadFault → Rose before now
  pub ok : OnOk result (now ≡ before)
  pub other : IfErr result (λ e. (e ≡ error.ReadFault → ⊥) → now ≡ before)
