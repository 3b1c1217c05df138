-- Consuming the blanks between documents.
use Rattle.std.specs.Prelude.{ℕ, ◌≡◌, ◌≤◌, ◌<◌, ◌+◌, ◌-◌, Bool, true, false, List, [], ◌∷◌, ◌++◌, Option, Result, Ok, Err, length}
use Rattle.std.specs.Io.KnownBytes.{Consumes, IsAtEnd}
use Rattle.doc_split.specs.declared.error.DocError.{DocError}
use Rattle.doc_split.specs.declared.error.DocError.TheVariants as error
use Rattle.doc_split.specs.declared.limits.Limits.{Limits}
use Rattle.doc_split.specs.Documents.{documents_from, is_blank}
use Rattle.doc_split.specs.Split.{Split, remaining}

-- what was consumed are blanks
pub record Passes (limits : Limits) (old new : Split) (left left_now : Option (List ℕ)) : Type 0 where
  pub taken : List ℕ
  pub consumed : Consumes (remaining old left) (remaining new left_now) taken
  pub blank : (more : List ℕ) → documents_from limits.document 0 old.at (taken ++ more) ≡ documents_from limits.document 0 new.at more
  pub counted : new.at ≡ old.at + length taken
  pub within : length taken ≤ limits.input - old.at

-- another byte than a blank is next
pub record MeetsByte (limits : Limits) (new : Split) : Type 0 where
  pub byte : ℕ
  pub rest : List ℕ
  pub next : new.ahead ≡ byte ∷ rest
  pub other : is_blank byte ≡ false
  pub room : new.at < limits.input

-- the input has reached its limit, and goes on
pub record MeetsLimit (limits : Limits) (new : Split) : Type 0 where
  pub next : 0 < length new.ahead
  pub room : limits.input ≤ new.at

-- nothing is left
pub record MeetsEnd (new : Split) (left_now : Option (List ℕ)) : Type 0 where
  pub next : new.ahead ≡ []
  pub end : IsAtEnd left_now

-- what follows the blanks
abbrev pub Meets : Limits → Split → Option (List ℕ) → Result Bool DocError → Type 0
Meets limits new left_now (Ok true) = MeetsByte limits new
Meets limits new left_now (Ok false) = MeetsEnd new left_now
Meets limits new left_now (Err error.ReadFault) = new.ahead ≡ []
Meets limits new left_now (Err (error.Unclosed at)) = ⊥
Meets limits new left_now (Err (error.Stray at)) = ⊥
Meets limits new left_now (Err (error.TooLong at)) = ⊥
Meets limits new left_now (Err error.Memory) = Unit {0}
Meets limits new left_now (Err error.Input) = MeetsLimit limits new
