-- What the bytes of a document ask for, and why they ask for nothing.
use Rattle.std.specs.Prelude.{ℕ, ◌≡◌, List, Option, Some, None, Result, IsErrOf, option_map, option_and_then, if◌then◌else◌}
use Rattle.std.specs.Str.{is_utf8}
use Rattle.serde_json.specs.Data.{Data}
use Rattle.serde_json.specs.Read.{read}
use Rattle.serde_json.specs.Find.{as_object}
use Rattle.commands.specs.declared.given.Given.{Given}
use Rattle.commands.specs.declared.given.GivenError.{GivenError}
use Rattle.commands.specs.declared.given.GivenError.TheVariants as error
use Rattle.commands.specs.Commands.{given_of}

-- what a document asks for, or why it asks for nothing
pub data Reading : Type 0 where
  -- these, in order
  Asks : (given : List Given) → Reading
  -- its bytes aren't one JSON object in UTF-8
  NotJson : Reading
  -- it is such an object, but no command
  NotACommand : Reading

-- the value, if it is an object
abbrev pub object_in : Data → Option Data
object_in d = option_map (λ members. d) (as_object d)

-- the JSON object that the bytes are: they are UTF-8, and serde_json reads them
abbrev pub json_of : List ℕ → Option Data
json_of bytes = if is_utf8 bytes then option_and_then object_in (read bytes) else None

abbrev pub asked : Option (List Given) → Reading
asked None = NotACommand
asked (Some given) = Asks given

abbrev pub reading_of : ℕ → Option Data → Reading
reading_of attempts None = NotJson
reading_of attempts (Some d) = asked (given_of attempts d)

-- what a document of these bytes asks for, where a Schedule makes at most so many attempts
unfoldable pub reading : ℕ → List ℕ → Reading
reading attempts bytes = reading_of attempts (json_of bytes)

-- memory didn't run out
abbrev pub Unfailing : {T : Type 0} → Result T GivenError → Type 0
Unfailing result = IsErrOf result error.Memory → ⊥

-- the error is that of the reading, unless memory ran out
abbrev pub Fails : GivenError → Reading → Type 0
Fails error.NotJson r = r ≡ NotJson
Fails error.NotACommand r = r ≡ NotACommand
Fails error.Memory r = Unit {0}

-- the same of the object alone
abbrev pub FailsJson : GivenError → Option Data → Type 0
FailsJson error.NotJson d = d ≡ None
FailsJson error.NotACommand d = ⊥
FailsJson error.Memory d = Unit {0}
