-- What an input asks for.
use Rattle.std.specs.Prelude.{ℕ, Bool, true, false, List, [], ◌∷◌, ◌++◌, Option, None, Some, map}
use Rattle.doc_split.specs.Documents.{Document, Documents}
use Rattle.doc_split.specs.Documents as documents
use Rattle.doc_split.specs.Limits.{documents_at, the_limits}
use Rattle.commands.specs.declared.given.Given.{Given}
use Rattle.commands.specs.Readings.{Reading, reading}
use Rattle.commands.specs.Readings as readings
use Rattle.replay_core.specs.declared.status.Rejection.{Rejection}
use Rattle.replay_core.specs.declared.status.Rejection.TheVariants as rejection

-- why there are no more commands
pub data Ending : Type 0 where
  -- the input ended
  Clean : Ending
  -- what was taken of the input ended
  Cut : Ending
  -- what is there isn't a command, for this reason
  Bad : (at : ℕ) → (why : Rejection) → Ending
  -- the input is longer than it may be
  Long : Ending

-- commands, each with the offset of its document, and why there are no more
pub record Script : Type 0 where
  pub commands : List (ℕ × Given)
  pub ending : Ending

-- the most bytes of an input
abbrev pub most_input : ℕ
most_input = 1073741824

abbrev pub nothing : Ending → Script
nothing ending = record { commands = []; ending = ending }

abbrev pub prepend : List (ℕ × Given) → Script → Script
prepend done script = record script { commands = done ++ script.commands }

-- commands of one document, each with its offset
abbrev pub at_each : ℕ → List Given → List (ℕ × Given)
at_each at cs = map (λ c. (at, c)) cs

-- what a document is, before the others
abbrev pub add_commands : ℕ → Reading → Script → Script
add_commands at (readings.Asks given) rest = prepend (at_each at given) rest
add_commands at readings.NotJson rest = nothing (Bad at rejection.NotJson)
add_commands at readings.NotACommand rest = nothing (Bad at rejection.NotACommand)

-- why a document is refused, if it is
abbrev pub rejection_of : Reading → Option Rejection
rejection_of (readings.Asks given) = None
rejection_of readings.NotJson = Some rejection.NotJson
rejection_of readings.NotACommand = Some rejection.NotACommand

-- why there are no more commands, by why there are no more documents: at the end of an input, or of
-- what was taken of it
abbrev pub ending_of : Bool → documents.Ending → Ending
ending_of true documents.Clean = Clean
ending_of true (documents.Unclosed at) = Bad at rejection.Unclosed
ending_of false documents.Clean = Cut
ending_of false (documents.Unclosed at) = Cut
ending_of ended (documents.Stray at) = Bad at rejection.Stray
ending_of ended (documents.TooLong at) = Bad at rejection.TooLong
ending_of ended documents.Long = Long

-- the commands of documents in order, up to the first document that isn't commands; a Schedule makes at
-- most so many attempts
abbrev pub commands_in : ℕ → List Document → Ending → Script
commands_in attempts [] ending = nothing ending
commands_in attempts (d ∷ ds) ending = add_commands d.at (reading attempts d.bytes) (commands_in attempts ds ending)

abbrev pub script_by : ℕ → Bool → Documents → Script
script_by attempts ended d = commands_in attempts d.documents (ending_of ended d.ending)

-- the commands of what is left of an input from an offset on
abbrev pub script_from : ℕ → Bool → ℕ → List ℕ → Script
script_from attempts ended at bytes = script_by attempts ended (documents_at the_limits at bytes)

-- the commands of an input
abbrev pub script_of : ℕ → List ℕ → Script
script_of attempts bytes = script_from attempts true 0 bytes

-- the commands of the documents that are whole in a prefix of an input
abbrev pub script_within : ℕ → List ℕ → Script
script_within attempts bytes = script_from attempts false 0 bytes

abbrev pub commands_of : List (ℕ × Given) → List Given
commands_of cs = map (λ c. c.1) cs
