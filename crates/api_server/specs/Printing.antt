-- What is printed once the workers of a server have ended.
use Rattle.std.specs.Prelude.{ℕ, ◌≡◌, ◌⊎◌, List, Option, Result, Ok, Err}
use Rattle.std.specs.Io.KnownBytes.{Appends}
use Rattle.dra_ports.specs.Causes.{Rose}
use Rattle.dra_ports.specs.Prefixes.{AppendsPrefix}
use Rattle.dra_ports.specs.declared.error.PortError.{PortError}
use Rattle.dra_ports.specs.declared.error.PortError.TheVariants as port
use Rattle.cluster.specs.declared.entry.Entry.{Entry}
use Rattle.journal_text.specs.Journal.{lines_from, text_of}
use Rattle.api_server.specs.Serving.{jobs_ended}
use Rattle.api_server.specs.declared.options.ServeStatus.{ServeStatus}
use Rattle.api_server.specs.declared.options.ServeStatus.TheVariants as status
use Rattle.api_server.specs.declared.serve_end.ServeEnd.{ServeEnd}
use Rattle.api_server.specs.declared.serve_end.ServeEnd.TheVariants as end

-- how all ends after printing, if this is how it ends if printing didn't fail
abbrev pub after_printing : {T : Type 0} → Result T PortError → ServeStatus → ServeStatus
after_printing (Ok x) s = s
after_printing (Err port.Failed) s = status.Write
after_printing (Err port.Memory) s = status.Memory

-- this text was printed, with this status and no error, or a prefix of it: with Write the count of errors rose or is at its
-- maximum
abbrev pub PrintsText : List ℕ → ServeStatus → Option (List ℕ) → Option (List ℕ) → ℕ → ℕ → ServeStatus → Type 0
PrintsText text whole old new before now s =
    ((s ≡ whole) × Appends old new text × (now ≡ before))
    ⊎ (((s ≡ status.Write) × AppendsPrefix old new text × Rose before now)
    ⊎ ((s ≡ status.Memory) × AppendsPrefix old new text × (now ≡ before)))

-- nothing was printed
abbrev pub PrintsNone : ServeStatus → Option (List ℕ) → Option (List ℕ) → ℕ → ℕ → ServeStatus → Type 0
PrintsNone whole old new before now s = (s ≡ whole) × (new ≡ old) × (now ≡ before)

-- what is printed of a history, by how the workers ended
abbrev pub PrintsEnd : List Entry → Option (List ℕ) → Option (List ℕ) → ℕ → ℕ → ServeEnd → ServeStatus → Type 0
PrintsEnd h old new before now end.Served s = PrintsText (text_of h (jobs_ended h)) status.Done old new before now s
PrintsEnd h old new before now end.Memory s = PrintsNone status.Memory old new before now s
PrintsEnd h old new before now end.Door s = PrintsNone status.Door old new before now s
PrintsEnd h old new before now (end.Limit n) s = PrintsText (lines_from 0 h) (status.Limit n) old new before now s
