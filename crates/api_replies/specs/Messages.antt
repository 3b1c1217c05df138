-- Texts of the journal in replies.
use Rattle.std.specs.Prelude.{ℕ, List, ◌++◌, codes, decimal, drop, length, map}
use Rattle.cluster.specs.declared.entry.Command.TheVariants.{Delete}
use Rattle.cluster.specs.declared.entry.Entry.{Entry}
use Rattle.cluster.specs.declared.entry.Event.{Event}
use Rattle.cluster.specs.declared.entry.Event.TheVariants.{Denied}
use Rattle.cluster.specs.declared.entry.Refusal.TheVariants.{NotFound}
use Rattle.cluster.specs.declared.object.Target.{Target}
use Rattle.journal_text.specs.Journal.{clean, event_text}

-- the line of an entry in the journal, without its LF
abbrev pub line_text : ℕ → Entry → List ℕ
line_text place e = map clean (decimal place ++ codes " " ++ decimal e.job ++ codes " " ++ event_text e.event)

-- the text of a refusal: what the journal says of the event after the word `denied`
unfoldable pub refusal_text : Event → List ℕ
refusal_text event = map clean (drop (length (codes "denied ")) (event_text event))

-- the refusal of a command on an object that doesn't exist
abbrev pub absent_event : Target → Event
absent_event target = Denied (Delete target) NotFound

abbrev pub absent_entry : Target → Entry
absent_entry target = record { job = 0; event = absent_event target }

abbrev pub absent_text : Target → List ℕ
absent_text target = refusal_text (absent_event target)
