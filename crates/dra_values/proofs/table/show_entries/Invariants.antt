use Rattle.std.proofs.Common.{[]}
use Rattle.std.specs.Fmt.{debug_items}
use Rattle.dra_values.specs.Shown.{debug_entry}
use Rattle.dra_values.proofs.Written.{Then, lead_of}
use Rattle.dra_values.proofs.table.show_entries.Given as goal

-- what the rest of the entries write after what was written is what all of them write
abbrev pub invariant-loop-key : goal.invariant-loop-key
invariant-loop-key g l =
    (h : _) → Then g.W.Write.write_str_gives l.f (debug_items (debug_entry g.K.Debug.debug_output g.V.Debug.debug_output) (lead_of l.first) l.key-iterator) h
    → Then g.W.Write.write_str_gives l.fn.f (debug_items (debug_entry g.K.Debug.debug_output g.V.Debug.debug_output) [] l.fn.map.entries) h
