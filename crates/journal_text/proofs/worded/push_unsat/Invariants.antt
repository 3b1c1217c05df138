use Rattle.std.proofs.Common.{◌≡◌, ◌++◌, drop}
use Rattle.std.specs.List.{flat_map}
use Rattle.std.specs.Prelude.{codes}
use Rattle.journal_text.specs.Passing.{unsat_next}
use Rattle.journal_text.proofs.worded.push_unsat.Given as goal

abbrev pub invariant-loop-name : goal.invariant-loop-name
invariant-loop-name l = l.out.items ++ (codes ":unsat" ++ flat_map unsat_next (drop l.name-index l.names)) ≡ l.fn.out.items ++ (codes ":unsat" ++ flat_map unsat_next l.fn.names)
