use Rattle.std.proofs.Common.{◌≡◌, ◌++◌, drop}
use Rattle.journal_text.specs.Journal.{lines_from}
use Rattle.journal_text.proofs.journal.push_lines.Given as goal

abbrev pub invariant-loop-place : goal.invariant-loop-place
invariant-loop-place l = l.out.items ++ lines_from l.place (drop l.place l.entries) ≡ l.fn.out.items ++ lines_from l.fn.from (drop l.fn.from l.entries)
