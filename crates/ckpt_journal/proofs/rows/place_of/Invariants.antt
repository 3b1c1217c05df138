use Rattle.std.proofs.Common.{◌≡◌, drop}
use Rattle.ckpt_journal.specs.Table.{place_from}
use Rattle.ckpt_journal.proofs.rows.place_of.Given as goal

abbrev pub invariant-loop-at : goal.invariant-loop-at
invariant-loop-at l = place_from l.at l.uid (drop l.at l.rows) ≡ place_from 0 l.uid l.rows
