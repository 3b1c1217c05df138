use Rattle.std.proofs.Common.{◌≡◌, ◌-◌, []}
use Rattle.ckpt_journal.specs.Reading.{names_from}
use Rattle.ckpt_journal.proofs.body.take_each.Given as goal

-- the names that are left, appended to those read, are all names
abbrev pub invariant-loop-place : goal.invariant-loop-place
invariant-loop-place g l = names_from g.T.Named.reading (l.count - l._place) l.names l.rest ≡ names_from g.T.Named.reading l.count [] l.fn.bytes
