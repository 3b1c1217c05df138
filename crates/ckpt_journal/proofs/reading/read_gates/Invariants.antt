use Rattle.std.proofs.Common.{◌≡◌, ◌<◌, ◌≤◌, ◌++◌, length}
use Rattle.std.specs.List.{AllByRecursion}
use Rattle.ckpt_journal.specs.Format.{blocks, Fits}
use Rattle.ckpt_journal.proofs.reading.read_gates.Given as goal

abbrev pub invariant-loop-rest : goal.invariant-loop-rest
invariant-loop-rest l = record {
  parts : l.bytes ≡ blocks l.records.items ++ l.rest;
  more : 0 < length l.rest;
  most : length l.rest ≤ length l.bytes;
  fits : AllByRecursion Fits l.records.items;
}

abbrev pub decreases-loop-rest : goal.decreases-loop-rest
decreases-loop-rest l = length l.rest
