use Rattle.std.proofs.Common.{◌≡◌, drop}
use Rattle.object_fields.specs.Scan.{goes_on, is_cut}
use Rattle.object_fields.proofs.names.joined.Given as goal

abbrev pub invariant-loop-byte : goal.invariant-loop-byte
invariant-loop-byte l = goes_on (is_cut l.cuts) l.before (drop l.byte-index l.text) ≡ goes_on (is_cut l.cuts) 46 l.text
