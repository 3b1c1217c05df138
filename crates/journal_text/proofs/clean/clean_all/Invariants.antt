use Rattle.std.proofs.Common.{◌≡◌, ◌++◌, drop, map, take}
use Rattle.journal_text.specs.Journal.{clean}
use Rattle.journal_text.proofs.clean.clean_all.Given as goal

abbrev pub invariant-loop-byte : goal.invariant-loop-byte
invariant-loop-byte l = take l.byte-index l.bytes ++ map clean (drop l.byte-index l.bytes) ≡ map clean l.fn.bytes
