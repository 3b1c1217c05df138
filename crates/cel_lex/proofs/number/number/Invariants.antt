use Rattle.std.proofs.Common.{◌≡◌, ◌<◌, ◌^◌, drop}
use Rattle.cel_lex.proofs.NumberLaws.{number_after}
use Rattle.cel_lex.specs.Numbers.{number_of}
use Rattle.cel_lex.proofs.number.number.Given as goal

abbrev pub invariant-loop-byte : goal.invariant-loop-byte
invariant-loop-byte l = (l.value < 2 ^ 64) × (number_after l.radix l.value (drop l.byte-index l.digits) ≡ number_of l.radix l.digits)
