use Rattle.std.proofs.Common.{◌≡◌, drop}
use Rattle.object_fields.specs.Meta.{are_digits}
use Rattle.object_fields.proofs.meta.digits.Given as goal

abbrev pub invariant-loop-byte : goal.invariant-loop-byte
invariant-loop-byte l = are_digits (drop l.byte-index l.text) ≡ are_digits l.text
