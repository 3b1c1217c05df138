use Rattle.std.proofs.Common.{◌≡◌, drop}
use Rattle.object_fields.specs.Qualified.{is_word}
use Rattle.object_fields.proofs.qualified.word.Given as goal

abbrev pub invariant-loop-byte : goal.invariant-loop-byte
invariant-loop-byte l = is_word (drop l.byte-index l.text) ≡ is_word l.text
