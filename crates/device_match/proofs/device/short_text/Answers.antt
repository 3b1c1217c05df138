use Rattle.std.proofs.lemmas.Str.{is_utf8-from_IsUtf8}
use Rattle.device_match.proofs.Valued.{short_by}
use Rattle.device_match.proofs.device.short_text.Goals as goal

pub returns-clause-short : goal.returns-clause-short
returns-clause-short c =
    short_by c.as_str-chars.result.now c.in_ok-from_str.field-0 c.in_ok-from_str.ensures (is_utf8-from_IsUtf8 c.as_str-chars.result.now c.as_str-chars.utf8) (rw c.as_str-chars.ensures c.requires)
