use Rattle.std.proofs.Common.{◌≡◌, drop}
use Rattle.object_fields.specs.NewNames.{is_among}
use Rattle.api_claim.proofs.lists.has_text.Given as goal

-- the texts that are left decide
abbrev pub invariant-loop-one : goal.invariant-loop-one
invariant-loop-one l = is_among l.text (drop l.one-index l.texts) ≡ is_among l.text l.texts
