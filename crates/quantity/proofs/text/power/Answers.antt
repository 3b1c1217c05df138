use Rattle.quantity.proofs.NumberLemmas.{AreDigits-from_numeral}
use Rattle.quantity.proofs.text.power.Goals as goal

pub small_number-requires : goal.small_number-requires
small_number-requires c = AreDigits-from_numeral _ _ c.is_numeral.ensures c.if-not-is_numeral.false
