-- What an error prints.
use Rattle.std.specs.Prelude.{ℕ, List, codes}
use Rattle.quantity.specs.declared.error.QuantityError.{QuantityError}
use Rattle.quantity.specs.declared.error.QuantityError.TheVariants.{BadText, TooPrecise, OutOfRange}

abbrev pub message : QuantityError → List ℕ
message BadText = codes "not a quantity"
message TooPrecise = codes "finer than 10^-9"
message OutOfRange = codes "out of range"
