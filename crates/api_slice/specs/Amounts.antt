-- Quantities in JSON: a text in the notation of Kubernetes, or a whole number of 64 bits.
use Rattle.std.specs.Prelude.{ℕ, ◌-◌, ◌^◌, nat_le, nat_lt, ℤ, pos, negsuc, ◌*ℤ◌, List, [], ◌∷◌, ◌++◌, Result, Ok, Err, codes, if◌then◌else◌}
use Rattle.serde_json.specs.Data.{Num, Data, null, boolean, number, string, array, object}
use Rattle.serde_json.specs.Find.{as_integer}
use Rattle.quantity.specs.Value.{quantity_value}
use Rattle.quantity.specs.declared.error.QuantityError.{QuantityError}
use Rattle.quantity.specs.declared.error.QuantityError.TheVariants as quantity
use Rattle.object_fields.specs.Fields.{error_at, field_at, object_value, some_or, ◌>>=◌}
use Rattle.object_fields.specs.declared.error.FieldError.{FieldError}
use Rattle.object_fields.specs.declared.kind.FieldErrorKind.{FieldErrorKind}
use Rattle.object_fields.specs.declared.kind.FieldErrorKind.TheVariants.{BadQuantity, OutOfRange, WrongType}
use Rattle.object_fields.specs.declared.path.Step.{Step}
use Rattle.object_fields.specs.declared.path.Step.TheVariants.{Member}

-- the kind of a text's error
abbrev pub quantity_kind : QuantityError → FieldErrorKind
quantity_kind quantity.BadText = BadQuantity
quantity_kind quantity.TooPrecise = BadQuantity
quantity_kind quantity.OutOfRange = OutOfRange

abbrev pub quantity_or : List Step → Result ℤ QuantityError → Result ℤ FieldError
quantity_or path (Ok nanos) = Ok nanos
quantity_or path (Err e) = Err (error_at path (quantity_kind e))

abbrev pub quantity_text : List Step → List ℕ → Result ℤ FieldError
quantity_text path text = quantity_or path (quantity_value text)

-- the greatest magnitude of a quantity, in ones
abbrev pub ones_most : ℕ
ones_most = 2 ^ 63 - 1

-- a whole number of ones, with the value of its digits
abbrev pub whole_quantity : List Step → ℤ → Result ℤ FieldError
whole_quantity path (pos n) =
    if nat_le n ones_most then Ok (pos n *ℤ pos 1000000000) else Err (error_at path OutOfRange)
whole_quantity path (negsuc n) =
    if nat_lt n ones_most then Ok (negsuc n *ℤ pos 1000000000) else Err (error_at path OutOfRange)

abbrev pub number_quantity : List Step → Num → Result ℤ FieldError
number_quantity path n = some_or (error_at path WrongType) (as_integer n) >>= whole_quantity path

-- the quantity of a value that isn't null
abbrev pub quantity_of : List Step → Data → Result ℤ FieldError
quantity_of path null = Err (error_at path WrongType)
quantity_of path (boolean b) = Err (error_at path WrongType)
quantity_of path (number n) = number_quantity path n
quantity_of path (string text) = quantity_text path text
quantity_of path (array ds) = Err (error_at path WrongType)
quantity_of path (object ms) = Err (error_at path WrongType)

abbrev pub quantity_at : List Step → List ℕ → Data → Result ℤ FieldError
quantity_at path name d = field_at path name d >>= quantity_of (path ++ Member name ∷ [])

-- an amount isn't negative
abbrev pub not_negative : List Step → ℤ → Result ℤ FieldError
not_negative path (pos n) = Ok (pos n)
not_negative path (negsuc n) = Err (error_at path OutOfRange)

-- an object whose `value` is an amount, as the values of counters are
abbrev pub amount_of : List Step → Data → Result ℤ FieldError
amount_of path d =
    object_value path d >>= quantity_at path (codes "value") >>= not_negative (path ++ Member (codes "value") ∷ [])
