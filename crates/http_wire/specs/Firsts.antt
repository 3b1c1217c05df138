-- The first of the values of a field, and the number of digits as far as it matters.
use Rattle.std.specs.Prelude.{ℕ, ◌+◌, ◌||◌, ◌&&◌, min, Bool, List, [], ◌∷◌, Option, None, Some, Result, Ok, Err, if◌then◌else◌}
use Rattle.http_wire.specs.declared.error.WireError.{WireError}
use Rattle.http_wire.specs.declared.error.WireError.TheVariants.{BadHead, NoLength}
use Rattle.http_wire.specs.Fields.{all_are, at_most_body, body_most, is_number, number_after}

abbrev pub first_of : List (List ℕ) → Option (List ℕ)
first_of [] = None
first_of (value ∷ values) = Some value

-- the number that digits write after those of this number, capped at one more than a body may have
abbrev pub number_within : ℕ → List ℕ → ℕ
number_within n digits = min (number_after n digits) (body_most + 1)

-- the length of a body for which none is stated
abbrev pub length_without : Bool → Bool → Result ℕ WireError
length_without encoded wanted = if encoded || wanted then Err NoLength else Ok 0

-- the length of a body for which this is the first that is stated, and these are all
abbrev pub length_with : List ℕ → List (List ℕ) → Bool → Result ℕ WireError
length_with value values encoded =
    if is_number value && all_are value values then (if encoded then Err NoLength else at_most_body (number_after 0 value)) else Err BadHead
