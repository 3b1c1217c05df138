-- What an agreement's calls do, from what it keeps.
use Rattle.std.specs.Prelude.{ℕ, ◌==◌, ◌+◌, ◌-◌, Bool, true, false, not, ◌||◌, Option, None, Some, if◌then◌else◌}
use Rattle.api_slice.specs.declared.types.Attribute.{Attribute}
use Rattle.request_rules.specs.Agreeing.{Pick, attribute_of, is_named, same_by}
use Rattle.constraints.specs.Keeping.{AgreementFields}

-- nothing was taken, or the value is that of the first
abbrev pub has_by : ℕ → Option Attribute → Attribute → Bool
has_by count first value = (count == 0) || same_by first value

abbrev pub fits_value : AgreementFields → Option Attribute → Bool
fits_value a None = false
fits_value a (Some value) = has_by a.count a.first value

abbrev pub fits_by : AgreementFields → Pick → Bool
fits_by a p = if not (is_named a.constraint p) then true else fits_value a (attribute_of p.device a.constraint.attribute)

abbrev pub taken_by : AgreementFields → Pick → AgreementFields
taken_by a p =
    if is_named a.constraint p
    then record { constraint = a.constraint; count = a.count + 1; first = if a.count == 0 then attribute_of p.device a.constraint.attribute else a.first }
    else a

abbrev pub left_by : AgreementFields → Pick → AgreementFields
left_by a p = if is_named a.constraint p then record { constraint = a.constraint; count = a.count - 1; first = a.first } else a
