-- What it means that results keep a constraint, and what an agreement keeps of the results taken.
use Rattle.std.specs.Prelude.{ℕ, ◌+◌, ◌≡◌, List, [], ◌∷◌, true, Option, Some, if◌then◌else◌}
use Rattle.api_claim.specs.declared.types.DeviceConstraint.{DeviceConstraint}
use Rattle.api_slice.specs.declared.types.Attribute.{Attribute}
use Rattle.request_rules.specs.Agreeing.{Pick, attribute_of, is_named}

-- each result that the constraint names has this at its attribute
abbrev pub AllHave : DeviceConstraint → Option Attribute → List Pick → Type 0
AllHave c value [] = Unit {0}
AllHave c value (p ∷ ps) = (is_named c p ≡ true → attribute_of p.device c.attribute ≡ value) × AllHave c value ps

-- there is one value, and each result that the constraint names has it at the attribute
pub record KeepsConstraint (c : DeviceConstraint) (ps : List Pick) : Type 0 where
  pub value : Attribute
  pub have : AllHave c (Some value) ps

-- how many results the constraint names
abbrev pub named_count : DeviceConstraint → List Pick → ℕ
named_count c [] = 0
named_count c (p ∷ ps) = if is_named c p then 1 + named_count c ps else named_count c ps

-- an agreement as contracts see it
pub record AgreementFields : Type 0 where
  pub constraint : DeviceConstraint
  pub count : ℕ
  pub first : Option Attribute

-- it is the constraint's, over these results: how many it names, and what the first of them has, which
-- all of them have
pub record IsOf (c : DeviceConstraint) (taken : List Pick) (a : AgreementFields) : Type 0 where
  pub constraint : a.constraint ≡ c
  pub count : a.count ≡ named_count c taken
  pub first : AllHave c a.first taken
