-- Which results agree, under a constraint of a claim (`matchAttribute` of the API reference of
-- resource.k8s.io/v1).
use Rattle.std.specs.Prelude.{ℕ, ◌==◌, length, ℤ, List, [], ◌∷◌, ◌++◌, Bool, true, false, not, ◌&&◌, ◌||◌, Option, None, Some}
use Rattle.std.specs.BTreeMap.{is_at}
use Rattle.std.specs.List.{list_all, list_any}
use Rattle.std.specs.Map.{lookup}
use Rattle.std.specs.Ordering.{int_eq}
use Rattle.std.specs.Bool.{beq}
use Rattle.object_fields.specs.Qualified.{cut_at}
use Rattle.object_fields.specs.declared.qualified.QualName.{QualName}
use Rattle.api_claim.specs.declared.types.DeviceConstraint.{DeviceConstraint}
use Rattle.api_slice.specs.Attributes.{qual_cmp}
use Rattle.api_slice.specs.declared.types.Attribute.{Attribute}
use Rattle.api_slice.specs.declared.types.Attribute.TheVariants as attribute
use Rattle.pool_view.specs.Names.{text_eq}
use Rattle.pool_view.specs.Pools.{Offered}

-- a result of an allocation: the name of its request, `request` or `request/subrequest`, its device,
-- and whether it has admin access
pub record Pick : Type 0 where
  pub request : List ℕ
  pub device : Offered
  pub admin : Bool

-- ---- which results a constraint names

abbrev pub main_by : List ℕ → Option (List ℕ × List ℕ) → List ℕ
main_by name None = name
main_by name (Some p) = p.0

-- the request of a result's name: the part before the slash, or all of it
abbrev pub main_of : List ℕ → List ℕ
main_of name = main_by name (cut_at 47 name)

-- the name is the result's, or its request's
abbrev pub names_one : List ℕ → List ℕ → Bool
names_one name result = text_eq name result || text_eq name (main_of result)

abbrev pub names_any : List (List ℕ) → List ℕ → Bool
names_any requests result = list_any (λ name. names_one name result) requests

-- one of the names is the result's or its request's; an empty list names all results
abbrev pub names : List (List ℕ) → List ℕ → Bool
names requests result = (length requests == 0) || names_any requests result

-- the constraint names the result
unfoldable pub is_named : DeviceConstraint → Pick → Bool
is_named c p = names c.requests p.request

-- ---- attributes

-- what a device has at an attribute's full name
unfoldable pub attribute_of : Offered → QualName → Option Attribute
attribute_of o name = lookup (is_at (qual_cmp name)) o.device.properties.attributes

abbrev pub is_int : ℤ → Attribute → Bool
is_int n (attribute.Int m) = int_eq n m
is_int n (attribute.Bool b) = false
is_int n (attribute.Text text) = false
is_int n (attribute.Version text) = false

abbrev pub is_bool : Bool → Attribute → Bool
is_bool b (attribute.Int m) = false
is_bool b (attribute.Bool c) = beq b c
is_bool b (attribute.Text text) = false
is_bool b (attribute.Version text) = false

abbrev pub is_text : List ℕ → Attribute → Bool
is_text t (attribute.Int m) = false
is_text t (attribute.Bool b) = false
is_text t (attribute.Text text) = text_eq t text
is_text t (attribute.Version text) = false

abbrev pub is_version : List ℕ → Attribute → Bool
is_version t (attribute.Int m) = false
is_version t (attribute.Bool b) = false
is_version t (attribute.Text text) = false
is_version t (attribute.Version text) = text_eq t text

-- the same type and the same value; versions are compared as they are written
abbrev pub same_value : Attribute → Attribute → Bool
same_value (attribute.Int n) b = is_int n b
same_value (attribute.Bool x) b = is_bool x b
same_value (attribute.Text t) b = is_text t b
same_value (attribute.Version t) b = is_version t b

abbrev pub same_by : Option Attribute → Attribute → Bool
same_by None b = false
same_by (Some a) b = same_value a b

-- ---- agreement

-- each of the results that the constraint names has the value
abbrev pub all_same : DeviceConstraint → Attribute → List Pick → Bool
all_same c value before = list_all (λ q. not (is_named c q) || same_by (attribute_of q.device c.attribute) value) before

abbrev pub agrees_by : DeviceConstraint → List Pick → Option Attribute → Bool
agrees_by c before None = false
agrees_by c before (Some value) = all_same c value before

-- After these results: if the constraint names the result, its device has the attribute, with the
-- type and the value of those before it.
unfoldable pub agrees : DeviceConstraint → List Pick → Pick → Bool
agrees c before p = not (is_named c p) || agrees_by c before (attribute_of p.device c.attribute)

-- each result agrees with those before it
abbrev pub each_agrees : DeviceConstraint → List Pick → List Pick → Bool
each_agrees c before [] = true
each_agrees c before (p ∷ ps) = agrees c before p && each_agrees c (before ++ p ∷ []) ps
