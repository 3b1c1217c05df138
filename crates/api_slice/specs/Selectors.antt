-- Node selectors (NodeSelector of the Kubernetes API reference), with exactly one term (this
-- project's own rule).
use Rattle.std.specs.Prelude.{ℕ, ℤ, not, Bool, true, false, List, [], ◌∷◌, ◌++◌, Option, Some, None, Result, Ok, Err, ⊤, codes, if◌then◌else◌}
use Rattle.std.specs.Str.{bytes_eq}
use Rattle.serde_json.specs.Data.{Data, Items, no_items, item}
use Rattle.node_select.specs.Numbers.{whole_of}
use Rattle.node_select.specs.declared.requirement.Requirement.{Requirement}
use Rattle.node_select.specs.declared.requirement.Test.{Test}
use Rattle.node_select.specs.declared.requirement.Test.TheVariants.{OneOf, NoneOf, Present, Absent, Above, Below}
use Rattle.node_select.specs.declared.selector.Selector.{Selector}
use Rattle.object_fields.specs.Fields.{error_at, field_error, list_at, object_value, optional_at, some_or, text_at, text_value, unless, ◌>>=◌}
use Rattle.object_fields.specs.Lists.{each, items_or_none}
use Rattle.object_fields.specs.declared.error.FieldError.{FieldError}
use Rattle.object_fields.specs.declared.kind.FieldErrorKind.TheVariants.{NotOne, NotSupported, WrongType}
use Rattle.object_fields.specs.declared.path.Step.{Step}
use Rattle.object_fields.specs.declared.path.Step.TheVariants.{Member, Place}
use Rattle.api_slice.specs.declared.operator.Operator.{Operator}
use Rattle.api_slice.specs.declared.operator.Operator.TheVariants.{In, NotIn, Exists, DoesNotExist, Gt, Lt}

-- ---- operators

abbrev pub operator_of : List ℕ → Option Operator
operator_of word =
    if bytes_eq word (codes "In") then Some In
    else if bytes_eq word (codes "NotIn") then Some NotIn
    else if bytes_eq word (codes "Exists") then Some Exists
    else if bytes_eq word (codes "DoesNotExist") then Some DoesNotExist
    else if bytes_eq word (codes "Gt") then Some Gt
    else if bytes_eq word (codes "Lt") then Some Lt
    else None

abbrev pub operator_at : List Step → Data → Result Operator FieldError
operator_at path d =
    text_at path (codes "operator") d >>= λ word. some_or (field_error path (codes "operator") NotSupported) (operator_of word)

-- ---- the values of a requirement, at their own path

-- one text or more
abbrev pub some_texts : List Step → Items → Result (List (List ℕ)) FieldError
some_texts path no_items = Err (error_at path NotOne)
some_texts path (item d ds) = each text_value path (item d ds)

abbrev pub no_texts : List Step → Items → Result ⊤ FieldError
no_texts path no_items = Ok tt
no_texts path (item d ds) = Err (error_at path NotOne)

-- a whole number of 64 bits, written as a text
abbrev pub number_of : List Step → Data → Result ℤ FieldError
number_of path d =
    text_value (path ++ Place 0 ∷ []) d >>= λ text. some_or (error_at path WrongType) (whole_of text)

-- one such number
abbrev pub one_number : List Step → Items → Result ℤ FieldError
one_number path no_items = Err (error_at path NotOne)
one_number path (item d no_items) = number_of path d
one_number path (item d (item e ds)) = Err (error_at path NotOne)

abbrev pub test_of : List Step → Items → Operator → Result Test FieldError
test_of path values In = some_texts path values >>= λ texts. Ok (OneOf texts)
test_of path values NotIn = some_texts path values >>= λ texts. Ok (NoneOf texts)
test_of path values Exists = no_texts path values >>= λ nothing. Ok Present
test_of path values DoesNotExist = no_texts path values >>= λ nothing. Ok Absent
test_of path values Gt = one_number path values >>= λ n. Ok (Above n)
test_of path values Lt = one_number path values >>= λ n. Ok (Below n)

-- values that aren't there are none
abbrev pub values_at : List Step → Data → Result Items FieldError
values_at path d = optional_at list_at path (codes "values") d >>= λ values. Ok (items_or_none values)

abbrev pub test_at : List Step → Data → Operator → Result Test FieldError
test_at path d operator =
    values_at path d >>= λ values. test_of (path ++ Member (codes "values") ∷ []) values operator

-- ---- requirements

-- a requirement on a label: key, operator and values
abbrev pub expression_of : List Step → Data → Result Requirement FieldError
expression_of path value =
    object_value path value >>= λ d.
    text_at path (codes "key") d >>= λ key.
    operator_at path d >>= test_at path d >>= λ test.
    Ok (record { key = key; test = test })

-- the one field that a selector knows is `metadata.name`
abbrev pub field_key_at : List Step → Data → Result (List ℕ) FieldError
field_key_at path d =
    text_at path (codes "key") d >>= λ key. unless (field_error path (codes "key") NotSupported) (not (bytes_eq key (codes "metadata.name"))) key

abbrev pub is_membership : Operator → Bool
is_membership In = true
is_membership NotIn = true
is_membership Exists = false
is_membership DoesNotExist = false
is_membership Gt = false
is_membership Lt = false

-- its operators are In and NotIn
abbrev pub field_operator_at : List Step → Data → Result Operator FieldError
field_operator_at path d =
    operator_at path d >>= λ operator. unless (field_error path (codes "operator") NotSupported) (not (is_membership operator)) operator

-- a requirement on a field
abbrev pub field_of : List Step → Data → Result Requirement FieldError
field_of path value =
    object_value path value >>= λ d.
    field_key_at path d >>= λ key.
    field_operator_at path d >>= test_at path d >>= λ test.
    Ok (record { key = key; test = test })

-- ---- the term

abbrev pub expressions_at : List Step → Data → Result (List Requirement) FieldError
expressions_at path d =
    optional_at list_at path (codes "matchExpressions") d >>= λ items.
    each expression_of (path ++ Member (codes "matchExpressions") ∷ []) (items_or_none items)

abbrev pub fields_at : List Step → Data → Result (List Requirement) FieldError
fields_at path d =
    optional_at list_at path (codes "matchFields") d >>= λ items.
    each field_of (path ++ Member (codes "matchFields") ∷ []) (items_or_none items)

abbrev pub term_of : List Step → Data → Result Selector FieldError
term_of path value =
    object_value path value >>= λ d.
    expressions_at path d >>= λ expressions.
    fields_at path d >>= λ fields.
    Ok (record { expressions = expressions; fields = fields })

abbrev pub one_term : List Step → Items → Result Selector FieldError
one_term path no_items = Err (error_at path NotOne)
one_term path (item d no_items) = term_of (path ++ Place 0 ∷ []) d
one_term path (item d (item e ds)) = Err (error_at path NotOne)

-- a node selector: exactly one term
unfoldable pub selector_of : List Step → Data → Result Selector FieldError
selector_of path value =
    object_value path value >>= list_at path (codes "nodeSelectorTerms") >>= one_term (path ++ Member (codes "nodeSelectorTerms") ∷ [])
