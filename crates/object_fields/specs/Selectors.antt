-- Selectors of devices, as classes and requests have them (API reference of resource.k8s.io/v1).
use Rattle.std.specs.Prelude.{ℕ, List, [], ◌∷◌, ◌++◌, Result, codes}
use Rattle.serde_json.specs.Data.{Data}
use Rattle.object_fields.specs.Fields.{object_at, object_value, text_at, ◌>>=◌}
use Rattle.object_fields.specs.Lists.{each_at}
use Rattle.object_fields.specs.declared.error.FieldError.{FieldError}
use Rattle.object_fields.specs.declared.path.Step.{Step}
use Rattle.object_fields.specs.declared.path.Step.TheVariants.{Member}

-- a class has at most 32 selectors, and so have `exactly` and each subrequest of a claim
abbrev pub selectors_most : ℕ
selectors_most = 32

-- `{cel: {expression}}`, where the expression is any text
abbrev pub selector_at : List Step → Data → Result (List ℕ) FieldError
selector_at path d =
    object_value path d >>= λ selector.
    object_at path (codes "cel") selector >>= λ cel.
    text_at (path ++ Member (codes "cel") ∷ []) (codes "expression") cel

abbrev pub selectors_at : List Step → Data → Result (List (List ℕ)) FieldError
selectors_at path d = each_at selectors_most selector_at path (codes "selectors") d
