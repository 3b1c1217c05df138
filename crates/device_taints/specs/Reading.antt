-- What is read of the taints of a device and of the tolerations of a request (API reference of
-- resource.k8s.io/v1).
use Rattle.std.specs.Prelude.{ℕ, not, Bool, true, false, List, [], Option, Some, None, unwrap_or, Result, Ok, Err, codes, if◌then◌else◌}
use Rattle.std.specs.Str.{bytes_eq}
use Rattle.serde_json.specs.Data.{Data}
use Rattle.object_fields.specs.Fields.{field_error, name_at, object_value, optional_at, text_at, unless, ◌>>=◌}
use Rattle.object_fields.specs.Lists.{each_at}
use Rattle.object_fields.specs.declared.error.FieldError.{FieldError}
use Rattle.object_fields.specs.declared.kind.FieldErrorKind.TheVariants.{Missing, NotSupported}
use Rattle.object_fields.specs.declared.path.Step.{Step}
use Rattle.device_taints.specs.Tolerating.{is_empty}
use Rattle.device_taints.specs.declared.types.Taint.{Taint}
use Rattle.device_taints.specs.declared.types.TaintEffect.{TaintEffect}
use Rattle.device_taints.specs.declared.types.TaintEffect.TheVariants.{NoSchedule, NoExecute}
use Rattle.device_taints.specs.declared.types.Toleration.{Toleration}
use Rattle.device_taints.specs.declared.types.TolerationOperator.{TolerationOperator}
use Rattle.device_taints.specs.declared.types.TolerationOperator.TheVariants.{Equal, Exists}

-- ---- limits

-- a device has at most 16 taints, and a request or subrequest at most 16 tolerations
abbrev pub taints_most : ℕ
taints_most = 16

abbrev pub tolerations_most : ℕ
tolerations_most = 16

-- a taint's key has at most 317 bytes, and its value at most 63
abbrev pub key_most : ℕ
key_most = 317

abbrev pub value_most : ℕ
value_most = 63

-- ---- effects

-- one of two
abbrev pub effect_meant : List Step → List ℕ → Result TaintEffect FieldError
effect_meant path word =
    if bytes_eq word (codes "NoSchedule") then Ok NoSchedule
    else (if bytes_eq word (codes "NoExecute") then Ok NoExecute else Err (field_error path (codes "effect") NotSupported))

-- the effect of a taint
abbrev pub effect_at : List Step → Data → Result TaintEffect FieldError
effect_at path d = text_at path (codes "effect") d >>= effect_meant path

-- an empty effect is as if it were missing
abbrev pub effect_if_any : List Step → List ℕ → Result (Option TaintEffect) FieldError
effect_if_any path word =
    if is_empty word then Ok None else (effect_meant path word >>= λ effect. Ok (Some effect))

abbrev pub effect_in : List Step → Option (List ℕ) → Result (Option TaintEffect) FieldError
effect_in path None = Ok None
effect_in path (Some word) = effect_if_any path word

-- the effect of a toleration
abbrev pub optional_effect_at : List Step → Data → Result (Option TaintEffect) FieldError
optional_effect_at path d = optional_at text_at path (codes "effect") d >>= effect_in path

-- ---- taints

-- the empty text is no key
abbrev pub is_key : List ℕ → Bool
is_key text = not (is_empty text)

abbrev pub taint_key_at : List Step → Data → Result (List ℕ) FieldError
taint_key_at path d = name_at key_most is_key path (codes "key") d

-- any text of at most so many bytes, empty if it is missing
abbrev pub taint_value_at : List Step → Data → Result (List ℕ) FieldError
taint_value_at path d =
    optional_at (name_at value_most (λ text. true)) path (codes "value") d >>= λ value. Ok (unwrap_or value [])

-- key, value, effect; other members aren't looked at
abbrev pub taint_at : List Step → Data → Result Taint FieldError
taint_at path d =
    object_value path d >>= λ taint.
    taint_key_at path taint >>= λ key.
    taint_value_at path taint >>= λ value.
    effect_at path taint >>= λ effect.
    Ok (record { key = key; value = value; effect = effect })

-- the taints of a device; none if they are missing
abbrev pub taints_at : List Step → Data → Result (List Taint) FieldError
taints_at path device = each_at taints_most taint_at path (codes "taints") device

-- ---- tolerations

-- any text, empty if it is missing
abbrev pub text_or_empty_at : List Step → List ℕ → Data → Result (List ℕ) FieldError
text_or_empty_at path name d = optional_at text_at path name d >>= λ text. Ok (unwrap_or text [])

-- whether the word is `Exists`; there are two
abbrev pub exists_meant : List Step → List ℕ → Result Bool FieldError
exists_meant path word =
    if bytes_eq word (codes "Equal") then Ok false
    else (if bytes_eq word (codes "Exists") then Ok true else Err (field_error path (codes "operator") NotSupported))

-- `Equal` is the default
abbrev pub exists_in : List Step → Option (List ℕ) → Result Bool FieldError
exists_in path None = Ok false
exists_in path (Some word) = exists_meant path word

abbrev pub exists_at : List Step → Data → Result Bool FieldError
exists_at path d = optional_at text_at path (codes "operator") d >>= exists_in path

-- the value is looked at only with `Equal`
abbrev pub operator_with : Bool → List Step → Data → Result TolerationOperator FieldError
operator_with true path d = Ok Exists
operator_with false path d = text_or_empty_at path (codes "value") d >>= λ value. Ok (Equal value)

-- operator, value
abbrev pub operator_at : List Step → Data → Result TolerationOperator FieldError
operator_at path d = exists_at path d >>= λ exists. operator_with exists path d

-- with `Equal` there must be a key
abbrev pub lacks_key : TolerationOperator → List ℕ → Bool
lacks_key (Equal value) key = is_empty key
lacks_key Exists key = false

abbrev pub keyed : List Step → Toleration → Result Toleration FieldError
keyed path toleration =
    unless (field_error path (codes "key") Missing) (lacks_key toleration.operator toleration.key) toleration

-- key, operator, value, effect
abbrev pub toleration_in : List Step → Data → Result Toleration FieldError
toleration_in path d =
    text_or_empty_at path (codes "key") d >>= λ key.
    operator_at path d >>= λ operator.
    optional_effect_at path d >>= λ effect.
    Ok (record { key = key; operator = operator; effect = effect })

-- the members, and then that there is a key; other members aren't looked at
abbrev pub toleration_at : List Step → Data → Result Toleration FieldError
toleration_at path d =
    object_value path d >>= λ object.
    toleration_in path object >>= λ toleration.
    keyed path toleration

-- the tolerations of a request or subrequest; none if they are missing
abbrev pub tolerations_at : List Step → Data → Result (List Toleration) FieldError
tolerations_at path ask = each_at tolerations_most toleration_at path (codes "tolerations") ask
