-- The names of the error kinds, and the text of a path.
use Rattle.std.specs.Prelude.{ℕ, List, [], ◌∷◌, ◌++◌, codes}
use Rattle.std.specs.Fmt.{decimal}
use Rattle.std.specs.List.{flat_map}
use Rattle.object_fields.specs.declared.kind.FieldErrorKind.{FieldErrorKind}
use Rattle.object_fields.specs.declared.kind.FieldErrorKind.TheVariants.{Missing, WrongType, BadName, TooLong, TooMany, NotSupported, Memory, Doubled, OutOfRange, NotOne, BadQuantity, BadVersion, Unknown, Selector}
use Rattle.object_fields.specs.declared.kind.Stage.{Stage}
use Rattle.object_fields.specs.declared.kind.Stage.TheVariants.{Parse, Check, Cost}
use Rattle.object_fields.specs.declared.path.Step.{Step}
use Rattle.object_fields.specs.declared.path.Step.TheVariants.{Member, Place, Key}

abbrev pub stage_word : Stage → List ℕ
stage_word Parse = codes "Parse"
stage_word Check = codes "Check"
stage_word Cost = codes "Cost"

abbrev pub kind_word : FieldErrorKind → List ℕ
kind_word Missing = codes "Missing"
kind_word WrongType = codes "WrongType"
kind_word BadName = codes "BadName"
kind_word TooLong = codes "TooLong"
kind_word TooMany = codes "TooMany"
kind_word NotSupported = codes "NotSupported"
kind_word Memory = codes "Memory"
kind_word Doubled = codes "Doubled"
kind_word OutOfRange = codes "OutOfRange"
kind_word NotOne = codes "NotOne"
kind_word BadQuantity = codes "BadQuantity"
kind_word BadVersion = codes "BadVersion"
kind_word Unknown = codes "Unknown"
kind_word (Selector stage) = codes "Selector." ++ stage_word stage

-- a step behind others: `.member`, `[index]` or `[key]`
abbrev pub step_text : Step → List ℕ
step_text (Member name) = codes "." ++ name
step_text (Place place) = codes "[" ++ decimal place ++ codes "]"
step_text (Key key) = codes "[" ++ key ++ codes "]"

abbrev pub steps_text : List Step → List ℕ
steps_text = flat_map step_text

-- as `a.b[0][key]`
abbrev pub path_text : List Step → List ℕ
path_text [] = []
path_text (Member name ∷ steps) = name ++ steps_text steps
path_text (Place place ∷ steps) = step_text (Place place) ++ steps_text steps
path_text (Key key ∷ steps) = step_text (Key key) ++ steps_text steps
