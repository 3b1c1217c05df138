-- Lists whose items have names, each of which is to be new, and counters, of which there are to be few in all.
use Rattle.std.specs.Prelude.{◌≡◌, ℕ, ◌+◌, ◌<◌, zero, suc, true, List, [], ◌∷◌, ◌++◌, map, length, Option, Some, Result, Ok, codes, option_and_then}
use Rattle.serde_json.specs.Data.{Data, Items, no_items, item}
use Rattle.serde_json.specs.Find.{as_str}
use Rattle.object_fields.specs.Fields.{error_at, field_error, member_of, object_value, table_at, text_at, ◌>>=◌}
use Rattle.object_fields.specs.NewNames.{is_among, label_of}
use Rattle.object_fields.specs.declared.error.FieldError.{FieldError}
use Rattle.object_fields.specs.declared.kind.FieldErrorKind.TheVariants.{Doubled, TooMany}
use Rattle.object_fields.specs.declared.path.Step.{Step}
use Rattle.object_fields.specs.declared.path.Step.TheVariants.{Member, Place}
use Rattle.api_slice.specs.Consumption.{amounts_with}
use Rattle.api_slice.specs.Counters.{counters_with}
use Rattle.api_slice.specs.Lists.{count_at}
use Rattle.api_slice.specs.declared.types.CounterConsumption.{CounterConsumption}
use Rattle.api_slice.specs.declared.types.CounterSet.{CounterSet}

-- the text at a member
abbrev pub text_in : List ℕ → Data → Option (List ℕ)
text_in name d = option_and_then as_str (member_of name d)

-- those of the items, in order
abbrev pub texts_in : List ℕ → Items → List (Option (List ℕ))
texts_in name no_items = []
texts_in name (item d ds) = text_in name d ∷ texts_in name ds

-- how many counters the items have in all
abbrev pub counted : Items → ℕ
counted no_items = 0
counted (item d ds) = count_at (codes "counters") d + counted ds

-- and how many the first n of them have
abbrev pub counted_first : ℕ → Items → ℕ
counted_first n no_items = 0
counted_first zero (item d ds) = 0
counted_first (suc n) (item d ds) = count_at (codes "counters") d + counted_first n ds

-- the error at the later of two items that have the same text at the member
pub record IsRepeated (name : List ℕ) (path : List Step) (ds : Items) (e : FieldError) : Type 0 where
  pub before : List (List ℕ)
  pub text : List ℕ
  pub behind : List (Option (List ℕ))
  pub texts : texts_in name ds ≡ map Some before ++ Some text ∷ behind
  pub stands : is_among text before ≡ true
  pub is : e ≡ field_error (path ++ Place (length before) ∷ []) name Doubled

-- the error of a list with more counters in all than it may have
pub record IsOverSum (most : ℕ) (path : List Step) (ds : Items) (e : FieldError) : Type 0 where
  pub many : most < counted ds
  pub is : e ≡ error_at path TooMany

-- a counter set by itself
abbrev pub set_alone : List Step → Data → Result CounterSet FieldError
set_alone path d =
    label_of path d >>= λ name.
    table_at path (codes "counters") d >>= λ ms.
    counters_with (path ++ Member (codes "counters") ∷ []) [] ms >>= λ counters.
    Ok (record { name = name; counters = counters })

abbrev pub set_names : List CounterSet → List (List ℕ)
set_names sets = map (λ (s : CounterSet). s.name) sets

-- the name of the set from which an item draws
abbrev pub set_drawn_on : List Step → Data → Result (List ℕ) FieldError
set_drawn_on path d = object_value path d >>= text_at path (codes "counterSet")

-- what is drawn from a set, by itself
abbrev pub draw_alone : List Step → Data → Result CounterConsumption FieldError
draw_alone path d =
    set_drawn_on path d >>= λ set.
    table_at path (codes "counters") d >>= λ ms.
    amounts_with (path ++ Member (codes "counters") ∷ []) [] ms >>= λ amounts.
    Ok (record { set = set; amounts = amounts })

abbrev pub sets_drawn_on : List CounterConsumption → List (List ℕ)
sets_drawn_on draws = map (λ (c : CounterConsumption). c.set) draws
