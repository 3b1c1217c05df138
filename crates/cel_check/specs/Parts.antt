-- The parts of a type's reading.
use Rattle.std.specs.Prelude.{ℕ, List, [], Result, Ok}
use Rattle.cel_tree.specs.declared.tree.Span.{Span}
use Rattle.cel_tree.specs.declared.types.CelType.{CelType}
use Rattle.cel_tree.specs.declared.fault.Fault.{Fault}
use Rattle.cel_tree.specs.Ast.{Asts, Entries}
use Rattle.cel_tree.specs.Calls.{called_of}
use Rattle.cel_tree.specs.Faults.{◌>>=◌, method_called_type}
use Rattle.cel_tree.specs.Typing.{Names, list_type, map_type, keys_type, by_comprehension, comprehension_in, over, comprehension_of, types_of, items_of, values_of}

-- a method that isn't `cel.bind`, after its object
abbrev pub method_of : Names → Span → List ℕ → CelType → Asts → Result CelType Fault
method_of names span word object ts =
    by_comprehension (comprehension_in (called_of word))
    (λ c. over span object (λ e. comprehension_of names span c e ts))
    (types_of names ts >>= λ given. method_called_type span (called_of word) object given)

abbrev pub list_of : Names → Asts → Result CelType Fault
list_of names ts = items_of names ts >>= λ items. Ok (list_type items)

abbrev pub map_of : Names → Entries → Result CelType Fault
map_of names es = values_of names [] es >>= λ values. Ok (map_type (keys_type es) values)
