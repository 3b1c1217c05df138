-- Bounds as far as 64 bits count.
use Rattle.std.specs.Prelude.{ℕ, min, map, length, List, [], ◌∷◌, option_map}
use Rattle.cel_tree.specs.declared.tree.Tree.{Tree}
use Rattle.cel_tree.specs.declared.tree.Entry.{Entry}
use Rattle.cel_tree.specs.declared.tree.Span.{Span}
use Rattle.cel_tree.specs.Ast.{Asts, tree_view, entry_view, asts_of, entries_of}
use Rattle.cel_tree.specs.Calls.{called_of}
use Rattle.cel_tree.specs.Typing.{comprehension_in}
use Rattle.cel_tree.specs.Estimate.{Bounds, Names, most, each, keys_of, values_of, arguments_of, elements_type, weights_of, steps_of, last_weight, by_comprehension, comprehension_bounds, bodies_of, variable_in, element_bounds, method_bounds}
use Rattle.cel_cost.specs.declared.bounds.Bounds as code
use Rattle.cel_cost.specs.declared.parts.Parts as parts
use Rattle.cel_tree.specs.declared.scope.Scope.{Scope, Top, Bound'}

abbrev pub cap : ℕ → ℕ
cap n = min n most

unfoldable pub capped : Bounds → Bounds
capped b = record { kind = b.kind; weight = cap b.weight; number = cap b.number; steps = cap b.steps }

abbrev pub seen : code.Bounds → Bounds
seen b = record { kind = b.kind; weight = b.weight; number = b.number; steps = b.steps }

-- the names of a chain with the bounds of their values
abbrev pub names : Scope code.Bounds → Names
names Top = []
names (Bound' name b p outer) = (name.now, seen b) ∷ names outer

-- the bounds of names as far as they count
abbrev pub capped_names : Names → Names
capped_names [] = []
capped_names (b ∷ bs) = (b.0, capped b.1) ∷ capped_names bs

-- what is kept of expressions one after another
unfoldable pub parts_of : List Bounds → parts.Parts
parts_of xs = record {
  arguments = arguments_of xs;
  elements = elements_type xs;
  number = cap (length xs);
  weight = cap (weights_of xs);
  steps = cap (steps_of xs);
  last = option_map cap (last_weight xs);
}

abbrev pub listed : Names → List Tree → List Bounds
listed env ts = each env (asts_of (map tree_view ts))

abbrev pub keys : Names → List Entry → List Bounds
keys env es = keys_of env (entries_of (map entry_view es))

abbrev pub values : Names → List Entry → List Bounds
values env es = values_of env (entries_of (map entry_view es))

-- a method that isn't `cel.bind`, after its object
abbrev pub method_of : Names → Span → List ℕ → Bounds → Asts → Bounds
method_of env span word object ts =
    by_comprehension (comprehension_in (called_of word))
    (λ c. comprehension_bounds span c object (bodies_of ((variable_in ts, element_bounds object) ∷ env) ts))
    (method_bounds span (called_of word) object (each env ts))
