use Rattle.std.proofs.Common.{◌≡◌, [], drop, map}
use Rattle.cel_tree.specs.Ast.{tree_view, entry_view, asts_of, entries_of}
use Rattle.cel_tree.specs.Scopes.{bound}
use Rattle.cel_tree.specs.Typing.{types_of, items_of, values_of}
use Rattle.cel_check.proofs.Fronts.{all_given, all_found, values_from}
use Rattle.cel_check.proofs.typing.+typing.Given as goal

abbrev pub invariant-types_of-loop-at : goal.invariant-types_of-loop-at
invariant-types_of-loop-at l = all_given l.given (types_of (bound l.scope) (asts_of (map tree_view (drop l.at l.trees)))) ≡ types_of (bound l.scope) (asts_of (map tree_view (drop l.from l.trees)))

abbrev pub invariant-list-loop-at : goal.invariant-list-loop-at
invariant-list-loop-at l = all_found l.found (items_of (bound l.scope) (asts_of (map tree_view (drop l.at l.items)))) ≡ items_of (bound l.scope) (asts_of (map tree_view l.items))

abbrev pub invariant-map-loop-at : goal.invariant-map-loop-at
invariant-map-loop-at l = all_found l.found (values_from (bound l.scope) l.entries l.at) ≡ values_of (bound l.scope) [] (entries_of (map entry_view l.entries))
