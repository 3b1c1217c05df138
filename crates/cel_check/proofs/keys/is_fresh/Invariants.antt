use Rattle.std.proofs.Common.{◌≡◌, drop, map}
use Rattle.std.specs.List.{list_all}
use Rattle.cel_tree.specs.Ast.{constant_view, entry_view}
use Rattle.cel_tree.specs.Typing.{beside}
use Rattle.cel_check.specs.Keys.{literals}
use Rattle.cel_check.proofs.keys.is_fresh.Given as goal

abbrev pub invariant-loop-entry : goal.invariant-loop-entry
invariant-loop-entry l = list_all (beside (constant_view l.literal)) (literals (map entry_view (drop l.entry-index l.entries))) ≡ list_all (beside (constant_view l.literal)) (literals (map entry_view l.entries))
