use Rattle.std.proofs.Common.{◌≡◌, ◌≤◌, ◌+◌, [], drop, map}
use Rattle.cel_tree.specs.Ast.{tree_view, entry_view, asts_of, entries_of}
use Rattle.cel_meaning.specs.Folds.{joined, holds, folded, gathered}
use Rattle.cel_meaning.specs.Steps.{folded_steps, gathered_steps}
use Rattle.cel_meaning.specs.Meaning.{each, items_of}
use Rattle.cel_meaning.specs.Meaning as meaning
use Rattle.cel_meaning.specs.Cost.{each_steps, items_steps, entries_steps}
use Rattle.cel_eval.specs.Parts.{body, turn, bodies, all_turns, maker, maker_steps}
use Rattle.cel_eval.specs.Answers.{bindings}
use Rattle.cel_eval.proofs.Fronts.{behind_all}
use Rattle.cel_eval.proofs.evaluate.+evaluate.Given as goal

abbrev pub invariant-fold-loop-element : goal.invariant-fold-loop-element
invariant-fold-loop-element l = record {
  means : joined l.connective l.found (folded l.connective (holds (body l.device (bindings l.scope) l.name (tree_view l.test))) (drop l.element-index l.elements)) ≡ folded l.connective (holds (body l.device (bindings l.scope) l.name (tree_view l.test))) l.elements;
  least : l.fn.steps.count ≤ l.steps.count;
  counts : l.steps.count + folded_steps l.connective (turn l.device (bindings l.scope) l.name (tree_view l.test)) (drop l.element-index l.elements) ≡ l.fn.steps.count + folded_steps l.connective (turn l.device (bindings l.scope) l.name (tree_view l.test)) l.elements;
}

abbrev pub invariant-gather-loop-element : goal.invariant-gather-loop-element
invariant-gather-loop-element l = record {
  means : behind_all l.gathered (gathered (maker l.making (bodies l.device (bindings l.scope) l.name l.arguments)) (drop l.element-index l.elements)) ≡ gathered (maker l.making (bodies l.device (bindings l.scope) l.name l.arguments)) l.elements;
  least : l.fn.steps.count ≤ l.steps.count;
  counts : l.steps.count + gathered_steps (maker l.making (bodies l.device (bindings l.scope) l.name l.arguments)) (maker_steps l.making (all_turns l.device (bindings l.scope) l.name l.arguments)) (drop l.element-index l.elements) ≡ l.fn.steps.count + gathered_steps (maker l.making (bodies l.device (bindings l.scope) l.name l.arguments)) (maker_steps l.making (all_turns l.device (bindings l.scope) l.name l.arguments)) l.elements;
}

abbrev pub invariant-values_of-loop-at : goal.invariant-values_of-loop-at
invariant-values_of-loop-at l = record {
  means : behind_all l.values (each l.device (bindings l.scope) (asts_of (map tree_view (drop l.at l.trees)))) ≡ each l.device (bindings l.scope) (asts_of (map tree_view l.trees));
  least : l.fn.steps.count ≤ l.steps.count;
  counts : l.steps.count + each_steps l.device (bindings l.scope) (asts_of (map tree_view (drop l.at l.trees))) ≡ l.fn.steps.count + each_steps l.device (bindings l.scope) (asts_of (map tree_view l.trees));
}

abbrev pub invariant-items_of-loop-at : goal.invariant-items_of-loop-at
invariant-items_of-loop-at l = record {
  means : behind_all l.items (items_of l.device (bindings l.scope) (asts_of (map tree_view (drop l.at l.trees)))) ≡ items_of l.device (bindings l.scope) (asts_of (map tree_view l.trees));
  least : l.fn.steps.count ≤ l.steps.count;
  counts : l.steps.count + items_steps l.device (bindings l.scope) (asts_of (map tree_view (drop l.at l.trees))) ≡ l.fn.steps.count + items_steps l.device (bindings l.scope) (asts_of (map tree_view l.trees));
}

abbrev pub invariant-table_of-loop-at : goal.invariant-table_of-loop-at
invariant-table_of-loop-at l = record {
  means : meaning.entries_of l.device (bindings l.scope) l.table (entries_of (map entry_view (drop l.at l.entries))) ≡ meaning.entries_of l.device (bindings l.scope) [] (entries_of (map entry_view l.entries));
  least : l.fn.steps.count ≤ l.steps.count;
  counts : l.steps.count + entries_steps l.device (bindings l.scope) (entries_of (map entry_view (drop l.at l.entries))) ≡ l.fn.steps.count + entries_steps l.device (bindings l.scope) (entries_of (map entry_view l.entries));
}
