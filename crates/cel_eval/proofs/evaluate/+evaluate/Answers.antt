use Rattle.std.proofs.Common.{◌+◌, List, refl, ap, sym, ◌∙◌, arith, rules}
use Rattle.std.proofs.lemmas.Result.{err_from_is_err_and}
use Rattle.cel_tree.specs.declared.tree.Tree.{Tree}
use Rattle.cel_tree.specs.declared.tree.Kind.TheFolds.{the_lemmas}
use Rattle.cel_tree.proofs.tree.Tree.TheLaws.{the_size}
use denote.Param.Weighed.{at_most}
use Rattle.cel_tree.specs.Ast.{tree_view, kind_view}
use Rattle.cel_tree.specs.Typing.{is_bind}
use Rattle.cel_value.specs.declared.value.Key.{Key}
use Rattle.cel_value.specs.declared.value.Single.{Single}
use Rattle.cel_value.specs.declared.value.Value.{Value}
use Rattle.cel_meaning.specs.Folds.{tested, holds, as_value}
use Rattle.cel_meaning.specs.Meaning.{means}
use Rattle.cel_meaning.specs.Cost.{cost}
use Rattle.cel_eval.specs.Parts.{body, turn, bodies, all_turns, maker, maker_steps}
use Rattle.cel_eval.specs.Answers.{bindings}
use Rattle.cel_eval.proofs.Stops.{gives-behind, counts-behind, counts-after, counts-between, join-means, join-count}
use Rattle.cel_eval.proofs.Fronts.{items-step, items-count, items-stop, values-count, values-step, values-stop, entries-step, entries-count, key-stop, value-stop, made-count, made-stop}
use Rattle.cel_eval.proofs.Folding.{fold-step, fold-count, fold-least, fold-stop}
use Rattle.cel_eval.proofs.Bodies.{has-other, has-other-steps, has-no_member, has-no_member-steps, bind-other, bind-other-steps, bind-is, bind-steps-are, with-name, with-name-steps, no-bodies, no-turns, neither, not-two, gives-value, gives-one, counts-one, one-body, filter-is, filter-steps, one-is, one-steps, map-is, map-steps, both-is, both-are}
use Rattle.cel_eval.proofs.Methods.{method-arm, method-room, connect-arm, connect-count, connect-room}
use Rattle.cel_eval.proofs.evaluate.+evaluate.Goals as goal

pub comprehension-returns-clause-means : goal.comprehension-returns-clause-means
comprehension-returns-clause-means t c = with-name c.args.device.now (bindings c.args.scope.now) c.args.form c.args.elements.now c.args.arguments.now c.index-arguments-0.result c.in-Some.name.now c.index-arguments-0.is (omega arith) (sym c.in-Some.ensures) ∙ no-bodies c.args.device.now (bindings c.args.scope.now) c.in-Some.name.now c.args.form c.args.elements.now c.args.arguments.now c.if-arguments-eq2.false (neither c.args.arguments.now c.args.form c.if-arguments-eq3.false)

pub comprehension-returns-clause-counts : goal.comprehension-returns-clause-counts
comprehension-returns-clause-counts t c = omega (arith, with-name-steps c.args.device.now (bindings c.args.scope.now) c.args.form c.args.elements.now c.args.arguments.now c.index-arguments-0.result c.in-Some.name.now c.index-arguments-0.is (omega arith) (sym c.in-Some.ensures), no-turns c.args.device.now (bindings c.args.scope.now) c.in-Some.name.now c.args.form c.args.elements.now c.args.arguments.now c.if-arguments-eq2.false (neither c.args.arguments.now c.args.form c.if-arguments-eq3.false))

pub with_two-list-requires : goal.with_two-list-requires
with_two-list-requires t c = (search rules, (omega (arith, c.requires.1.1.0), omega (arith, c.requires.1.1.1, both-are c.args.device.now (bindings c.args.scope.now) c.args.name.now c.args.arguments.now c.args.elements.now c.args.form c.in-Map.is c.requires.1.1.0)))

pub with_two-returns-in-Map-clause-means : goal.with_two-returns-in-Map-clause-means
with_two-returns-in-Map-clause-means t c = rw (both-is c.args.device.now (bindings c.args.scope.now) c.args.name.now c.args.arguments.now c.args.elements.now c.args.form c.in-Map.is c.requires.1.1.0) c.list.ensures.means

pub with_two-returns-in-Map-clause-counts : goal.with_two-returns-in-Map-clause-counts
with_two-returns-in-Map-clause-counts t c = rw (both-are c.args.device.now (bindings c.args.scope.now) c.args.name.now c.args.arguments.now c.args.elements.now c.args.form c.in-Map.is c.requires.1.1.0) c.list.ensures.counts

pub with_two-returns-in_default : goal.with_two-returns-in_default
with_two-returns-in_default t c = record {
  means = no-bodies c.args.device.now (bindings c.args.scope.now) c.args.name.now c.args.form c.args.elements.now c.args.arguments.now (not-two c.args.arguments.now c.requires.1.1.0) (λ h. c.in_default.not-Map);
  counts = omega (arith, no-turns c.args.device.now (bindings c.args.scope.now) c.args.name.now c.args.form c.args.elements.now c.args.arguments.now (not-two c.args.arguments.now c.requires.1.1.0) (λ h. c.in_default.not-Map));
}

pub fold-loop-element-preserved : goal.fold-loop-element-preserved
fold-loop-element-preserved t c = record {
  means = fold-step c.args.connective (holds (body c.args.device.now (bindings c.args.scope.now) c.args.name.now (tree_view c.args.test.now))) c.args.elements.now c.loop-element.element-index c.element-item.result c.loop-element.found c.join-found.result c.truth_at-side.result _ c.element-item.is c.loop-element-test.true (sym c.stops.ensures ∙ c.if-stops.false) c.truth_at-side.ensures.means c.join-found.ensures c.loop-element.invariant.means;
  least = fold-least c.args.connective c.truth_at-side.result c.loop-element.steps.count c.truth_at-side.new.steps.count _ _ (sym c.stops.ensures ∙ c.if-stops.false) c.loop-element.invariant.least c.truth_at-side.ensures.counts;
  counts = fold-count c.args.connective (turn c.args.device.now (bindings c.args.scope.now) c.args.name.now (tree_view c.args.test.now)) c.args.elements.now c.loop-element.element-index c.element-item.result c.truth_at-side.result c.loop-element.steps.count (c.loop-element.steps.count + 2) c.truth_at-side.new.steps.count _ c.element-item.is c.loop-element-test.true (sym c.stops.ensures ∙ c.if-stops.false) c.truth_at-side.ensures.means refl c.truth_at-side.ensures.counts c.loop-element.invariant.counts;
}

pub has_member-returns-then-arguments-ne1-clause-means : goal.has_member-returns-then-arguments-ne1-clause-means
has_member-returns-then-arguments-ne1-clause-means t c = has-other c.args.device.now (bindings c.args.scope.now) c.args.arguments.now c.if-arguments-ne1.true

pub has_member-returns-then-arguments-ne1-clause-counts : goal.has_member-returns-then-arguments-ne1-clause-counts
has_member-returns-then-arguments-ne1-clause-counts t c = omega (arith, has-other-steps c.args.device.now (bindings c.args.scope.now) c.args.arguments.now c.if-arguments-ne1.true)

pub has_member-returns-in_default : goal.has_member-returns-in_default
has_member-returns-in_default t c = record {
  means = has-no_member c.args.device.now (bindings c.args.scope.now) c.args.arguments.now c.index-arguments-0.result c.if-arguments-ne1.false c.in_default.not-Member;
  counts = omega (arith, has-no_member-steps c.args.device.now (bindings c.args.scope.now) c.args.arguments.now c.index-arguments-0.result c.if-arguments-ne1.false c.in_default.not-Member);
}

pub items_of-loop-at-preserved : goal.items_of-loop-at-preserved
items_of-loop-at-preserved t c = record {
  means = items-step c.args.device.now (bindings c.args.scope.now) c.args.trees.now c.loop-at.at c.index-trees-at.result c.loop-at.items c.push.new.self c.in_ok-item.item _ c.index-trees-at.is c.loop-at-test.true c.in_ok-item.ensures.means c.in_ok-push.ensures.ok c.loop-at.invariant.means;
  least = omega (arith, c.loop-at.invariant.least, c.in_ok-item.ensures.counts);
  counts = items-count c.args.device.now (bindings c.args.scope.now) c.args.trees.now c.loop-at.at c.index-trees-at.result c.in_ok-item.item c.loop-at.steps.count c.single_of.new.steps.count _ c.index-trees-at.is c.loop-at-test.true c.in_ok-item.ensures.means c.in_ok-item.ensures.counts c.loop-at.invariant.counts;
}

pub table_of-loop-at-preserved : goal.table_of-loop-at-preserved
table_of-loop-at-preserved t c = record {
  means = entries-step c.args.device.now (bindings c.args.scope.now) c.args.entries.now c.loop-at.at c.index-entries-at.result c.loop-at.table c.insert.new.self c.in_ok-key.key c.in_ok-value.value _ c.index-entries-at.is c.loop-at-test.true c.in_ok-key.ensures.means c.in_ok-value.ensures.means c.in_ok-insert.ensures.ok c.loop-at.invariant.means;
  least = omega (arith, c.loop-at.invariant.least, c.in_ok-key.ensures.counts, c.in_ok-value.ensures.counts);
  counts = entries-count c.args.device.now (bindings c.args.scope.now) c.args.entries.now c.loop-at.at c.index-entries-at.result c.in_ok-key.key c.in_ok-value.value c.loop-at.steps.count c.key_of.new.steps.count c.single_of.new.steps.count _ c.index-entries-at.is c.loop-at-test.true c.in_ok-key.ensures.means c.in_ok-value.ensures.means c.in_ok-key.ensures.counts c.in_ok-value.ensures.counts c.loop-at.invariant.counts;
}

pub value_of-returns-in_ok-object-in-Method-clause-means : goal.value_of-returns-in_ok-object-in-Method-clause-means
value_of-returns-in_ok-object-in-Method-clause-means t c = method-arm c.args.device.now (bindings c.args.scope.now) (kind_view c.args.tree.now.kind) (tree_view c.in-Method.object.value) c.in-Method.function c.as_str-name.result.now c.in-Method.arguments.items c.deref-in-Method-3.result.now c.in_ok-object-in-Method.object c.method-returned.result
    (ap kind_view c.in-Method.is ∙ c.nodes_have_their_lists.ensures.method c.in-Method.object c.in-Method.function c.in-Method.arguments)
    (ap (λ (u : Tree). is_bind (tree_view u) c.in-Method.function) (sym c.deref-in-Method.ensures) ∙ ap (is_bind (tree_view c.deref-in-Method.result.now)) (sym c.as_str-name.ensures) ∙ sym c.if-is_bind.ensures)
    (ap (λ (u : Tree). means c.args.device.now (bindings c.args.scope.now) (tree_view u)) (sym c.deref-in-Method-2.ensures) ∙ c.in_ok-object-in-Method.ensures.means)
    c.as_str-name.ensures c.deref-in-Method-3.ensures.value
    c.method-returned.ensures.means

pub value_of-returns-in_ok-object-in-Method-clause-counts : goal.value_of-returns-in_ok-object-in-Method-clause-counts
value_of-returns-in_ok-object-in-Method-clause-counts t c =
    let room = method-room c.args.device.now (bindings c.args.scope.now) (kind_view c.args.tree.now.kind) (tree_view c.in-Method.object.value) c.in-Method.function c.as_str-name.result.now c.in-Method.arguments.items c.deref-in-Method-3.result.now c.in_ok-object-in-Method.object
    (ap kind_view c.in-Method.is ∙ c.nodes_have_their_lists.ensures.method c.in-Method.object c.in-Method.function c.in-Method.arguments)
    (ap (λ (u : Tree). is_bind (tree_view u) c.in-Method.function) (sym c.deref-in-Method.ensures) ∙ ap (is_bind (tree_view c.deref-in-Method.result.now)) (sym c.as_str-name.ensures) ∙ sym c.if-is_bind.ensures)
    (ap (λ (u : Tree). means c.args.device.now (bindings c.args.scope.now) (tree_view u)) (sym c.deref-in-Method-2.ensures) ∙ c.in_ok-object-in-Method.ensures.means)
    c.as_str-name.ensures c.deref-in-Method-3.ensures.value in
    let rose = (c.in_ok-object-in-Method.ensures.counts ∙ ap (λ (u : Tree). c.args.steps.now.count + 1 + cost c.args.device.now (bindings c.args.scope.now) (tree_view u)) c.deref-in-Method-2.ensures) in
    counts-after c.method-returned.result c.args.steps.now.count c.value_of-in-Method.new.steps.count c.method-returned.new.steps.count (1 + cost c.args.device.now (bindings c.args.scope.now) (tree_view c.in-Method.object.value)) _ _ (omega (arith, rose)) (omega (arith, room)) c.method-returned.ensures.counts

pub value_of-method-returned-requires : goal.value_of-method-returned-requires
value_of-method-returned-requires t c =
    let room = method-room c.args.device.now (bindings c.args.scope.now) (kind_view c.args.tree.now.kind) (tree_view c.in-Method.object.value) c.in-Method.function c.as_str-name.result.now c.in-Method.arguments.items c.deref-in-Method-3.result.now c.in_ok-object-in-Method.object
    (ap kind_view c.in-Method.is ∙ c.nodes_have_their_lists.ensures.method c.in-Method.object c.in-Method.function c.in-Method.arguments)
    (ap (λ (u : Tree). is_bind (tree_view u) c.in-Method.function) (sym c.deref-in-Method.ensures) ∙ ap (is_bind (tree_view c.deref-in-Method.result.now)) (sym c.as_str-name.ensures) ∙ sym c.if-is_bind.ensures)
    (ap (λ (u : Tree). means c.args.device.now (bindings c.args.scope.now) (tree_view u)) (sym c.deref-in-Method-2.ensures) ∙ c.in_ok-object-in-Method.ensures.means)
    c.as_str-name.ensures c.deref-in-Method-3.ensures.value in
    let rose = (c.in_ok-object-in-Method.ensures.counts ∙ ap (λ (u : Tree). c.args.steps.now.count + 1 + cost c.args.device.now (bindings c.args.scope.now) (tree_view u)) c.deref-in-Method-2.ensures) in
    (search (rules, the_lemmas, c.decreases, c.in-Method.is, c.deref-in-Method-3.ensures.value), omega (arith, c.requires, room, rose))

pub connected-returns-clause-means : goal.connected-returns-clause-means
connected-returns-clause-means t c = join-means c.args.connective c.args.left c.truth_of-right.result (tested (means c.args.device.now (bindings c.args.scope.now) (tree_view c.args.right.now))) c.truth_value-2.result
    (sym c.stops.ensures ∙ c.if-stops.false) c.truth_of-right.ensures.means (c.truth_value-2.ensures ∙ ap as_value c.join.ensures)

pub connected-returns-clause-counts : goal.connected-returns-clause-counts
connected-returns-clause-counts t c = join-count c.args.connective c.args.left c.truth_of-right.result c.truth_value-2.result c.args.steps.now.count c.truth_of-right.new.steps.count (cost c.args.device.now (bindings c.args.scope.now) (tree_view c.args.right.now))
    (sym c.stops.ensures ∙ c.if-stops.false) c.truth_of-right.ensures.counts (c.truth_value-2.ensures ∙ ap as_value c.join.ensures)

pub value_of-returns-in-Some-clause-means : goal.value_of-returns-in-Some-clause-means
value_of-returns-in-Some-clause-means t c = connect-arm c.args.device.now (bindings c.args.scope.now) (kind_view c.args.tree.now.kind) c.in-Binary.op (tree_view c.in-Binary.left.value) (tree_view c.in-Binary.right.value) (tree_view c.deref-in-Some.result.now) (tree_view c.deref-in-Some-2.result.now) c.in-Some.connective c.truth_of-left.result c.connected.result
    (ap kind_view c.in-Binary.is) (sym c.connective_of.ensures ∙ c.in-Some.is) (ap tree_view c.deref-in-Some.ensures) (ap tree_view c.deref-in-Some-2.ensures) c.truth_of-left.ensures.means c.connected.ensures.means

pub value_of-returns-in-Some-clause-counts : goal.value_of-returns-in-Some-clause-counts
value_of-returns-in-Some-clause-counts t c = connect-count c.args.device.now (bindings c.args.scope.now) (kind_view c.args.tree.now.kind) c.in-Binary.op (tree_view c.in-Binary.left.value) (tree_view c.in-Binary.right.value) (tree_view c.deref-in-Some.result.now) (tree_view c.deref-in-Some-2.result.now) c.in-Some.connective c.truth_of-left.result c.connected.result c.args.steps.now.count c.truth_of-left.new.steps.count c.connected.new.steps.count
    (ap kind_view c.in-Binary.is) (sym c.connective_of.ensures ∙ c.in-Some.is) (ap tree_view c.deref-in-Some.ensures) (ap tree_view c.deref-in-Some-2.ensures) c.truth_of-left.ensures.means c.truth_of-left.ensures.counts c.connected.ensures.means c.connected.ensures.counts

pub value_of-connected-requires : goal.value_of-connected-requires
value_of-connected-requires t c =
    let room = connect-room c.args.device.now (bindings c.args.scope.now) (kind_view c.args.tree.now.kind) c.in-Binary.op (tree_view c.in-Binary.left.value) (tree_view c.in-Binary.right.value) (tree_view c.deref-in-Some.result.now) (tree_view c.deref-in-Some-2.result.now) c.in-Some.connective c.truth_of-left.result c.args.steps.now.count c.truth_of-left.new.steps.count
    (ap kind_view c.in-Binary.is) (sym c.connective_of.ensures ∙ c.in-Some.is) (ap tree_view c.deref-in-Some.ensures) (ap tree_view c.deref-in-Some-2.ensures) c.truth_of-left.ensures.means c.truth_of-left.ensures.counts in
    (search (rules, the_lemmas, c.decreases, c.in-Binary.is, c.deref-in-Some-2.ensures), omega (arith, c.requires, room))

pub with_one-list-requires : goal.with_one-list-requires
with_one-list-requires t c = (search rules, (omega (arith, c.requires.1.1.0), omega (arith, c.requires.1.1.1, filter-steps c.args.device.now (bindings c.args.scope.now) c.args.name.now c.args.arguments.now c.args.elements.now c.args.form c.in-Filter.is c.requires.1.1.0)))

pub with_one-list-requires-in-Map : goal.with_one-list-requires-in-Map
with_one-list-requires-in-Map t c = (search rules, (omega (arith, c.requires.1.1.0), omega (arith, c.requires.1.1.1, map-steps c.args.device.now (bindings c.args.scope.now) c.args.name.now c.args.arguments.now c.args.elements.now c.args.form c.in-Map.is c.requires.1.1.0)))

pub with_one-gather-requires : goal.with_one-gather-requires
with_one-gather-requires t c = (search rules, (omega (arith, c.requires.1.1.0), omega (arith, c.requires.1.1.1, one-steps c.args.device.now (bindings c.args.scope.now) c.args.name.now c.args.arguments.now c.args.elements.now c.args.form c.in-ExistsOne.is c.requires.1.1.0)))

pub with_one-returns-in-All-clause-means : goal.with_one-returns-in-All-clause-means
with_one-returns-in-All-clause-means t c =
    rw (c.in-All.is, one-body c.args.device.now (bindings c.args.scope.now) c.args.name.now c.args.arguments.now c.index-arguments-1.result c.index-arguments-1.is c.requires.1.1.0, c.truth_value.ensures) (gives-value c.fold.result _ c.fold.ensures.means)

pub with_one-returns-in-Exists-clause-means : goal.with_one-returns-in-Exists-clause-means
with_one-returns-in-Exists-clause-means t c =
    rw (c.in-Exists.is, one-body c.args.device.now (bindings c.args.scope.now) c.args.name.now c.args.arguments.now c.index-arguments-1-in-Exists.result c.index-arguments-1-in-Exists.is c.requires.1.1.0, c.truth_value-in-Exists.ensures) (gives-value c.fold-in-Exists.result _ c.fold-in-Exists.ensures.means)

pub with_one-returns-in-ExistsOne-clause-means : goal.with_one-returns-in-ExistsOne-clause-means
with_one-returns-in-ExistsOne-clause-means t c = rw (one-is c.args.device.now (bindings c.args.scope.now) c.args.name.now c.args.arguments.now c.args.elements.now c.args.form c.in-ExistsOne.is c.requires.1.1.0, c.is_one.ensures) (gives-one c.gather.result _ c.gather.ensures.means)

pub with_one-returns-in-ExistsOne-clause-counts : goal.with_one-returns-in-ExistsOne-clause-counts
with_one-returns-in-ExistsOne-clause-counts t c = rw (one-steps c.args.device.now (bindings c.args.scope.now) c.args.name.now c.args.arguments.now c.args.elements.now c.args.form c.in-ExistsOne.is c.requires.1.1.0, c.is_one.ensures) (counts-one c.gather.result _ _ _ c.gather.ensures.counts)

pub with_one-returns-in-Filter-clause-means : goal.with_one-returns-in-Filter-clause-means
with_one-returns-in-Filter-clause-means t c = rw (filter-is c.args.device.now (bindings c.args.scope.now) c.args.name.now c.args.arguments.now c.args.elements.now c.args.form c.in-Filter.is c.requires.1.1.0) c.list.ensures.means

pub with_one-returns-in-Filter-clause-counts : goal.with_one-returns-in-Filter-clause-counts
with_one-returns-in-Filter-clause-counts t c = rw (filter-steps c.args.device.now (bindings c.args.scope.now) c.args.name.now c.args.arguments.now c.args.elements.now c.args.form c.in-Filter.is c.requires.1.1.0) c.list.ensures.counts

pub with_one-returns-in-Map-clause-means : goal.with_one-returns-in-Map-clause-means
with_one-returns-in-Map-clause-means t c = rw (map-is c.args.device.now (bindings c.args.scope.now) c.args.name.now c.args.arguments.now c.args.elements.now c.args.form c.in-Map.is c.requires.1.1.0) c.list-in-Map.ensures.means

pub with_one-returns-in-Map-clause-counts : goal.with_one-returns-in-Map-clause-counts
with_one-returns-in-Map-clause-counts t c = rw (map-steps c.args.device.now (bindings c.args.scope.now) c.args.name.now c.args.arguments.now c.args.elements.now c.args.form c.in-Map.is c.requires.1.1.0) c.list-in-Map.ensures.counts

pub bind-returns-then-arguments-ne3-clause-means : goal.bind-returns-then-arguments-ne3-clause-means
bind-returns-then-arguments-ne3-clause-means t c = bind-other c.args.device.now (bindings c.args.scope.now) c.args.arguments.now c.if-arguments-ne3.true

pub bind-returns-then-arguments-ne3-clause-counts : goal.bind-returns-then-arguments-ne3-clause-counts
bind-returns-then-arguments-ne3-clause-counts t c = omega (arith, bind-other-steps c.args.device.now (bindings c.args.scope.now) c.args.arguments.now c.if-arguments-ne3.true)

pub bind-value_of-requires : goal.bind-value_of-requires
bind-value_of-requires t c =
    let within = at_most the_size c.args.arguments.now 1 c.index-arguments-1.result (omega arith) in
    (search (rules, the_lemmas, within, c.decreases), omega (arith, bind-steps-are c.args.device.now (bindings c.args.scope.now) c.args.arguments.now c.index-arguments-0.result c.index-arguments-1.result c.in-Some.name.now c.index-arguments-0.is c.index-arguments-1.is c.if-arguments-ne3.false (sym c.in-Some.ensures)))

pub bind-returns-in_err-value-clause-means : goal.bind-returns-in_err-value-clause-means
bind-returns-in_err-value-clause-means t c =
    let p = err_from_is_err_and c.from_residual.result c.from_residual.ensures.1 in
    rw (p.1, p.2, bind-is c.args.device.now (bindings c.args.scope.now) c.args.arguments.now c.index-arguments-0.result c.index-arguments-1.result c.in-Some.name.now c.index-arguments-0.is c.index-arguments-1.is c.if-arguments-ne3.false (sym c.in-Some.ensures)) (gives-behind c.in_err-value.field-0.0 _ _ c.in_err-value.ensures.means)

pub bind-returns-in_err-value-clause-counts : goal.bind-returns-in_err-value-clause-counts
bind-returns-in_err-value-clause-counts t c =
    let p = err_from_is_err_and c.from_residual.result c.from_residual.ensures.1 in
    rw (p.1, p.2, bind-steps-are c.args.device.now (bindings c.args.scope.now) c.args.arguments.now c.index-arguments-0.result c.index-arguments-1.result c.in-Some.name.now c.index-arguments-0.is c.index-arguments-1.is c.if-arguments-ne3.false (sym c.in-Some.ensures)) (counts-behind Value Value c.in_err-value.field-0.0 (means c.args.device.now (bindings c.args.scope.now) (tree_view c.index-arguments-1.result)) _ _ _ _ c.in_err-value.ensures.means c.in_err-value.ensures.counts)

pub items_of-returns-in_err-item-clause-counts : goal.items_of-returns-in_err-item-clause-counts
items_of-returns-in_err-item-clause-counts t c =
    let p = err_from_is_err_and c.from_residual.result c.from_residual.ensures.1 in
    rw (p.1, p.2) (items-stop c.args.device.now (bindings c.args.scope.now) c.args.trees.now c.loop-at.at c.index-trees-at.result c.in_err-item.field-0.0 _ c.loop-at.steps.count c.single_of.new.steps.count _ c.index-trees-at.is c.loop-at-test.true c.in_err-item.ensures.means c.in_err-item.ensures.counts c.loop-at.invariant.least c.loop-at.invariant.counts)

pub items_of-returns-in_err-push-clause-counts : goal.items_of-returns-in_err-push-clause-counts
items_of-returns-in_err-push-clause-counts t c =
    let p = err_from_is_err_and c.from_residual-in_err-push.result c.from_residual-in_err-push.ensures.1 in
    rw (p.1, p.2) (counts-between (List Single) _ c.single_of.new.steps.count _ _ (omega (arith, c.loop-at.invariant.least, c.in_ok-item.ensures.counts))
    (items-count c.args.device.now (bindings c.args.scope.now) c.args.trees.now c.loop-at.at c.index-trees-at.result c.in_ok-item.item c.loop-at.steps.count c.single_of.new.steps.count _ c.index-trees-at.is c.loop-at-test.true c.in_ok-item.ensures.means c.in_ok-item.ensures.counts c.loop-at.invariant.counts))

pub values_of-returns-in_err-value-clause-counts : goal.values_of-returns-in_err-value-clause-counts
values_of-returns-in_err-value-clause-counts t c =
    let p = err_from_is_err_and c.from_residual.result c.from_residual.ensures.1 in
    rw (p.1, p.2) (values-stop c.args.device.now (bindings c.args.scope.now) c.args.trees.now c.loop-at.at c.index-trees-at.result c.in_err-value.field-0.0 _ c.loop-at.steps.count c.value_of.new.steps.count _ c.index-trees-at.is c.loop-at-test.true c.in_err-value.ensures.means c.in_err-value.ensures.counts c.loop-at.invariant.least c.loop-at.invariant.counts)

pub values_of-returns-in_err-push-clause-counts : goal.values_of-returns-in_err-push-clause-counts
values_of-returns-in_err-push-clause-counts t c =
    let p = err_from_is_err_and c.from_residual-in_err-push.result c.from_residual-in_err-push.ensures.1 in
    rw (p.1, p.2) (counts-between (List Value) _ c.value_of.new.steps.count _ _ (omega (arith, c.loop-at.invariant.least, c.in_ok-value.ensures.counts))
    (values-count c.args.device.now (bindings c.args.scope.now) c.args.trees.now c.loop-at.at c.index-trees-at.result c.in_ok-value.value c.loop-at.steps.count c.value_of.new.steps.count _ c.index-trees-at.is c.loop-at-test.true c.in_ok-value.ensures.means c.in_ok-value.ensures.counts c.loop-at.invariant.counts))

pub table_of-returns-in_err-key-clause-counts : goal.table_of-returns-in_err-key-clause-counts
table_of-returns-in_err-key-clause-counts t c =
    let p = err_from_is_err_and c.from_residual.result c.from_residual.ensures.1 in
    rw (p.1, p.2) (key-stop c.args.device.now (bindings c.args.scope.now) c.args.entries.now c.loop-at.at c.index-entries-at.result c.in_err-key.field-0.0 _ c.loop-at.steps.count c.key_of.new.steps.count _ c.index-entries-at.is c.loop-at-test.true c.in_err-key.ensures.means c.in_err-key.ensures.counts c.loop-at.invariant.least c.loop-at.invariant.counts)

pub table_of-returns-in_err-value-clause-counts : goal.table_of-returns-in_err-value-clause-counts
table_of-returns-in_err-value-clause-counts t c =
    let p = err_from_is_err_and c.from_residual-in_err-value.result c.from_residual-in_err-value.ensures.1 in
    rw (p.1, p.2) (value-stop c.args.device.now (bindings c.args.scope.now) c.args.entries.now c.loop-at.at c.index-entries-at.result c.in_ok-key.key c.in_err-value.field-0.0 _ c.loop-at.steps.count c.key_of.new.steps.count c.single_of.new.steps.count _ c.index-entries-at.is c.loop-at-test.true c.in_ok-key.ensures.means c.in_ok-key.ensures.counts c.in_err-value.ensures.means c.in_err-value.ensures.counts c.loop-at.invariant.least c.loop-at.invariant.counts)

pub table_of-returns-in_err-insert-clause-counts : goal.table_of-returns-in_err-insert-clause-counts
table_of-returns-in_err-insert-clause-counts t c =
    let p = err_from_is_err_and c.from_residual-in_err-insert.result c.from_residual-in_err-insert.ensures.1 in
    rw (p.1, p.2) (counts-between (List (Key × Single)) _ c.single_of.new.steps.count _ _ (omega (arith, c.loop-at.invariant.least, c.in_ok-key.ensures.counts, c.in_ok-value.ensures.counts))
    (entries-count c.args.device.now (bindings c.args.scope.now) c.args.entries.now c.loop-at.at c.index-entries-at.result c.in_ok-key.key c.in_ok-value.value c.loop-at.steps.count c.key_of.new.steps.count c.single_of.new.steps.count _ c.index-entries-at.is c.loop-at-test.true c.in_ok-key.ensures.means c.in_ok-value.ensures.means c.in_ok-key.ensures.counts c.in_ok-value.ensures.counts c.loop-at.invariant.counts))

pub gather-returns-in_err-made-clause-counts : goal.gather-returns-in_err-made-clause-counts
gather-returns-in_err-made-clause-counts t c =
    let p = err_from_is_err_and c.from_residual.result c.from_residual.ensures.1 in
    rw (p.1, p.2) (made-stop (maker c.args.making (bodies c.args.device.now (bindings c.args.scope.now) c.args.name.now c.args.arguments.now)) (maker_steps c.args.making (all_turns c.args.device.now (bindings c.args.scope.now) c.args.name.now c.args.arguments.now)) c.args.elements.now c.loop-element.element-index c.element-item.result c.in_err-made.field-0.0 _ c.loop-element.steps.count c.make.new.steps.count _ c.element-item.is c.loop-element-test.true c.in_err-made.ensures.means c.in_err-made.ensures.counts c.loop-element.invariant.least c.loop-element.invariant.counts)

pub gather-returns-in_err-push-clause-counts : goal.gather-returns-in_err-push-clause-counts
gather-returns-in_err-push-clause-counts t c =
    let p = err_from_is_err_and c.from_residual-in_err-push.result c.from_residual-in_err-push.ensures.1 in
    rw (p.1, p.2) (counts-between (List Single) _ c.make.new.steps.count _ _ (omega (arith, c.loop-element.invariant.least, c.in_ok-made.ensures.counts))
    (made-count (maker c.args.making (bodies c.args.device.now (bindings c.args.scope.now) c.args.name.now c.args.arguments.now)) (maker_steps c.args.making (all_turns c.args.device.now (bindings c.args.scope.now) c.args.name.now c.args.arguments.now)) c.args.elements.now c.loop-element.element-index c.element-item.result _ c.loop-element.steps.count c.make.new.steps.count _ c.element-item.is c.loop-element-test.true c.in_ok-made.ensures.means c.in_ok-made.ensures.counts c.loop-element.invariant.counts))

pub fold-returns-then-stops-clause-counts : goal.fold-returns-then-stops-clause-counts
fold-returns-then-stops-clause-counts t c = fold-stop c.args.connective (turn c.args.device.now (bindings c.args.scope.now) c.args.name.now (tree_view c.args.test.now)) c.args.elements.now c.loop-element.element-index c.element-item.result c.truth_at-side.result _ c.loop-element.steps.count c.truth_at-side.new.steps.count _ c.element-item.is c.loop-element-test.true (sym c.stops.ensures ∙ c.if-stops.true) c.truth_at-side.ensures.means c.truth_at-side.ensures.counts c.loop-element.invariant.least c.loop-element.invariant.counts

pub values_of-loop-at-preserved : goal.values_of-loop-at-preserved
values_of-loop-at-preserved t c = record {
  means = values-step c.args.device.now (bindings c.args.scope.now) c.args.trees.now c.loop-at.at c.index-trees-at.result c.loop-at.values c.push.new.self c.in_ok-value.value _ c.index-trees-at.is c.loop-at-test.true c.in_ok-value.ensures.means c.in_ok-push.ensures.ok c.loop-at.invariant.means;
  least = omega (arith, c.loop-at.invariant.least, c.in_ok-value.ensures.counts);
  counts = values-count c.args.device.now (bindings c.args.scope.now) c.args.trees.now c.loop-at.at c.index-trees-at.result c.in_ok-value.value c.loop-at.steps.count c.value_of.new.steps.count _ c.index-trees-at.is c.loop-at-test.true c.in_ok-value.ensures.means c.in_ok-value.ensures.counts c.loop-at.invariant.counts;
}
