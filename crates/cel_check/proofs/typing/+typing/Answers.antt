use Rattle.std.proofs.Common.{◌+◌, List, ℕ, ap, sym, ◌∙◌, drop, map}
use Rattle.std.proofs.lemmas.Result.{err_from_is_err_and}
use Rattle.std.specs.Prelude.{Some}
use Rattle.cel_tree.specs.declared.tree.Tree.{Tree}
use Rattle.cel_tree.specs.declared.types.Scalar.{Scalar}
use Rattle.cel_tree.specs.declared.calls.Arguments.{Arguments}
use Rattle.cel_tree.specs.declared.fault.Fault.TheVariants.{NoOverload}
use Rattle.cel_tree.specs.Ast.{tree_view, kind_view, entry_view, asts_of, entries_of}
use Rattle.cel_tree.specs.Scopes.{bound}
use Rattle.cel_tree.specs.Typing.{is_bind, type_of, types_of, items_of}
use Rattle.cel_check.specs.Parts.{method_of}
use Rattle.cel_check.proofs.Fronts.{all_given, all_found, values_from, types-step, items-step, values-init, values-step, values-err, values-not, values-key, map-err, bind_short, has_not_one, has_no_member, method-gives}
use Rattle.cel_check.proofs.typing.+typing.Goals as goal

pub bind-returns-then-arguments-lt2 : goal.bind-returns-then-arguments-lt2
bind-returns-then-arguments-lt2 t c = bind_short _ _ _ c.if-arguments-lt2.true

pub has-returns-then-arguments-ne1 : goal.has-returns-then-arguments-ne1
has-returns-then-arguments-ne1 t c = has_not_one _ _ _ c.if-arguments-ne1.true

pub has-returns-in_default : goal.has-returns-in_default
has-returns-in_default t c = has_no_member _ _ c.args.arguments.now c.index-arguments-0.result c.if-arguments-ne1.false c.in_default.not-Member

pub types_of-loop-at-preserved : goal.types_of-loop-at-preserved
types_of-loop-at-preserved t c =
    ap (λ (g : Arguments). all_given g (types_of (bound c.args.scope.now) (asts_of (map tree_view (drop (c.loop-at.at + 1) c.args.trees.now))))) c.with_last-given.ensures
    ∙ types-step (bound c.args.scope.now) c.args.trees.now c.loop-at.at c.index-trees-at.result c.loop-at.given c.in_ok-kind.kind _ c.index-trees-at.is c.loop-at-test.true (sym c.in_ok-kind.ensures) c.loop-at.invariant

pub list-loop-at-preserved : goal.list-loop-at-preserved
list-loop-at-preserved t c =
    ap (λ (s : Scalar). all_found (Some s) (items_of (bound c.args.scope.now) (asts_of (map tree_view (drop (c.loop-at.at + 1) c.args.items.now))))) c.also.ensures
    ∙ items-step (bound c.args.scope.now) c.args.items.now c.loop-at.at c.index-items-at.result c.loop-at.found c.in_ok-kind.kind c.in_ok-scalar.scalar _ c.index-items-at.is c.loop-at-test.true (sym c.in_ok-kind.ensures) (sym c.in_ok-scalar.ensures) c.loop-at.invariant

pub map-loop-at-init : goal.map-loop-at-init
map-loop-at-init t c = values-init (bound c.args.scope.now) c.args.entries.now

pub map-returns-then-not-is_key : goal.map-returns-then-not-is_key
map-returns-then-not-is_key t c =
    map-err (bound c.args.scope.now) (entries_of (map entry_view c.args.entries.now)) (NoOverload c.index-entries-at.result.key.span) (values-key (bound c.args.scope.now) c.args.entries.now c.loop-at.at c.index-entries-at.result c.loop-at.found _ c.index-entries-at.is c.loop-at-test.true (sym c.if-not-is_key.ensures) c.loop-at.invariant)

pub map-returns-in_err-kind : goal.map-returns-in_err-kind
map-returns-in_err-kind t c =
    let p = err_from_is_err_and c.from_residual.result c.from_residual.ensures.1 in
    rw (p.1, p.2) (map-err (bound c.args.scope.now) (entries_of (map entry_view c.args.entries.now)) c.in_err-kind.field-0.0 (values-err (bound c.args.scope.now) c.args.entries.now c.loop-at.at c.index-entries-at.result c.loop-at.found c.in_err-kind.field-0.0 _ c.index-entries-at.is c.loop-at-test.true (sym c.if-not-is_key.ensures) (sym c.in_err-kind.ensures) c.loop-at.invariant))

pub map-returns-in_err-scalar : goal.map-returns-in_err-scalar
map-returns-in_err-scalar t c =
    let p = err_from_is_err_and c.from_residual-in_err-scalar.result c.from_residual-in_err-scalar.ensures.1 in
    rw (p.1, p.2) (map-err (bound c.args.scope.now) (entries_of (map entry_view c.args.entries.now)) c.in_err-scalar.field-0.0 (values-not (bound c.args.scope.now) c.args.entries.now c.loop-at.at c.index-entries-at.result c.loop-at.found c.in_ok-kind.kind c.in_err-scalar.field-0.0 _ c.index-entries-at.is c.loop-at-test.true (sym c.if-not-is_key.ensures) (sym c.in_ok-kind.ensures) (sym c.in_err-scalar.ensures) c.loop-at.invariant))

pub map-loop-at-preserved : goal.map-loop-at-preserved
map-loop-at-preserved t c =
    ap (λ (s : Scalar). all_found (Some s) (values_from (bound c.args.scope.now) c.args.entries.now (c.loop-at.at + 1))) c.also.ensures
    ∙ values-step (bound c.args.scope.now) c.args.entries.now c.loop-at.at c.index-entries-at.result c.loop-at.found c.in_ok-kind.kind c.in_ok-scalar.scalar _ c.index-entries-at.is c.loop-at-test.true (sym c.if-not-is_key.ensures) (sym c.in_ok-kind.ensures) (sym c.in_ok-scalar.ensures) c.loop-at.invariant

pub type_of-returns-in_ok-object-in-Method : goal.type_of-returns-in_ok-object-in-Method
type_of-returns-in_ok-object-in-Method t c =
    let names = bound c.args.scope.now in
    method-gives names c.args.tree.now.span (kind_view c.args.tree.now.kind) (tree_view c.in-Method.object.value) c.in-Method.function (asts_of (map tree_view c.in-Method.arguments.items)) c.in_ok-object-in-Method.object _
    (ap kind_view c.in-Method.is ∙ c.nodes_have_their_lists.ensures.method c.in-Method.object c.in-Method.function c.in-Method.arguments)
    (ap (λ (u : Tree). is_bind (tree_view u) c.in-Method.function) (sym c.deref-in-Method.ensures) ∙ ap (is_bind (tree_view c.deref-in-Method.result.now)) (sym c.as_str-in-Method.ensures) ∙ sym c.if-is_bind.ensures)
    (ap (λ (u : Tree). type_of names (tree_view u)) (sym c.deref-in-Method-2.ensures) ∙ sym c.in_ok-object-in-Method.ensures)
    (c.method.ensures
    ∙ ap (λ (x : List ℕ). method_of names c.args.tree.now.span x c.in_ok-object-in-Method.object (asts_of (map tree_view c.deref-in-Method-3.result.now))) c.as_str-in-Method-2.ensures
    ∙ ap (λ (xs : List Tree). method_of names c.args.tree.now.span c.in-Method.function c.in_ok-object-in-Method.object (asts_of (map tree_view xs))) c.deref-in-Method-3.ensures.value)
