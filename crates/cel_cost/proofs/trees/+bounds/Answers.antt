use Rattle.std.proofs.Common.{◌≡◌, Some, true, false, ◌∷◌, drop, map, ap, sym, ◌∙◌, arith}
use Rattle.cel_tree.specs.Ast.{tree_view, asts_of}
use Rattle.cel_tree.specs.Scopes.{is_device}
use Rattle.cel_tree.specs.Estimate.{Names, variable_in, bounds_of, element_bounds}
use Rattle.cel_cost.specs.Capped.{capped, capped_names, seen, names, parts_of, listed}
use Rattle.cel_cost.proofs.Scopes.{device-seen, device-in, short-bind, rest-is, comprehension-arm}
use Rattle.cel_tree.specs.declared.calls.Called.TheVariants as called
use Rattle.cel_tree.specs.Calls.{called_of}
use Rattle.cel_cost.proofs.trees.+bounds.Goals as goal

pub bind_of-returns-then-len-lt3 : goal.bind_of-returns-then-len-lt3
bind_of-returns-then-len-lt3 t c = λ env h.
    c.nothing.ensures ∙ ap capped (sym (short-bind c.args.arguments.now.items env _ (omega arith)))

pub parts_of-returns : goal.parts_of-returns
parts_of-returns t c = λ env h.
    c.loop-i.invariant.behind env h ∙ ap (λ ts. parts_of (listed env ts)) (rest-is c.loop-i.i c.args.first c.args.trees.now.items (omega arith) c.loop-i.invariant.above)

pub member-returns-then-is_device : goal.member-returns-then-is_device
member-returns-then-is_device t c = λ env h.
    let o = tree_view c.args.object.now in
    let d : is_device env o ≡ true = sym (device-in o (names c.args.scope.now) env h) ∙ sym (device-seen o c.args.scope.now) ∙ sym c.is_device.ensures ∙ c.if-is_device.true in
    rw d c.device_bounds.ensures

pub member-returns-else-is_device : goal.member-returns-else-is_device
member-returns-else-is_device t c = λ env h.
    let o = tree_view c.args.object.now in
    let d : is_device env o ≡ false = sym (device-in o (names c.args.scope.now) env h) ∙ sym (device-seen o c.args.scope.now) ∙ sym c.is_device.ensures ∙ c.if-is_device.false in
    rw d (c.member_bounds.ensures (bounds_of env o) (c.bounds_of.ensures env h))

pub method-returns-in-Some-Comprehension : goal.method-returns-in-Some-Comprehension
method-returns-in-Some-Comprehension t c = λ env x h e.
    let f = c.args.function.now in
    let ts = c.args.arguments.now.items in
    let k = c.in-Some-Comprehension.comprehension in
    let inner : Names = (variable_in (asts_of (map tree_view ts)), element_bounds x) ∷ env in
    let variable : seen c.element_bounds-variable.result ≡ capped (element_bounds x) = c.element_bounds-variable.ensures x e in
    let within : (c.variable_in.result.now, seen c.element_bounds-variable.result) ∷ names c.args.scope.now ≡ capped_names inner =
    (λ i. (c.variable_in.ensures i, variable i) ∷ h i) in
    let bodies : c.parts_of-bodies.result ≡ parts_of (listed inner (drop 1 ts)) = c.parts_of-bodies.ensures inner within in
    let is_found : c.called_of.result ≡ Some (called.Comprehension k) = cc (c.in-Some-Comprehension.is, c.in-Some-Comprehension.field-0-is) in
    let found : called_of f ≡ Some (called.Comprehension k) = sym c.called_of.ensures ∙ is_found in
    c.comprehension_bounds.ensures x (listed inner (drop 1 ts)) e bodies
    ∙ ap capped (sym (comprehension-arm env c.args.span x f ts k found))
