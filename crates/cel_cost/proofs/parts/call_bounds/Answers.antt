use Rattle.std.proofs.Common.{sym, refl, ap, ◌∙◌, arith, ◌+◌}
use Rattle.cel_tree.specs.Faults.{called_type}
use Rattle.cel_tree.specs.Types.{bool}
use Rattle.cel_tree.specs.Estimate.{typed, arguments_of, weights_of, steps_of, plain_bounds, has_bounds}
use Rattle.cel_cost.proofs.Capping.{made}
use Rattle.cel_cost.proofs.Gathered.{arguments_are, weights_are, steps_are}
use Rattle.cel_cost.proofs.parts.call_bounds.Goals as goal

pub returns-then-is_has : goal.returns-then-is_has
unfolding has_bounds
returns-then-is_has c = λ xs e.
    let p = c.args.arguments in
    let steps = steps_are p xs e in
    let has = sym c.is_has.ensures ∙ c.if-is_has.true in
    rw has (made _ bool bool 1 0 p.steps 1 0 (steps_of xs) c.new.ensures refl refl refl steps)

pub returns : goal.returns
unfolding plain_bounds
returns c = λ xs e.
    let p = c.args.arguments in
    let given = arguments_are p xs e in
    let weights = weights_are p xs e in
    let steps = steps_are p xs e in
    let has = sym c.is_has.ensures ∙ c.if-is_has.false in
    rw has (made _ c.typed-kind.result (typed (called_type c.args.span c.args.called (arguments_of xs))) 1 0 c.saturating_add-steps.result
    1 0 (1 + (steps_of xs + weights_of xs)) c.new-2.ensures
    (c.typed-kind.ensures ∙ ap typed (c.called_type.ensures ∙ ap (called_type c.args.span c.args.called) given))
    refl refl
    (omega arith))
