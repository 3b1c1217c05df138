use Rattle.std.proofs.Common.{◌≡◌, ap, ◌∙◌, arith, max, ◌+◌}
use Rattle.cel_cost.specs.Capped.{cap, seen}
use Rattle.cel_cost.proofs.Capping.{made, sum_more, kind_of, weight_of, number_of, steps_of}
use Rattle.cel_tree.specs.Faults.{row}
use Rattle.cel_tree.specs.Estimate.{typed, conditional_bounds}
use Rattle.cel_tree.specs.Types.{conditional_type}
use Rattle.cel_cost.proofs.bounds.conditional_bounds.Goals as goal

pub returns : goal.returns
unfolding conditional_bounds
returns c = λ t x y d e f.
    let a = seen c.args.test in
    let l = seen c.args.then in
    let r = seen c.args.otherwise in
    let i = kind_of a t d in
    let j = kind_of l x e in
    let k = kind_of r y f in
    let w : c.max-weight.result ≡ cap (max x.weight y.weight) = omega (arith, weight_of l x e, weight_of r y f) in
    let n : c.max-number.result ≡ cap (max x.number y.number) = omega (arith, number_of l x e, number_of r y f) in
    let branch : c.max-branch.result ≡ cap (max x.steps y.steps) = omega (arith, steps_of l x e, steps_of r y f) in
    made _ c.typed-kind.result (typed (row c.args.span (conditional_type t.kind x.kind y.kind)))
    c.max-weight.result c.max-number.result c.saturating_add-steps.result
    (max x.weight y.weight) (max x.number y.number) (1 + (t.steps + max x.steps y.steps)) c.new.ensures
    (c.typed-kind.ensures ∙ ap typed (c.row.ensures ∙ ap (row c.args.span) (c.conditional_type.ensures ∙ (λ p. conditional_type (i p) (j p) (k p)))))
    w n (sum_more _ _ _ _ _ _ c.saturating_add.ensures c.saturating_add-steps.ensures (steps_of a t d) branch)
