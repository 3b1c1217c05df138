use Rattle.std.proofs.Common.{◌≡◌, ◌+◌}
use Rattle.cel_tree.specs.Estimate.{bind_bounds}
use Rattle.cel_cost.specs.Capped.{cap, capped, seen}
use Rattle.cel_cost.proofs.Capping.{made, one_more, sum_more, product, unwrap-cap}
use Rattle.cel_cost.proofs.Capping as bounds
use Rattle.cel_cost.proofs.parts.bind_bounds.Goals as goal

pub returns : goal.returns
unfolding bind_bounds capped
returns c = λ x y ys e f.
    let b = seen c.args.body in
    let k = bounds.kind_of b y f in
    let w = bounds.weight_of b y f in
    let n = bounds.number_of b y f in
    let s : c.saturating_add-steps.result ≡ cap (1 + (x.steps + y.steps)) =
    sum_more _ _ _ _ _ _ c.saturating_add.ensures c.saturating_add-steps.ensures (bounds.steps_of (seen c.args.value) x e) (bounds.steps_of b y f) in
    (λ i. record { kind = k i; weight = w i; number = n i; steps = s i })
