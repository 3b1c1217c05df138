use Rattle.std.proofs.Common.{◌∙◌}
use Rattle.std.specs.Prelude.{unwrap_or}
use Rattle.cel_tree.specs.Estimate.{last_weight}
use Rattle.cel_cost.specs.Capped.{seen}
use Rattle.cel_cost.proofs.Capping.{made, one_more, sum_more, product, unwrap-cap}
use Rattle.cel_cost.proofs.Capping as bounds
use Rattle.cel_cost.proofs.Gathered.{last_is}
use Rattle.cel_cost.proofs.parts.gathered_weight.Goals as goal

pub returns-in-Filter : goal.returns-in-Filter
returns-in-Filter c = λ x xs e f. rw c.in-Filter.is (bounds.weight_of (seen c.args.range) x e)

pub returns-in-Map : goal.returns-in-Map
returns-in-Map c = λ x xs e f.
    let p = c.args.bodies in
    let last = c.or.ensures ∙ (λ i. unwrap_or (last_is p xs f i) 0) ∙ unwrap-cap (last_weight xs) 0 in
    rw c.in-Map.is (one_more _ _ _ c.saturating_add.ensures
    (product _ _ _ _ _ c.saturating_mul-weights.ensures (bounds.number_of (seen c.args.range) x e) last))
