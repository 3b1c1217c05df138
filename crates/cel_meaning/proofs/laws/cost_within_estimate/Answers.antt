use Rattle.std.proofs.Common.{[], ◌≤◌, refl, arith}
use Rattle.cel_tree.specs.Estimate.{bounds_of}
use Rattle.cel_tree.specs.HasType.{HasType}
use Rattle.cel_meaning.specs.Cost.{cost}
use Rattle.cel_meaning.proofs.Limited.{limited}
use Rattle.cel_meaning.proofs.Fitting.{Known, no_name}
use Rattle.cel_meaning.proofs.Estimated.{steps_within}
use Rattle.cel_meaning.proofs.laws.cost_within_estimate.Goals as goal

pub returns : goal.returns
returns c = λ device t k limits e small.
    let g : Known device = record { limited = limited device limits; typed = c.bounds_have_the_type.ensures } in
    let h : HasType [] t k = c.types_are_found.ensures.sound [] t k e in
    let steps : cost device [] t ≤ (bounds_of [] t).steps = steps_within device g [] [] refl h [] no_name in
    omega (arith, steps, small)
