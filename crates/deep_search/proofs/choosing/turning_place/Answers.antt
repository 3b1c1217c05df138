use Rattle.std.proofs.Common.{◌-◌, arith}
use Rattle.deep_search.proofs.Turning.{length-of, choice-at, last-first, last-step}
use Rattle.deep_search.proofs.choosing.turning_place.Goals as goal

pub loop-place-init : goal.loop-place-init
loop-place-init c = record {
  known = omega arith;
  last = last-first c.args.options.now c.args.choice.now c.requires;
}

pub bounds-choice-place : goal.bounds-choice-place
bounds-choice-place c =
    let known = c.loop-place.invariant.known in
    omega (arith, length-of c.args.options.now c.args.choice.now c.requires)

pub overflow_add-choice : goal.overflow_add-choice
overflow_add-choice c =
    let known = c.loop-place.invariant.known in
    omega (arith, choice-at c.args.options.now c.args.choice.now (c.loop-place.place - 1) c.requires (omega arith), c.type_inv.options (c.loop-place.place - 1))

pub loop-place-preserved : goal.loop-place-preserved
loop-place-preserved c =
    let i = c.loop-place.invariant in
    record {
      known = omega arith;
      last = last-step c.args.options.now c.args.choice.now c.loop-place.place c.requires c.loop-place-test.true i.known (omega arith) i.last;
    }
