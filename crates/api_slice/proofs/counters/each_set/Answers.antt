use Rattle.std.proofs.Common.{Ok, arith, rules, ap, ◌∙◌}
use Rattle.std.proofs.lemmas.Result.{err_from_is_err_and}
use Rattle.api_slice.proofs.Sets.{sets-end, sets-step, sets-stop}
use Rattle.api_slice.proofs.counters.each_set.Goals as goal

pub loop-place-preserved : goal.loop-place-preserved
loop-place-preserved c =
    sets-step c.args.path.now c.args.values.now c.loop-place.place c.index-values-place.result c.loop-place.met c.in_ok-set.more c.loop-place.sets c.in_ok-sets.sets c.in_ok-set.set _
    c.index-values-place.is c.loop-place-test.true c.in_ok-set.ensures (search rules) c.loop-place.invariant

pub returns-in_err-set : goal.returns-in_err-set
returns-in_err-set c =
    let p = err_from_is_err_and c.from_residual.result c.from_residual.ensures.1 in
    rw (p.1, p.2) (sets-stop c.args.path.now c.args.values.now c.loop-place.place c.index-values-place.result c.loop-place.met c.loop-place.sets c.in_err-set.field-0.0 c.index-values-place.is c.loop-place-test.true c.in_err-set.ensures c.loop-place.invariant)

pub returns : goal.returns
returns c =
    sets-end c.args.path.now c.args.values.now c.loop-place.place c.loop-place.met c.loop-place.sets (omega arith) c.loop-place.invariant ∙ ap Ok (search rules)
