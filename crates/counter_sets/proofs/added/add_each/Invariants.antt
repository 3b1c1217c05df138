use Rattle.std.proofs.Common.{◌≡◌, drop}
use Rattle.counter_sets.specs.Totals as spec
use Rattle.counter_sets.proofs.added.add_each.Given as goal

abbrev pub invariant-loop-set : goal.invariant-loop-set
invariant-loop-set l = record {
  rest : spec.with_room (drop l.set-index l.grown) l.sets ≡ spec.with_room l.grown l.fn.sets;
  back : spec.without_sets l.names l.sets ≡ spec.without_sets l.fn.names l.fn.sets;
}
