use Rattle.std.proofs.Common.{◌≡◌, []}
use Rattle.pool_view.specs.Sets.{named_with}
use Rattle.pool_view.proofs.draws.named.Given as goal

abbrev pub invariant-loop-set : goal.invariant-loop-set
invariant-loop-set l = named_with l.named l.set-iterator.rest.items ≡ named_with [] l.fn.sets.items
