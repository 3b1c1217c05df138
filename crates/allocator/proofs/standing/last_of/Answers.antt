use Rattle.std.proofs.Common.{arith}
use Rattle.allocator.proofs.Placed.{least_last}
use Rattle.allocator.proofs.standing.last_of.Goals as goal

pub returns : goal.returns
returns c = let h = c.if-count-eq0.false in least_last c.args.positions.now 0 0 (omega (arith, h))
