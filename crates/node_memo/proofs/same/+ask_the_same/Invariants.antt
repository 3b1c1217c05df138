use Rattle.std.proofs.Common.{length}
use Rattle.node_memo.proofs.same.+ask_the_same.Given as goal

abbrev pub decreases-ask_the_same : goal.decreases-ask_the_same
decreases-ask_the_same l = length l.claims.now
