use Rattle.node_memo.proofs.Rows.{AreAmong}
use Rattle.node_memo.proofs.pools.pools_of.Given as goal

abbrev pub invariant-loop-device : goal.invariant-loop-device
invariant-loop-device l = AreAmong l.pools l.devices l.device-index
