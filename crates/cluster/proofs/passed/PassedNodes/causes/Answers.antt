use Rattle.std.proofs.Common.{take}
use Rattle.cluster.proofs.PassedNext.{causes_are}
use Rattle.cluster.proofs.passed.PassedNodes.causes.Goals as goal

pub returns : goal.returns
returns c = causes_are c.args.self.now (take c.self.inside.count c.self.inside.names) c.self.inside.causes c.as_slice.result.now c.as_slice.ensures c.self.view_is
