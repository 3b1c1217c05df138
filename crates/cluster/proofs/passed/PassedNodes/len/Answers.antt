use Rattle.std.proofs.Common.{◌∙◌, length, sym, ap}
use Rattle.cluster.proofs.PassedNext.{how_many}
use Rattle.cluster.proofs.passed.PassedNodes.len.Goals as goal

pub returns : goal.returns
returns c = sym (how_many c.self.inside.names c.self.inside.count c.self.inside.causes c.self.invariant) ∙ ap length c.self.view_is
