use Rattle.std.proofs.Common.{◌∙◌, sym}
use Rattle.alloc_rules.proofs.Checked.{in_gone}
use Rattle.alloc_rules.proofs.checking.failing_on.Goals as goal

pub returns-in-Some : goal.returns-in-Some
returns-in-Some c = in_gone c.args.state.now c.args.node.now c.args.wants.now.claims c.args.view.now.devices c.args.grants.now c.in-Some.found c.requires.view.devices (sym c.in-Some.is ∙ c.in_ok-found.ensures)
