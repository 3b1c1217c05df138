use Rattle.std.proofs.Common.{◌∙◌, Some, sym, ap}
use Rattle.object_fields.specs.declared.key.Key.{Key}
use Rattle.cluster.specs.declared.state.State.{State}
use Rattle.pod_decision.specs.Parts.{first_elsewhere}
use Rattle.pod_decision.proofs.Tried.{elsewhere, here}
use Rattle.pod_decision.proofs.nodes.try_node.Goals as goal

pub try_here-requires-clause-here : goal.try_here-requires-clause-here
try_here-requires-clause-here c =
    here c.args.tries.now.state c.args.tries.now.pod c.args.node.now c.args.joins.now c.requires.joins
    (sym (c.in-None.ensures ∙ ap (λ (s : State). first_elsewhere s c.args.node.now c.args.joins.now) c.state.ensures))

pub returns-in_ok-copy-in-Some-clause-tried : goal.returns-in_ok-copy-in-Some-clause-tried
returns-in_ok-copy-in-Some-clause-tried c =
    elsewhere c.args.tries.now.state c.args.tries.now.pod c.args.node.now c.args.joins.now c.in-Some.claim.now c.requires.joins
    (sym (c.in-Some.ensures ∙ ap (λ (s : State). first_elsewhere s c.args.node.now c.args.joins.now) c.state.ensures))
    ∙ ap (λ (k : Key). Some k) (sym c.in_ok-copy-in-Some.ensures)
