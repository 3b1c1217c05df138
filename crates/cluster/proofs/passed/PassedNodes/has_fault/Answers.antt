use Rattle.std.proofs.Common.{◌∙◌, sym, ap, refl}
use Rattle.std.specs.List.{list_any}
use Rattle.cluster.specs.VerdictGiven.{has_fault, is_fault}
use Rattle.cluster.proofs.PassedNext.{any_node}
use Rattle.cluster.proofs.passed.PassedNodes.has_fault.Goals as goal

pub returns : goal.returns
returns c =
    c.is_fault_among.ensures ∙ ap (list_any (λ k. is_fault k.cause)) c.as_slice.ensures
    ∙ sym (any_node is_fault refl c.self.inside.names c.self.inside.count c.self.inside.causes c.self.invariant)
    ∙ ap has_fault c.self.view_is
