use Rattle.std.proofs.Common.{ℕ, ◌∙◌, List, take, sym, ap}
use Rattle.cluster.specs.PassedOver.{names_of}
use Rattle.cluster.proofs.PassedNext.{passed_names}
use Rattle.cluster.proofs.passed.PassedNodes.names.Goals as goal

pub returns : goal.returns
returns c =
    ap (λ (l : List (List ℕ)). take c.self.inside.count l) (c.as_slice.ensures ∙ c.deref.ensures)
    ∙ sym (passed_names 0 (take c.self.inside.count c.self.inside.names) c.self.inside.causes)
    ∙ ap names_of c.self.view_is
