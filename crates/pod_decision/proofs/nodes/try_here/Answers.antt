use Rattle.std.proofs.Common.{ℕ, ◌≡◌, ◌∙◌, Some, sym, ap, subst}
use Rattle.allocations.specs.Claims.{wanted}
use Rattle.allocations.specs.Input.{input_of}
use Rattle.allocator.specs.Answered.{answer_of}
use Rattle.pod_decision.specs.Memory.{TriesFields}
use Rattle.pod_decision.specs.declared.nodes.Tried.{Tried}
use Rattle.pod_decision.specs.Tries.{IsTried, tried_of}
use Rattle.pod_decision.proofs.Tried.{searched}
use Rattle.pod_decision.proofs.nodes.try_here.Goals as goal

pub returns-clause-tried : goal.returns-clause-tried
returns-clause-tried c =
    let tries = c.args.tries.now in
    let node = c.args.node.now in
    let found = c.in_ok-outcome.field-0 in
    let answered = subst (λ (t : TriesFields). answer_of (input_of t.state (wanted t.state t.pod) node) t.budget ≡ Some found) c.has.ensures.same c.in_ok-outcome.ensures.found in
    let budget = c.budget-budget.ensures ∙ ap (λ (t : TriesFields). t.budget) c.has.ensures.same in
    subst (λ (t : Tried). IsTried tries.state tries.pod tries.budget node t) (sym (c.tried_of.ensures ∙ ap (λ (b : ℕ). tried_of b found) budget))
    (searched tries.state tries.pod tries.budget node found c.requires.here answered)
