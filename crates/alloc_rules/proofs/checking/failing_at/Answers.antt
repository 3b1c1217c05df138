use Rattle.std.proofs.Common.{rules, ◌∙◌, ℕ, List, Some, true, false, ap, sym}
use Rattle.std.specs.Option.{is_none}
use Rattle.pool_view.specs.Names.{at_name}
use Rattle.pool_view.specs.declared.inventory.Inventory.{Inventory}
use Rattle.cluster.specs.declared.failure.Failure.TheVariants.{NodeGone}
use Rattle.alloc_rules.proofs.Checked.{at_gone, at_there}
use Rattle.alloc_rules.proofs.Lists.{copied_none, if_ok}
use Rattle.alloc_rules.proofs.checking.failing_at.Goals as goal

pub returns-then-is_none : goal.returns-then-is_none
returns-then-is_none c =
    ap (λ (n : List ℕ). Some (NodeGone n)) c.in_ok-copy.ensures
    ∙ at_gone c.args.state.now c.args.claims.items c.args.node.now c.args.grants.now (ap is_none (sym (c.get.ensures ∙ ap (λ t. at_name t c.args.node.now) (c.nodes.ensures ∙ ap (λ (i : Inventory). i.nodes) c.deref.ensures))) ∙ copied_none c.get.result true (search rules))

pub returns : goal.returns
returns c =
    if_ok _ _ c.failing_on.result (λ found e. at_there c.args.state.now c.args.claims.items c.args.node.now c.args.grants.now found (ap is_none (sym (c.get.ensures ∙ ap (λ t. at_name t c.args.node.now) (c.nodes.ensures ∙ ap (λ (i : Inventory). i.nodes) c.deref.ensures))) ∙ copied_none c.get.result false (search rules)) e) c.failing_on.ensures
