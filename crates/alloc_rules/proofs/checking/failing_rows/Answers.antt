use Rattle.std.proofs.Common.{◌∙◌, [], subst, sym}
use Rattle.request_rows.specs.Wanted.{input_of}
use Rattle.plan_rules.specs.Chosen.{dues}
use Rattle.alloc_rules.specs.Rows.{AreDuesMore, DueFields}
use Rattle.std.proofs.Common.{List}
use Rattle.alloc_rules.proofs.Checked.{each_due, in_order, in_rest, in_shape}
use Rattle.alloc_rules.proofs.Lists.{if_ok}
use Rattle.alloc_rules.proofs.checking.failing_rows.Goals as goal

pub returns-in-Some : goal.returns-in-Some
returns-in-Some c = in_shape c.args.state.now c.args.node.now c.args.rows.now c.args.view.now.devices c.args.grants.now c.in-Some.found c.requires.rows c.requires.view.devices c.requires.on_node (sym c.in-Some.is ∙ c.in_ok-shape.ensures.found)

pub failing_shaped-requires-clause-dues : goal.failing_shaped-requires-clause-dues
failing_shaped-requires-clause-dues c = each_due (input_of c.args.rows.now) c.args.grants.now c.deref-2.result.now c.misshapen.new.dues.items c.deref-2.ensures.value (c.in_ok-shape.ensures.dues c.in_default.is)

pub failing_shaped-requires-clause-in_order : goal.failing_shaped-requires-clause-in_order
failing_shaped-requires-clause-in_order c = in_order (input_of c.args.rows.now) c.args.grants.now c.deref-2.result.now c.misshapen.new.dues.items c.deref-2.ensures.value (c.in_ok-shape.ensures.dues c.in_default.is)

pub returns : goal.returns
returns c =
    if_ok _ _ c.failing_shaped.result
    (λ found e.
    in_rest c.args.state.now c.args.node.now c.args.rows.now c.args.view.now.devices c.args.grants.now c.deref.result.now c.deref-2.result.now found c.requires.rows c.requires.view.devices c.requires.on_node (sym c.in_default.is ∙ c.in_ok-shape.ensures.found)
    (c.deref.ensures.value ∙ c.in_ok-shape.ensures.choice c.in_default.is)
    (subst (λ (l : List DueFields). AreDuesMore (input_of c.args.rows.now) [] l (dues (input_of c.args.rows.now) c.args.grants.now)) (sym c.deref-2.ensures.value) (c.in_ok-shape.ensures.dues c.in_default.is)) e)
    c.failing_shaped.ensures
