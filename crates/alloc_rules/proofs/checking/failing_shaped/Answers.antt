use Rattle.std.proofs.Common.{◌∙◌, map, sym}
use Rattle.request_rows.specs.Wanted.{input_of}
use Rattle.alloc_rules.specs.Rows.{due_seen}
use Rattle.alloc_rules.proofs.Checked.{shaped_fault, shaped_no, shaped_rest}
use Rattle.alloc_rules.proofs.Lists.{if_ok}
use Rattle.alloc_rules.proofs.checking.failing_shaped.Goals as goal

pub returns-in-Some : goal.returns-in-Some
returns-in-Some c = shaped_no c.args.state.now c.args.node.now c.args.rows.now c.args.choice.now (map (due_seen (input_of c.args.rows.now)) c.args.dues.now) c.in-Some.found c.requires.rows (sym c.in-Some.is ∙ c.in_ok-found.ensures)

pub returns-in-Some-2 : goal.returns-in-Some-2
returns-in-Some-2 c = shaped_fault c.args.state.now c.args.node.now c.args.rows.now c.args.choice.now (map (due_seen (input_of c.args.rows.now)) c.args.dues.now) c.in-Some-2.found c.requires.rows (sym c.in_default.is ∙ c.in_ok-found.ensures) (sym c.in-Some-2.is ∙ c.in_ok-found-2.ensures)

pub returns : goal.returns
returns c =
    if_ok _ _ c.failing_tolerated.result
    (λ found e. shaped_rest c.args.state.now c.args.node.now c.args.rows.now c.args.choice.now (map (due_seen (input_of c.args.rows.now)) c.args.dues.now) found c.requires.rows (sym c.in_default.is ∙ c.in_ok-found.ensures) (sym c.in_default-2.is ∙ c.in_ok-found-2.ensures) e)
    c.failing_tolerated.ensures
