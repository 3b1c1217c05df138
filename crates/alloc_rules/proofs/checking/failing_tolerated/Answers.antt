use Rattle.std.proofs.Common.{◌∙◌, map, sym}
use Rattle.request_rows.specs.Wanted.{input_of}
use Rattle.alloc_rules.specs.Rows.{due_seen}
use Rattle.alloc_rules.proofs.Checked.{tolerated_not, tolerated_rest}
use Rattle.alloc_rules.proofs.Lists.{if_ok}
use Rattle.alloc_rules.proofs.checking.failing_tolerated.Goals as goal

pub returns-in-Some : goal.returns-in-Some
returns-in-Some c = tolerated_not c.args.state.now c.args.node.now c.args.rows.now (map (due_seen (input_of c.args.rows.now)) c.args.dues.now) c.in-Some.found c.requires.rows (sym c.in-Some.is ∙ c.in_ok-found.ensures)

pub returns : goal.returns
returns c =
    if_ok _ _ c.failing_held.result
    (λ found e. tolerated_rest c.args.state.now c.args.node.now c.args.rows.now (map (due_seen (input_of c.args.rows.now)) c.args.dues.now) found c.requires.rows (sym c.in_default.is ∙ c.in_ok-found.ensures) e)
    c.failing_held.ensures
