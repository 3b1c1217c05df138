use Rattle.std.proofs.Common.{◌∙◌, map, sym}
use Rattle.cluster.specs.Held.{held}
use Rattle.request_rows.specs.Wanted.{input_of}
use Rattle.alloc_rules.specs.Rows.{due_seen}
use Rattle.alloc_rules.proofs.Checked.{standing_constraint, standing_counter, standing_held}
use Rattle.alloc_rules.proofs.Lists.{if_ok}
use Rattle.alloc_rules.proofs.checking.failing_held.Goals as goal

pub returns-in-Some : goal.returns-in-Some
returns-in-Some c = standing_held c.args.state.now c.args.node.now c.args.rows.now (map (due_seen (input_of c.args.rows.now)) c.args.dues.now) c.in-Some.found (sym c.in-Some.is ∙ c.in_ok-found.ensures (input_of c.args.rows.now) (held c.args.state.now) c.requires.holders)

pub failing_counters-requires-clause-free : goal.failing_counters-requires-clause-free
failing_counters-requires-clause-free c = sym (sym c.in_default.is ∙ c.in_ok-found.ensures (input_of c.args.rows.now) (held c.args.state.now) c.requires.holders)

pub returns-in-Some-2 : goal.returns-in-Some-2
returns-in-Some-2 c = standing_counter c.args.state.now c.args.node.now c.args.rows.now (map (due_seen (input_of c.args.rows.now)) c.args.dues.now) c.in-Some-2.found c.requires.rows (sym c.in_default.is ∙ c.in_ok-found.ensures (input_of c.args.rows.now) (held c.args.state.now) c.requires.holders) (sym c.in-Some-2.is ∙ c.in_ok-found-2.ensures)

pub returns : goal.returns
returns c =
    if_ok _ _ c.constraint_broken.result
    (λ found e. standing_constraint c.args.state.now c.args.node.now c.args.rows.now (map (due_seen (input_of c.args.rows.now)) c.args.dues.now) found c.requires.rows (sym c.in_default.is ∙ c.in_ok-found.ensures (input_of c.args.rows.now) (held c.args.state.now) c.requires.holders) (sym c.in_default-2.is ∙ c.in_ok-found-2.ensures) e)
    c.constraint_broken.ensures
