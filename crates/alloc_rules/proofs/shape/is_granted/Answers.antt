use Rattle.std.proofs.Common.{rules, ◌∙◌, ap}
use Rattle.request_rows.specs.Wanted.{input_of}
use Rattle.alloc_rules.specs.Rows.{asked_rows}
use Rattle.alloc_rules.proofs.Shaping.{is_of_shape, not_apart, not_few, not_picked}
use Rattle.alloc_rules.proofs.shape.is_granted.Goals as goal

pub returns-then-results-gt-MOST_RESULTS-clause-granted : goal.returns-then-results-gt-MOST_RESULTS-clause-granted
returns-then-results-gt-MOST_RESULTS-clause-granted c = not_few (input_of c.args.rows.now) c.args.place c.args.wanted.now c.args.grant.now (search rules)

pub returns-then-not-differ-clause-granted : goal.returns-then-not-differ-clause-granted
returns-then-not-differ-clause-granted c = not_apart (input_of c.args.rows.now) c.args.place c.args.wanted.now c.args.grant.now (search rules)

pub returns-then-not-branch-clause-granted : goal.returns-then-not-branch-clause-granted
returns-then-not-branch-clause-granted c = not_picked (input_of c.args.rows.now) c.args.place c.args.wanted.now c.args.grant.now (search rules)

pub returns-clause-granted : goal.returns-clause-granted
returns-clause-granted c =
    let named = c.in_ok-pick_ways.ensures.named c.if-not-branch.false in
    is_of_shape (input_of c.args.rows.now) c.args.place c.args.wanted.now c.args.grant.now (asked_rows (input_of c.args.rows.now) c.deref.result.now) c.as_slice-results.result.now c.in_ok-shaped.shaped c.in_ok-shaped.ensures.shaped c.as_slice-results.ensures
    (ap (asked_rows (input_of c.args.rows.now)) c.deref.ensures.value ∙ named.picked.rows_are ∙ (search rules)) (search rules) (search rules) (search rules) (search rules)
