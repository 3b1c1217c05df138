use Rattle.std.proofs.Common.{◌∙◌, sym}
use Rattle.ledger_core.proofs.Standing.{row_same, row_there}
use Rattle.ledger_core.proofs.room.make_row.Goals as goal

pub returns-else-has_row-clause-same : goal.returns-else-has_row-clause-same
returns-else-has_row-clause-same c = row_same c.args.job_states.now c.add_row.new.self c.args.job c.add_row.result (sym c.has_row.ensures ∙ c.if-has_row.false) c.add_row.ensures.ok c.add_row.ensures.err

pub returns-else-has_row-clause-row : goal.returns-else-has_row-clause-row
returns-else-has_row-clause-row c = row_there c.args.job_states.now c.add_row.new.self c.args.job c.add_row.result c.add_row.ensures.ok
