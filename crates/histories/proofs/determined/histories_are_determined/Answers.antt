use Rattle.histories.proofs.Determining.{event_same, history_same, run_by}
use Rattle.histories.proofs.determined.histories_are_determined.Goals as goal

pub returns-clause-entry : goal.returns-clause-entry
returns-clause-entry c = event_same (record { plans = c.decisions_are_unique.ensures.plans; verdicts = c.decisions_are_unique.ensures.verdicts })

pub returns-clause-whole : goal.returns-clause-whole
returns-clause-whole c = history_same (record { plans = c.decisions_are_unique.ensures.plans; verdicts = c.decisions_are_unique.ensures.verdicts })

pub returns-clause-of_runs : goal.returns-clause-of_runs
returns-clause-of_runs c = run_by
