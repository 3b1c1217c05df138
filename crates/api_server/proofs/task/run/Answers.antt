use Rattle.api_server.proofs.task.run.Goals as goal

pub returns-in_default-clause-job : goal.returns-in_default-clause-job
returns-in_default-clause-job g c = c.run_once.ensures.job c.args.budget
