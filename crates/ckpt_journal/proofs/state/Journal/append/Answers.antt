use Rattle.ckpt_journal.proofs.Keeping.{stays}
use Rattle.ckpt_journal.proofs.state.Journal.append.Goals as goal

pub returns-in_err-plan-clause-any_moment : goal.returns-in_err-plan-clause-any_moment
returns-in_err-plan-clause-any_moment g c = λ going. stays c.args.self.now.rows.items c.args.item.now c.args.self.now.halves c.args.self.now.end _ (c.args.self.now.kept going)
