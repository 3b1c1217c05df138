use Rattle.ckpt_journal.specs.Table.{compact}
use Rattle.ckpt_journal.proofs.Fits.{all_read_back}
use Rattle.ckpt_journal.proofs.Keeping.{has_halves, keeps}
use Rattle.ckpt_journal.proofs.state.Journal.keeps.Goals as goal

pub returns-clause-table : goal.returns-clause-table
returns-clause-table g c = λ going. keeps c.args.self.now.rows.items c.args.self.now.halves c.args.self.now.end _ (c.args.self.now.kept going)

pub returns-clause-readable : goal.returns-clause-readable
returns-clause-readable g c = all_read_back (compact c.args.self.now.rows.items) c.args.self.now.tabled.1

pub returns-clause-half : goal.returns-clause-half
returns-clause-half g c = λ going. has_halves c.args.self.now.rows.items c.args.self.now.halves c.args.self.now.end _ (c.args.self.now.kept going)
