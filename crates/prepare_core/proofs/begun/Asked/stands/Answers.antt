use Rattle.prepare_core.specs.Words.{rows_in}
use Rattle.prepare_core.proofs.Begins.{row_reads}
use Rattle.prepare_core.proofs.begun.Asked.stands.Goals as goal

pub returns-clause-readable : goal.returns-clause-readable
returns-clause-readable g c = row_reads c.args.self.now.claim.uid (rows_in c.args.self.now.kubelet) _ c.keeps.ensures.readable c.args.self.now.begun
