use Rattle.std.proofs.Common.{arith}
use Rattle.ckpt_journal.proofs.Opens.{found}
use Rattle.ckpt_journal.proofs.opening.read_file.Goals as goal

pub returns-in-Ok-clause-found : goal.returns-in-Ok-clause-found
returns-in-Ok-clause-found c =
    found c.args.bytes.now c.in-Ok.file.layout c.in-Ok.file.records.items c.in-Ok.file.end (λ i. omega (arith, c.type_inv.bytes i)) c.in-Ok.ensures.laid c.in-Ok.ensures.ends c.in-Ok.ensures.below
