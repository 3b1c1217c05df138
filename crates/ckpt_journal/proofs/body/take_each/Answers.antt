use Rattle.std.proofs.Common.{◌∙◌, arith}
use Rattle.ckpt_journal.proofs.Names.{next_name}
use Rattle.ckpt_journal.proofs.body.take_each.Goals as goal

pub loop-place-preserved : goal.loop-place-preserved
loop-place-preserved g c = next_name g.T.Named.reading c.loop-place.names _ c.args.count c.loop-place._place _ c.in_ok-name.name _ (omega (arith, c.loop-place-test.true)) c.in_ok-name.ensures c.in_ok-push.ensures.ok ∙ c.loop-place.invariant
