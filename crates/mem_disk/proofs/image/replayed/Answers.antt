use Rattle.std.proofs.Common.{◌∙◌, ap, sym}
use Rattle.mem_disk.specs.Stages.{changed}
use Rattle.mem_disk.proofs.Past.{bytes_step}
use Rattle.mem_disk.proofs.image.replayed.Goals as goal

pub loop-change-preserved : goal.loop-change-preserved
loop-change-preserved c = c.in_ok-apply.ensures.ok ∙ ap (changed c.change-item.result) c.loop-change.invariant ∙ sym (bytes_step c.args.first.now c.args.changes.now c.loop-change.change-index c.change-item.result c.loop-change-test.true c.change-item.is)
