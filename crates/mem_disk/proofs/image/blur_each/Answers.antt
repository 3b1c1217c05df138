use Rattle.std.proofs.Common.{take}
use Rattle.mem_disk.specs.Stages.{stage_after}
use Rattle.mem_disk.proofs.Imaged.{image_more, no_image_more}
use Rattle.mem_disk.proofs.image.blur_each.Goals as goal

pub loop-change-init : goal.loop-change-init
loop-change-init c = λ s p. no_image_more s _ p

pub loop-change-preserved : goal.loop-change-preserved
loop-change-preserved c = λ s p. image_more s c.args.changes.now c.loop-change.change-index c.change-item.result _ c.loop-change-test.true c.change-item.is (c.blur.ensures (stage_after s (take c.loop-change.change-index c.args.changes.now)) (c.loop-change.invariant s p))
