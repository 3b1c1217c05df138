use Rattle.mem_disk.proofs.Imaged.{cut_image}
use Rattle.mem_disk.proofs.image.blur.Goals as goal

pub returns-in-Cut : goal.returns-in-Cut
returns-in-Cut c = λ s p. cut_image c.args.change.now c.in-Cut.len s _ _ c.in-Cut.is c.truncate.ensures.items p
