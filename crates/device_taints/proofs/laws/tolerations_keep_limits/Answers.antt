use Rattle.device_taints.proofs.Kept.{tolerations_kept}
use Rattle.device_taints.proofs.laws.tolerations_keep_limits.Goals as goal

pub returns : goal.returns
returns c = tolerations_kept c.lists_keep_limits.ensures
