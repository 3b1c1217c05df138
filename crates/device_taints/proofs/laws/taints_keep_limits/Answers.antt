use Rattle.device_taints.proofs.Kept.{taints_kept}
use Rattle.device_taints.proofs.laws.taints_keep_limits.Goals as goal

pub returns : goal.returns
returns c = taints_kept c.lists_keep_limits.ensures
