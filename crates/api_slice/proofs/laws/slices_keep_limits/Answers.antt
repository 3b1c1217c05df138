use Rattle.api_slice.proofs.Limits.{slice_keeps}
use Rattle.api_slice.proofs.laws.slices_keep_limits.Goals as goal

pub returns : goal.returns
returns c = slice_keeps c.metadata_keeps_limits.ensures c.taints_keep_limits.ensures
