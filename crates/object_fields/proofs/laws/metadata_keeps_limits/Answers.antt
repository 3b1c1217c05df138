use Rattle.object_fields.proofs.MetaKept.{meta_kept}
use Rattle.object_fields.proofs.laws.metadata_keeps_limits.Goals as goal

pub returns : goal.returns
returns c = meta_kept
