use Rattle.object_fields.proofs.Inverse.{each_at_few}
use Rattle.object_fields.proofs.laws.lists_keep_limits.Goals as goal

pub returns : goal.returns
returns g c = λ most reading path name d xs h. each_at_few most reading path name d xs h
