use Rattle.cluster.proofs.Equal.{pods_sound, pods_whole, spec_sound, spec_whole}
use Rattle.cluster.proofs.same.same_is_equal.Goals as goal

pub returns-clause-specs : goal.returns-clause-specs
returns-clause-specs c = λ a b. (spec_sound a b, spec_whole a b)

pub returns-clause-claims : goal.returns-clause-claims
returns-clause-claims c = λ a b. (pods_sound a b, pods_whole a b)
