use Rattle.cel_meaning.specs.HasKind.{HasKind}
use Rattle.cel_meaning.specs.Meaning.{means}
use Rattle.cel_meaning.proofs.Every.{if_ok}
use Rattle.cel_meaning.proofs.Soundness.{kind_of}
use Rattle.cel_meaning.proofs.laws.values_have_their_types.Goals as goal

pub returns : goal.returns
returns c = λ device names bindings t k v a e f. if_ok (HasKind k) (means device bindings t) v (kind_of device (c.types_are_found.ensures.sound names t k e) bindings a) f
