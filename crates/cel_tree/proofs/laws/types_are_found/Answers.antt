use Rattle.cel_tree.proofs.Typing.{complete, sound}
use Rattle.cel_tree.proofs.laws.types_are_found.Goals as goal

pub returns-clause-found : goal.returns-clause-found
returns-clause-found c = λ names t k h. complete h

pub returns-clause-sound : goal.returns-clause-sound
returns-clause-sound c = λ names t k e. sound names t k e
