use Rattle.doc_split.specs.Limits.{the_limits}
use Rattle.doc_split.proofs.Laid.{lie_at}
use Rattle.doc_split.proofs.Limited.{at_end, at_more}
use Rattle.doc_split.proofs.laws.documents_lie_in_order.Goals as goal

pub returns-clause-lie : goal.returns-clause-lie
returns-clause-lie c = λ most at bytes. lie_at most at bytes

pub returns-clause-within : goal.returns-clause-within
returns-clause-within c = λ at bytes small. at_end the_limits at bytes small

pub returns-clause-longer : goal.returns-clause-longer
returns-clause-longer c = λ at bytes more. at_more the_limits at bytes more
