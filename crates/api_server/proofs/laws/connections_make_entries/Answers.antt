use Rattle.std.proofs.Common.{Err}
use Rattle.api_server.proofs.Growing.{grew_all, grew_one}
use Rattle.api_server.proofs.Making.{made_by}
use Rattle.api_server.proofs.laws.connections_make_entries.Goals as goal

pub returns-clause-made : goal.returns-clause-made
returns-clause-made c = made_by c.requests_lie_in_order.ensures.few

pub returns-clause-replied : goal.returns-clause-replied
returns-clause-replied c = λ s index old new ms out free are. grew_all s index old new ms out free are

pub returns-clause-unreplied : goal.returns-clause-unreplied
returns-clause-unreplied c = λ s index m old new reason free is. grew_one s index m old new (Err reason) free is
