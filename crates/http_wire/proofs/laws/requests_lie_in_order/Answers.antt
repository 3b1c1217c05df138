use Rattle.http_wire.proofs.Single.{lie_behind, lie_few, lie_first, lie_one, one_more}
use Rattle.http_wire.proofs.laws.requests_lie_in_order.Goals as goal

pub returns-clause-one : goal.returns-clause-one
returns-clause-one c = lie_one

pub returns-clause-more : goal.returns-clause-more
returns-clause-more c = one_more

pub returns-clause-ends : goal.returns-clause-ends
returns-clause-ends c = lie_behind

pub returns-clause-first : goal.returns-clause-first
returns-clause-first c = lie_first

pub returns-clause-few : goal.returns-clause-few
returns-clause-few c = lie_few
