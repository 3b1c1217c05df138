use Rattle.request_rules.proofs.Joined.{agrees_others, agrees_seen, covers_admin, covers_device, total_admin, total_device, total_none}
use Rattle.request_rules.proofs.laws.joining_is_by_device.Goals as goal

pub returns-clause-covers : goal.returns-clause-covers
returns-clause-covers c = λ w before p o there plain. covers_device w before p o there plain

pub returns-clause-admin : goal.returns-clause-admin
returns-clause-admin c = λ w before p admin. covers_admin w before p admin

pub returns-clause-first : goal.returns-clause-first
returns-clause-first c = λ w k. total_none w k

pub returns-clause-draws : goal.returns-clause-draws
returns-clause-draws c = λ w k before p o there plain. total_device w k before p o there plain

pub returns-clause-draws_nothing : goal.returns-clause-draws_nothing
returns-clause-draws_nothing c = λ w k before p admin. total_admin w k before p admin

pub returns-clause-agrees : goal.returns-clause-agrees
returns-clause-agrees c = λ w r before p o h there same. agrees_seen w r before p o h there same

pub returns-clause-others : goal.returns-clause-others
returns-clause-others c = λ w r before p e. agrees_others w r before p e
