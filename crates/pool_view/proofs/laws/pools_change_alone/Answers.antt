use Rattle.pool_view.proofs.OnePool.{put_alone, put_elsewhere, removed_alone, removed_elsewhere, room}
use Rattle.pool_view.proofs.laws.pools_change_alone.Goals as goal

pub returns-clause-put : goal.returns-clause-put
returns-clause-put c = put_alone

pub returns-clause-removed : goal.returns-clause-removed
returns-clause-removed c = removed_alone

pub returns-clause-put_elsewhere : goal.returns-clause-put_elsewhere
returns-clause-put_elsewhere c = put_elsewhere

pub returns-clause-removed_elsewhere : goal.returns-clause-removed_elsewhere
returns-clause-removed_elsewhere c = removed_elsewhere

pub returns-clause-room : goal.returns-clause-room
returns-clause-room c = room
