use Rattle.std.proofs.Common.{arith}
use Rattle.mem_disk.proofs.Past.{synced_at, synced_at_none}
use Rattle.mem_disk.proofs.image.through_sync.Goals as goal

pub returns-in-Sync-clause-synced : goal.returns-in-Sync-clause-synced
returns-in-Sync-clause-synced c = λ first. synced_at first c.args.changes.now c.loop-count.count _ c.loop-count-test.true c.loop-count.invariant.within c.in-Sync.is

pub returns-clause-synced : goal.returns-clause-synced
returns-clause-synced c = λ first. synced_at_none first c.args.changes.now c.loop-count.count (omega (arith, c.loop-count-test.false))
