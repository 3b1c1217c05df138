-- A member of a crew, which holds a pass to the ledger and the work of its jobs, may go to another thread.
use denote.Ref.{NamedLft}
use denote.RattleType.{RattleType}
use denote.Param.Send.{IsSend, sendable}
use denote.Param.SendFields.{declared_send}
use Rattle.std.proofs.Crossing.{crosses}
use Rattle.std.proofs.alloc.Global.TheSendSync as heap
use Rattle.turn_lock.proofs.lock.TurnLock.TheSendSync as lock
use Rattle.sched_job.specs.contracts.member.Member as Member
pub use Rattle.sched_job.proofs.Sends.{ledger_send, work_send}

pub member_send : (κ : NamedLft) (E : RattleType) → IsSend (Member.the_row κ E)
member_send κ E = declared_send (Member.the_type κ E) (
  search (ledger_send, lock.the_sync, heap.the_send, heap.the_sync, crosses, sendable) depth 60 fits 20000,
  (
    search (heap.the_send, sendable) depth 60 fits 20000,
    (
      search (work_send, sendable) depth 60 fits 20000,
      (search sendable depth 60 fits 20000, (search (crosses, sendable) depth 60 fits 20000, tt)),
    ),
  ),
)
