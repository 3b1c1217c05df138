-- A worker over the ledger may go to another thread.
use denote.Ref.{NamedLft}
use denote.RattleType.{RattleType}
use denote.Param.Send.{IsSend, sendable}
use denote.Param.SendFields.{declared_send}
use Rattle.std.proofs.Crossing.{crosses}
use Rattle.std.proofs.alloc.Global.TheSendSync as heap
use Rattle.turn_lock.proofs.lock.TurnLock.TheSendSync as lock
use Rattle.api_server.specs.contracts.worker.Worker as Worker
pub use Rattle.api_server.proofs.Sends.{ledger_send}

-- ---- a worker

pub worker_send : (κ : NamedLft) (E D C : RattleType) → IsSend D → IsSend (Worker.the_row κ E D C)
worker_send κ E D C door = declared_send (Worker.the_type κ E D C) (
  search (ledger_send, lock.the_sync, heap.the_send, heap.the_sync, crosses, sendable) depth 60 fits 20000,
  (
    search (heap.the_send, sendable) depth 60 fits 20000,
    (
      search (door, sendable) depth 60 fits 20000,
      (
        search sendable depth 60 fits 20000,
        (
          search sendable depth 60 fits 20000,
          (search sendable depth 60 fits 20000, (search sendable depth 60 fits 20000, (search sendable depth 60 fits 20000, (search (crosses, sendable) depth 60 fits 20000, tt)))),
        ),
      ),
    ),
  ),
)
