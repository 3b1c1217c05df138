use Rattle.std.proofs.Common.{ℕ, ◌≡◌, ◌++◌, List}
use Rattle.commands.specs.declared.given.Given.{Given}
use Rattle.pod_prepare.specs.Words.{IsGoing, disk_of, table_of}
use Rattle.replay_core.specs.Attempts.{AllMayTry}
use Rattle.replay_core.specs.Forms.{kubelet_count}
use Rattle.replay_core.specs.Kubelet.{node_with}
use Rattle.replay_core.specs.Progress.{IsReady, IsSound}
use Rattle.replay_core.specs.Script.{at_each}
use Rattle.replay_core.specs.Turns.{StandsOn}
use Rattle.replay_core.proofs.work.do_all.Given as goal

-- those that were done, and those that are left
abbrev pub invariant-loop-command : goal.invariant-loop-command
invariant-loop-command g l = record {
  prefix : List Given;
  are : l.fn.commands.items ≡ prefix ++ l.command-iterator.rest.items;
  may_try : AllMayTry l.command-iterator.rest.items;
  done : (at : ℕ) → StandsOn l.options (at_each at prefix) l.fn.work l.work
      (node_with (table_of l.fn.kubelet) (g.D.Disk.content (disk_of l.fn.kubelet)) (g.V.Driver.calls l.fn.driver) (g.V.Driver.faults l.fn.driver))
      (node_with (table_of l.kubelet) (g.D.Disk.content (disk_of l.kubelet)) (g.V.Driver.calls l.driver) (g.V.Driver.faults l.driver))
      (g.K.Sink.written l.fn.output) (g.K.Sink.written l.output);
  quiet : kubelet_count prefix ≡ 0 → l.kubelet ≡ l.fn.kubelet;
  ready : IsReady l.work (kubelet_count l.command-iterator.rest.items);
  going : IsGoing l.options.node l.kubelet;
  sound : IsSound l.work.ledger;
  faultless : g.K.Sink.faults l.output ≡ g.K.Sink.faults l.fn.output;
  faultless_disk : g.D.Disk.faults (disk_of l.kubelet) ≡ g.D.Disk.faults (disk_of l.fn.kubelet);
}
