use Rattle.std.proofs.Common.{◌≡◌, ◌≤◌, ◌-◌}
use Rattle.std.specs.Prelude.{None}
use Rattle.doc_split.specs.Split.{remaining}
use Rattle.pod_prepare.specs.Words.{IsGoing, disk_of, table_of}
use Rattle.pod_prepare.specs.declared.lazy.LazyKubelet.TheVariants.{Closed}
use Rattle.replay_core.specs.Kubelet.{node_with}
use Rattle.replay_core.specs.Progress.{Progress}
use Rattle.replay_core.specs.Replay.{HasNone}
use Rattle.replay_core.specs.Script.{most_input}
use Rattle.replay_core.proofs.script.replay.Given as goal

abbrev pub invariant-documents : goal.invariant-documents
invariant-documents g l = record {
  progress : Progress l.options
      (node_with None (g.D.Disk.content l.fn.disk) (g.V.Driver.calls l.fn.driver) (g.V.Driver.faults l.fn.driver))
      (node_with (table_of l.kubelet) (g.D.Disk.content (disk_of l.kubelet)) (g.V.Driver.calls l.driver) (g.V.Driver.faults l.driver))
      (g.S.Source.left l.fn.input) (remaining l.splitter (g.S.Source.left l.input)) (g.K.Sink.written l.fn.output) (g.K.Sink.written l.output) l.splitter.at l.work;
  quiet : HasNone l.options.attempts (g.S.Source.left l.fn.input) → l.kubelet ≡ Closed l.fn.disk;
  going : IsGoing l.options.node l.kubelet;
  within : l.splitter.at ≤ most_input;
  faultless_input : g.S.Source.faults l.input ≡ g.S.Source.faults l.fn.input;
  faultless_output : g.K.Sink.faults l.output ≡ g.K.Sink.faults l.fn.output;
  faultless_disk : g.D.Disk.faults (disk_of l.kubelet) ≡ g.D.Disk.faults l.fn.disk;
}

abbrev pub decreases-documents : goal.decreases-documents
decreases-documents g l = most_input - l.splitter.at
