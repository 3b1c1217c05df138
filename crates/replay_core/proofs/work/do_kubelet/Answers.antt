use Rattle.std.proofs.Common.{rules, ◌+◌, refl}
use Rattle.pod_prepare.specs.Words.{disk_of, table_of}
use Rattle.replay_core.specs.declared.work.Work.{Work}
use Rattle.replay_core.specs.Kubelet.{Node, node_with}
use Rattle.replay_core.proofs.Asking.{if_then}
use Rattle.replay_core.proofs.Printing.{kubelet_did, kubelet_unwritten}
use Rattle.replay_core.proofs.work.do_kubelet.Goals as goal

pub returns-in-Ok-write_all-clause-did : goal.returns-in-Ok-write_all-clause-did
returns-in-Ok-write_all-clause-did g c =
    let found : Node = node_with (table_of c.args.kubelet) (g.D.Disk.content (disk_of c.args.kubelet)) (g.V.Driver.calls c.args.driver.now) (g.V.Driver.faults c.args.driver.now) in
    let after = c.kubelet_text-kubelet.result.0 in
    let left : Node = node_with (table_of after) (g.D.Disk.content (disk_of after)) (g.V.Driver.calls c.kubelet_text-kubelet.new.driver) (g.V.Driver.faults c.kubelet_text-kubelet.new.driver) in
    let next : Work = record { ledger = c.args.work.now.ledger; commands = c.args.work.now.commands + 1 } in
    kubelet_did c.args.options.now c.args.command.now c.args.work.now next found left (g.K.Sink.written c.args.output.now) (g.K.Sink.written c.write_all.new.sink) c.in-Ok.text.items
    c.requires.kubelet refl (if_then c.kubelet_text-kubelet.result.1 c.in-Ok.text _ c.in-Ok.is c.kubelet_text-kubelet.ensures.shown) (Prim.search rules)

pub returns-in-Ok-clause-stops : goal.returns-in-Ok-clause-stops
returns-in-Ok-clause-stops g c =
    let found : Node = node_with (table_of c.args.kubelet) (g.D.Disk.content (disk_of c.args.kubelet)) (g.V.Driver.calls c.args.driver.now) (g.V.Driver.faults c.args.driver.now) in
    let after = c.kubelet_text-kubelet.result.0 in
    let left : Node = node_with (table_of after) (g.D.Disk.content (disk_of after)) (g.V.Driver.calls c.kubelet_text-kubelet.new.driver) (g.V.Driver.faults c.kubelet_text-kubelet.new.driver) in
    let next : Work = record { ledger = c.args.work.now.ledger; commands = c.args.work.now.commands + 1 } in
    kubelet_unwritten c.args.options.now c.args.command.now c.args.work.now next found left (g.K.Sink.written c.args.output.now) (g.K.Sink.written c.write_all.new.sink) c.in-Ok.text.items
    _ _ c.write_status.ensures c.requires.kubelet refl (if_then c.kubelet_text-kubelet.result.1 c.in-Ok.text _ c.in-Ok.is c.kubelet_text-kubelet.ensures.shown) (Prim.search rules)
