use Rattle.std.proofs.Common.{refl}
use Rattle.pod_prepare.specs.Words.{disk_of, table_of}
use Rattle.replay_core.specs.Kubelet.{Node, node_with}
use Rattle.replay_core.proofs.Asking.{prepared_by, reopened_by, unprepared_by}
use Rattle.replay_core.proofs.kubelet.kubelet_text.Goals as goal

pub returns-in-Prepare-clause-shown : goal.returns-in-Prepare-clause-shown
returns-in-Prepare-clause-shown g c =
    let found : Node = node_with (table_of c.args.kubelet) (g.D.Disk.content (disk_of c.args.kubelet)) (g.V.Driver.calls c.args.driver.now) (g.V.Driver.faults c.args.driver.now) in
    let after = c.prepare-kubelet.result.0 in
    let left : Node = node_with (table_of after) (g.D.Disk.content (disk_of after)) (g.V.Driver.calls c.prepare-kubelet.new.driver) (g.V.Driver.faults c.prepare-kubelet.new.driver) in
    prepared_by c.prepare-kubelet.result.1 (λ v. v.items) c.args.options.now c.args.before c.args.ledger.now.entries c.in-Prepare.pod c.args.command.now found left c.as_str-node.result.now c.state.result.now
    c.in-Prepare.is c.as_str-node.ensures c.state.ensures c.prepare-kubelet.ensures.done c.prepare-kubelet.ensures.tells c.prepare-kubelet.ensures.going (c.keeps.ensures c.as_str-node.result.now)

pub returns-in-Unprepare-clause-shown : goal.returns-in-Unprepare-clause-shown
returns-in-Unprepare-clause-shown g c =
    let found : Node = node_with (table_of c.args.kubelet) (g.D.Disk.content (disk_of c.args.kubelet)) (g.V.Driver.calls c.args.driver.now) (g.V.Driver.faults c.args.driver.now) in
    let after = c.unprepare-kubelet.result.0 in
    let left : Node = node_with (table_of after) (g.D.Disk.content (disk_of after)) (g.V.Driver.calls c.unprepare-kubelet.new.driver) (g.V.Driver.faults c.unprepare-kubelet.new.driver) in
    unprepared_by c.unprepare-kubelet.result.1 (λ v. v.items) c.args.options.now c.args.before c.args.ledger.now.entries c.in-Unprepare.pod c.args.command.now found left c.as_str-node.result.now c.state-in-Unprepare.result.now
    c.in-Unprepare.is c.as_str-node.ensures c.state-in-Unprepare.ensures c.unprepare-kubelet.ensures.done c.unprepare-kubelet.ensures.tells c.unprepare-kubelet.ensures.going (c.keeps-in-Unprepare.ensures c.as_str-node.result.now)

pub returns-in-Reopen-clause-shown : goal.returns-in-Reopen-clause-shown
returns-in-Reopen-clause-shown g c =
    let found : Node = node_with (table_of c.args.kubelet) (g.D.Disk.content (disk_of c.args.kubelet)) (g.V.Driver.calls c.args.driver.now) (g.V.Driver.faults c.args.driver.now) in
    let after = c.reopen-kubelet.result.0 in
    let left : Node = node_with (table_of after) (g.D.Disk.content (disk_of after)) (g.V.Driver.calls c.args.driver.now) (g.V.Driver.faults c.args.driver.now) in
    reopened_by c.reopen-kubelet.result.1 (λ v. v.items) c.args.options.now c.args.before c.args.ledger.now.entries c.args.command.now found left
    c.in-Reopen.is c.reopen-kubelet.ensures.done refl refl c.reopen-kubelet.ensures.tells c.reopen-kubelet.ensures.going (c.keeps-in-Reopen.ensures c.as_str-node.result.now)
