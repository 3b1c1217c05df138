use Rattle.std.proofs.Common.{rules, ◌≡◌, false}
use Rattle.pod_prepare.specs.Words.{disk_of, table_of}
use Rattle.replay_core.specs.Forms.{is_of_kubelet}
use Rattle.replay_core.specs.Kubelet.{Node, node_with}
use Rattle.replay_core.proofs.Asking.{if_err_then, on_ok_then}
use Rattle.replay_core.proofs.Printing.{jobs_did, jobs_stopped}
use Rattle.replay_core.proofs.work.do_next.Goals as goal

pub returns-else-is_of_kubelet-clause-did : goal.returns-else-is_of_kubelet-clause-did
returns-else-is_of_kubelet-clause-did g c =
    let node : Node = node_with (table_of c.args.kubelet) (g.D.Disk.content (disk_of c.args.kubelet)) (g.V.Driver.calls c.args.driver.now) (g.V.Driver.faults c.args.driver.now) in
    let jobs : is_of_kubelet c.args.command ≡ false = Prim.search rules in
    on_ok_then c.do_jobs-done.result _ _ (λ ran. jobs_did c.args.options.now c.args.command c.args.work.now c.do_jobs-done.new.work node (g.K.Sink.written c.args.output.now) (g.K.Sink.written c.do_jobs-done.new.output) jobs ran
    (c.keeps.ensures c.args.options.now.node c.requires.going)) c.do_jobs-done.ensures.did

pub returns-else-is_of_kubelet-clause-stops : goal.returns-else-is_of_kubelet-clause-stops
returns-else-is_of_kubelet-clause-stops g c =
    let node : Node = node_with (table_of c.args.kubelet) (g.D.Disk.content (disk_of c.args.kubelet)) (g.V.Driver.calls c.args.driver.now) (g.V.Driver.faults c.args.driver.now) in
    let jobs : is_of_kubelet c.args.command ≡ false = Prim.search rules in
    if_err_then c.do_jobs-done.result _ _ (λ s stop. jobs_stopped c.args.options.now c.args.command c.args.work.now c.do_jobs-done.new.work node (g.K.Sink.written c.args.output.now) (g.K.Sink.written c.do_jobs-done.new.output) s jobs
    (c.keeps.ensures c.args.options.now.node c.requires.going) stop) c.do_jobs-done.ensures.stops
