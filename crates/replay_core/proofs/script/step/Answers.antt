use Rattle.std.proofs.Common.{sym, subst}
use Rattle.pod_prepare.specs.Words.{disk_of, table_of}
use Rattle.replay_core.specs.declared.status.Status.{Status}
use Rattle.replay_core.specs.Kubelet.{node_with}
use Rattle.replay_core.specs.Replay.{Ends}
use Rattle.replay_core.proofs.Known.{if_err, on_ok}
use Rattle.replay_core.proofs.Turns.{end_ends, end_of, left_at_end, none_ends, step_ends, step_on, step_quiet}
use Rattle.replay_core.proofs.script.step.Goals as goal

pub returns-in-Ok-Some-clause-ok : goal.returns-in-Ok-Some-clause-ok
returns-in-Ok-Some-clause-ok g c = on_ok c.do_document.result.1 _ _ (λ did found left before p.
    step_on c.documents_ask_a_kubelet_once.ensures c.args.options.now left before (g.K.Sink.written c.args.output.now) (g.K.Sink.written c.do_document.new.output) found
    (node_with (table_of c.args.kubelet) (g.D.Disk.content (disk_of c.args.kubelet)) (g.V.Driver.calls c.args.driver.now) (g.V.Driver.faults c.args.driver.now))
    (node_with (table_of c.do_document.result.0) (g.D.Disk.content (disk_of c.do_document.result.0)) (g.V.Driver.calls c.do_document.new.driver) (g.V.Driver.faults c.do_document.new.driver))
    c.args.splitter.now c.next_document.new.self (g.S.Source.left c.args.input.now) (g.S.Source.left c.next_document.new.from) c.args.work.now c.do_document.new.work
    c.in-Ok-Some.field-0 c.in-Ok-Some.doc c.in-Ok-Some.field-0-is c.in-Ok-Some.ensures.answers did p) c.do_document.ensures.did

pub returns-in-Ok-Some-clause-ends : goal.returns-in-Ok-Some-clause-ends
returns-in-Ok-Some-clause-ends g c = if_err c.do_document.result.1 _ _ (λ s stops found left before p.
    step_ends c.args.options.now left before (g.K.Sink.written c.args.output.now) (g.K.Sink.written c.do_document.new.output) found
    (node_with (table_of c.args.kubelet) (g.D.Disk.content (disk_of c.args.kubelet)) (g.V.Driver.calls c.args.driver.now) (g.V.Driver.faults c.args.driver.now))
    (node_with (table_of c.do_document.result.0) (g.D.Disk.content (disk_of c.do_document.result.0)) (g.V.Driver.calls c.do_document.new.driver) (g.V.Driver.faults c.do_document.new.driver))
    c.args.splitter.now c.next_document.new.self (g.S.Source.left c.args.input.now) (g.S.Source.left c.next_document.new.from) c.args.work.now c.do_document.new.work
    c.in-Ok-Some.field-0 c.in-Ok-Some.doc s c.in-Ok-Some.field-0-is c.in-Ok-Some.ensures.answers stops c.do_document.ensures.sound p) c.do_document.ensures.stops

pub returns-in-Ok-Some-clause-quiet : goal.returns-in-Ok-Some-clause-quiet
returns-in-Ok-Some-clause-quiet g c = λ found left before p none. c.do_document.ensures.quiet
    (step_quiet c.args.options.now left before (g.K.Sink.written c.args.output.now) found (node_with (table_of c.args.kubelet) (g.D.Disk.content (disk_of c.args.kubelet)) (g.V.Driver.calls c.args.driver.now) (g.V.Driver.faults c.args.driver.now)) c.args.splitter.now c.next_document.new.self (g.S.Source.left c.args.input.now) (g.S.Source.left c.next_document.new.from) c.args.work.now
    c.in-Ok-Some.field-0 c.in-Ok-Some.doc c.in-Ok-Some.field-0-is c.in-Ok-Some.ensures.answers p none)

pub returns-in-Ok-None-clause-ends : goal.returns-in-Ok-None-clause-ends
returns-in-Ok-None-clause-ends g c = λ found left before p.
    end_ends c.args.options.now left before (g.K.Sink.written c.args.output.now) (g.K.Sink.written c.print_summary.new.output) found (node_with (table_of c.args.kubelet) (g.D.Disk.content (disk_of c.args.kubelet)) (g.V.Driver.calls c.args.driver.now) (g.V.Driver.faults c.args.driver.now))
    c.args.splitter.now c.next_document.new.self (g.S.Source.left c.args.input.now) (g.S.Source.left c.next_document.new.from) c.args.work.now
    c.in-Ok-None.field-0 c.print_summary.result c.in-Ok-None.field-0-is c.in-Ok-None.ensures.answers c.print_summary.ensures.printed p

pub returns-in-Ok-None-clause-all_read : goal.returns-in-Ok-None-clause-all_read
returns-in-Ok-None-clause-all_read g c = λ is.
    let n = end_of c.args.splitter.now c.next_document.new.self (g.S.Source.left c.args.input.now) (g.S.Source.left c.next_document.new.from) c.in-Ok-None.field-0 c.in-Ok-None.field-0-is c.in-Ok-None.ensures.answers in
    left_at_end c.next_document.new.self.ahead (g.S.Source.left c.next_document.new.from) n.end

pub returns-in-Err-clause-ends : goal.returns-in-Err-clause-ends
returns-in-Err-clause-ends g c = λ found left before p.
    subst (λ (s : Status). Ends c.args.options.now left (g.S.Source.left c.next_document.new.from) before (g.K.Sink.written c.args.output.now) found (node_with (table_of c.args.kubelet) (g.D.Disk.content (disk_of c.args.kubelet)) (g.V.Driver.calls c.args.driver.now) (g.V.Driver.faults c.args.driver.now)) s) (sym c.input_status.ensures)
    (none_ends c.args.options.now left before (g.K.Sink.written c.args.output.now) found (node_with (table_of c.args.kubelet) (g.D.Disk.content (disk_of c.args.kubelet)) (g.V.Driver.calls c.args.driver.now) (g.V.Driver.faults c.args.driver.now)) c.args.splitter.now c.next_document.new.self (g.S.Source.left c.args.input.now) (g.S.Source.left c.next_document.new.from) c.args.work.now c.in-Err.error p c.in-Err.ensures.answers)
