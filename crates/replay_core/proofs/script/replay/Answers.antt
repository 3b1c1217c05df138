use Rattle.std.proofs.Common.{◌≡◌, ◌∙◌, refl, sym, subst, ap, arith}
use Rattle.std.specs.Prelude.{Option, None}
use Rattle.dra_ports.specs.DiskContent.{Content}
use Rattle.doc_split.specs.Split.{Split, remaining}
use Rattle.pod_prepare.specs.Words.{disk_of, table_of}
use Rattle.replay_core.specs.Kubelet.{Node, node_with}
use Rattle.replay_core.specs.Progress.{Progress}
use Rattle.replay_core.specs.Replay.{Ends}
use Rattle.replay_core.proofs.Known.{err_then, ok_then}
use Rattle.replay_core.proofs.Turns.{nothing_done, progress_begins, ready_at, same_disk}
use Rattle.replay_core.proofs.script.replay.Goals as goal

pub returns-in_default-clause-ends : goal.returns-in_default-clause-ends
returns-in_default-clause-ends g c =
    let found : Node = node_with None (g.D.Disk.content c.args.disk) (g.V.Driver.calls c.args.driver.now) (g.V.Driver.faults c.args.driver.now) in
    record { table = None; ends = nothing_done c.args.options.now (g.S.Source.left c.args.input.now) (g.K.Sink.written c.args.output.now) found refl }

pub documents-init : goal.documents-init
documents-init g c =
    let found : Node = node_with None (g.D.Disk.content c.args.disk) (g.V.Driver.calls c.args.driver.now) (g.V.Driver.faults c.args.driver.now) in
    record {
      progress = subst (λ (s : Split). Progress c.args.options.now found found (g.S.Source.left c.args.input.now) (remaining s (g.S.Source.left c.args.input.now)) (g.K.Sink.written c.args.output.now) (g.K.Sink.written c.args.output.now) s.at (record { ledger = c.in-Ok.ledger; commands = 0 })) (sym c.new-splitter.ensures)
          (progress_begins c.args.options.now (g.S.Source.left c.args.input.now) (g.K.Sink.written c.args.output.now) found (record { ledger = c.in-Ok.ledger; commands = 0 }) refl c.requires.entries c.histories_grow.ensures.start refl c.in-Ok.ensures);
      quiet = λ none. refl;
      going = tt;
      within = let at : c.new-splitter.result.at ≡ 0 = ap (λ (s : Split). s.at) c.new-splitter.ensures in omega arith;
      faultless_input = refl;
      faultless_output = refl;
      faultless_disk = refl;
    }

pub step-next-requires-clause-ready : goal.step-next-requires-clause-ready
step-next-requires-clause-ready g c κs within =
    ready_at c.args.options.now (g.S.Source.left c.args.input.now) (remaining c.documents.splitter (g.S.Source.left c.documents.input)) (g.K.Sink.written c.args.output.now) (g.K.Sink.written c.documents.output)
    (node_with None (g.D.Disk.content c.args.disk) (g.V.Driver.calls c.args.driver.now) (g.V.Driver.faults c.args.driver.now))
    (node_with (table_of c.documents.kubelet) (g.D.Disk.content (disk_of c.documents.kubelet)) (g.V.Driver.calls c.documents.driver) (g.V.Driver.faults c.documents.driver))
    c.documents.splitter.at c.documents.work c.documents.invariant.progress c.documents.invariant.within

pub documents-preserved : goal.documents-preserved
documents-preserved g c = record {
  progress = ok_then c.step-next.result.1 _ _ c.in_default-done.is c.step-next.ensures.ok (node_with None (g.D.Disk.content c.args.disk) (g.V.Driver.calls c.args.driver.now) (g.V.Driver.faults c.args.driver.now)) (g.S.Source.left c.args.input.now) (g.K.Sink.written c.args.output.now) c.documents.invariant.progress;
  quiet = λ none. c.step-next.ensures.quiet (node_with None (g.D.Disk.content c.args.disk) (g.V.Driver.calls c.args.driver.now) (g.V.Driver.faults c.args.driver.now)) (g.S.Source.left c.args.input.now) (g.K.Sink.written c.args.output.now) c.documents.invariant.progress none ∙ c.documents.invariant.quiet none;
  going = ok_then c.step-next.result.1 _ _ c.in_default-done.is c.step-next.ensures.going;
  within = ok_then c.step-next.result.1 _ _ c.in_default-done.is c.step-next.ensures.within;
  faultless_input = ok_then c.step-next.result.1 _ _ c.in_default-done.is c.step-next.ensures.ok_faultless_input ∙ c.documents.invariant.faultless_input;
  faultless_output = ok_then c.step-next.result.1 _ _ c.in_default-done.is c.step-next.ensures.ok_faultless_output ∙ c.documents.invariant.faultless_output;
  faultless_disk = ok_then c.step-next.result.1 _ _ c.in_default-done.is c.step-next.ensures.ok_faultless_disk ∙ c.documents.invariant.faultless_disk;
}

pub returns-in-Err-clause-ends : goal.returns-in-Err-clause-ends
returns-in-Err-clause-ends g c = record {
  table = table_of c.step-next.result.0;
  ends = subst (λ (o : Option Content). Ends c.args.options.now (g.S.Source.left c.args.input.now) (g.S.Source.left c.step-next.new.input) (g.K.Sink.written c.args.output.now) (g.K.Sink.written c.step-next.new.output) (node_with None (g.D.Disk.content c.args.disk) (g.V.Driver.calls c.args.driver.now) (g.V.Driver.faults c.args.driver.now)) (node_with (table_of c.step-next.result.0) o (g.V.Driver.calls c.step-next.new.driver) (g.V.Driver.faults c.step-next.new.driver)) c.in-Err.status) (sym (ap g.D.Disk.content c.close.ensures))
      (err_then c.step-next.result.1 c.in-Err.status _ c.in-Err.is c.step-next.ensures.ends (node_with None (g.D.Disk.content c.args.disk) (g.V.Driver.calls c.args.driver.now) (g.V.Driver.faults c.args.driver.now)) (g.S.Source.left c.args.input.now) (g.K.Sink.written c.args.output.now) c.documents.invariant.progress);
}

pub returns-in-Err-clause-untouched : goal.returns-in-Err-clause-untouched
returns-in-Err-clause-untouched g c = λ none.
    same_disk c.step-next.result.0 c.documents.kubelet c.args.disk c.close.result
    (c.step-next.ensures.quiet (node_with None (g.D.Disk.content c.args.disk) (g.V.Driver.calls c.args.driver.now) (g.V.Driver.faults c.args.driver.now)) (g.S.Source.left c.args.input.now) (g.K.Sink.written c.args.output.now) c.documents.invariant.progress none) (c.documents.invariant.quiet none) c.close.ensures
