use Rattle.std.proofs.Common.{◌∙◌, List, [], ◌∷◌, ◌++◌, arith, refl, sym, subst, ap, append_assoc}
use Rattle.commands.specs.declared.given.Given.{Given}
use Rattle.pod_prepare.specs.Words.{disk_of, table_of}
use Rattle.replay_core.specs.Attempts.{AllMayTry}
use Rattle.replay_core.specs.Forms.{kubelet_count}
use Rattle.replay_core.specs.Kubelet.{node_with}
use Rattle.replay_core.specs.Progress.{IsReady}
use Rattle.replay_core.proofs.Known.{err_then, ok_then}
use Rattle.replay_core.proofs.Running.{none_among, ready_first, ready_more, stands_first, stands_more}
use Rattle.replay_core.proofs.work.do_all.Goals as goal

pub loop-command-init : goal.loop-command-init
loop-command-init g c = record {
  prefix = [];
  are = sym c.into_iter-command-iterator.ensures.into_iter_gives.0;
  may_try = subst AllMayTry (sym c.into_iter-command-iterator.ensures.into_iter_gives.0) c.requires.attempts;
  done = λ at. stands_first c.args.options.now c.args.work.now (node_with (table_of c.args.kubelet) (g.D.Disk.content (disk_of c.args.kubelet)) (g.V.Driver.calls c.args.driver.now) (g.V.Driver.faults c.args.driver.now)) (g.K.Sink.written c.args.output.now);
  quiet = λ none. refl;
  ready = subst (λ (l : List Given). IsReady c.args.work.now (kubelet_count l)) (sym c.into_iter-command-iterator.ensures.into_iter_gives.0) c.requires.ready;
  going = c.requires.going;
  sound = record { legal = c.len-entries.ensures.legal; within = omega (arith, c.len-entries.ensures.length, c.len-entries.ensures.within) };
  faultless = refl;
  faultless_disk = refl;
}

pub loop-command-preserved : goal.loop-command-preserved
loop-command-preserved g c =
    let prefix : List Given = c.loop-command.invariant.prefix in
    let rest : List Given = c.next.new.self.rest.items in
    let did = ok_then c.do_next-next.result.1 _ _ c.in-Ok.is c.do_next-next.ensures.did in
    record {
      prefix = prefix ++ c.in-Some.command ∷ [];
      are = c.loop-command.invariant.are ∙ ap (λ (l : List Given). prefix ++ l) c.in-Some.ensures.steps.0 ∙ sym (append_assoc prefix (c.in-Some.command ∷ []) rest);
      may_try = (subst AllMayTry c.in-Some.ensures.steps.0 c.loop-command.invariant.may_try).1;
      done = λ at. stands_more c.histories_grow.ensures.job_state c.args.options.now at prefix c.in-Some.command c.args.work.now c.loop-command.work c.do_next-next.new.work
          (node_with (table_of c.args.kubelet) (g.D.Disk.content (disk_of c.args.kubelet)) (g.V.Driver.calls c.args.driver.now) (g.V.Driver.faults c.args.driver.now))
          (node_with (table_of c.loop-command.kubelet) (g.D.Disk.content (disk_of c.loop-command.kubelet)) (g.V.Driver.calls c.loop-command.driver) (g.V.Driver.faults c.loop-command.driver))
          (node_with (table_of c.do_next-next.result.0) (g.D.Disk.content (disk_of c.do_next-next.result.0)) (g.V.Driver.calls c.do_next-next.new.driver) (g.V.Driver.faults c.do_next-next.new.driver))
          (g.K.Sink.written c.args.output.now) (g.K.Sink.written c.loop-command.output) (g.K.Sink.written c.do_next-next.new.output) (c.loop-command.invariant.done at) did c.do_next-next.ensures.sound;
      quiet = λ none.
          let parts = none_among (prefix ++ c.in-Some.command ∷ []) prefix c.in-Some.command [] refl none in
          c.do_next-next.ensures.quiet parts.1 ∙ c.loop-command.invariant.quiet parts.0;
      ready = ready_more c.histories_grow.ensures.job_state c.args.options.now c.in-Some.command rest c.loop-command.work c.do_next-next.new.work
          (node_with (table_of c.loop-command.kubelet) (g.D.Disk.content (disk_of c.loop-command.kubelet)) (g.V.Driver.calls c.loop-command.driver) (g.V.Driver.faults c.loop-command.driver))
          (node_with (table_of c.do_next-next.result.0) (g.D.Disk.content (disk_of c.do_next-next.result.0)) (g.V.Driver.calls c.do_next-next.new.driver) (g.V.Driver.faults c.do_next-next.new.driver))
          (g.K.Sink.written c.loop-command.output) (g.K.Sink.written c.do_next-next.new.output)
          (subst (λ (l : List Given). IsReady c.loop-command.work (kubelet_count l)) c.in-Some.ensures.steps.0 c.loop-command.invariant.ready) did c.do_next-next.ensures.sound;
      going = ok_then c.do_next-next.result.1 _ _ c.in-Ok.is c.do_next-next.ensures.going;
      sound = c.do_next-next.ensures.sound;
      faultless = ok_then c.do_next-next.result.1 _ _ c.in-Ok.is c.do_next-next.ensures.ok_faultless ∙ c.loop-command.invariant.faultless;
      faultless_disk = ok_then c.do_next-next.result.1 _ _ c.in-Ok.is c.do_next-next.ensures.ok_faultless_disk ∙ c.loop-command.invariant.faultless_disk;
    }

pub do_next-next-requires-clause-ready : goal.do_next-next-requires-clause-ready
do_next-next-requires-clause-ready g c κs within =
    ready_first c.loop-command.work c.in-Some.command c.next.new.self.rest.items
    (subst (λ (l : List Given). IsReady c.loop-command.work (kubelet_count l)) c.in-Some.ensures.steps.0 c.loop-command.invariant.ready)

pub returns-in-Err-clause-stops : goal.returns-in-Err-clause-stops
returns-in-Err-clause-stops g c = λ at. record {
  prefix = c.loop-command.invariant.prefix;
  command = c.in-Some.command;
  back = c.next.new.self.rest.items;
  are = c.loop-command.invariant.are ∙ ap (λ (l : List Given). c.loop-command.invariant.prefix ++ l) c.in-Some.ensures.steps.0;
  work = c.loop-command.work;
  node = node_with (table_of c.loop-command.kubelet) (g.D.Disk.content (disk_of c.loop-command.kubelet)) (g.V.Driver.calls c.loop-command.driver) (g.V.Driver.faults c.loop-command.driver);
  between = g.K.Sink.written c.loop-command.output;
  done = c.loop-command.invariant.done at;
  stops = err_then c.do_next-next.result.1 c.in-Err.status _ c.in-Err.is c.do_next-next.ensures.stops;
}

pub returns-in-Err-clause-quiet : goal.returns-in-Err-clause-quiet
returns-in-Err-clause-quiet g c = λ none.
    let parts = none_among c.args.commands.items c.loop-command.invariant.prefix c.in-Some.command c.next.new.self.rest.items
    (c.loop-command.invariant.are ∙ ap (λ (l : List Given). c.loop-command.invariant.prefix ++ l) c.in-Some.ensures.steps.0) none in
    c.do_next-next.ensures.quiet parts.1 ∙ c.loop-command.invariant.quiet parts.0
