use Rattle.std.proofs.Common.{◌∙◌, ap, refl, sym, subst, Some}
use Rattle.script_commands.specs.Commands.{commands_of as asked_of}
use Rattle.script_gen.specs.Script.{script_of as generated}
use Rattle.replay_core.specs.Script.{Clean, script_of}
use Rattle.dra_cli.proofs.Counting.{Laws}
use Rattle.dra_cli.proofs.Ended.{Came, only_memory}
use Rattle.dra_cli.proofs.Printing.{came_so}
use Rattle.dra_cli.proofs.Script.{IsScript}
use Rattle.dra_cli.specs.Exercise.{IsText}
use Rattle.dra_cli.specs.Memory.{kept_of}
use Rattle.dra_cli.proofs.exercise.replayed.Goals as goal

pub returns-in-Done-clause-ok : goal.returns-in-Done-clause-ok
returns-in-Done-clause-ok g c =
    let laws : Laws = record { short = c.single_jobs_are_short.ensures; run = c.single_commands_are_undisturbed.ensures.run; part = c.single_commands_are_undisturbed.ensures.part; prefix = c.legal_steps.ensures.prefix } in
    let script : IsScript (script_of 32 (generated c.args.from c.args.pods)) (asked_of 32 c.args.from c.args.pods) Clean =
    record { commands = c.scripts_are_clean.ensures.commands 32 c.args.from c.args.pods c.requires; ends = c.scripts_are_clean.ensures.ending 32 c.args.from c.args.pods c.requires } in
    subst (λ bytes. IsText c.args.from c.args.pods bytes) (sym c.into_bytes.ensures)
    (subst (Came c.args.from c.args.pods (kept_of c.replay-status.new.output)) c.in-Done.is
    (came_so laws c.line_is_one_line.ensures c.args.from c.args.pods _ _ _ _ _ (kept_of c.replay-status.new.output) _ _ _ _ _ _ _ c.requires script c.in-Ok.ensures (ap Some (c.new-input.ensures ∙ c.in-Ok-script.ensures)) (ap Some c.new-output.ensures) refl c.replay-status.ensures.ends c.replay-status.ensures.read c.replay-status.ensures.write c.replay-status.ensures.disk))

pub returns : goal.returns
returns g c =
    let laws : Laws = record { short = c.single_jobs_are_short.ensures; run = c.single_commands_are_undisturbed.ensures.run; part = c.single_commands_are_undisturbed.ensures.part; prefix = c.legal_steps.ensures.prefix } in
    let script : IsScript (script_of 32 (generated c.args.from c.args.pods)) (asked_of 32 c.args.from c.args.pods) Clean =
    record { commands = c.scripts_are_clean.ensures.commands 32 c.args.from c.args.pods c.requires; ends = c.scripts_are_clean.ensures.ending 32 c.args.from c.args.pods c.requires } in
    record {
      ok = tt;
      err = only_memory c.args.from c.args.pods (kept_of c.replay-status.new.output) c.replay-status.result.1
          (came_so laws c.line_is_one_line.ensures c.args.from c.args.pods _ _ _ _ _ (kept_of c.replay-status.new.output) _ _ _ _ _ _ _ c.requires script c.in-Ok.ensures (ap Some (c.new-input.ensures ∙ c.in-Ok-script.ensures)) (ap Some c.new-output.ensures) refl c.replay-status.ensures.ends c.replay-status.ensures.read c.replay-status.ensures.write c.replay-status.ensures.disk)
          c.in_default-status.not-Done;
    }
