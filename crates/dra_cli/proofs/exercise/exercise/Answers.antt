use Rattle.dra_cli.proofs.Printing.{all_printed, short_printed}
use Rattle.dra_cli.proofs.exercise.exercise.Goals as goal

pub returns-in-Ok-write_all-clause-prints : goal.returns-in-Ok-write_all-clause-prints
returns-in-Ok-write_all-clause-prints g c =
    all_printed c.args.from c.args.pods c.in-Ok.text.items _ _ _ _ c.in-Ok.ensures.ok c.deref.ensures.value c.last_line.ensures c.in-Ok-write_all.ensures.bytes

pub returns-in-Ok-clause-prints : goal.returns-in-Ok-clause-prints
returns-in-Ok-clause-prints g c =
    short_printed c.args.from c.args.pods c.in-Ok.text.items _ _ _ _ c.in-Err-write_all.error _ c.in-Ok.ensures.ok c.deref.ensures.value c.last_line.ensures c.in-Err-write_all.ensures.prefix c.output_status.ensures
