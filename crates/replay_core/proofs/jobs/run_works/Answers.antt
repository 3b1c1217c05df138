use Rattle.std.proofs.Common.{Result, Ok, Err, subst}
use Rattle.std.specs.Prelude.{OnOk}
use Rattle.sched_job.specs.Ledgers.{History}
use Rattle.sched_job.specs.Together.{RanTogether}
use Rattle.replay_core.proofs.jobs.run_works.Goals as goal

on_ok : {A E : Type 0} (r : Result A E) (P : Type 0) → P → OnOk r P
on_ok (Ok a) P p = p
on_ok (Err e) P p = tt

pub returns-clause-ran : goal.returns-clause-ran
returns-clause-ran g c =
    on_ok c.run_together-back.result.1 (RanTogether c.args.options.now.budget c.args.works.items c.args.ledger.now c.run_together-back.result.0)
    (subst (λ (h : History). RanTogether c.args.options.now.budget c.args.works.items h c.run_together-back.result.0) c.replace-taken.ensures.value c.run_together-back.ensures.ran)
