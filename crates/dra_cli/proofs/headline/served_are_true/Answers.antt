use Rattle.dra_cli.proofs.Served.{full_true, served_true}
use Rattle.dra_cli.proofs.headline.served_are_true.Goals as goal

pub returns-clause-served : goal.returns-clause-served
returns-clause-served c = served_true (record {
  grants = c.grants_are_allocations.ensures;
  verdicts = c.verdicts_are_true.ensures;
  steps = c.legal_steps.ensures.step;
  adoptions = c.adoptions_are_allocations.ensures;
  denials = c.denials_change_nothing.ensures.due;
  holders = c.one_holder.ensures.always;
  limits = c.objects_keep_limits.ensures.always;
  users = c.users_are_busy.ensures.always;
  uses = c.pods_use_claims.ensures.always;
})

pub returns-clause-full : goal.returns-clause-full
returns-clause-full c = full_true (record {
  grants = c.grants_are_allocations.ensures;
  verdicts = c.verdicts_are_true.ensures;
  steps = c.legal_steps.ensures.step;
  adoptions = c.adoptions_are_allocations.ensures;
  denials = c.denials_change_nothing.ensures.due;
  holders = c.one_holder.ensures.always;
  limits = c.objects_keep_limits.ensures.always;
  users = c.users_are_busy.ensures.always;
  uses = c.pods_use_claims.ensures.always;
})
