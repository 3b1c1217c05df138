use Rattle.dra_cli.proofs.Truths.{true_part, true_run}
use Rattle.dra_cli.proofs.headline.runs_are_true.Goals as goal

pub returns-clause-run : goal.returns-clause-run
returns-clause-run c = true_run (record {
  history = record {
    grants = c.grants_are_allocations.ensures;
    verdicts = c.verdicts_are_true.ensures;
    steps = c.legal_steps.ensures.step;
    adoptions = c.adoptions_are_allocations.ensures;
    denials = c.denials_change_nothing.ensures.due;
    holders = c.one_holder.ensures.always;
    limits = c.objects_keep_limits.ensures.always;
    users = c.users_are_busy.ensures.always;
    uses = c.pods_use_claims.ensures.always;
  };
  budgets = c.runs_search_within.ensures.verdicts;
  part_budgets = c.runs_search_within.ensures.part_verdicts;
  prefix = c.legal_steps.ensures.prefix;
  complete = c.runs_are_complete.ensures;
  undisturbed = c.single_commands_are_undisturbed.ensures.part;
})

pub returns-clause-part : goal.returns-clause-part
returns-clause-part c = true_part (record {
  history = record {
    grants = c.grants_are_allocations.ensures;
    verdicts = c.verdicts_are_true.ensures;
    steps = c.legal_steps.ensures.step;
    adoptions = c.adoptions_are_allocations.ensures;
    denials = c.denials_change_nothing.ensures.due;
    holders = c.one_holder.ensures.always;
    limits = c.objects_keep_limits.ensures.always;
    users = c.users_are_busy.ensures.always;
    uses = c.pods_use_claims.ensures.always;
  };
  budgets = c.runs_search_within.ensures.verdicts;
  part_budgets = c.runs_search_within.ensures.part_verdicts;
  prefix = c.legal_steps.ensures.prefix;
  complete = c.runs_are_complete.ensures;
  undisturbed = c.single_commands_are_undisturbed.ensures.part;
})
