use Rattle.replay_core.proofs.Completing.{undisturbed_part, undisturbed_run}
use Rattle.replay_core.proofs.laws.single_commands_are_undisturbed.Goals as goal

pub returns-clause-run : goal.returns-clause-run
returns-clause-run c = undisturbed_run c.alone_is_undisturbed.ensures.alone c.alone_is_undisturbed.ensures.undisturbed

pub returns-clause-part : goal.returns-clause-part
returns-clause-part c = undisturbed_part c.alone_is_undisturbed.ensures.alone c.alone_is_undisturbed.ensures.undisturbed
