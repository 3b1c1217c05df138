use Rattle.std.proofs.Common.{◌≡◌}
use Rattle.std.specs.List.{list_any}
use Rattle.std.specs.Prelude.{is_some}
use Rattle.pool_view.specs.Names.{at_key}
use Rattle.cluster.specs.Denied.{is_user}
use Rattle.cluster.proofs.state.State.is_user.Given as goal

abbrev pub invariant-loop-claim : goal.invariant-loop-claim
invariant-loop-claim l = list_any (λ e. is_some (at_key e.1.users l.pod)) l.claim-iterator ≡ is_user l.self l.pod
