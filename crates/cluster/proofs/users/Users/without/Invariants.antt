use Rattle.std.proofs.Common.{◌≡◌, ◌++◌, length}
use Rattle.cluster.specs.Freed.{without_user}
use Rattle.cluster.proofs.users.Users.without.Given as goal

abbrev pub invariant-loop-user : goal.invariant-loop-user
invariant-loop-user l = l.items.items ++ without_user l.pod l.rest ≡ without_user l.pod l.self

abbrev pub decreases-loop-user : goal.decreases-loop-user
decreases-loop-user l = length l.rest
