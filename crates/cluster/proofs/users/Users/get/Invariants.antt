use Rattle.std.proofs.Common.{◌≡◌, drop}
use Rattle.pool_view.specs.Names.{at_key}
use Rattle.cluster.proofs.users.Users.get.Given as goal

abbrev pub invariant-loop-user : goal.invariant-loop-user
invariant-loop-user l = record { rest : at_key (drop l.user-index l.user-items) l.pod ≡ at_key l.self l.pod; all : l.user-items ≡ l.self }
