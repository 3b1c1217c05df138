use Rattle.std.proofs.Common.{◌≡◌, ◌++◌, take}
use Rattle.cluster.proofs.users.push_all.Given as goal

abbrev pub invariant-loop-user : goal.invariant-loop-user
invariant-loop-user l = l.items.items ≡ l.fn.items.items ++ take l.user-index l.users
