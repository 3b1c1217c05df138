use Rattle.std.proofs.Common.{◌≡◌, ◌++◌, length}
use Rattle.std.specs.BTreeMap.{insert_entry}
use Rattle.pool_view.specs.Names.{key_cmp}
use Rattle.cluster.proofs.users.Users.with.Given as goal

abbrev pub invariant-loop-user : goal.invariant-loop-user
invariant-loop-user l = l.items.items ++ insert_entry key_cmp l.rest l.pod l.how ≡ insert_entry key_cmp l.self l.pod l.how

abbrev pub decreases-loop-user : goal.decreases-loop-user
decreases-loop-user l = length l.rest
