use Rattle.std.proofs.Common.{◌≡◌, ◌++◌, take, drop}
use Rattle.cluster.specs.Tables.{changed_at}
use Rattle.cluster.proofs.users.Users.set.Given as goal

abbrev pub invariant-loop-index : goal.invariant-loop-index
invariant-loop-index l = record {
  same : l.self-inside.items.items ≡ l.fn.self;
  rest : take l.index l.self-inside.items.items ++ changed_at l.pod (λ _. l.how) (drop l.index l.self-inside.items.items) ≡ changed_at l.pod (λ _. l.how) l.fn.self;
}
