use Rattle.std.proofs.Common.{◌≡◌, drop, nat_le}
use Rattle.std.specs.List.{list_all}
use Rattle.allocations.specs.Lacking.{freed_for}
use Rattle.node_memo.proofs.nodes.are_since.Given as goal

abbrev pub invariant-loop-position : goal.invariant-loop-position
invariant-loop-position l = list_all (λ p. nat_le (freed_for l.dates p) l.index) (drop l.position l.pools) ≡ list_all (λ p. nat_le (freed_for l.dates p) l.index) l.pools
