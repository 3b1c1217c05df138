use Rattle.std.proofs.Common.{◌≡◌, ◌+◌, drop, length, map, sum}
use Rattle.crew.proofs.room.count_all.Given as goal

abbrev pub invariant-loop-list : goal.invariant-loop-list
invariant-loop-list g l = l.count + sum (map (λ v. length v.items) (drop l.list-index l.lists)) ≡ sum (map (λ v. length v.items) l.lists)
