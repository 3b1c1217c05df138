use Rattle.std.proofs.Common.{◌≡◌, drop, length, take}
use Rattle.allocator.specs.Agreeing.{EachLeft}
use Rattle.allocator.proofs.agreements.leave_all.Given as goal

abbrev pub invariant-loop-at : goal.invariant-loop-at
invariant-loop-at l = record {
  many : length l.agreements.items ≡ length l.fn.agreements.items;
  same : drop l.at l.agreements.items ≡ drop l.at l.fn.agreements.items;
  done : EachLeft l.claim l.picked (take l.at l.fn.agreements.items) (take l.at l.agreements.items);
}
