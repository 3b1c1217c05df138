use Rattle.std.proofs.Common.{drop, take}
use Rattle.alloc_rules.proofs.SoFar.{HeldSoFar}
use Rattle.alloc_rules.proofs.holding.held.Given as goal

abbrev pub invariant-loop-due : goal.invariant-loop-due
invariant-loop-due l = HeldSoFar l.fn.holders l.own l.dues (take l.due-index l.dues) (drop l.due-index l.dues)
