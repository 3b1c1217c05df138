use Rattle.std.proofs.Common.{drop, take}
use Rattle.request_rows.specs.Wanted.{input_of}
use Rattle.alloc_rules.proofs.Agreed.{AgreedSoFar}
use Rattle.alloc_rules.proofs.agreeing.agree.Given as goal

abbrev pub invariant-loop-due : goal.invariant-loop-due
invariant-loop-due l = AgreedSoFar (input_of l.rows) l.fn.constraint l.agreement l.dues (take l.due-index l.dues) (drop l.due-index l.dues)
