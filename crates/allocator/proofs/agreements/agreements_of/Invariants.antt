use Rattle.std.proofs.Common.{[], take}
use Rattle.request_rules.specs.Input.{SearchInput}
use Rattle.request_rules.specs.Asked.{rules_from}
use Rattle.allocator.specs.Agreeing.{AreAgreed}
use Rattle.allocator.proofs.agreements.agreements_of.Given as goal

abbrev pub invariant-loop-claim : goal.invariant-loop-claim
invariant-loop-claim l = (v : SearchInput) → AreAgreed v [] (rules_from 0 (take l.claim l.claims)) l.agreements.items
