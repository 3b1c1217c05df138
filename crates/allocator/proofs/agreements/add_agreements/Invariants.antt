use Rattle.std.proofs.Common.{[], List, ◌++◌, map, take}
use Rattle.request_rules.specs.Input.{SearchInput}
use Rattle.request_rules.specs.Asked.{Rule}
use Rattle.allocator.specs.Agreeing.{AreAgreed}
use Rattle.allocator.proofs.agreements.add_agreements.Given as goal

abbrev pub invariant-loop-constraint : goal.invariant-loop-constraint
invariant-loop-constraint l = (v : SearchInput) (rs : List Rule) → AreAgreed v [] rs l.fn.agreements.items → AreAgreed v [] (rs ++ map (λ c. record { claim = l.claim; constraint = c }) (take l.constraint-index l.constraints)) l.agreements.items
