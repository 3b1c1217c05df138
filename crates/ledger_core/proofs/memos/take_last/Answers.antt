use Rattle.std.proofs.Common.{List, Option, ◌++◌, subst, sym}
use Rattle.std.specs.Option.{option_to_list}
use Rattle.node_memo.specs.Memo.{NodesFields}
use Rattle.ledger_core.specs.Remembered.{AreTrueOf, IsTrueOf}
use Rattle.ledger_core.proofs.Remembering.{each_before, last_of_each, nothing_known}
use Rattle.ledger_core.proofs.memos.take_last.Goals as goal

pub returns-in-Some-clause-known : goal.returns-in-Some-clause-known
returns-in-Some-clause-known c = λ h are.
    last_of_each (IsTrueOf h) c.pop.new.self.items c.in-Some.memo
    (subst (λ (o : Option (List NodesFields)). AreTrueOf h (c.pop.new.self.items ++ option_to_list o)) c.in-Some.is (subst (λ (ms : List (List NodesFields)). AreTrueOf h ms) c.pop.ensures.items are))

pub returns-in-Some-clause-rest : goal.returns-in-Some-clause-rest
returns-in-Some-clause-rest c = λ h are. each_before (IsTrueOf h) _ _ (subst (λ (ms : List (List NodesFields)). AreTrueOf h ms) c.pop.ensures.items are)

pub returns-in-None-clause-known : goal.returns-in-None-clause-known
returns-in-None-clause-known c = λ h are. subst (IsTrueOf h) (sym c.new.ensures) (nothing_known h)

pub returns-in-None-clause-rest : goal.returns-in-None-clause-rest
returns-in-None-clause-rest c = λ h are. each_before (IsTrueOf h) _ _ (subst (λ (ms : List (List NodesFields)). AreTrueOf h ms) c.pop.ensures.items are)
