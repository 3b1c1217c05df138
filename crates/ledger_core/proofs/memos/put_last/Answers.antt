use Rattle.std.specs.Result.{is_ok}
use Rattle.ledger_core.specs.Remembered.{IsTrueOf}
use Rattle.ledger_core.proofs.Putting.{each_put}
use Rattle.ledger_core.proofs.memos.put_last.Goals as goal

pub returns : goal.returns
returns c = λ h are known. each_put (IsTrueOf h) _ _ _ (is_ok c.push-put.result) c.push-put.ensures.items are known
