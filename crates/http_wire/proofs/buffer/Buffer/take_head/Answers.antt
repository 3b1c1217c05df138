use Rattle.std.proofs.Common.{ℕ, List, subst, take}
use Rattle.std.specs.Prelude.{Ok, Err}
use Rattle.http_wire.specs.Meanings.{SaysOf}
use Rattle.http_wire.specs.Steps.{TakesHead}
use Rattle.http_wire.proofs.Joining.{head_refused, head_taken, not_found}
use Rattle.http_wire.proofs.Known.{by_error}
use Rattle.http_wire.proofs.buffer.Buffer.take_head.Goals as goal

pub returns-in_err-scan-clause-takes : goal.returns-in_err-scan-clause-takes
returns-in_err-scan-clause-takes g c =
    by_error (TakesHead c.args.self.now c.find_head.new.self (g.S.Source.left c.args.from.now) (g.S.Source.left c.find_head.new.from)) c.from_residual.result c.in_err-scan.field-0.0 c.from_residual.ensures.1
    (not_found c.args.self.now c.find_head.new.self (g.S.Source.left c.args.from.now) (g.S.Source.left c.find_head.new.from) c.in_err-scan.field-0.0 c.in_err-scan.ensures.finds)

pub returns-in_err-head-clause-takes : goal.returns-in_err-head-clause-takes
returns-in_err-head-clause-takes g c =
    by_error (TakesHead c.args.self.now c.find_head.new.self (g.S.Source.left c.args.from.now) (g.S.Source.left c.find_head.new.from)) c.from_residual-in_err-head.result c.in_err-head.field-0.0 c.from_residual-in_err-head.ensures.1
    (head_refused c.args.self.now c.find_head.new.self (g.S.Source.left c.args.from.now) (g.S.Source.left c.find_head.new.from) c.in-Some.scan c.in_err-head.field-0.0 (rw c.in-Some.is at c.in_ok-scan.ensures.finds).0 (subst (λ (l : List ℕ). SaysOf (take c.in-Some.scan.count l) (Err c.in_err-head.field-0.0)) c.ahead.ensures c.in_err-head.ensures.says))

pub returns-clause-takes : goal.returns-clause-takes
returns-clause-takes g c =
    head_taken c.args.self.now c.find_head.new.self c.advance-2.new.self (g.S.Source.left c.args.from.now) (g.S.Source.left c.find_head.new.from) c.in-Some.scan c.in_ok-head.head (rw c.in-Some.is at c.in_ok-scan.ensures.finds).0 c.advance-2.ensures (subst (λ (l : List ℕ). SaysOf (take c.in-Some.scan.count l) (Ok c.in_ok-head.head)) c.ahead.ensures c.in_ok-head.ensures.says)
