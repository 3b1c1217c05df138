use Rattle.std.proofs.Common.{sym, subst}
use Rattle.constraints.specs.Keeping.{AgreementFields, IsOf}
use Rattle.constraints.proofs.Taken.{leave_less}
use Rattle.constraints.proofs.agreement.Agreement.leave.Goals as goal

pub returns : goal.returns
returns c k taken of =
    subst (λ (w : AgreementFields). IsOf k taken w) (sym c.remove.ensures) (leave_less k taken c.args.self.now c.args.picked.now of)
