use Rattle.std.proofs.Common.{[], ◌∷◌, ◌++◌, sym, subst}
use Rattle.constraints.specs.Keeping.{AgreementFields, IsOf}
use Rattle.constraints.proofs.Taken.{take_more}
use Rattle.constraints.proofs.agreement.Agreement.take.Goals as goal

pub returns : goal.returns
returns c k taken of e =
    subst (λ (w : AgreementFields). IsOf k (taken ++ c.args.picked.now ∷ []) w) (sym c.add.ensures) (take_more k taken c.args.self.now c.args.picked.now of e)
