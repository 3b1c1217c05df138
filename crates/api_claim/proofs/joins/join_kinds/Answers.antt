use Rattle.std.proofs.Common.{◌∙◌, sym}
use Rattle.std.proofs.Math.Logic.{⊎_elim}
use Rattle.api_claim.specs.Requests.{kind_of}
use Rattle.api_claim.proofs.Zips.{first_ended, second_ended}
use Rattle.api_claim.proofs.joins.join_kinds.Goals as goal

pub returns : goal.returns
returns c =
    ⊎_elim (λ h. first_ended kind_of _ _ _ _ c.loop-asked.invariant (sym c.loop-asked.asked-iterator.a.rest.ok.0 ∙ h.1.0)) (λ h. second_ended kind_of _ _ _ _ c.loop-asked.invariant (sym c.loop-asked.asked-iterator.b.rest.ok.0 ∙ h.1.0)) c.in-None.ensures.steps
