use Rattle.std.proofs.Common.{◌∙◌, sym}
use Rattle.std.proofs.Math.Logic.{⊎_elim}
use Rattle.api_claim.specs.Requests.{subrequest_of}
use Rattle.api_claim.proofs.Zips.{first_ended, second_ended}
use Rattle.api_claim.proofs.joins.join_subrequests.Goals as goal

pub returns : goal.returns
returns c =
    ⊎_elim (λ h. first_ended subrequest_of _ _ _ _ c.loop-name.invariant (sym c.loop-name.name-iterator.a.rest.ok.0 ∙ h.1.0)) (λ h. second_ended subrequest_of _ _ _ _ c.loop-name.invariant (sym c.loop-name.name-iterator.b.rest.ok.0 ∙ h.1.0)) c.in-None.ensures.steps
