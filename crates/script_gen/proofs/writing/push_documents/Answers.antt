use Rattle.script_gen.proofs.Joined.{lines_joined}
use Rattle.script_gen.proofs.writing.push_documents.Goals as goal

pub returns-clause-text : goal.returns-clause-text
returns-clause-text c =
    lines_joined _ _ _ _ _ _ _ _ _ (simp c.draw.ensures.drawn at c.in_ok-push_claim.ensures) c.in_ok-push_pod.ensures c.in_ok-push_schedule.ensures
    (simp (c.draw.ensures.number) at c.in_ok-push_released.ensures.text)
