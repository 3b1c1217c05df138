use Rattle.std.proofs.Common.{append_assoc}
use Rattle.journal_text.specs.Journal.{summary_by}
use Rattle.journal_text.proofs.totals.summary.Goals as goal

pub returns : goal.returns
unfolding summary_by
returns c =
    let told = simp (c.granted_count-granted.ensures, c.bound_count-bound.ensures) at c.in_ok-text.ensures.ok in
    simp append_assoc (rw c.into_bytes.ensures.value told)
