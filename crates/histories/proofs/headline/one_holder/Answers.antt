use Rattle.histories.proofs.Holders.{once_at, once_now}
use Rattle.histories.proofs.headline.one_holder.Goals as goal

pub returns-clause-now : goal.returns-clause-now
returns-clause-now c =
    let kept = c.one_holder_is_kept.ensures in
    once_now kept.empty kept.applied kept.deleted kept.reserved kept.written kept.bound kept.unreserved kept.released kept.adopted c.checked_is_allocation.ensures.status

pub returns-clause-always : goal.returns-clause-always
returns-clause-always c =
    let kept = c.one_holder_is_kept.ensures in
    once_at kept.empty kept.applied kept.deleted kept.reserved kept.written kept.bound kept.unreserved kept.released kept.adopted c.checked_is_allocation.ensures.status
