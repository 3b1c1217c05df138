use Rattle.std.proofs.Common.{◌≡◌, ◌∙◌, None, sym}
use Rattle.cluster.specs.History.{state_of}
use Rattle.plan_rules.specs.Failing.{failing}
use Rattle.ledger_core.proofs.Reserving.{may_reserve}
use Rattle.ledger_core.proofs.ledger.Ledger.reserve_idle.Goals as goal

pub take-requires-clause-reserved : goal.take-requires-clause-reserved
take-requires-clause-reserved g c =
    let pod = c.args.pod.now in
    let plan = c.args.plan.now in
    let before = c.args.self.now.entries in
    let none : failing (state_of before) pod plan ≡ None = sym c.in_ok-failure.ensures.first ∙ c.in-None.is in
    may_reserve c.uids_keep_claims.ensures c.checked_is_known.ensures c.checked_is_allocation.ensures.plan before pod plan c.failure.ensures.legal c.requires.plan c.requires.unrefused none
