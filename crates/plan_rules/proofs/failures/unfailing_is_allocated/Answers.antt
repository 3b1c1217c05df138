use Rattle.plan_rules.proofs.failures.unfailing_is_allocated.Goals as goal

pub returns-clause-plan : goal.returns-clause-plan
returns-clause-plan c = λ s pod plan keep. (
  λ e.
      let k = c.checked_is_known.ensures s pod plan e in
      let a = c.checked_is_allocation.ensures.plan s pod plan k.0 k.1.there e in
      record { state = k.0; fits = k.1; choice = a.0; allocation = a.1 },
  λ a. c.allocations_pass.ensures.plan s pod plan a.state a.choice keep a.fits a.allocation,
)

pub returns-clause-status : goal.returns-clause-status
returns-clause-status c = λ s claim status k keep there. (
  λ e. let a = c.checked_is_allocation.ensures.status s claim status k there e in record { choice = a.0; allocation = a.1 },
  λ a. c.allocations_pass.ensures.status s claim status k a.choice keep there a.allocation,
)
