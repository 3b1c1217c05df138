use Rattle.std.proofs.Common.{Some, None, ap, ap₂, ◌∙◌}
use Rattle.std.specs.Option.{option_copied}
use Rattle.request_rules.specs.Draws.{counter_for}
use Rattle.counter_sets.specs.Totals.{or_empty, pool_in}
use Rattle.counter_sets.proofs.Shortages.{drawn_of, has_of, short_of}
use Rattle.counter_sets.proofs.shared.SharedTotals.first_short.Goals as goal

pub returns-in-None-clause-counter : goal.returns-in-None-clause-counter
returns-in-None-clause-counter c =
    short_of c.args.self.now c.args.device.now (or_empty (option_copied c.pool_of-sets.result)) (ap or_empty c.pool_of-sets.ensures ∙ ap (λ s. pool_in c.args.self.now s.driver s.pool.name) c.slice.ensures) None c.in-None.ensures

pub returns-in-Some-clause-counter : goal.returns-in-Some-clause-counter
returns-in-Some-clause-counter c =
    ap₂ (λ s k. Some (counter_for c.args.device.now.slice s k)) c.missing_from.ensures.set c.missing_from.ensures.counter
    ∙ short_of c.args.self.now c.args.device.now (or_empty (option_copied c.pool_of-sets.result)) (ap or_empty c.pool_of-sets.ensures ∙ ap (λ s. pool_in c.args.self.now s.driver s.pool.name) c.slice.ensures) (Some (c.in-Some.names.0.now, c.in-Some.names.1.now)) c.in-Some.ensures

pub returns-in-Some-clause-drawn : goal.returns-in-Some-clause-drawn
returns-in-Some-clause-drawn c =
    drawn_of c.args.self.now c.args.device.now (or_empty (option_copied c.pool_of-sets.result)) (ap or_empty c.pool_of-sets.ensures ∙ ap (λ s. pool_in c.args.self.now s.driver s.pool.name) c.slice.ensures) c.in-Some.names.0.now c.in-Some.names.1.now
    c.missing_from.result.set.now c.missing_from.result.counter.now c.missing_from.ensures.set c.missing_from.ensures.counter c.missing_from.result.drawn c.missing_from.ensures.drawn

pub returns-in-Some-clause-value : goal.returns-in-Some-clause-value
returns-in-Some-clause-value c =
    has_of c.args.self.now c.args.device.now (or_empty (option_copied c.pool_of-sets.result)) (ap or_empty c.pool_of-sets.ensures ∙ ap (λ s. pool_in c.args.self.now s.driver s.pool.name) c.slice.ensures) c.in-Some.names.0.now c.in-Some.names.1.now
    c.missing_from.result.set.now c.missing_from.result.counter.now c.missing_from.ensures.set c.missing_from.ensures.counter c.missing_from.result.value c.missing_from.ensures.value
