use Rattle.std.proofs.Common.{ℕ, List, ◌∙◌, ap, arith, cond, subst}
use Rattle.allocations.specs.Lacking.{Dates, freed_for}
use Rattle.node_memo.specs.Dated.{IsRaised, names}
use Rattle.node_memo.proofs.PoolDates.{index_put, kept_put}
use Rattle.node_memo.proofs.dates.Dates.set_freed.Goals as goal

pub invariant_of-self-2 : goal.invariant_of-self-2
invariant_of-self-2 c =
    let is = c.max-self-inside.ensures in
    kept_put c.self.inside.freed c.insert.new.self c.args.pool.now c.in_ok-name.name c.number_of-number.result c.args.index c.self.inside.latest c.max-self-inside.result c.self.inside.numbered c.in_ok-numbered.numbered
    c.in_ok-name.ensures c.in_ok-insert.ensures.ok (omega (arith, is)) (omega (arith, is)) c.number_of-number.ensures (subst (λ (ns : List ℕ). IsRaised ns c.number_of-number.result c.args.index c.in_ok-numbered.numbered) (c.as_slice.ensures ∙ c.deref.ensures) c.in_ok-numbered.ensures) c.self.invariant

pub returns-clause-freed : goal.returns-clause-freed
returns-clause-freed c = λ p.
    index_put c.self.inside.freed c.insert.new.self c.args.pool.now c.in_ok-name.name p c.args.index c.in_ok-name.ensures c.in_ok-insert.ensures.ok
    ∙ ap (λ (d : Dates). cond (names p c.args.pool.now) c.args.index (freed_for d p)) c.self.view_is
