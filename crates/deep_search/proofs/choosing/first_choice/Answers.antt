use Rattle.deep_search.proofs.Turning.{none-here, none-behind, first-step, first-whole}
use Rattle.deep_search.proofs.choosing.first_choice.Goals as goal

pub returns-then-count-eq0-clause-none : goal.returns-then-count-eq0-clause-none
returns-then-count-eq0-clause-none c =
    c.loop-count.invariant.none (none-here c.args.options.now c.loop-count.count-index c.loop-count-test.true c.if-count-eq0.true)

pub loop-count-preserved : goal.loop-count-preserved
loop-count-preserved c =
    let i = c.loop-count.invariant in
    record {
      none = λ e. i.none (none-behind c.args.options.now c.loop-count.count-index c.loop-count-test.true e);
      more = first-step c.args.options.now c.loop-count.choice.items c.push.new.self.items c.loop-count.count-index c.loop-count-test.true c.if-count-eq0.false c.in_ok-push.ensures.items i.more;
    }

pub returns-clause-some : goal.returns-clause-some
returns-clause-some c = first-whole c.args.options.now c.loop-count.choice.items c.loop-count.count-index c.loop-count-test.false c.loop-count.invariant.more
