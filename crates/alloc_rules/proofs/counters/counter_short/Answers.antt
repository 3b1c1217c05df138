use Rattle.std.proofs.Common.{◌∙◌, sym}
use Rattle.request_rows.specs.Wanted.{input_of}
use Rattle.alloc_rules.proofs.Counting.{until_done, until_enough, until_none, until_short}
use Rattle.alloc_rules.proofs.Lists.{here}
use Rattle.alloc_rules.proofs.counters.counter_short.Goals as goal

pub loop-due-init : goal.loop-due-init
loop-due-init c = until_none (input_of c.args.rows.now) c.args.totals.now c.args.dues.now

pub short_for-requires : goal.short_for-requires
short_for-requires c = c.requires c.loop-due.due-index c.due-item.result (here c.args.dues.now c.loop-due.due-index c.due-item.result c.loop-due-test.true c.due-item.is)

pub returns-in-Some : goal.returns-in-Some
returns-in-Some c = λ w has.
    until_short (input_of c.args.rows.now) c.args.totals.now c.loop-due.totals c.args.dues.now c.loop-due.due-index c.due-item.result c.in-Some.found c.loop-due-test.true c.due-item.is
    (λ w ps j h at. sym c.in-Some.is ∙ c.in_ok-found.ensures.found w ps j h at) c.loop-due.invariant w has

pub loop-due-preserved : goal.loop-due-preserved
loop-due-preserved c =
    until_enough (input_of c.args.rows.now) c.args.totals.now c.loop-due.totals c.short_for.new.totals c.args.dues.now c.loop-due.due-index c.due-item.result c.loop-due-test.true c.due-item.is
    (λ w ps j h at. sym c.in_default.is ∙ c.in_ok-found.ensures.found w ps j h at) (λ w ps j h at. c.in_ok-found.ensures.same w ps j h at c.in_default.is) c.loop-due.invariant

pub returns : goal.returns
returns c = λ w has. until_done (input_of c.args.rows.now) c.args.totals.now c.loop-due.totals c.args.dues.now c.loop-due.due-index c.loop-due-test.false c.loop-due.invariant w has
