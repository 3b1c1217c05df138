use Rattle.std.proofs.Common.{◌∙◌, refl, sym}
use Rattle.request_rows.specs.Wanted.{input_of}
use Rattle.alloc_rules.proofs.Picking.{until_next, until_stop, until_ways, wish}
use Rattle.alloc_rules.proofs.naming.pick_ways.Goals as goal

pub returns-then-not-branch-clause-picks : goal.returns-then-not-branch-clause-picks
returns-then-not-branch-clause-picks c =
    let ways =
    until_ways (input_of c.args.rows.now) c.args.results.now c.args.named.now c.loop-request.named c.args.place c.args.key.now c.args.requests.now c.loop-request.request-index c.request-item.result c.loop-request-test.true c.request-item.is c.loop-request.invariant in
    until_stop (input_of c.args.rows.now) c.args.results.now c.args.named.now c.loop-request.named c.args.place c.args.key.now c.args.requests.now c.loop-request.request-index c.request-item.result c.loop-request-test.true c.request-item.is
    (sym c.if-not-branch.true ∙ c.in_ok-pick_way.ensures.picks (wish c.args.place c.args.key.now c.request-item.result) refl ways) c.loop-request.invariant

pub loop-request-preserved : goal.loop-request-preserved
loop-request-preserved c =
    let ways =
    until_ways (input_of c.args.rows.now) c.args.results.now c.args.named.now c.loop-request.named c.args.place c.args.key.now c.args.requests.now c.loop-request.request-index c.request-item.result c.loop-request-test.true c.request-item.is c.loop-request.invariant in
    until_next (input_of c.args.rows.now) c.args.results.now c.args.named.now c.loop-request.named c.pick_way.new.named c.args.place c.args.key.now c.args.requests.now c.loop-request.request-index c.request-item.result c.loop-request-test.true c.request-item.is
    (sym c.if-not-branch.false ∙ c.in_ok-pick_way.ensures.picks (wish c.args.place c.args.key.now c.request-item.result) refl ways) c.in_ok-pick_way.ensures.next
    (c.in_ok-pick_way.ensures.named (wish c.args.place c.args.key.now c.request-item.result) refl ways c.if-not-branch.false) c.loop-request.invariant
