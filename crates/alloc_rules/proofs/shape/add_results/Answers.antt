use Rattle.std.proofs.Common.{◌∙◌, sym}
use Rattle.request_rows.specs.Wanted.{input_of}
use Rattle.request_rules.specs.Ways.{asked_at}
use Rattle.alloc_rules.proofs.Shaping.{until_added}
use Rattle.alloc_rules.proofs.shape.add_results.Goals as goal

pub loop-found-preserved : goal.loop-found-preserved
loop-found-preserved c =
    until_added (input_of c.args.rows.now) (asked_at (input_of c.args.rows.now) c.args.row) c.args.claim.now c.args.view.now.devices c.args.dues.now.items c.loop-found.dues.items c.add_result.new.dues.items c.args.results.now c.loop-found.found-index c.found-item.result
    c.loop-found-test.true c.found-item.is (sym c.if-not-branch.false ∙ c.in_ok-add_result.ensures.found) (c.in_ok-add_result.ensures.dues c.if-not-branch.false) c.loop-found.invariant
