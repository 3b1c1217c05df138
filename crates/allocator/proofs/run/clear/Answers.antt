use Rattle.std.proofs.Common.{◌∙◌}
use Rattle.allocator.proofs.Keeping.{shorter}
use Rattle.allocator.proofs.run.clear.Goals as goal

pub loop-run-smaller : goal.loop-run-smaller
loop-run-smaller c =
    shorter c.loop-run.run.positions.items c.leave.new.run.positions.items c.loop-run.run.positions.len c.is_empty.result c.is_empty.ensures c.loop-run-test.true c.loop-run.run.positions.ok.0 c.leave.ensures.positions

pub loop-run-preserved : goal.loop-run-preserved
loop-run-preserved c = record {
  kept = c.leave.ensures.kept;
  setting = λ held. c.leave.ensures.setting held ∙ c.loop-run.invariant.setting held;
}
