use Rattle.std.proofs.Common.{refl}
use Rattle.script_gen.specs.Script.{cluster_documents}
use Rattle.script_gen.proofs.Joined.{class_step, line_step}
use Rattle.script_gen.proofs.writing.push_cluster.Goals as goal

pub loop-i-init : goal.loop-i-init
unfolding cluster_documents
loop-i-init c = refl

pub loop-i-preserved : goal.loop-i-preserved
loop-i-preserved c = line_step _ c.loop-i.i 4 _ _ _ _ c.loop-i-test.true c.in_ok-push_node.ensures c.loop-i.invariant

pub loop-i-2-init : goal.loop-i-2-init
loop-i-2-init c = class_step _ c.loop-i.i _ _ _ _ _ c.loop-i-test.false c.in_ok-push_class.ensures c.loop-i.invariant

pub loop-i-2-preserved : goal.loop-i-2-preserved
loop-i-2-preserved c = line_step _ c.loop-i-2.i 4 _ _ _ _ c.loop-i-2-test.true c.in_ok-push_slice.ensures c.loop-i-2.invariant
