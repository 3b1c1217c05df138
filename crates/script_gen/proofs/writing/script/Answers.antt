use Rattle.std.proofs.Common.{refl, arith}
use Rattle.script_gen.specs.Script.{number_before, pod_documents}
use Rattle.script_gen.proofs.Joined.{lines_step, number_step, script_begins}
use Rattle.script_gen.proofs.writing.script.Goals as goal

pub loop-i-init : goal.loop-i-init
unfolding number_before
loop-i-init c = (simp (c.new-out.ensures.bytes, c.in_ok-push_cluster.ensures) (script_begins c.args.from c.args.pods _ (omega arith)), refl)

pub loop-i-preserved : goal.loop-i-preserved
loop-i-preserved c = (
  lines_step (λ i. pod_documents (number_before c.args.from i) i) c.loop-i.i c.args.pods _ _ _ c.loop-i-test.true
      (simp c.loop-i.invariant.1 at c.in_ok-push_documents.ensures.text) c.loop-i.invariant.0,
  number_step c.args.from c.loop-i.i _ (simp c.loop-i.invariant.1 at c.in_ok-push_documents.ensures.number),
)
