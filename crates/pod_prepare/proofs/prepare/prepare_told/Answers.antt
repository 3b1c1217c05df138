use Rattle.std.proofs.Common.{◌≡◌, Bool, false, subst}
use Rattle.prepare_core.specs.Prepare.{prepare_run}
use Rattle.prepare_core.specs.Runs.{Follows}
use Rattle.prepare_core.specs.Words.{half_in, has_ended, node_in, rows_in}
use Rattle.prepare_core.specs.declared.error.KubeletError.TheVariants as errors
use Rattle.pod_prepare.specs.Texts.{prepared_text}
use Rattle.prepare_core.specs.declared.driver.CallKind.TheVariants as kinds
use Rattle.pod_prepare.proofs.Asking.{more_at_most, never_falls}
use Rattle.pod_prepare.proofs.Failing.{prepare_few}
use Rattle.pod_prepare.proofs.Moments.{tells_still}
use Rattle.pod_prepare.proofs.Turning.{if_ok, on_ok, turned}
use Rattle.pod_prepare.proofs.prepare.prepare_told.Goals as goal

pub returns-clause-done : goal.returns-clause-done
returns-clause-done g c =
    let k = c.args.kubelet in
    let follows = subst (λ (b : Bool). Follows (prepare_run (half_in k) b (node_in k) (rows_in k) c.args.pod.now c.args.told.now) c.prepare-kubelet.result.1 (rows_in c.prepare-kubelet.result.0) (g.V.Driver.calls c.args.driver.now) (g.V.Driver.calls c.prepare-kubelet.new.driver)) c.requires.going c.prepare-kubelet.ensures.follows in
    if_ok c.prepared.result _ _ (λ l line. turned c.args.job (prepared_text c.args.pod.now c.args.claim.now) (prepare_run (half_in k) false (node_in k) (rows_in k) c.args.pod.now c.args.told.now) c.prepare-kubelet.result.1 (rows_in c.prepare-kubelet.result.0) l.text.items l.goes
    (g.V.Driver.calls c.args.driver.now) (g.V.Driver.calls c.prepare-kubelet.new.driver) (g.V.Driver.faults c.args.driver.now) (g.V.Driver.faults c.prepare-kubelet.new.driver)
    (prepare_few (half_in k) false (node_in k) (rows_in k) c.args.pod.now c.args.told.now) follows c.prepare-kubelet.ensures.driver_fault c.prepare-kubelet.ensures.no_driver_fault line) c.prepared.ensures.line

pub returns-clause-asked : goal.returns-clause-asked
returns-clause-asked g c = more_at_most _ kinds.Prepare c.args.told.now _ _ _ _ c.prepare-kubelet.ensures.asked (never_falls c.prepare-kubelet.result.1 _ _ c.prepare-kubelet.ensures.driver_fault c.prepare-kubelet.ensures.no_driver_fault)

pub returns-clause-tells : goal.returns-clause-tells
returns-clause-tells g c = tells_still _ _ _ (c.prepare-kubelet.ensures.any_moment c.requires.going)

pub returns-clause-stays : goal.returns-clause-stays
returns-clause-stays g c = on_ok c.prepared.result _ _ (λ l line. (c.prepare-kubelet.ensures.going c.requires.going (λ e. line.told errors.DiskFault e tt), c.prepare-kubelet.ensures.half, c.prepare-kubelet.ensures.node)) c.prepared.ensures.line

pub returns-clause-no_fault : goal.returns-clause-no_fault
returns-clause-no_fault g c = λ not. c.prepare-kubelet.ensures.no_fault (λ e. not (c.prepared.ensures.disk e))
