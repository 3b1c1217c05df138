use Rattle.std.proofs.Common.{◌≡◌, Bool, false, subst}
use Rattle.prepare_core.specs.Unprepare.{unprepare_run}
use Rattle.prepare_core.specs.Runs.{Follows}
use Rattle.prepare_core.specs.Words.{half_in, has_ended, node_in, rows_in}
use Rattle.prepare_core.specs.declared.error.KubeletError.TheVariants as errors
use Rattle.pod_prepare.specs.Texts.{unprepared_text}
use Rattle.pod_prepare.proofs.Asking.{more_back, never_falls}
use Rattle.pod_prepare.proofs.Failing.{unprepare_few}
use Rattle.pod_prepare.proofs.Moments.{tells_still}
use Rattle.pod_prepare.proofs.Turning.{if_ok, on_ok, turned}
use Rattle.pod_prepare.proofs.unprepare.unprepare_uid.Goals as goal

pub returns-clause-done : goal.returns-clause-done
returns-clause-done g c =
    let k = c.args.kubelet in
    let follows = subst (λ (b : Bool). Follows (unprepare_run (half_in k) b (node_in k) (rows_in k) c.args.pod.now c.args.uid.now) c.unprepare-kubelet.result.1 (rows_in c.unprepare-kubelet.result.0) (g.V.Driver.calls c.args.driver.now) (g.V.Driver.calls c.unprepare-kubelet.new.driver)) c.requires.going c.unprepare-kubelet.ensures.follows in
    if_ok c.unprepared.result _ _ (λ l line. turned c.args.job (unprepared_text c.args.pod.now c.args.claim.now) (unprepare_run (half_in k) false (node_in k) (rows_in k) c.args.pod.now c.args.uid.now) c.unprepare-kubelet.result.1 (rows_in c.unprepare-kubelet.result.0) l.text.items l.goes
    (g.V.Driver.calls c.args.driver.now) (g.V.Driver.calls c.unprepare-kubelet.new.driver) (g.V.Driver.faults c.args.driver.now) (g.V.Driver.faults c.unprepare-kubelet.new.driver)
    (unprepare_few (half_in k) false (node_in k) (rows_in k) c.args.pod.now c.args.uid.now) follows c.unprepare-kubelet.ensures.driver_fault c.unprepare-kubelet.ensures.no_driver_fault line) c.unprepared.ensures.line

pub returns-clause-asked : goal.returns-clause-asked
returns-clause-asked g c = more_back _ _ _ _ _ c.unprepare-kubelet.ensures.asked (never_falls c.unprepare-kubelet.result.1 _ _ c.unprepare-kubelet.ensures.driver_fault c.unprepare-kubelet.ensures.no_driver_fault)

pub returns-clause-tells : goal.returns-clause-tells
returns-clause-tells g c = tells_still _ _ _ (c.unprepare-kubelet.ensures.any_moment c.requires.going)

pub returns-clause-stays : goal.returns-clause-stays
returns-clause-stays g c = on_ok c.unprepared.result _ _ (λ l line. (c.unprepare-kubelet.ensures.going c.requires.going (λ e. line.told errors.DiskFault e tt), c.unprepare-kubelet.ensures.half, c.unprepare-kubelet.ensures.node)) c.unprepared.ensures.line

pub returns-clause-no_fault : goal.returns-clause-no_fault
returns-clause-no_fault g c = λ not. c.unprepare-kubelet.ensures.no_fault (λ e. not (c.unprepared.ensures.disk e))
