use Rattle.std.proofs.Common.{◌≡◌, ◌∙◌, sym, subst, rules, List, Option, None, Some}
use Rattle.std.specs.Prelude.{codes}
use Rattle.object_fields.specs.declared.key.Key.{Key}
use Rattle.pool_view.specs.Names.{at_key}
use Rattle.prepare_core.specs.Words.{half_in, node_in, rows_in}
use Rattle.pod_prepare.specs.Commands.{Did, Does, asked_of, unprepare_turn}
use Rattle.pod_prepare.proofs.Pods.{pod_absent, pod_there}
use Rattle.pod_prepare.proofs.Turning.{if_ok, if_then}
use Rattle.pod_prepare.proofs.unprepare.unprepare_pod.Goals as goal

pub returns-in-Ok-clause-done : goal.returns-in-Ok-clause-done
returns-in-Ok-clause-done g c =
    let k = c.args.kubelet in
    pod_absent c.args.job (codes "unprepare-refused") c.args.pod.now (unprepare_turn (asked_of (half_in k) (node_in k) c.args.state.now c.args.job) c.args.pod.now) (at_key c.args.state.now.pods c.args.pod.now) (rows_in k) c.in-Ok.text.items (g.V.Driver.calls c.args.driver.now) (g.V.Driver.faults c.args.driver.now)
    (Prim.search rules) (if_then c.absent_line.result c.in-Ok.text _ c.in-Ok.is c.absent_line.ensures)

pub returns-clause-done : goal.returns-clause-done
returns-clause-done g c =
    let k = c.args.kubelet in
    let turn = unprepare_turn (asked_of (half_in k) (node_in k) c.args.state.now c.args.job) c.args.pod.now in
    if_ok c.unprepare_claims.result.1 _ _ (λ t d. pod_there c.args.job (codes "unprepare-refused") c.args.pod.now turn (at_key c.args.state.now.pods c.args.pod.now) c.in-Some.found.now (rows_in k) (rows_in c.unprepare_claims.result.0) t.items _ _ _ _ (Prim.search rules)
    (subst (λ (ks : List Key). Did (λ r d. Does turn ks r d) (rows_in k) (rows_in c.unprepare_claims.result.0) t.items (g.V.Driver.calls c.args.driver.now) (g.V.Driver.calls c.unprepare_claims.new.driver) (g.V.Driver.faults c.args.driver.now) (g.V.Driver.faults c.unprepare_claims.new.driver)) (Prim.search rules) d)) c.unprepare_claims.ensures.done
