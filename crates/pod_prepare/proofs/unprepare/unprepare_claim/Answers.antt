use Rattle.std.proofs.Common.{◌≡◌, ◌∙◌, sym, rules, Option, None, Some}
use Rattle.pool_view.specs.Names.{at_key}
use Rattle.prepare_core.specs.Words.{half_in, node_in, rows_in}
use Rattle.pod_prepare.specs.Commands.{asked_of}
use Rattle.pod_prepare.proofs.Turning.{if_ok, none_prepared, unprepare_there}
use Rattle.pod_prepare.proofs.unprepare.unprepare_claim.Goals as goal

pub returns-in_default-clause-done : goal.returns-in_default-clause-done
returns-in_default-clause-done g c =
    let k = c.args.kubelet in
    if_ok c.unprepared.result _ _ (λ l line. none_prepared (asked_of (half_in k) (node_in k) c.args.state.now c.args.job) (rows_in k) c.args.pod.now c.args.claim.now l.text.items l.goes (g.V.Driver.calls c.args.driver.now) (g.V.Driver.faults c.args.driver.now) (Prim.search rules) line) c.unprepared.ensures.line

pub returns-clause-done : goal.returns-clause-done
returns-clause-done g c =
    let k = c.args.kubelet in
    if_ok c.unprepare_uid.result.1 _ _ (λ l t. unprepare_there (asked_of (half_in k) (node_in k) c.args.state.now c.args.job) (rows_in k) (rows_in c.unprepare_uid.result.0) c.args.pod.now c.args.claim.now c.in-Some.found.now _ l.text.items l.goes _ _ _ _ (Prim.search rules) (Prim.search rules) t) c.unprepare_uid.ensures.done
