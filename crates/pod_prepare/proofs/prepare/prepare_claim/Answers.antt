use Rattle.std.proofs.Common.{◌≡◌, ◌∙◌, sym, ap, rules, Option, None, Some}
use Rattle.std.specs.Prelude.{option_copied}
use Rattle.pool_view.specs.Names.{at_key}
use Rattle.prepare_core.specs.Words.{half_in, node_in, rows_in}
use Rattle.pod_prepare.specs.Commands.{asked_of}
use Rattle.pod_prepare.proofs.Turning.{if_ok, not_there, prepare_there, told_reads}
use Rattle.pod_prepare.proofs.prepare.prepare_claim.Goals as goal

pub returns-in_default-clause-done : goal.returns-in_default-clause-done
returns-in_default-clause-done g c =
    let k = c.args.kubelet in
    if_ok c.prepared.result _ _ (λ l line. not_there (asked_of (half_in k) (node_in k) c.args.state.now c.args.job) (rows_in k) c.args.pod.now c.args.claim.now l.text.items l.goes (g.V.Driver.calls c.args.driver.now) (g.V.Driver.faults c.args.driver.now) (Prim.search rules) line) c.prepared.ensures.line

pub prepare_told-requires : goal.prepare_told-requires
prepare_told-requires g c = record {
  going = c.requires.going;
  readable = told_reads c.args.state.now c.args.pod.now c.args.claim.now c.in-Some.found.now c.in-Ok.told c.requires.readable c.requires.pod (Prim.search rules) c.in-Ok.ensures;
}

pub returns-clause-done : goal.returns-clause-done
returns-clause-done g c =
    let k = c.args.kubelet in
    let there : at_key c.args.state.now.claims c.args.claim.now ≡ Some c.in-Some.found.now = sym c.get.ensures ∙ ap (λ o. option_copied o) c.in-Some.is in
    if_ok c.prepare_told.result.1 _ _ (λ l t. prepare_there (asked_of (half_in k) (node_in k) c.args.state.now c.args.job) (rows_in k) (rows_in c.prepare_told.result.0) c.args.pod.now c.args.claim.now c.in-Some.found.now c.in-Ok.told l.text.items l.goes _ _ _ _ there c.in-Ok.ensures t) c.prepare_told.ensures.done
