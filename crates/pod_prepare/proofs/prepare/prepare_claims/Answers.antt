use Rattle.std.proofs.Common.{◌≡◌, ◌∙◌, ◌+◌, ℕ, Bool, true, false, List, ◌∷◌, sym, refl, subst, drop, rules, arith}
use Rattle.prepare_core.specs.Words.{half_in, node_in, rows_in}
use Rattle.pod_prepare.specs.Commands.{IsTurn, asked_of, prepare_turn}
use Rattle.pod_prepare.proofs.Going.{calls_so_far, more_joined, none_at_end, so_far_first, step_last, step_more, step_none, turn_from}
use Rattle.pod_prepare.proofs.Turning.{if_then, no_error, ok_then}
use Rattle.pod_prepare.proofs.prepare.prepare_claims.Goals as goal

pub loop-claim-init : goal.loop-claim-init
loop-claim-init g c = record {
  going = c.requires.going;
  half = refl;
  node = refl;
  tells = refl;
  faults = refl;
  far = so_far_first _ c.args.claims.now (rows_in c.args.kubelet) _ (g.V.Driver.calls c.args.driver.now) (g.V.Driver.faults c.args.driver.now) c.new-out.ensures.items;
}

pub returns-then-is_err-clause-asked : goal.returns-then-is_err-clause-asked
returns-then-is_err-clause-asked g c = more_joined _ _ _ _ _ _ (calls_so_far _ _ _ _ _ _ _ _ _ _ c.loop-claim.invariant.far) c.prepare_claim-next.ensures.asked

pub returns-then-not-line-clause-asked : goal.returns-then-not-line-clause-asked
returns-then-not-line-clause-asked g c = more_joined _ _ _ _ _ _ (calls_so_far _ _ _ _ _ _ _ _ _ _ c.loop-claim.invariant.far) c.prepare_claim-next.ensures.asked

pub returns-in-Err-clause-asked : goal.returns-in-Err-clause-asked
returns-in-Err-clause-asked g c = more_joined _ _ _ _ _ _ (calls_so_far _ _ _ _ _ _ _ _ _ _ c.loop-claim.invariant.far) c.prepare_claim-next.ensures.asked

pub returns-clause-asked : goal.returns-clause-asked
returns-clause-asked g c = calls_so_far _ _ _ _ _ _ _ _ _ _ c.loop-claim.invariant.far

pub loop-claim-preserved : goal.loop-claim-preserved
loop-claim-preserved g c =
    let stays = ok_then c.prepare_claim-next.result.1 c.in-Ok.line _ c.in-Ok.is c.prepare_claim-next.ensures.stays in
    record {
      going = stays.0;
      half = stays.1 ∙ c.loop-claim.invariant.half;
      node = stays.2 ∙ c.loop-claim.invariant.node;
      tells = c.prepare_claim-next.ensures.tells ∙ c.loop-claim.invariant.tells;
      faults = c.prepare_claim-next.ensures.no_fault (no_error c.prepare_claim-next.result.1 c.in-Ok.line _ c.in-Ok.is) ∙ c.loop-claim.invariant.faults;
      far = step_more (prepare_turn (asked_of (half_in c.args.kubelet) (node_in c.args.kubelet) c.args.state.now c.args.job) c.args.pod.now) c.args.claims.now c.loop-claim.claim-index c.claim-item.result (rows_in c.args.kubelet) (rows_in c.loop-claim.kubelet) (rows_in c.prepare_claim-next.result.0) c.loop-claim.out.items c.extend_from_slice.new.self.items c.in-Ok.line.text.items c.in-Ok.line.goes
          (g.V.Driver.calls c.args.driver.now) (g.V.Driver.calls c.loop-claim.driver) (g.V.Driver.calls c.prepare_claim-next.new.driver) (g.V.Driver.faults c.args.driver.now) (g.V.Driver.faults c.loop-claim.driver) (g.V.Driver.faults c.prepare_claim-next.new.driver)
          c.loop-claim-test.true c.claim-item.is c.loop-claim.invariant.far (turn_from (λ h m. IsTurn (prepare_turn (asked_of h m c.args.state.now c.args.job) c.args.pod.now (rows_in c.loop-claim.kubelet) c.claim-item.result) (rows_in c.prepare_claim-next.result.0) c.in-Ok.line.text.items c.in-Ok.line.goes (g.V.Driver.calls c.loop-claim.driver) (g.V.Driver.calls c.prepare_claim-next.new.driver) (g.V.Driver.faults c.loop-claim.driver) (g.V.Driver.faults c.prepare_claim-next.new.driver))
          (half_in c.loop-claim.kubelet) (half_in c.args.kubelet) (node_in c.loop-claim.kubelet) (node_in c.args.kubelet) c.loop-claim.invariant.half c.loop-claim.invariant.node (if_then c.prepare_claim-next.result.1 c.in-Ok.line _ c.in-Ok.is c.prepare_claim-next.ensures.done)) (Prim.search rules) (Prim.search rules);
    }

pub returns-then-not-line-clause-done : goal.returns-then-not-line-clause-done
returns-then-not-line-clause-done g c = step_last (prepare_turn (asked_of (half_in c.args.kubelet) (node_in c.args.kubelet) c.args.state.now c.args.job) c.args.pod.now) c.args.claims.now c.loop-claim.claim-index c.claim-item.result (rows_in c.args.kubelet) (rows_in c.loop-claim.kubelet) (rows_in c.prepare_claim-next.result.0) c.loop-claim.out.items c.extend_from_slice.new.self.items c.in-Ok.line.text.items c.in-Ok.line.goes
    (g.V.Driver.calls c.args.driver.now) (g.V.Driver.calls c.loop-claim.driver) (g.V.Driver.calls c.prepare_claim-next.new.driver) (g.V.Driver.faults c.args.driver.now) (g.V.Driver.faults c.loop-claim.driver) (g.V.Driver.faults c.prepare_claim-next.new.driver)
    c.loop-claim-test.true c.claim-item.is c.loop-claim.invariant.far (turn_from (λ h m. IsTurn (prepare_turn (asked_of h m c.args.state.now c.args.job) c.args.pod.now (rows_in c.loop-claim.kubelet) c.claim-item.result) (rows_in c.prepare_claim-next.result.0) c.in-Ok.line.text.items c.in-Ok.line.goes (g.V.Driver.calls c.loop-claim.driver) (g.V.Driver.calls c.prepare_claim-next.new.driver) (g.V.Driver.faults c.loop-claim.driver) (g.V.Driver.faults c.prepare_claim-next.new.driver))
    (half_in c.loop-claim.kubelet) (half_in c.args.kubelet) (node_in c.loop-claim.kubelet) (node_in c.args.kubelet) c.loop-claim.invariant.half c.loop-claim.invariant.node (if_then c.prepare_claim-next.result.1 c.in-Ok.line _ c.in-Ok.is c.prepare_claim-next.ensures.done)) (Prim.search rules) (Prim.search rules)

pub returns-clause-done : goal.returns-clause-done
returns-clause-done g c = step_none (prepare_turn (asked_of (half_in c.args.kubelet) (node_in c.args.kubelet) c.args.state.now c.args.job) c.args.pod.now) c.args.claims.now _ (rows_in c.args.kubelet) (rows_in c.loop-claim.kubelet) c.loop-claim.out.items _ _ _ _ (none_at_end c.args.claims.now c.loop-claim.claim-index (omega (arith, c.loop-claim-test.false))) c.loop-claim.invariant.far
