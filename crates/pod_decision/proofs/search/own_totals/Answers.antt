use Rattle.std.proofs.Common.{◌+◌, subst, sym, arith}
use Rattle.api_slice.specs.declared.types.ResourceSlice.{ResourceSlice}
use Rattle.counter_sets.specs.Totals.{KeptCounters}
use Rattle.pod_decision.proofs.Alike.{AreFirst, Copies, copied_all, copied_more, like_more}
use Rattle.pod_decision.proofs.search.own_totals.Goals.{then-not-is_like_before+in_ok-copy_pool, else-not-is_like_before}
use Rattle.pod_decision.proofs.search.own_totals.Goals as goal

pub loop-position-preserved : goal.loop-position-preserved
loop-position-preserved c =
    elim c.if-not-is_like_before.branch [
      | then-not-is_like_before+in_ok-copy_pool w ↦
          subst (λ (own : KeptCounters). AreFirst c.args.devices.now c.args.totals.now own (c.loop-position.position + 1)) (sym w.own-is)
          (copied_more c.args.devices.now c.args.totals.now c.loop-position.own w.copy_pool.new.self c.loop-position.position w.index-devices-position.result w.index-devices-position.is
          (subst (λ (x : ResourceSlice). Copies x c.args.totals.now c.loop-position.own w.copy_pool.new.self) w.slice.ensures (w.in_ok-copy_pool.ensures.value, w.in_ok-copy_pool.ensures.drawn)) c.loop-position.invariant)
      | else-not-is_like_before w ↦
          subst (λ (own : KeptCounters). AreFirst c.args.devices.now c.args.totals.now own (c.loop-position.position + 1)) (sym w.own-is)
          (like_more c.args.devices.now c.args.totals.now c.loop-position.own c.loop-position.position (c.is_like_before.ensures w.if-not-is_like_before.false) c.loop-position.invariant)
    ]

pub returns : goal.returns
returns c = let end = c.loop-position-test.false in let most = c.loop-position.auto.position-end in copied_all c.args.devices.now c.args.totals.now c.loop-position.own c.loop-position.position (omega (arith, end, most)) c.loop-position.invariant
