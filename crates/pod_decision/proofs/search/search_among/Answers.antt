use Rattle.std.proofs.Common.{◌∙◌, sym}
use Rattle.std.proofs.lemmas.Result.{IfOk-weaker}
use Rattle.counter_sets.specs.Totals.{drawn_in, value_of}
use Rattle.request_rows.specs.Wanted.{asking}
use Rattle.allocator.specs.Input.{with_counters}
use Rattle.pod_decision.proofs.Alike.{answer_same, copied_alike}
use Rattle.pod_decision.proofs.search.search_among.Goals as goal

pub returns : goal.returns
returns c = record {
  answer =
      IfOk-weaker c.search_devices.result _ _
      (λ found answer pairs are.
      sym (answer_same (with_counters (asking c.args.wants.now c.args.devices.now c.args.broken) pairs (value_of c.args.totals.now) (drawn_in c.args.totals.now)) (value_of c.in_ok-own.own) (drawn_in c.in_ok-own.own) c.args.budget
      (copied_alike c.more_held_draw_more.ensures.own c.args.devices.now c.args.totals.now c.in_ok-own.own c.in_ok-own.ensures))
      ∙ answer pairs are)
      c.search_devices.ensures.answer;
}
