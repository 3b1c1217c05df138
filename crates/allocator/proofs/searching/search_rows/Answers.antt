use Rattle.std.proofs.Common.{List, Some, ◌≡◌}
use Rattle.counter_sets.specs.Holding.{AreHeld}
use Rattle.counter_sets.specs.Totals.{drawn_in, value_of}
use Rattle.object_fields.specs.declared.key.DeviceId.{DeviceId}
use Rattle.object_fields.specs.declared.key.Key.{Key}
use Rattle.request_rows.specs.Wanted.{input_of}
use Rattle.allocator.specs.declared.outcome.Outcome as outcomes
use Rattle.allocator.specs.Answered.{answer_of}
use Rattle.allocator.specs.Input.{with_counters}
use Rattle.allocator.proofs.Answering.{held_answer}
use Rattle.allocator.proofs.Viewed.{if_ok}
use Rattle.allocator.proofs.searching.search_rows.Goals as goal

pub returns-clause-answer : goal.returns-clause-answer
returns-clause-answer c =
    if_ok c.search_held.result
    (λ (found : outcomes.Outcome). answer_of (with_counters (input_of c.args.rows.now) c.in_ok-held.held.held (value_of c.args.totals.now) (drawn_in c.args.totals.now)) c.args.budget ≡ Some found)
    (λ (found : outcomes.Outcome). (pairs : List (DeviceId × Key)) → AreHeld c.args.holders.now pairs → answer_of (with_counters (input_of c.args.rows.now) pairs (value_of c.args.totals.now) (drawn_in c.args.totals.now)) c.args.budget ≡ Some found)
    (λ found e. held_answer (input_of c.args.rows.now) c.args.holders.now c.in_ok-held.held c.devices.result.now (value_of c.args.totals.now) (drawn_in c.args.totals.now) c.args.budget found c.in_ok-held.ensures c.devices.ensures e)
    c.search_held.ensures.answer
