use Rattle.std.proofs.Common.{List, map, ap, ◌∙◌}
use Rattle.pool_view.specs.declared.matching.Match.{Match}
use Rattle.pool_view.specs.Pools.{Offered}
use Rattle.request_rules.specs.Asked.{Asked, Wish, ways_of, wishes_from}
use Rattle.request_rows.specs.Columns.{columns_for}
use Rattle.request_rows.specs.Rows.{rows_from}
use Rattle.request_rows.specs.Wanted.{WantsFields}
use Rattle.request_rules.specs.Ways.{ways_from}
use Rattle.request_rows.specs.Requests.{requests_from}
use Rattle.request_rows.proofs.Made.{made}
use Rattle.request_rows.proofs.rows.Rows.with.Goals as goal

pub invariant_of-result : goal.invariant_of-result
invariant_of-result c =
    made c.args.wants.now c.args.devices.now c.args.broken c.in_ok-wishes.wishes.items c.in_ok-ways.ways.items c.in_ok-options.options c.in_ok-requests.requests c.in_ok-rows.rows c.in_ok-columns.columns
    (c.in_ok-wishes.ensures ∙ ap (wishes_from 0) (c.deref.ensures.value ∙ ap (λ (v : WantsFields). v.claims) c.wants.view_is))
    (c.in_ok-options.ensures ∙ ap (map (λ (q : Wish). ways_of q.request.kind)) c.deref-2.ensures.value)
    (c.in_ok-requests.ensures ∙ ap (requests_from 0) c.deref-3.ensures.value)
    (c.in_ok-ways.ensures ∙ ap ways_from c.deref-4.ensures.value)
    (c.in_ok-columns.ensures ∙ ap (λ (l : List Asked). columns_for c.args.wants.now.classes l c.args.devices.now) c.deref-5.ensures.value)
    (c.in_ok-rows.ensures ∙ ap (λ (l : List Asked). rows_from c.as_slice.result.now c.tainted_devices-tainted.result.now 0 l) c.deref-6.ensures.value
    ∙ ap (λ (cs : List (List Match)). rows_from cs c.tainted_devices-tainted.result.now 0 c.in_ok-ways.ways.items) c.as_slice.ensures
    ∙ ap (λ (os : List Offered). rows_from c.in_ok-columns.columns os 0 c.in_ok-ways.ways.items) c.tainted_devices-tainted.ensures)
