use Rattle.std.proofs.Common.{◌≡◌, ◌<◌, ◌≤◌, ◌^◌, ◌+◌, ◌∙◌, length, sym, arith}
use Rattle.std.specs.Prelude.{is_some}
use Rattle.journal_text.proofs.Counts.{one_more}
use Rattle.journal_text.proofs.totals.granted_count.Goals as goal

pub overflow_add-count : goal.overflow_add-count
overflow_add-count c =
    let le = one_more (λ e. is_some e.1.grant) _ _ _ c.args.state.now.claims c.loop-claim.count c.in-Some.ensures.steps (sym c.if-is_some.ensures) c.loop-claim.invariant in
    let len = c.len-most.ensures in
    let most : c.len-most.result < 2 ^ 64 = c.len-most.type_inv in
    record { fits = omega (arith, le, len, most) }
