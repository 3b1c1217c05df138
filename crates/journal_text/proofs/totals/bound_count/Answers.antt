use Rattle.std.proofs.Common.{◌≡◌, ◌<◌, ◌≤◌, ◌^◌, ◌+◌, ◌∙◌, length, sym, arith}
use Rattle.journal_text.specs.Journal.{is_bound}
use Rattle.journal_text.proofs.Counts.{one_more}
use Rattle.journal_text.proofs.totals.bound_count.Goals as goal

pub overflow_add-count : goal.overflow_add-count
overflow_add-count c =
    let le = one_more (λ e. is_bound e.1.phase) _ _ _ c.args.state.now.pods c.loop-pod.count c.in-Some.ensures.steps (sym c.if-is_bound.ensures) c.loop-pod.invariant in
    let len = c.len-most.ensures in
    let most : c.len-most.result < 2 ^ 64 = c.len-most.type_inv in
    record { fits = omega (arith, le, len, most) }
