use Rattle.std.proofs.Common.{◌≡◌, ◌≤◌, All, [], vec_len, vec_capacity}
use Rattle.api_server.proofs.hire.room_for_each.Given as goal

abbrev pub invariant-loop : goal.invariant-loop
invariant-loop g l = All (λ e. e.items ≡ []) l.each.items × All (λ e. 1 ≤ vec_capacity e) l.each.items × (vec_len l.each ≡ l.counter) × (l.counter ≤ l.count) × (l.count ≤ vec_capacity l.each)
