use Rattle.std.proofs.Common.{◌≡◌, ◌+◌}
use Rattle.std.specs.Prelude.{count_by, is_some}
use Rattle.journal_text.proofs.totals.granted_count.Given as goal

abbrev pub invariant-loop-claim : goal.invariant-loop-claim
invariant-loop-claim l = l.count + count_by (λ e. is_some e.1.grant) l.claim-iterator ≡ count_by (λ e. is_some e.1.grant) l.state.claims
