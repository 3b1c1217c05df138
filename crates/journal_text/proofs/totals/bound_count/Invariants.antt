use Rattle.std.proofs.Common.{◌≡◌, ◌+◌}
use Rattle.std.specs.Prelude.{count_by}
use Rattle.journal_text.specs.Journal.{is_bound}
use Rattle.journal_text.proofs.totals.bound_count.Given as goal

abbrev pub invariant-loop-pod : goal.invariant-loop-pod
invariant-loop-pod l = l.count + count_by (λ e. is_bound e.1.phase) l.pod-iterator ≡ count_by (λ e. is_bound e.1.phase) l.state.pods
