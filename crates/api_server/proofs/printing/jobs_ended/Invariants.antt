use Rattle.std.proofs.Common.{◌≡◌, ◌+◌, ◌≤◌, drop}
use Rattle.std.specs.Prelude.{count_by}
use Rattle.cluster.specs.Events.{job_state_after}
use Rattle.cluster.specs.declared.entry.JobState.TheVariants as job_state
use Rattle.histories.specs.JobRuns.{is_ended}
use Rattle.api_server.proofs.printing.jobs_ended.Given as goal

abbrev pub invariant-loop-entry : goal.invariant-loop-entry
invariant-loop-entry l =
    (l.count + count_by (λ e. is_ended (job_state_after job_state.Fresh 0 e.event)) (drop l.entry-index l.entries) ≡ count_by (λ e. is_ended (job_state_after job_state.Fresh 0 e.event)) l.entries)
    × (l.count ≤ l.entry-index)
