-- When a verdict may be given.
use Rattle.std.specs.Prelude.{◌≤◌, List, length}
use Rattle.object_fields.specs.declared.key.Key.{Key}
use Rattle.cluster.specs.declared.entry.Entry.{Entry}
use Rattle.cluster.specs.declared.plan.Verdict.{Verdict}
use Rattle.cluster.specs.History.{state_at}
use Rattle.plan_rules.specs.Plans.{VerdictTrue}

-- the verdict is true at its index
pub record MayJudge (before : List Entry) (pod : Key) (verdict : Verdict) : Type 0 where
  pub at : verdict.at ≤ length before
  pub true_then : VerdictTrue (state_at before verdict.at) pod verdict
