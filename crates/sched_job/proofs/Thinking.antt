-- What a search makes of a snapshot may be carried out.
use Rattle.std.proofs.Common.{ℕ, ◌≡◌, ◌∙◌, List, Bool, true, false, refl, sym, ap, subst}
use Rattle.object_fields.specs.declared.key.Key.{Key}
use Rattle.cluster.specs.declared.entry.Entry.{Entry}
use Rattle.cluster.specs.declared.state.State.{State}
use Rattle.cluster.specs.History.{state_at}
use Rattle.engine_ports.specs.declared.decision.Decision.{Decision}
use Rattle.engine_ports.specs.declared.decision.Decision.TheVariants.{Reserve, Judge}
use Rattle.engine_ports.specs.Decisions.{IsDecision}
use Rattle.plan_rules.specs.Idle.{is_idle_pod}
use Rattle.plan_rules.specs.Plans.{PlanBy, PlanTrue, VerdictBy, VerdictTrue}
use Rattle.ledger_core.specs.Snapshot.{Seen as Snapshot}
use Rattle.commands.specs.declared.command.Command.{Command}
use Rattle.commands.specs.declared.command.Command.TheVariants.{Apply, Invalid, Delete, Schedule, Release, Adopt}
use Rattle.sched_job.specs.declared.work.Stage.{Stage}
use Rattle.sched_job.specs.declared.work.Stage.TheVariants.{Ready, Seen, Chosen}
use Rattle.sched_job.specs.Runs.{IsChosen, IsSeen, IsStaged, IsTrying}
use Rattle.histories.specs.JobRuns.{Run, IsTry}
use Rattle.sched_job.specs.Steps.{IsSearched, Thought, ThoughtOf}

-- a decision over a snapshot of the history's state
decided : (c : Run) (h : List Entry) (pod : Key) (seen : Snapshot) (choice : Decision) → IsSeen c h seen → IsDecision seen.state pod c.budget seen.at choice → IsChosen c h pod choice
decided c h pod seen (Reserve plan) s d =
    let at : state_at h seen.at ≡ state_at h plan.at = ap (state_at h) (sym d.index) in
    record {
      tried = record { try = subst (IsTry c h) (sym d.index) s.try; by = subst (λ (t : State). PlanBy t pod c.budget plan) (s.state ∙ at) d.found };
      holds = subst (λ (t : State). PlanTrue t pod plan) (s.state ∙ at) d.holds;
    }
decided c h pod seen (Judge verdict) s d =
    let at : state_at h seen.at ≡ state_at h verdict.at = ap (state_at h) (sym d.index) in
    record {
      tried = record { try = subst (IsTry c h) (sym d.index) s.try; by = subst (λ (t : State). VerdictBy t pod c.budget verdict) (s.state ∙ at) d.found };
      holds = subst (λ (t : State). VerdictTrue t pod verdict) (s.state ∙ at) d.holds;
    }

trying_thought : (c : Run) (h : List Entry) (pod : Key) (kept made : Stage) → ThoughtOf c.budget pod kept made → IsTrying c h pod kept → IsTrying c h pod made
trying_thought c h pod Ready made t s = subst (IsTrying c h pod) (sym t) tt
trying_thought c h pod (Seen seen) made t s = pick (is_idle_pod seen.state pod) refl
  where
    pick : (b : Bool) → is_idle_pod seen.state pod ≡ b → IsTrying c h pod made
    pick true idle = let d = t.idle idle in subst (IsTrying c h pod) (sym d.is) (decided c h pod seen d.choice s d.by)
    pick false busy = subst (IsTrying c h pod) (sym (t.busy busy)) tt
trying_thought c h pod (Chosen choice) made t s = subst (IsTrying c h pod) (sym t) s

thought_by : (c : Run) (h : List Entry) (cmd : Command) (kept made : Stage) → Thought c.budget cmd kept made → IsStaged c h cmd kept → IsStaged c h cmd made
thought_by c h (Apply object mode) kept made t s = tt
thought_by c h (Invalid error) kept made t s = tt
thought_by c h (Delete target) kept made t s = tt
thought_by c h (Schedule pod attempts) kept made t s = trying_thought c h pod kept made t s
thought_by c h (Release pod) kept made t s = tt
thought_by c h (Adopt claim status) kept made t s = tt

-- what the search makes is right where the snapshot was
pub staged_thought : (c : Run) (h : List Entry) (cmd : Command) (kept made : Stage) (budget : ℕ) → cmd ≡ c.command → c.budget ≡ budget → Thought budget cmd kept made → IsStaged c h c.command kept → IsStaged c h c.command made
staged_thought c h cmd kept made budget is same t s =
    thought_by c h c.command kept made (subst (λ (x : Command). Thought c.budget x kept made) is (subst (λ (n : ℕ). Thought n cmd kept made) (sym same) t)) s

searched_by : (budget : ℕ) (pod : Key) (seen : Snapshot) (made : Stage) → is_idle_pod seen.state pod ≡ true → IsSearched seen pod budget made → (choice : Decision) × (made ≡ Chosen choice)
searched_by budget pod seen made idle t = let d = t.idle idle in (d.choice, d.is)
