-- A job's run is also one that began earlier.
use Rattle.std.proofs.Common.{ℕ, ◌≡◌, ◌≤◌, ◌++◌, List, [], ◌∷◌, length, arith}
use Rattle.object_fields.specs.declared.key.Key.{Key}
use Rattle.cluster.specs.declared.entry.Entry.{Entry}
use Rattle.cluster.specs.declared.entry.Event.{Event}
use Rattle.cluster.specs.declared.entry.Event.TheVariants.{Applied, Deleted, Reserved, Refused, Wrote, Conflict, Unreserved, Bound, VerdictGiven, Contended, Released, Adopted, Denied}
use Rattle.cluster.specs.declared.plan.Plan.{Plan}
use Rattle.cluster.specs.declared.plan.Verdict.{Verdict}
use Rattle.histories.specs.Histories.{Each}
use Rattle.histories.specs.JobRuns.{IsTry, JobBegun, JobKept, JobRun, JobStep, Run, Timed, TriedPlan, TriedVerdict}
use Rattle.sched_job.proofs.Growing.{each_weaker}

try_earlier : (c : Run) (from : ℕ) (before : List Entry) (at : ℕ) → from ≤ c.from → IsTry c before at → IsTry (record c { from = from }) before at
try_earlier c from before at le t = record { from = (let f = t.from in omega arith); last = t.last; within = t.within; may = t.may; left = t.left }

plan_earlier : (c : Run) (from : ℕ) (before : List Entry) (pod : Key) (plan : Plan) → from ≤ c.from → TriedPlan c before pod plan → TriedPlan (record c { from = from }) before pod plan
plan_earlier c from before pod plan le t = record { try = try_earlier c from before plan.at le t.try; by = t.by }

verdict_earlier : (c : Run) (from : ℕ) (before : List Entry) (pod : Key) (verdict : Verdict) → from ≤ c.from → TriedVerdict c before pod verdict → TriedVerdict (record c { from = from }) before pod verdict
verdict_earlier c from before pod verdict le t = record { try = try_earlier c from before verdict.at le t.try; by = t.by }

timed_earlier : (c : Run) (from : ℕ) (before : List Entry) (event : Event) → from ≤ c.from → Timed c before event → Timed (record c { from = from }) before event
timed_earlier c from before (Applied object mode) le t = tt
timed_earlier c from before (Deleted target) le t = tt
timed_earlier c from before (Reserved pod plan) le t = plan_earlier c from before pod plan le t
timed_earlier c from before (Refused pod plan why) le t = plan_earlier c from before pod plan le t
timed_earlier c from before (Wrote pod claim seen) le t = tt
timed_earlier c from before (Conflict pod claim had now) le t = tt
timed_earlier c from before (Unreserved pod) le t = tt
timed_earlier c from before (Bound pod node) le t = tt
timed_earlier c from before (VerdictGiven pod verdict) le t = verdict_earlier c from before pod verdict le t
timed_earlier c from before (Contended pod failed) le t = t
timed_earlier c from before (Released pod) le t = tt
timed_earlier c from before (Adopted claim status) le t = tt
timed_earlier c from before (Denied command refusal) le t = t

step_earlier : (c : Run) (from : ℕ) (before : List Entry) (event : Event) → from ≤ c.from → JobStep c before event → JobStep (record c { from = from }) before event
step_earlier c from before event le s = record { after = (let a = s.after in omega arith); of_command = s.of_command; timed = timed_earlier c from before event le s.timed }

kept_earlier : (c : Run) (from : ℕ) (h : List Entry) → from ≤ c.from → JobKept c h → JobKept (record c { from = from }) h
kept_earlier c from h le kept =
    each_weaker (λ before e. e.job ≡ c.job → JobStep c before e.event) (λ before e. e.job ≡ c.job → JobStep (record c { from = from }) before e.event)
    (λ before e step mine. step_earlier c from before e.event le (step mine)) [] h kept

pub run_earlier : (c : Run) (from : ℕ) (h : List Entry) → from ≤ c.from → JobRun c h → JobRun (record c { from = from }) h
run_earlier c from h le r = record { kept = kept_earlier c from h le r.kept; index = r.index; ended = r.ended }

pub begun_earlier : (c : Run) (from : ℕ) (h : List Entry) → from ≤ c.from → JobBegun c h → JobBegun (record c { from = from }) h
begun_earlier c from h le r = record { kept = kept_earlier c from h le r.kept; open_yet = r.open_yet }
