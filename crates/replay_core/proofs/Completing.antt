-- What a Schedule that is a single command comes to.
use Rattle.std.proofs.Common.{ℕ, ◌+◌, ◌≡◌, ◌⊎◌, inl, inr, List, [], ◌∷◌, ◌++◌, Bool, true, eqb, Some, None, length, refl, sym, ap, subst, arith, eq-eqb}
use Rattle.std.proofs.Math.Seq.{take-append_seam}
use Rattle.std.specs.Prelude.{◌||◌, false}
use Rattle.object_fields.specs.declared.key.Key.{Key}
use Rattle.cluster.specs.declared.entry.Entry.{Entry}
use Rattle.cluster.specs.declared.plan.Grant.{Grant}
use Rattle.cluster.specs.declared.plan.Reason.TheVariants.{Missing, Users}
use Rattle.cluster.specs.declared.state.PodState.{PodState}
use Rattle.cluster.specs.declared.state.State.{State}
use Rattle.cluster.specs.History.{state_at, state_of}
use Rattle.allocations.specs.Claims.{missing_claim, other_claim, wanted}
use Rattle.allocations.specs.Allocation.{IsAllocation}
use Rattle.plan_rules.specs.Plans.{IsFirstFull, IsIdle, MaySearch}
use Rattle.histories.specs.Legal.{Legal}
use Rattle.commands.specs.declared.command.Command.{Command}
use Rattle.commands.specs.declared.command.Command.TheVariants.{Schedule}
use Rattle.commands.specs.declared.given.Given.{Given}
use Rattle.commands.specs.declared.given.Given.TheVariants.{One}
use Rattle.histories.specs.Alone.{Alone, NeverSetBack}
use Rattle.sched_job.specs.Complete.{AllSettle, BoundTo, Decided, JudgedBy, PassedAll, RanAlone, first_fit}
use Rattle.histories.specs.JobRuns.{JobBegun, JobKept, JobRun, Run}
use Rattle.sched_job.specs.Steps.{AllOf, Extends}
use Rattle.replay_core.specs.Complete.{IsComplete, Scheduled}
use Rattle.replay_core.specs.Forms.{count_of, width}
use Rattle.replay_core.specs.Jobs.{AllBegun, AllOwn, AllRun, RunFrom, RunOf, SegmentBegun, SegmentRun, run_after}
use Rattle.replay_core.proofs.Searched.{GoesFrom, run_goes}

-- what is used of the lower crates
abbrev pub AloneLaw : Type 0
AloneLaw = (job : ℕ) (h h' : List Entry) → Extends (job ∷ []) h h' → Alone job (length h) h'

abbrev pub UndisturbedLaw : Type 0
UndisturbedLaw = (c : Run) (h : List Entry) → Legal h → JobKept c h → Alone c.job c.from h → NeverSetBack c.job h

pub record Laws : Type 0 where
  pub undisturbed : UndisturbedLaw
  pub prefix : (prefix back : List Entry) → Legal (prefix ++ back) → Legal prefix
  pub alone : AloneLaw
  pub decided : (c : Run) (h : List Entry) (pod : Key) (p : PodState) → RanAlone c h pod p → Decided c h pod p
  pub bound : (c : Run) (h : List Entry) (pod : Key) (p : PodState) (node : List ℕ) → RanAlone c h pod p → MaySearch (state_at h c.from) pod p
      → first_fit (state_at h c.from) p.pod.object c.budget ≡ Some node → BoundTo c h pod p node
  pub passed : (c : Run) (h : List Entry) (pod : Key) (p : PodState) → RanAlone c h pod p → MaySearch (state_at h c.from) pod p
      → first_fit (state_at h c.from) p.pod.object c.budget ≡ None → PassedAll c h pod p
  pub found : (c : Run) (h : List Entry) (pod : Key) (p : PodState) (node choice : List ℕ) (grants : List Grant) → RanAlone c h pod p → MaySearch (state_at h c.from) pod p
      → AllSettle (state_at h c.from) p.pod.object c.budget → other_claim (state_at h c.from) p.pod.object node ≡ None
      → IsAllocation (state_at h c.from) (wanted (state_at h c.from) p.pod.object) node choice grants → (first : List ℕ) × BoundTo c h pod p first
  pub missing : (c : Run) (h : List Entry) (pod : Key) (p : PodState) (claim : Key) → RanAlone c h pod p → missing_claim (state_at h c.from) p.pod.object ≡ Some claim
      → JudgedBy c h pod (Missing claim)
  pub full : (c : Run) (h : List Entry) (pod : Key) (p : PodState) (claim : Key) → RanAlone c h pod p → IsFirstFull (state_at h c.from) pod p claim → JudgedBy c h pod (Users claim)

-- where the entries of one command are
record Cut (budget n : ℕ) (first : List Entry) (prefix : List Given) (g : Given) (h : List Entry) : Type 0 where
  before : List Entry
  segment : List Entry
  rest : List Entry
  is : h ≡ (before ++ segment) ++ rest
  earlier : RunFrom budget n first prefix before
  run : SegmentRun (n + count_of prefix) g budget before segment

cut : (budget n : ℕ) (first : List Entry) (prefix : List Given) (g : Given) (back : List Given) (h : List Entry) → RunFrom budget n first (prefix ++ g ∷ back) h → Cut budget n first prefix g h
unfolding RunFrom
cut budget n first [] g back h r =
    let goes : GoesFrom (first ++ r.0) h = run_goes budget (n + width g) (first ++ r.0) back h r.2 in
    let eq : n ≡ n + 0 = omega arith in
    record {
      before = first;
      segment = r.0;
      rest = goes.rest;
      is = goes.is;
      earlier = refl;
      run = subst (λ (k : ℕ). SegmentRun k g budget first r.0) eq r.1;
    }
cut budget n first (d ∷ prefix) g back h r =
    let s : Cut budget (n + width d) (first ++ r.0) prefix g h = cut budget (n + width d) (first ++ r.0) prefix g back h r.2 in
    let eq : n + width d + count_of prefix ≡ n + count_of (d ∷ prefix) = omega arith in
    record {
      before = s.before;
      segment = s.segment;
      rest = s.rest;
      is = s.is;
      earlier = (r.0, r.1, s.earlier);
      run = subst (λ (k : ℕ). SegmentRun k g budget s.before s.segment) eq s.run;
    }

or_true : (b : Bool) → b ≡ true → (b || false) ≡ true
or_true b e = ap (λ (x : Bool). x || false) e

-- the entries of one job are of that job alone
all_of : (n : ℕ) (es : List Entry) → AllOwn n 1 es → AllOf ((n + 1) ∷ []) es
unfolding AllOwn
all_of n [] own = tt
all_of n (e ∷ es) own =
    let same : e.job ≡ n + 1 = omega (arith, own.0, own.1) in
    (or_true (eqb e.job (n + 1)) (eq-eqb e.job (n + 1) same), all_of n es own.2)

-- what is asked for is what the job does
one_of : (n : ℕ) (o : Command) (budget : ℕ) (before segment : List Entry) → SegmentRun n (One o) budget before segment
    → AllOwn n 1 segment × JobRun (run_after (n + 1) o budget before) (before ++ segment)
unfolding AllRun
one_of n o budget before segment run = (run.own, run.run.0)

-- a job's entries that are the last ones are of it alone
alone_past : AloneLaw → (n : ℕ) (before segment : List Entry) → AllOwn n 1 segment → Alone (n + 1) (length before) (before ++ segment)
alone_past law n before segment own = law (n + 1) before (before ++ segment) (record { added = segment; now = refl; of_jobs = all_of n segment own })

-- so it is never set back
pub undisturbed_run : AloneLaw → UndisturbedLaw → (n : ℕ) (o : Command) (budget : ℕ) (before segment : List Entry) → Legal (before ++ segment) → SegmentRun n (One o) budget before segment → NeverSetBack (n + 1) (before ++ segment)
undisturbed_run alone law n o budget before segment legal run =
    let one = one_of n o budget before segment run in
    law (run_after (n + 1) o budget before) (before ++ segment) legal one.1.kept (alone_past alone n before segment one.0)

-- nor is one that reached the limit
kept_of : (c : Run) (h : List Entry) → (JobRun c h ⊎ JobBegun c h) → JobKept c h
kept_of c h (inl run) = run.kept
kept_of c h (inr begun) = begun.kept

one_begun : (n : ℕ) (o : Command) (budget : ℕ) (before segment : List Entry) → SegmentBegun n (One o) budget before segment
    → AllOwn n 1 segment × JobKept (run_after (n + 1) o budget before) (before ++ segment)
unfolding AllBegun
one_begun n o budget before segment begun = (begun.own, kept_of (run_after (n + 1) o budget before) (before ++ segment) begun.each.0)

pub undisturbed_part : AloneLaw → UndisturbedLaw → (n : ℕ) (o : Command) (budget : ℕ) (before segment : List Entry) → Legal (before ++ segment) → SegmentBegun n (One o) budget before segment
    → NeverSetBack (n + 1) (before ++ segment)
undisturbed_part alone law n o budget before segment legal begun =
    let one = one_begun n o budget before segment begun in
    law (run_after (n + 1) o budget before) (before ++ segment) legal one.1 (alone_past alone n before segment one.0)

-- a job whose entries are the last ones ran alone
alone_from : Laws → (n : ℕ) (pod : Key) (attempts budget : ℕ) (before segment : List Entry) (p : PodState) → Legal (before ++ segment) → SegmentRun n (One (Schedule pod attempts)) budget before segment
    → IsIdle (state_at (before ++ segment) (length before)) pod p → RanAlone (run_after (n + 1) (Schedule pod attempts) budget before) (before ++ segment) pod p
alone_from laws n pod attempts budget before segment p legal run idle =
    let one = one_of n (Schedule pod attempts) budget before segment run in
    record {
      attempts = attempts;
      command = refl;
      legal = legal;
      run = one.1;
      alone = alone_past laws.alone n before segment one.0;
      idle = idle;
    }

complete_at : Laws → (c : Run) (h : List Entry) (pod : Key) (p : PodState) → RanAlone c h pod p → IsComplete (state_at h c.from) c h pod p
complete_at laws c h pod p r = record {
  decided = laws.decided c h pod p r;
  bound = λ node. laws.bound c h pod p node r;
  passed = laws.passed c h pod p r;
  found = λ node choice grants. laws.found c h pod p node choice grants r;
  missing = λ claim. laws.missing c h pod p claim r;
  full = λ claim. laws.full c h pod p claim r;
}

-- in the state after the entries before the job
complete_after : Laws → (n : ℕ) (pod : Key) (attempts budget : ℕ) (before segment : List Entry) (p : PodState) → Legal (before ++ segment) → SegmentRun n (One (Schedule pod attempts)) budget before segment
    → IsIdle (state_of before) pod p → IsComplete (state_of before) (run_after (n + 1) (Schedule pod attempts) budget before) (before ++ segment) pod p
complete_after laws n pod attempts budget before segment p legal run idle =
    let c : Run = run_after (n + 1) (Schedule pod attempts) budget before in
    let same : state_at (before ++ segment) (length before) ≡ state_of before = ap state_of (take-append_seam before segment) in
    let there : IsIdle (state_at (before ++ segment) (length before)) pod p = subst (λ (s : State). IsIdle s pod p) (sym same) idle in
    subst (λ (s : State). IsComplete s c (before ++ segment) pod p) same
    (complete_at laws c (before ++ segment) pod p (alone_from laws n pod attempts budget before segment p legal run there))

pub scheduled : Laws → (budget : ℕ) (prefix back : List Given) (pod : Key) (attempts : ℕ) (h : List Entry) → Legal h → RunOf budget (prefix ++ One (Schedule pod attempts) ∷ back) h
    → Scheduled budget prefix pod attempts h
unfolding RunOf
scheduled laws budget prefix back pod attempts h legal r =
    let g : Given = One (Schedule pod attempts) in
    let s : Cut budget 0 [] prefix g h = cut budget 0 [] prefix g back h r in
    let eq : 0 + count_of prefix ≡ count_of prefix = omega arith in
    let run : SegmentRun (count_of prefix) g budget s.before s.segment = subst (λ (k : ℕ). SegmentRun k g budget s.before s.segment) eq s.run in
    let so_far : Legal (s.before ++ s.segment) = laws.prefix (s.before ++ s.segment) s.rest (subst (λ (x : List Entry). Legal x) s.is legal) in
    record {
      before = s.before;
      segment = s.segment;
      rest = s.rest;
      is = s.is;
      earlier = s.earlier;
      run = run;
      undisturbed = undisturbed_run laws.alone laws.undisturbed (count_of prefix) (Schedule pod attempts) budget s.before s.segment so_far run;
      complete = λ p idle. complete_after laws (count_of prefix) pod attempts budget s.before s.segment p so_far run idle;
    }
