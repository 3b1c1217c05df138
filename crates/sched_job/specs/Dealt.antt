-- Which works each of some workers gets.
use Rattle.std.specs.Prelude.{ℕ, ◌≡◌, ◌==◌, ◌+◌, ◌%◌, ◌<◌, List, [], ◌∷◌, if◌then◌else◌}
use Rattle.turn_lock.specs.Known.{Opened}
use Rattle.cluster.specs.declared.entry.Entry.{Entry}
use Rattle.sched_job.specs.declared.work.Stage.TheVariants.{Ready}
use Rattle.sched_job.specs.declared.work.Work.{Work}
use Rattle.histories.specs.JobRuns.{attempts_of}
use Rattle.sched_job.specs.declared.member.Member.{Member}

-- of works numbered on from i, those of worker k of n: each n-th
abbrev pub dealt : ℕ → ℕ → ℕ → List Work → List Work
dealt k n i [] = []
dealt k n i (w ∷ ws) = if i % n == k then w ∷ dealt k n (i + 1) ws else dealt k n (i + 1) ws

abbrev pub works_in : {X : Type 0} → List (Member X) → List Work
works_in [] = []
works_in (m ∷ ms) = m.work ∷ works_in ms

-- each member is of this lock, with this budget, and hasn't begun
pub record IsMember {X : Type 0} (lock : Opened Entry) (budget : ℕ) (m : Member X) : Type 0 where
  pub lock_is : m.lock.now ≡ lock
  pub budget_is : m.budget ≡ budget
  pub ready : m.work.stage ≡ Ready
  pub some : 0 < attempts_of m.work.command

abbrev pub AreMembers : {X : Type 0} → Opened Entry → ℕ → List (Member X) → Type 0
AreMembers lock budget [] = Unit {0}
AreMembers lock budget (m ∷ ms) = IsMember lock budget m × AreMembers lock budget ms

-- the works can begin
abbrev pub AreReady : List Work → Type 0
AreReady [] = Unit {0}
AreReady (w ∷ ws) = (w.stage ≡ Ready) × (0 < attempts_of w.command) × AreReady ws
