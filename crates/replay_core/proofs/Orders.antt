-- Jobs that were run over a ledger, as those of what is asked for.
use Rattle.std.proofs.Common.{ℕ, ◌+◌, ◌≤◌, ◌<◌, List, [], ◌∷◌, ◌++◌, ◌≡◌, ◌∙◌, ◌⊎◌, inl, inr, Bool, true, false, length, refl, sym, ap, arith, subst, append-nil}
use Rattle.std.proofs.lemmas.Bool.{eqb-true, ne_eqb}
use Rattle.std.specs.Prelude.{nat_eq, ◌||◌}
use Rattle.std.specs.List.{list_any}
use Rattle.cluster.specs.declared.entry.Entry.{Entry}
use Rattle.cluster.specs.declared.entry.JobState.{JobState}
use Rattle.cluster.specs.declared.entry.JobState.TheVariants as job_state
use Rattle.cluster.specs.History.{job_state_of}
use Rattle.sched_job.specs.Ledgers.{History}
use Rattle.commands.specs.declared.command.Command.{Command}
use Rattle.commands.specs.declared.given.Given.{Given}
use Rattle.commands.specs.declared.given.Given.TheVariants.{One, Together, Prepare, Unprepare, Reopen}
use Rattle.histories.specs.JobRuns.{JobBegun, JobRun, is_ended}
use Rattle.sched_job.specs.declared.work.Work.{Work}
use Rattle.sched_job.specs.Steps.{AllEnds, AllNew, AllOf, Differ, Extends, jobs_of}
use Rattle.sched_job.specs.Together.{AllEnded, RanTogether, SomeOpen}
use Rattle.replay_core.specs.Attempts.{AllTry}
use Rattle.replay_core.specs.Doing.{Met, Ran, works_from}
use Rattle.replay_core.specs.Forms.{is_of_kubelet}
use Rattle.replay_core.specs.Jobs.{AllBegun, AllOwn, AllRun, SomeBegun, run_after}

either : (a b : Bool) → (a || b) ≡ true → (a ≡ true) ⊎ (b ≡ true)
either true b o = inl refl
either false b o = inr o

-- the jobs are those numbered on from n
in_range : (job n : ℕ) (cs : List Command) → list_any (nat_eq job) (jobs_of (works_from n cs)) ≡ true → (n < job) × (job ≤ n + length cs)
in_range job n [] o = absurd (cc)
in_range job n (c ∷ cs) o = elim (either (nat_eq job (n + 1)) (list_any (nat_eq job) (jobs_of (works_from (n + 1) cs))) o) as (λ _. (n < job) × (job ≤ n + length (c ∷ cs))) [
  | inl is ↦ let same : job ≡ n + 1 = eqb-true job (n + 1) is in (omega (arith, same), omega (arith, same))
  | inr more ↦ let rest = in_range job (n + 1) cs more in (omega (arith, rest.0), omega (arith, rest.1))
]

-- entries of the jobs are their own
own_of : (n : ℕ) (cs : List Command) (es : List Entry) → AllOf (jobs_of (works_from n cs)) es → AllOwn n (length cs) es
unfolding AllOwn
own_of n cs [] all = tt
own_of n cs (e ∷ es) all = let range = in_range e.job n cs all.0 in (range.0, range.1, own_of n cs es all.1)

same_history : (old new : History) (segment : List Entry) → new.entries ≡ old.entries ++ segment → new.limit ≡ old.limit → new ≡ record old { entries = old.entries ++ segment }
same_history old new segment is limit =
    ap (λ (xs : List Entry). record new { entries = xs }) is ∙ ap (λ (n : ℕ). record old { entries = old.entries ++ segment; limit = n }) limit

-- ---- a command of the kubelet

same_entries : (h : History) → h ≡ record h { entries = h.entries ++ [] }
same_entries h = ap (λ (xs : List Entry). record h { entries = xs }) (sym (append-nil h.entries))

-- it has no job, so it was run with no entry
pub ran_nothing : (n : ℕ) (g : Given) (budget : ℕ) (h : History) → is_of_kubelet g ≡ true → Ran n g budget h h
unfolding AllOwn AllRun
ran_nothing n (One c) budget h kubelet = absurd (cc)
ran_nothing n (Together cs) budget h kubelet = absurd (cc)
ran_nothing n (Prepare pod) budget h kubelet = record { segment = []; is = same_entries h; run = record { own = tt; run = tt } }
ran_nothing n (Unprepare pod) budget h kubelet = record { segment = []; is = same_entries h; run = record { own = tt; run = tt } }
ran_nothing n Reopen budget h kubelet = record { segment = []; is = same_entries h; run = record { own = tt; run = tt } }

-- ---- a job that runs alone

-- to its end
pub ran_alone : (n : ℕ) (c : Command) (budget : ℕ) (old new : History) → Extends ((n + 1) ∷ []) old.entries new.entries → new.limit ≡ old.limit
    → JobRun (run_after (n + 1) c budget old.entries) new.entries → Ran n (One c) budget old new
unfolding AllRun
ran_alone n c budget old new extends limit run =
    record {
      segment = extends.added;
      is = same_history old new extends.added extends.now limit;
      run = record {
        own = own_of n (c ∷ []) extends.added extends.of_jobs;
        run = (subst (λ (h : List Entry). JobRun (run_after (n + 1) c budget old.entries) h) extends.now run, tt);
      };
    }

-- up to the limit of the history
pub met_alone : (n : ℕ) (c : Command) (budget : ℕ) (old new : History) (count : ℕ) → Extends ((n + 1) ∷ []) old.entries new.entries → new.limit ≡ old.limit
    → JobBegun (run_after (n + 1) c budget old.entries) new.entries → length new.entries ≡ count → new.limit ≤ count → Met n (One c) budget old new count
unfolding AllBegun SomeBegun
met_alone n c budget old new count extends limit begun is full =
    let part : JobBegun (run_after (n + 1) c budget old.entries) (old.entries ++ extends.added) = subst (λ (h : List Entry). JobBegun (run_after (n + 1) c budget old.entries) h) extends.now begun in
    record {
      segment = extends.added;
      is = same_history old new extends.added extends.now limit;
      begun = record {
        own = own_of n (c ∷ []) extends.added extends.of_jobs;
        each = (inr part, tt);
        some = inl part;
      };
      count_is = is;
      full = full;
    }

-- ---- jobs that run beside each other

-- none has an entry yet
new_from : (h : List Entry) (n : ℕ) (cs : List Command) → ((job : ℕ) → n < job → job_state_of h job ≡ job_state.Fresh) → AllTry cs → AllNew h (works_from n cs)
new_from h n [] fresh try = tt
new_from h n (c ∷ cs) fresh try = (fresh (n + 1) (omega arith), refl, try.0, new_from h (n + 1) cs (λ job over. fresh job (omega (arith, over))) try.1)

not_among : (job n : ℕ) (cs : List Command) → job ≤ n → list_any (nat_eq job) (jobs_of (works_from n cs)) ≡ false
not_among job n [] under = refl
not_among job n (c ∷ cs) under =
    let apart : nat_eq job (n + 1) ≡ false = ne_eqb job (n + 1) (λ same. omega (arith, under, same)) in
    ap (λ (t : Bool). t || list_any (nat_eq job) (jobs_of (works_from (n + 1) cs))) apart ∙ not_among job (n + 1) cs (omega (arith, under))

-- no number comes twice
differ_from : (n : ℕ) (cs : List Command) → Differ (jobs_of (works_from n cs))
differ_from n [] = tt
differ_from n (c ∷ cs) = (not_among (n + 1) (n + 1) cs (omega arith), differ_from (n + 1) cs)

ended_at : (s : JobState) → is_ended s ≡ true → (index : ℕ) × (s ≡ job_state.Ended index)
ended_at job_state.Fresh e = absurd (cc)
ended_at (job_state.Reserved failed) e = absurd (cc)
ended_at (job_state.Conflicted failed) e = absurd (cc)
ended_at (job_state.Failed failed) e = absurd (cc)
ended_at (job_state.Ended index) e = (index, refl)

all_run : (budget n : ℕ) (before : List Entry) (cs : List Command) (h : List Entry) → AllEnds (length before) budget h (works_from n cs) → AllEnded h (works_from n cs) → AllRun budget n before cs h
unfolding AllRun
all_run budget n before [] h ends ended = tt
all_run budget n before (c ∷ cs) h ends ended =
    let at = ended_at (job_state_of h (n + 1)) ended.0 in
    (ends.0 at.0 at.1, all_run budget (n + 1) before cs h ends.2 ended.1)

run_or_begun : {A B : Type 0} (s : JobState) → ((index : ℕ) → s ≡ job_state.Ended index → A) → (is_ended s ≡ false → B) → A ⊎ B
run_or_begun {A} {B} job_state.Fresh run begun = inr (begun refl)
run_or_begun {A} {B} (job_state.Reserved failed) run begun = inr (begun refl)
run_or_begun {A} {B} (job_state.Conflicted failed) run begun = inr (begun refl)
run_or_begun {A} {B} (job_state.Failed failed) run begun = inr (begun refl)
run_or_begun {A} {B} (job_state.Ended index) run begun = inl (run index refl)

all_begun : (budget n : ℕ) (before : List Entry) (cs : List Command) (h : List Entry) → AllEnds (length before) budget h (works_from n cs) → AllBegun budget n before cs h
unfolding AllBegun
all_begun budget n before [] h ends = tt
all_begun budget n before (c ∷ cs) h ends = (run_or_begun (job_state_of h (n + 1)) ends.0 ends.1, all_begun budget (n + 1) before cs h ends.2)

some_begun : (budget n : ℕ) (before : List Entry) (cs : List Command) (h : List Entry) → AllEnds (length before) budget h (works_from n cs) → SomeOpen h (works_from n cs) → SomeBegun budget n before cs h
unfolding SomeBegun
some_begun budget n before [] h ends some = absurd some
some_begun budget n before (c ∷ cs) h ends (inl yet) = inl (ends.1 yet)
some_begun budget n before (c ∷ cs) h ends (inr more) = inr (some_begun budget (n + 1) before cs h ends.2 more)

-- all to their ends
ran_from : (n : ℕ) (cs : List Command) (budget : ℕ) (old new : History) → RanTogether budget (works_from n cs) old new → AllEnded new.entries (works_from n cs)
    → Ran n (Together cs) budget old new
ran_from n cs budget old new ran ended =
    record {
      segment = ran.extends.added;
      is = same_history old new ran.extends.added ran.extends.now ran.limit;
      run = record {
        own = own_of n cs ran.extends.added ran.extends.of_jobs;
        run = subst (λ (h : List Entry). AllRun budget n old.entries cs h) ran.extends.now (all_run budget n old.entries cs new.entries ran.ends ended);
      };
    }

-- one of them up to the limit of the history
met_from : (n : ℕ) (cs : List Command) (budget : ℕ) (old new : History) (count : ℕ) → RanTogether budget (works_from n cs) old new → length new.entries ≡ count → new.limit ≤ count
    → SomeOpen new.entries (works_from n cs) → Met n (Together cs) budget old new count
met_from n cs budget old new count ran is full some =
    record {
      segment = ran.extends.added;
      is = same_history old new ran.extends.added ran.extends.now ran.limit;
      begun = record {
        own = own_of n cs ran.extends.added ran.extends.of_jobs;
        each = subst (λ (h : List Entry). AllBegun budget n old.entries cs h) ran.extends.now (all_begun budget n old.entries cs new.entries ran.ends);
        some = subst (λ (h : List Entry). SomeBegun budget n old.entries cs h) ran.extends.now (some_begun budget n old.entries cs new.entries ran.ends some);
      };
      count_is = is;
      full = full;
    }

-- ---- the same of works that are those of the commands

pub all_new : (h : List Entry) (n : ℕ) (cs : List Command) (ws : List Work) → ws ≡ works_from n cs → ((job : ℕ) → n < job → job_state_of h job ≡ job_state.Fresh) → AllTry cs → AllNew h ws
all_new h n cs ws are fresh try = subst (λ (l : List Work). AllNew h l) (sym are) (new_from h n cs fresh try)

pub all_differ : (n : ℕ) (cs : List Command) (ws : List Work) → ws ≡ works_from n cs → Differ (jobs_of ws)
all_differ n cs ws are = subst (λ (l : List Work). Differ (jobs_of l)) (sym are) (differ_from n cs)

pub ran_together : (n : ℕ) (cs : List Command) (ws : List Work) (budget : ℕ) (old new : History) → ws ≡ works_from n cs → RanTogether budget ws old new → AllEnded new.entries ws → Ran n (Together cs) budget old new
ran_together n cs ws budget old new are ran ended =
    ran_from n cs budget old new (subst (λ (l : List Work). RanTogether budget l old new) are ran) (subst (λ (l : List Work). AllEnded new.entries l) are ended)

pub met_together : (n : ℕ) (cs : List Command) (ws : List Work) (budget : ℕ) (old new : History) (count : ℕ) → ws ≡ works_from n cs → RanTogether budget ws old new → length new.entries ≡ count → new.limit ≤ count
    → SomeOpen new.entries ws → Met n (Together cs) budget old new count
met_together n cs ws budget old new count are ran is full some =
    met_from n cs budget old new count (subst (λ (l : List Work). RanTogether budget l old new) are ran) is full (subst (λ (l : List Work). SomeOpen new.entries l) are some)
