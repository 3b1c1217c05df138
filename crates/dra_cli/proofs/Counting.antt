-- How many entries the run of a script's commands has at most.
use Rattle.std.proofs.Common.{ℕ, ◌≡◌, ◌∙◌, ◌≤◌, ◌+◌, ◌++◌, ◌⊎◌, inl, inr, List, [], ◌∷◌, if◌then◌else◌, map, length, length-append, append_assoc, append-nil, refl, sym, ap, subst, arith}
use Rattle.std.proofs.lemmas.Bool.{ne_eqb}
use Rattle.cluster.specs.declared.entry.Entry.{Entry}
use Rattle.cluster.specs.declared.entry.JobState.TheVariants.{Fresh}
use Rattle.cluster.specs.History.{job_state_of, next_job_state, state_of, told}
use Rattle.cluster.specs.Events.{job_state_after}
use Rattle.commands.specs.declared.command.Command.{Command}
use Rattle.commands.specs.declared.given.Given.{Given}
use Rattle.commands.specs.declared.given.Given.TheVariants.{One}
use Rattle.histories.specs.Alone.{NeverSetBack}
use Rattle.histories.specs.JobRuns.{JobBegun, JobKept, JobRun, Run}
use Rattle.histories.specs.Legal.{Legal}
use Rattle.short_jobs.specs.Short.{AllOf, HasFewClaims, PodsHaveFewClaims, entries_most}
use Rattle.replay_core.specs.Forms.{count_of, width}
use Rattle.replay_core.specs.Jobs.{AllBegun, AllOwn, AllRun, RunFrom, RunOf, SegmentBegun, SegmentRun, run_after}
use Rattle.dra_cli.proofs.Small.{AllSmall, most_of}

-- what crates below say of jobs and of histories
pub record Laws : Type 0 where
  pub short : (c : Run) (before segment : List Entry) → Legal (before ++ segment) → PodsHaveFewClaims (state_of before) → HasFewClaims c.command → job_state_of before c.job ≡ Fresh → AllOf c.job segment → JobKept c (before ++ segment) → NeverSetBack c.job (before ++ segment) → (length segment ≤ entries_most c.command) × PodsHaveFewClaims (state_of (before ++ segment))
  pub run : (n : ℕ) (command : Command) (budget : ℕ) (before segment : List Entry) → Legal (before ++ segment) → SegmentRun n (One command) budget before segment → NeverSetBack (n + 1) (before ++ segment)
  pub part : (n : ℕ) (command : Command) (budget : ℕ) (before segment : List Entry) → Legal (before ++ segment) → SegmentBegun n (One command) budget before segment → NeverSetBack (n + 1) (before ++ segment)
  pub prefix : (prefix back : List Entry) → Legal (prefix ++ back) → Legal prefix

-- ---- jobs that have no entry yet

-- the entries are of jobs up to this number
abbrev pub AllBelow : ℕ → List Entry → Type 0
AllBelow n [] = Unit {0}
AllBelow n (e ∷ es) = (e.job ≤ n) × AllBelow n es

below_more : (n m : ℕ) (es : List Entry) → n ≤ m → AllBelow n es → AllBelow m es
below_more n m [] le h = tt
below_more n m (e ∷ es) le h = (omega (arith, le, h.0), below_more n m es le h.1)

below_append : (n : ℕ) (es fs : List Entry) → AllBelow n es → AllBelow n fs → AllBelow n (es ++ fs)
below_append n [] fs h g = g
below_append n (e ∷ es) fs h g = (h.0, below_append n es fs h.1 g)

own_below : (n : ℕ) (es : List Entry) → AllOwn n 1 es → AllBelow (n + 1) es
unfolding AllOwn
own_below n [] h = tt
own_below n (e ∷ es) h = (h.1, own_below n es h.2)

own_of : (n : ℕ) (es : List Entry) → AllOwn n 1 es → AllOf (n + 1) es
unfolding AllOwn
own_of n [] h = tt
own_of n (e ∷ es) h = (omega (arith, h.0, h.1), own_of n es h.2)

still_fresh : (n index : ℕ) (es : List Entry) → AllBelow n es → told (next_job_state (n + 1)) Fresh index es ≡ Fresh
unfolding told
still_fresh n index [] h = refl
still_fresh n index (e ∷ es) h =
    ap (λ b. told (next_job_state (n + 1)) (if b then job_state_after Fresh (index + 1) e.event else Fresh) (index + 1) es) (ne_eqb e.job (n + 1) (λ is. omega (arith, is, h.0)))
    ∙ still_fresh n (index + 1) es h.1

fresh : (n : ℕ) (es : List Entry) → AllBelow n es → job_state_of es (n + 1) ≡ Fresh
unfolding job_state_of
fresh n es h = still_fresh n 0 es h

-- ---- the entries of one command

-- the entries are of jobs up to this number, pods have one claim at most, and so many entries are the most
pub record Counted (n most : ℕ) (h : List Entry) : Type 0 where
  pub below : AllBelow n h
  pub few : PodsHaveFewClaims (state_of h)
  pub within : length h ≤ most

segment_counted : Laws → (budget n most : ℕ) (c : Command) (before segment : List Entry) → HasFewClaims c → Counted n most before → Legal (before ++ segment) → AllOwn n 1 segment → JobKept (run_after (n + 1) c budget before) (before ++ segment) → NeverSetBack (n + 1) (before ++ segment)
    → Counted (n + 1) (most + entries_most c) (before ++ segment)
segment_counted laws budget n most c before segment small h legal own kept never =
    let ends = laws.short (run_after (n + 1) c budget before) before segment legal h.few small (fresh n before h.below) (own_of n segment own) kept never in
    record {
      below = below_append (n + 1) before segment (below_more n (n + 1) before (omega arith) h.below) (own_below n segment own);
      few = ends.1;
      within = omega (arith, ends.0, h.within, length-append before segment);
    }

run_kept : (budget n : ℕ) (c : Command) (before h : List Entry) → AllRun budget n before (c ∷ []) h → JobKept (run_after (n + 1) c budget before) h
unfolding AllRun
run_kept budget n c before h r = r.0.kept

either_kept : (r : Run) (h : List Entry) → JobRun r h ⊎ JobBegun r h → JobKept r h
either_kept r h (inl x) = x.kept
either_kept r h (inr x) = x.kept

begun_kept : (budget n : ℕ) (c : Command) (before h : List Entry) → AllBegun budget n before (c ∷ []) h → JobKept (run_after (n + 1) c budget before) h
unfolding AllBegun
begun_kept budget n c before h r = either_kept (run_after (n + 1) c budget before) h r.0

whole_counted : Laws → (budget n most : ℕ) (c : Command) (before segment : List Entry) → HasFewClaims c → Counted n most before → Legal (before ++ segment) → SegmentRun n (One c) budget before segment → Counted (n + 1) (most + entries_most c) (before ++ segment)
whole_counted laws budget n most c before segment small h legal r =
    segment_counted laws budget n most c before segment small h legal r.own (run_kept budget n c before (before ++ segment) r.run) (laws.run n c budget before segment legal r)

pub part_counted : Laws → (budget n most : ℕ) (c : Command) (before segment : List Entry) → HasFewClaims c → Counted n most before → Legal (before ++ segment) → SegmentBegun n (One c) budget before segment → Counted (n + 1) (most + entries_most c) (before ++ segment)
part_counted laws budget n most c before segment small h legal r =
    segment_counted laws budget n most c before segment small h legal r.own (begun_kept budget n c before (before ++ segment) r.each) (laws.part n c budget before segment legal r)

-- ---- the entries of a run

-- what a run leads to begins with what it began with
grown : (budget n : ℕ) (before : List Entry) (gs : List Given) (after : List Entry) → RunFrom budget n before gs after → (more : List Entry) × (after ≡ before ++ more)
unfolding RunFrom
grown budget n before [] after h = ([], h ∙ sym (append-nil before))
grown budget n before (g ∷ gs) after h = let r = grown budget (n + width g) (before ++ h.0) gs after h.2 in (h.0 ++ r.0, r.1 ∙ append_assoc before h.0 r.0)

run_counted : Laws → (budget n most m total : ℕ) (before : List Entry) (cs : List Command) (after : List Entry) → n + length cs ≤ m → most + most_of cs ≤ total → AllSmall cs → Counted n most before → Legal after → RunFrom budget n before (map One cs) after → Counted m total after
unfolding RunFrom
run_counted laws budget n most m total before [] after jobs entries small h legal r =
    subst (Counted m total) (sym r) (record { below = below_more n m before (omega (arith, jobs)) h.below; few = h.few; within = omega (arith, entries, h.within) })
run_counted laws budget n most m total before (c ∷ cs) after jobs entries small h legal r =
    let more = grown budget (n + 1) (before ++ r.0) (map One cs) after r.2 in
    let first : Legal (before ++ r.0) = laws.prefix (before ++ r.0) more.0 (subst Legal more.1 legal) in
    run_counted laws budget (n + 1) (most + entries_most c) m total (before ++ r.0) cs after (omega (arith, jobs)) (omega (arith, entries)) small.1
    (whole_counted laws budget n most c before r.0 small.0 h first r.1) legal r.2

none_yet : Counted 0 0 []
unfolding state_of told
none_yet = record { below = tt; few = tt; within = omega arith }

-- so many entries are the most of a run of these commands
pub all_counted : Laws → (budget : ℕ) (cs : List Command) (h : List Entry) → AllSmall cs → Legal h → RunOf budget (map One cs) h → Counted (length cs) (most_of cs) h
unfolding RunOf
all_counted laws budget cs h small legal r = run_counted laws budget 0 0 (length cs) (most_of cs) [] cs h (omega arith) (omega arith) small none_yet legal r

pub count_ones : (cs : List Command) → count_of (map One cs) ≡ length cs
count_ones [] = refl
count_ones (c ∷ cs) = omega (arith, count_ones cs)
