-- Which jobs are ended in the history of a run.
use Rattle.std.proofs.Common.{ℕ, ◌+◌, ◌<◌, ◌≤◌, ◌≡◌, ◌∙◌, ◌⊎◌, inl, inr, Bool, true, false, cond, eqb, List, [], ◌∷◌, ◌++◌, length, refl, sym, ap, subst, arith}
use Rattle.std.proofs.lemmas.Bool.{cases_Bool, eqb-true, ne_eqb}
use Rattle.std.specs.Prelude.{nat_le}
use Rattle.cluster.specs.declared.entry.Entry.{Entry}
use Rattle.cluster.specs.declared.entry.JobState.{JobState}
use Rattle.cluster.specs.declared.entry.JobState.TheVariants.{Fresh}
use Rattle.cluster.specs.History.{job_state_of}
use Rattle.commands.specs.declared.command.Command.{Command}
use Rattle.commands.specs.declared.given.Given.{Given}
use Rattle.histories.specs.JobRuns.{is_ended}
use Rattle.replay_core.specs.declared.options.ReplayOptions.{ReplayOptions}
use Rattle.replay_core.specs.Causes.{HasOpen, IsSettled}
use Rattle.replay_core.specs.Forms.{count_of, members, width}
use Rattle.replay_core.specs.Jobs.{AllOwn, AllRun, RunFrom, RunOf, SegmentRun, SomeBegun}
use Rattle.replay_core.specs.Replay.{IsPart, IsRun}
use Rattle.replay_core.specs.Script.{commands_of}
use Rattle.replay_core.proofs.Counting.{StandLaw, absent, occurs, own_only}
use Rattle.replay_core.proofs.Searched.{past_next}

-- the jobs before some have no entry among theirs
not_before : (n count job : ℕ) (es : List Entry) → job ≤ n → AllOwn n count es → occurs job es ≡ false
unfolding AllOwn
not_before n count job [] under own = refl
not_before n count job (e ∷ es) under own =
    ap (λ (t : Bool). cond t true (occurs job es)) (ne_eqb e.job job (λ same. omega (arith, under, own.0, same))) ∙ not_before n count job es under own.2

-- each of the jobs is ended
member_ended : (budget n job : ℕ) (first h : List Entry) (cs : List Command) → n < job → job ≤ n + length cs → AllRun budget n first cs h → is_ended (job_state_of h job) ≡ true
unfolding AllRun
member_ended budget n job first h [] over under run = absurd (omega (arith, over, under))
member_ended budget n job first h (c ∷ cs) over under run = elim (cases_Bool (eqb job (n + 1))) as (λ _. is_ended (job_state_of h job) ≡ true) [
  | inl same ↦ ap (λ (k : ℕ). is_ended (job_state_of h k)) (eqb-true job (n + 1) same) ∙ ap is_ended run.0.ended
  | inr apart ↦
      let next : n + 1 < job = past_next n job over apart in
      member_ended budget (n + 1) job first h cs next (omega (arith, under)) run.1
]

settled_by : (h k : List Entry) (job : ℕ) → job_state_of h job ≡ job_state_of k job → IsSettled k job → IsSettled h job
settled_by h k job same s = subst (λ (st : JobState). (st ≡ Fresh) ⊎ (is_ended st ≡ true)) (sym same) s

-- one command's jobs after others that are settled
segment_settled : StandLaw → (budget n : ℕ) (g : Given) (before segment : List Entry) → ((job : ℕ) → IsSettled before job) → SegmentRun n g budget before segment → (job : ℕ) → IsSettled (before ++ segment) job
segment_settled law budget n g before segment settled run job = elim (cases_Bool (nat_le job n)) as (λ _. IsSettled (before ++ segment) job) [
  | inl under ↦ settled_by (before ++ segment) before job (absent law before segment job (not_before n (length (members g)) job segment (grind (arith, under)) run.own)) (settled job)
  | inr over ↦ elim (cases_Bool (nat_le job (n + length (members g)))) as (λ _. IsSettled (before ++ segment) job) [
    | inl under ↦ inr (member_ended budget n job before (before ++ segment) (members g) (grind (arith, over)) (grind (arith, under)) run.run)
    | inr past ↦ settled_by (before ++ segment) before job (own_only law n (length (members g)) before segment job (grind (arith, past)) run.own) (settled job)
  ]
]

from_settled : StandLaw → (budget n : ℕ) (before : List Entry) (gs : List Given) (after : List Entry) → ((job : ℕ) → IsSettled before job) → RunFrom budget n before gs after → (job : ℕ) → IsSettled after job
unfolding RunFrom
from_settled law budget n before [] after settled run job = settled_by after before job (ap (λ (h : List Entry). job_state_of h job) run) (settled job)
from_settled law budget n before (g ∷ gs) after settled run job =
    from_settled law budget (n + width g) (before ++ run.0) gs after (segment_settled law budget n g before run.0 settled run.1) run.2 job

pub run_settled : ((job : ℕ) → job_state_of [] job ≡ Fresh) → StandLaw → (options : ReplayOptions) (done : List (ℕ × Given)) (h : List Entry) → IsRun options done h → (job : ℕ) → IsSettled h job
unfolding RunOf
run_settled start law options done h run = from_settled law options.budget 0 [] (commands_of done) h (λ job. inl (start job)) run.run

-- of a command that reached the limit one job isn't ended
some_open : (budget n : ℕ) (first : List Entry) (cs : List Command) (h : List Entry) → SomeBegun budget n first cs h → HasOpen n (length cs) h
unfolding SomeBegun
some_open budget n first [] h some = absurd some
some_open budget n first (c ∷ cs) h (inl begun) = record { job = n + 1; after = omega arith; within = omega arith; open_yet = begun.open_yet }
some_open budget n first (c ∷ cs) h (inr some) =
    let o : HasOpen (n + 1) (length cs) h = some_open budget (n + 1) first cs h some in
    record { job = o.job; after = omega (arith, o.after); within = omega (arith, o.within); open_yet = o.open_yet }

pub part_open : (options : ReplayOptions) (done : List (ℕ × Given)) (c : Given) (h : List Entry) → IsPart options done c h → HasOpen (count_of (commands_of done)) (length (members c)) h
part_open options done c h p =
    subst (λ (x : List Entry). HasOpen (count_of (commands_of done)) (length (members c)) x) (sym p.is)
    (some_open options.budget (count_of (commands_of done)) p.before (members c) (p.before ++ p.segment) p.begun.some)
