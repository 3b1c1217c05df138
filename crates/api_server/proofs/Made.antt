-- A job that one turn carried out, or that a turn left as it was.
use Rattle.std.proofs.Common.{ℕ, ◌≡◌, ◌∙◌, ◌+◌, ◌≤◌, ◌<◌, ◌++◌, List, [], ◌∷◌, Bool, true, false, cond, eqb, Option, None, Some, length, refl, sym, ap, subst, arith, append-nil, append_assoc, length-append, eq-eqb, take}
use mathlib.Core.List.{IsPrefix}
use Rattle.std.proofs.lemmas.Bool.Decides.{nat_tests}
use Rattle.cluster.specs.declared.entry.Entry.{Entry}
use Rattle.cluster.specs.declared.entry.JobState.{JobState}
use Rattle.cluster.specs.declared.entry.JobState.TheVariants as job_state
use Rattle.cluster.specs.Events.{job_state_after}
use Rattle.cluster.specs.History.{entry_at, job_state_of, state_of}
use Rattle.commands.specs.declared.command.Command.{Command}
use Rattle.histories.specs.Histories.{Each}
use Rattle.histories.specs.JobRuns.{JobBegun, JobKept, JobRun, JobStep, Run, attempts_of, is_schedule}
use Rattle.histories.specs.Legal.{Legal}
use Rattle.sched_job.specs.Ledgers.{LedgerError}
use Rattle.sched_job.specs.Ledgers.ledger_error as ledger_error
use Rattle.turn_lock.specs.Known.{Known, entered, left}
use Rattle.turn_lock.specs.Places.{new_places}
use Rattle.sched_job.specs.Going.{Added, EndsBy, Worked, end_for, with_added}
use Rattle.sched_job.specs.Owned.{AllIn, AllMade, MadeAt, NoneOf}
use Rattle.sched_job.specs.declared.run.JobEnd.TheVariants as job_end
use Rattle.api_server.specs.declared.once.Acted.TheVariants as acted
use Rattle.api_server.specs.Once.{IsFailed, IsMade, TookOnce, entry_of, event_of}
use Rattle.api_server.specs.Served.{run_for}
use Rattle.api_server.proofs.Single.{EndsOnce, ends_once}

-- ---- the laws that are cited

abbrev pub Grows : Type 0
Grows = (h : List Entry) (e : Entry) (job : ℕ) → job_state_of (h ++ e ∷ []) job ≡ cond (eqb e.job job) (job_state_after (job_state_of h job) (length h + 1) e.event) (job_state_of h job)

abbrev pub Starts : Type 0
Starts = (job : ℕ) → job_state_of [] job ≡ job_state.Fresh

abbrev pub Begins : Type 0
Begins = (c : Run) (h : List Entry) → job_state_of h c.job ≡ job_state.Fresh → JobBegun c h

abbrev pub BegunMore : Type 0
BegunMore = (c : Run) (h more : List Entry) → NoneOf c.job h more → JobBegun c h → JobBegun c (h ++ more)

abbrev pub NoneMore : Type 0
NoneMore = (c : Run) (h more : List Entry) (added : List ℕ) → AllMade c h 0 added → AllIn c.job added (h ++ more) → AllIn c.job added h × NoneOf c.job h more

-- ---- the pass

abbrev with_own : Known Entry → List Entry → List ℕ → Known Entry
with_own old front own = record { table = old.table; front = front; own = own; share = old.share; number = old.number; turn = None }

known_left : (old new : Known Entry) (found : List Entry) (extra : List ℕ) → new ≡ left (entered old found) new.front → new_places (length found) (length new.front) ≡ extra → new ≡ with_added old new.front extra
known_left old new found extra now places = now ∙ ap (λ (ys : List ℕ). with_own old new.front (old.own ++ ys)) places

same_places : (a b : ℕ) → b ≡ a → new_places a b ≡ []
same_places a b is = let e : eqb a b ≡ true = eq-eqb a b (sym is) in ap (λ (x : Bool). cond x [] (b ∷ [])) e

more_places : (a b : ℕ) → b ≡ a + 1 → new_places a b ≡ (a + 1) ∷ []
more_places a b is = let e : eqb a b ≡ false = grind (arith, nat_tests) in ap (λ (x : Bool). cond x [] (b ∷ [])) e ∙ ap (λ (n : ℕ). n ∷ []) is

prefix_more : (a b : List Entry) (e : Entry) → IsPrefix a b → IsPrefix a (b ++ e ∷ [])
prefix_more a b e p = (p.0 ++ e ∷ [], sym (append_assoc a p.0 (e ∷ [])) ∙ ap (λ (xs : List Entry). xs ++ e ∷ []) p.1)

pub prefix_length : (a b : List Entry) → IsPrefix a b → length a ≤ length b
prefix_length a b p = let e : length (a ++ p.0) ≡ length b = ap length p.1 in omega (arith, length-append a p.0)

-- ---- one entry more

each_push : (P : List Entry → Entry → Type 0) (before xs : List Entry) (e : Entry) → Each P before xs → P (before ++ xs) e → Each P before (xs ++ e ∷ [])
unfolding Each
each_push P before [] e each last = (subst (λ (b : List Entry). P b e) (append-nil before) last, tt)
each_push P before (x ∷ xs) e each last = (each.0, each_push P (before ++ x ∷ []) xs e each.1 (subst (λ (b : List Entry). P b e) (sym (append_assoc before (x ∷ []) xs)) last))

same_job : (j : ℕ) → eqb j j ≡ true
same_job j = eq-eqb j j refl

pub run_made : Begins → Grows → (c : Run) (found front : List Entry) (event : Rattle.cluster.specs.declared.entry.Event.Event) → EndsOnce c found c.command event → job_state_of found c.job ≡ job_state.Fresh
    → 0 < attempts_of c.command → c.from ≤ length found → front ≡ found ++ record { job = c.job; event = event } ∷ [] → (job_state_of front c.job ≡ job_state.Ended (length found + 1)) × JobRun c front
run_made begins grows c found front event ends fresh some from is =
    let e : Entry = record { job = c.job; event = event } in
    let state : job_state_of front c.job ≡ job_state.Ended (length found + 1) =
    ap (λ (xs : List Entry). job_state_of xs c.job) is ∙ grows found e c.job
    ∙ ap (λ (b : Bool). cond b (job_state_after (job_state_of found c.job) (length found + 1) event) (job_state_of found c.job)) (same_job c.job)
    ∙ ends.ends (job_state_of found c.job) (length found + 1) in
    let step : JobStep c found event = record { after = from; of_command = ends.of_command; timed = ends.timed fresh some } in
    let kept : JobKept c (found ++ e ∷ []) = each_push (λ before d. d.job ≡ c.job → JobStep c before d.event) [] found e (begins c found fresh).kept (λ mine. step) in
    (state, record { kept = subst (JobKept c) (sym is) kept; index = length found + 1; ended = state })

-- the command of a job without an entry was carried out
pub worked_made : Begins → Grows → (job budget number : ℕ) (command : Command) (old new : Known Entry) (found : List Entry) → 0 < attempts_of command → is_schedule command ≡ false → IsPrefix old.front found → new ≡ left (entered old found) new.front
    → IsMade found new.front job command → Worked (run_for job budget command old) old new (job_end.Ended (length found + 1))
worked_made begins grows job budget number command old new found some once prefix pass made =
    let c : Run = run_for job budget command old in
    let event = event_of (state_of found) command in
    let e : Entry = entry_of found job command in
    let q : ℕ = length found + 1 in
    let ends = ends_once c found (state_of found) command once in
    let from : c.from ≤ length found = prefix_length old.front found prefix in
    let count : length new.front ≡ q = ap length made.is ∙ length-append found (e ∷ []) in
    let run = run_made begins grows c found new.front event ends made.fresh some from made.is in
    let here : MadeAt c new.front 0 q = record {
      before = found;
      event = event;
      rest = [];
      is = made.is;
      index_is = refl;
      past = omega (arith, from);
      later = omega arith;
      of_command = ends.of_command;
      timed = ends.own;
    } in
    record {
      added = q ∷ [];
      did = record {
        is = known_left old new found (q ∷ []) pass (more_places (length found) (length new.front) count);
        extends = subst (IsPrefix old.front) (sym made.is) (prefix_more old.front found e prefix);
        made = (here, tt);
      };
      legal = made.legal;
      ends = record { ended = run.0; run = λ all. run.1 };
    }

-- ---- nothing was done

begun_none : Begins → BegunMore → NoneMore → Starts → (c : Run) (h : List Entry) → AllIn c.job [] h → JobBegun c h
begun_none begins more none starts c h all = more c [] h (none c [] h [] tt all).1 (begins c [] (starts c.job))

ends_failed : Begins → BegunMore → NoneMore → Starts → (c : Run) (number : ℕ) (found front : List Entry) (error : LedgerError) → IsFailed number found front error → EndsBy c front [] number (end_for error)
ends_failed begins more none starts c number found front (ledger_error.Full n) failed =
    let f = failed.full n refl in
    record { count = ap length failed.same ∙ f.0; limit = f.1; begun = begun_none begins more none starts c front }
ends_failed begins more none starts c number found front ledger_error.Memory failed = begun_none begins more none starts c front

pub worked_failed : Begins → BegunMore → NoneMore → Starts → (job budget number : ℕ) (command : Command) (old new : Known Entry) (found : List Entry) (error : LedgerError) → new.number ≡ number → IsPrefix old.front found → new ≡ left (entered old found) new.front
    → IsFailed number found new.front error → Worked (run_for job budget command old) old new (end_for error)
worked_failed begins more none starts job budget number command old new found error same prefix pass failed =
    record {
      added = [];
      did = record {
        is = known_left old new found [] pass (same_places (length found) (length new.front) (ap length failed.same));
        extends = subst (IsPrefix old.front) (sym failed.same) prefix;
        made = tt;
      };
      legal = failed.legal;
      ends = subst (λ (n : ℕ). EndsBy (run_for job budget command old) new.front [] n (end_for error)) (sym same) (ends_failed begins more none starts (run_for job budget command old) number found new.front error failed);
    }
