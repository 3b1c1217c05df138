-- A job goes on under a lock, while others may add entries too.
use Rattle.std.proofs.Common.{ℕ, ◌≡◌, ◌∙◌, ◌+◌, ◌≤◌, ◌<◌, ◌++◌, List, [], ◌∷◌, Bool, true, false, cond, eqb, Option, None, Some, Result, Ok, Err, OnOk, OnErr, IfOk, IsErrOf, length, refl, sym, ap, subst, arith, append-nil, append_assoc, length-append, eq-eqb}
use mathlib.Core.List.{IsPrefix}
use Rattle.std.proofs.lemmas.Bool.Decides.{nat_tests}
use Rattle.cluster.specs.declared.entry.Entry.{Entry}
use Rattle.cluster.specs.declared.entry.Event.{Event}
use Rattle.cluster.specs.declared.entry.JobState.{JobState}
use Rattle.cluster.specs.declared.entry.JobState.TheVariants as job_state
use Rattle.cluster.specs.History.{job_state_of}
use Rattle.ledger_core.specs.declared.error.LedgerError.{LedgerError}
use Rattle.ledger_core.specs.declared.error.LedgerError.TheVariants as error
use Rattle.ledger_core.specs.Ledger.{History}
use Rattle.histories.specs.Legal.{Legal}
use Rattle.turn_lock.specs.Known.{Known, entered, left}
use Rattle.turn_lock.specs.Places.{new_places, times}
use Rattle.commands.specs.declared.command.Command.{Command}
use Rattle.sched_job.specs.declared.run.JobEnd.TheVariants as job_end
use Rattle.sched_job.specs.declared.work.Next.{Next}
use Rattle.sched_job.specs.declared.work.Next.TheVariants as next
use Rattle.sched_job.specs.declared.work.Stage.{Stage}
use Rattle.sched_job.specs.declared.work.Stage.TheVariants.{Ready, Seen, Chosen}
use Rattle.sched_job.specs.declared.work.Work.{Work}
use Rattle.sched_job.specs.Moves.{answer, answer_by, moved, move_of, stage_after, stage_by, Fits, FitsCommand}
use Rattle.sched_job.specs.Runs.{Running}
use Rattle.histories.specs.JobRuns.{Run, JobBegun, JobRun, attempts_of, is_ended}
use Rattle.sched_job.specs.Steps.{Thought, run_of}
use Rattle.sched_job.specs.Owned.{AllIn, AllMade, MadeAt, NoneOf, last_of}
use Rattle.sched_job.specs.Going.{Added, EndsBy, Going, IsOpen, OwnStaged, TookTurn, Worked, end_for, history, with_added}
use Rattle.sched_job.proofs.Growing.{Grows, job_state_other}
use Rattle.sched_job.proofs.Runnings.{running_other, staged_some}
use Rattle.sched_job.proofs.Stepping.{running_new}
use Rattle.sched_job.proofs.Owning.{each_front, each_back, in_less, last_push, last_within_made, made_more, made_push, none_fresh, none_past, past_others, times_past}
use Rattle.sched_job.proofs.Owned.{own_fits, own_good, own_looked, own_ready, own_thought, staged_more}

-- ---- the pass

abbrev with_own : Known Entry → List Entry → Option (List Entry) → List ℕ → Known Entry
with_own began front turn own = record { table = began.table; front = front; own = own; share = began.share; number = began.number; turn = turn }

-- a pass from which a turn was left has the new indices more
known_left : (began old new : Known Entry) (found : List Entry) (added extra : List ℕ)
    → old ≡ with_added began old.front added
    → new ≡ left (entered old found) new.front → new_places (length found) (length new.front) ≡ extra
    → new ≡ with_added began new.front (added ++ extra)
known_left began old new found added extra is now places =
    now
    ∙ ap (λ (k : Known Entry). left (entered k found) new.front) is
    ∙ ap (with_own began new.front None) (ap (λ (ys : List ℕ). (began.own ++ added) ++ ys) places ∙ append_assoc began.own added extra)

same_places : (a b : ℕ) → b ≡ a → new_places a b ≡ []
same_places a b is = let e : eqb a b ≡ true = eq-eqb a b (sym is) in ap (λ (x : Bool). cond x [] (b ∷ [])) e

more_places : (a b : ℕ) → b ≡ a + 1 → new_places a b ≡ (a + 1) ∷ []
more_places a b is = let e : eqb a b ≡ false = grind (arith, nat_tests) in ap (λ (x : Bool). cond x [] (b ∷ [])) e ∙ ap (λ (n : ℕ). n ∷ []) is

prefix_trans : (a b c : List Entry) → IsPrefix a b → IsPrefix b c → IsPrefix a c
prefix_trans a b c p q = (p.0 ++ q.0, sym (append_assoc a p.0 q.0) ∙ ap (λ (xs : List Entry). xs ++ q.0) p.1 ∙ q.1)

-- ---- a job that nobody else works on

open_other : Grows → (c : Run) (w : Work) (h : List Entry) (e : Entry) → eqb e.job c.job ≡ false → IsOpen c h w → IsOpen c (h ++ e ∷ []) w
open_other g c w h e other o = record { running = running_other g c h w e other o.running; open_yet = ap is_ended (job_state_other g h e c.job other) ∙ o.open_yet }

open_past : Grows → (c : Run) (w : Work) (h more : List Entry) (added : List ℕ) → AllMade c h 0 added → AllIn c.job added (h ++ more) → (AllIn c.job added h → IsOpen c h w) → IsOpen c (h ++ more) w
open_past g c w h more added made all open_yet =
    let P : List Entry → Entry → Type 0 = λ b e. e.job ≡ c.job → 0 < times (length b + 1) added in
    let front = each_front P [] h more all in
    let back = each_back P [] h more all in
    past_others c.job (λ (xs : List Entry). IsOpen c xs w) (λ xs e other o. open_other g c w xs e other o) h more
    (none_past c.job (length h) added h more (λ k lt. times_past c h 0 added k made lt) (omega arith) back) (open_yet front)

-- the job's run in the history that a turn found
open_found : Grows → (c : Run) (w : Work) (old found : List Entry) (added : List ℕ) → IsPrefix old found → AllMade c old 0 added → (AllIn c.job added old → IsOpen c old w) → AllIn c.job added found → IsOpen c found w
open_found g c w old found added p made open_yet all =
    subst (λ (xs : List Entry). IsOpen c xs w) p.1 (open_past g c w old p.0 added made (subst (AllIn c.job added) (sym p.1) all) open_yet)

less_in : (c : Run) (found : List Entry) (added : List ℕ) (e : Entry) → AllIn c.job (added ++ (length found + 1) ∷ []) (found ++ e ∷ []) → AllIn c.job added found
less_in c found added e all =
    in_less c.job (length found + 1) added [] found (omega arith)
    (each_front (λ b d. d.job ≡ c.job → 0 < times (length b + 1) (added ++ (length found + 1) ∷ [])) [] found (e ∷ []) all)

-- ---- a turn

-- the work after a turn: as on its way, but it isn't known whether the job has ended
pub record GoneOn (c : Run) (began now : Known Entry) (w : Work) : Type 0 where
  pub added : List ℕ
  pub did : Added c began now added
  pub job : w.job ≡ c.job
  pub command : w.command ≡ c.command
  pub from : c.from ≤ length now.front
  pub staged : OwnStaged c (last_of 0 added) now.front c.command w.stage
  pub running : AllIn c.job added now.front → Running c now.front w

pub going_fits : (c : Run) (began now : Known Entry) (w : Work) → Going c began now w → (more : List Entry) → Fits (now.front ++ more) w
going_fits c began now w g more =
    subst (λ (x : Command). FitsCommand (now.front ++ more) x w.stage) (sym g.command)
    (own_fits c (last_of 0 g.added) (now.front ++ more) c.command w.stage (staged_more c (last_of 0 g.added) now.front more c.command w.stage g.staged))

prefix_length : (a b : List Entry) → IsPrefix a b → length a ≤ length b
prefix_length a b p = let e : length (a ++ p.0) ≡ length b = ap length p.1 in omega (arith, length-append a p.0)

gone_none : Grows → (c : Run) (began old new : Known Entry) (w w' : Work) (found : List Entry) → Going c began old w → IsPrefix old.front found → new ≡ left (entered old found) new.front → w'.job ≡ w.job → w'.command ≡ w.command
    → new.front ≡ found → w'.stage ≡ stage_by found (job_state_of found w.job) w.command None → ((r : Run) → Running r found w → Running r new.front w') → GoneOn c began new w'
gone_none g c began old new w w' found on p pass job command same kept running =
    let made : AllMade c found 0 on.added = subst (λ (xs : List Entry). AllMade c xs 0 on.added) p.1 (made_more c old.front p.0 0 on.added on.did.made) in
    let longer = prefix_length old.front found p in
    let from = on.from in
    let last = last_within_made c old.front 0 on.added on.did.made (omega arith) in
    let staged = subst (OwnStaged c (last_of 0 on.added) found c.command) (sym kept) (own_looked c (last_of 0 on.added) found w (job_state_of found w.job) on.command (omega arith) (omega arith)) in
    let is = known_left began old new found on.added [] on.did.is pass (same_places (length found) (length new.front) (ap length same)) in
    record {
      added = on.added;
      did = record {
        is = is ∙ ap (with_added began new.front) (append-nil on.added);
        extends = subst (IsPrefix began.front) (sym same) (prefix_trans began.front old.front found on.did.extends p);
        made = subst (λ (xs : List Entry). AllMade c xs 0 on.added) (sym same) made;
      };
      job = job ∙ on.job;
      command = command ∙ on.command;
      from = (let n : length new.front ≡ length found = ap length same in omega arith);
      staged = subst (λ (xs : List Entry). OwnStaged c (last_of 0 on.added) xs c.command w'.stage) (sym same) staged;
      running = λ all. running c (open_found g c w old.front found on.added p on.did.made on.alone (subst (AllIn c.job on.added) same all)).running;
    }

gone_some : Grows → (c : Run) (began old new : Known Entry) (w w' : Work) (found : List Entry) (ev : Event) → Going c began old w → IsPrefix old.front found → new ≡ left (entered old found) new.front → w'.job ≡ w.job → w'.command ≡ w.command
    → move_of found w ≡ Some ev → new.front ≡ found ++ record { job = w.job; event = ev } ∷ [] → w'.stage ≡ stage_by found (job_state_of found w.job) w.command (Some ev) → ((r : Run) → Running r found w → Running r new.front w') → GoneOn c began new w'
gone_some g c began old new w w' found ev on p pass job command moves now kept running =
    let e : Entry = record { job = w.job; event = ev } in
    let q : ℕ = length found + 1 in
    let made : AllMade c found 0 on.added = subst (λ (xs : List Entry). AllMade c xs 0 on.added) p.1 (made_more c old.front p.0 0 on.added on.did.made) in
    let longer = prefix_length old.front found p in
    let from = on.from in
    let last = last_within_made c old.front 0 on.added on.did.made (omega arith) in
    let staged : OwnStaged c (last_of 0 on.added) found c.command w.stage = subst (λ (xs : List Entry). OwnStaged c (last_of 0 on.added) xs c.command w.stage) p.1 (staged_more c (last_of 0 on.added) old.front p.0 c.command w.stage on.staged) in
    let good = own_good c (last_of 0 on.added) found w ev on.job on.command staged moves in
    let here : MadeAt c new.front (last_of 0 on.added) q = record {
      before = found;
      event = ev;
      rest = [];
      is = now ∙ ap (λ (n : ℕ). found ++ record { job = n; event = ev } ∷ []) on.job;
      index_is = refl;
      past = omega arith;
      later = omega arith;
      of_command = good.of_command;
      timed = good.timed;
    } in
    let made' : AllMade c new.front 0 on.added = subst (λ (xs : List Entry). AllMade c xs 0 on.added) (sym now) (made_more c found (e ∷ []) 0 on.added made) in
    let count : length new.front ≡ q = ap length now ∙ omega (arith, length-append found (e ∷ [])) in
    let ready : w'.stage ≡ Ready = kept ∙ staged_some found (job_state_of found w.job) w.command ev in
    record {
      added = on.added ++ q ∷ [];
      did = record {
        is = known_left began old new found on.added (q ∷ []) on.did.is pass (more_places (length found) (length new.front) count);
        extends = subst (IsPrefix began.front) (sym now) (prefix_trans began.front found (found ++ e ∷ []) (prefix_trans began.front old.front found on.did.extends p) (e ∷ [], refl));
        made = made_push c new.front 0 on.added q made' here;
      };
      job = job ∙ on.job;
      command = command ∙ on.command;
      from = omega arith;
      staged = subst (OwnStaged c (last_of 0 (on.added ++ q ∷ [])) new.front c.command) (sym ready) (own_ready c (last_of 0 (on.added ++ q ∷ [])) new.front c.command);
      running = λ all.
          let all' : AllIn c.job (on.added ++ q ∷ []) (found ++ e ∷ []) = subst (AllIn c.job (on.added ++ q ∷ [])) now all in
          running c (open_found g c w old.front found on.added p on.did.made on.alone (less_in c found on.added e all')).running;
    }

pub gone : Grows → (c : Run) (began old new : Known Entry) (w w' : Work) (number : ℕ) (found : List Entry) (o : Option Event) → Going c began old w → IsPrefix old.front found → new ≡ left (entered old found) new.front → w'.job ≡ w.job → w'.command ≡ w.command
    → move_of found w ≡ o → history number new.front ≡ moved (history number found) w.job o → w'.stage ≡ stage_by found (job_state_of found w.job) w.command o
    → ((r : Run) → Running r found w → Running r new.front w') → GoneOn c began new w'
gone g c began old new w w' number found None on p pass job command moves now kept running =
    gone_none g c began old new w w' found on p pass job command (ap (λ (x : History). x.entries) now) kept running
gone g c began old new w w' number found (Some ev) on p pass job command moves now kept running =
    gone_some g c began old new w w' found ev on p pass job command moves (ap (λ (x : History). x.entries) now) kept running

-- ---- what a turn returns

on_ok : {T E P : Type 0} (r : Result T E) (x : T) → r ≡ Ok x → OnOk r P → P
on_ok {T} {E} {P} r x is p = subst (λ (q : Result T E). OnOk q P) is p

-- the answer of a job that hasn't ended
open_answer : (st : JobState) (kept : Stage) (n : Next) → n ≡ answer st kept → ((p : ℕ) → n ≡ next.Ended p → ⊥) → is_ended st ≡ false
open_answer job_state.Fresh kept n is never = refl
open_answer (job_state.Reserved k) kept n is never = refl
open_answer (job_state.Conflicted k) kept n is never = refl
open_answer (job_state.Failed k) kept n is never = refl
open_answer (job_state.Ended p) kept n is never = absurd (never p is)

not_ended : (kept : Stage) (p : ℕ) → next.Ended p ≡ answer_by kept → ⊥
not_ended Ready p is = cc
not_ended (Seen seen) p is = cc
not_ended (Chosen choice) p is = cc

ended_answer : (st : JobState) (kept : Stage) (p : ℕ) → next.Ended p ≡ answer st kept → st ≡ job_state.Ended p
ended_answer job_state.Fresh kept p is = absurd (not_ended kept p is)
ended_answer (job_state.Reserved k) kept p is = absurd (not_ended kept p is)
ended_answer (job_state.Conflicted k) kept p is = absurd (not_ended kept p is)
ended_answer (job_state.Failed k) kept p is = absurd (not_ended kept p is)
ended_answer (job_state.Ended q) kept p is = cc

if_ok : {T E : Type 0} (P : T → Type 0) (r : Result T E) (x : T) → r ≡ Ok x → IfOk r P → P x
if_ok P r x is p = subst (λ q. IfOk q P) is p

on_err : {T E P : Type 0} (r : Result T E) (x : E) → r ≡ Err x → OnErr r P → P
on_err {T} {E} {P} r x is p = subst (λ (q : Result T E). OnErr q P) is p

pub ok_of : (r : Result Next LedgerError) (x y : Next) → r ≡ Ok x → x ≡ y → r ≡ Ok y
ok_of r x y is same = subst (λ (z : Next). r ≡ Ok z) same is

took_gone : Grows → (c : Run) (began old new : Known Entry) (w w' : Work) (number : ℕ) (r : Result Next LedgerError) (n : Next) → Going c began old w → TookTurn number old new w w' r → r ≡ Ok n → GoneOn c began new w'
took_gone g c began old new w w' number r n on t is =
    gone g c began old new w w' number t.found (move_of t.found w) on t.begins t.pass t.job t.command refl (on_ok r n is t.ok) (on_ok r n is t.stage) t.running

took_answer : (c : Run) (old new : Known Entry) (w w' : Work) (number : ℕ) (r : Result Next LedgerError) (n : Next) → TookTurn number old new w w' r → r ≡ Ok n → w.job ≡ c.job → n ≡ answer (job_state_of new.front c.job) w'.stage
took_answer c old new w w' number r n t is job =
    if_ok (λ x. x ≡ answer (job_state_of new.front w.job) w'.stage) r n is t.answered ∙ ap (λ (k : ℕ). answer (job_state_of new.front k) w'.stage) job

gone_going : (c : Run) (began now : Known Entry) (w : Work) → GoneOn c began now w → is_ended (job_state_of now.front c.job) ≡ false → Going c began now w
gone_going c began now w g open_yet = record {
  added = g.added;
  did = g.did;
  job = g.job;
  command = g.command;
  from = g.from;
  staged = g.staged;
  alone = λ all. record { running = g.running all; open_yet = open_yet };
}

-- after a turn that another turn follows
pub goes_again : Grows → (c : Run) (began old new : Known Entry) (w w' : Work) (number : ℕ) (r : Result Next LedgerError) → Going c began old w → TookTurn number old new w w' r → r ≡ Ok next.Again → Going c began new w'
goes_again g c began old new w w' number r on t is =
    gone_going c began new w' (took_gone g c began old new w w' number r next.Again on t is)
    (open_answer (job_state_of new.front c.job) w'.stage next.Again (took_answer c old new w w' number r next.Again t is on.job) (λ p e. cc))

-- after a turn that a search follows
pub goes_thinking : Grows → (c : Run) (began old new : Known Entry) (w w' w'' : Work) (number budget : ℕ) (r : Result Next LedgerError) → Going c began old w → TookTurn number old new w w' r → r ≡ Ok next.Think → c.budget ≡ budget → w''.job ≡ w'.job → w''.command ≡ w'.command
    → Thought budget w'.command w'.stage w''.stage → ((h : List Entry) → Running c h w' → Running c h w'') → Going c began new w''
goes_thinking g c began old new w w' w'' number budget r on t is same job command thought running =
    let gone' = took_gone g c began old new w w' number r next.Think on t is in
    let open_yet = open_answer (job_state_of new.front c.job) w'.stage next.Think (took_answer c old new w w' number r next.Think t is on.job) (λ p e. cc) in
    record {
      added = gone'.added;
      did = gone'.did;
      job = job ∙ gone'.job;
      command = command ∙ gone'.command;
      from = gone'.from;
      staged = own_thought c (last_of 0 gone'.added) new.front w'.command w'.stage w''.stage budget gone'.command same thought gone'.staged;
      alone = λ all. record { running = running new.front (gone'.running all); open_yet = open_yet };
    }

-- after a turn with which the job ended
pub works_ended : Grows → (c : Run) (began old new : Known Entry) (w w' : Work) (number p : ℕ) (r : Result Next LedgerError) → Going c began old w → TookTurn number old new w w' r → r ≡ Ok (next.Ended p) → Worked c began new (job_end.Ended p)
works_ended g c began old new w w' number p r on t is =
    let gone' = took_gone g c began old new w w' number r (next.Ended p) on t is in
    let end : job_state_of new.front c.job ≡ job_state.Ended p = ended_answer (job_state_of new.front c.job) w'.stage p (took_answer c old new w w' number r (next.Ended p) t is on.job) in
    record {
      added = gone'.added;
      did = gone'.did;
      legal = t.legal;
      ends = record { ended = end; run = λ all. record { kept = (gone'.running all).kept; index = p; ended = end } };
    }

-- where memory ran out in the search after a turn
pub works_unthought : Grows → (c : Run) (began old new : Known Entry) (w w' : Work) (number : ℕ) (r : Result Next LedgerError) → Going c began old w → TookTurn number old new w w' r → r ≡ Ok next.Think → Worked c began new job_end.Memory
works_unthought g c began old new w w' number r on t is =
    let gone' = took_gone g c began old new w w' number r next.Think on t is in
    let open_yet = open_answer (job_state_of new.front c.job) w'.stage next.Think (took_answer c old new w w' number r next.Think t is on.job) (λ p e. cc) in
    record {
      added = gone'.added;
      did = gone'.did;
      legal = t.legal;
      ends = λ all. record { kept = (gone'.running all).kept; open_yet = open_yet };
    }

-- what a turn without effect leaves
record Unmoved (c : Run) (began new : Known Entry) : Type 0 where
  pub added : List ℕ
  pub did : Added c began new added
  pub begun : AllIn c.job added new.front → JobBegun c new.front

unmoved : Grows → (c : Run) (began old new : Known Entry) (w w' : Work) (number : ℕ) (r : Result Next LedgerError) (e : LedgerError) → Going c began old w → TookTurn number old new w w' r → r ≡ Err e → Unmoved c began new
unmoved g c began old new w w' number r e on t is =
    let same : new.front ≡ t.found = on_err r e is t.err in
    let made : AllMade c t.found 0 on.added = subst (λ (xs : List Entry). AllMade c xs 0 on.added) t.begins.1 (made_more c old.front t.begins.0 0 on.added on.did.made) in
    record {
      added = on.added;
      did = record {
        is = known_left began old new t.found on.added [] on.did.is t.pass (same_places (length t.found) (length new.front) (ap length same))
            ∙ ap (with_added began new.front) (append-nil on.added);
        extends = subst (IsPrefix began.front) (sym same) (prefix_trans began.front old.front t.found on.did.extends t.begins);
        made = subst (λ (xs : List Entry). AllMade c xs 0 on.added) (sym same) made;
      };
      begun = λ all.
          let o = open_found g c w old.front t.found on.added t.begins on.did.made on.alone (subst (AllIn c.job on.added) same all) in
          subst (JobBegun c) (sym same) (record { kept = o.running.kept; open_yet = o.open_yet });
    }

-- where the history has its limit of entries
works_full : Grows → (c : Run) (began old new : Known Entry) (w w' : Work) (number n : ℕ) (r : Result Next LedgerError) → old.number ≡ number → Going c began old w → TookTurn number old new w w' r → r ≡ Err (error.Full n) → Worked c began new (job_end.Full n)
works_full g c began old new w w' number n r of on t is =
    let u = unmoved g c began old new w w' number r (error.Full n) on t is in
    let f = t.full n (full_of r n is) in
    let same : new.front ≡ t.found = on_err r (error.Full n) is t.err in
    let number_is : new.number ≡ number = ap (λ (k : Known Entry). k.number) t.pass ∙ of in
    record {
      added = u.added;
      did = u.did;
      legal = t.legal;
      ends = record { count = ap length same ∙ f.0; limit = subst (λ (k : ℕ). k ≤ n) (sym number_is) f.1; begun = u.begun };
    }
  where
    full_of : (r : Result Next LedgerError) (n : ℕ) → r ≡ Err (error.Full n) → IsErrOf r (error.Full n)
    full_of r n is = subst (λ q. IsErrOf q (error.Full n)) (sym is) refl

-- where memory ran out in a turn
works_stopped : Grows → (c : Run) (began old new : Known Entry) (w w' : Work) (number : ℕ) (r : Result Next LedgerError) → Going c began old w → TookTurn number old new w w' r → r ≡ Err error.Memory → Worked c began new job_end.Memory
works_stopped g c began old new w w' number r on t is =
    let u = unmoved g c began old new w w' number r error.Memory on t is in
    record { added = u.added; did = u.did; legal = t.legal; ends = u.begun }

-- where a turn failed
pub works_failed : Grows → (c : Run) (began old new : Known Entry) (w w' : Work) (number : ℕ) (r : Result Next LedgerError) (e : LedgerError) → old.number ≡ number → Going c began old w → TookTurn number old new w w' r → r ≡ Err e → Worked c began new (end_for e)
works_failed g c began old new w w' number r (error.Full n) of on t is = works_full g c began old new w w' number n r of on t is
works_failed g c began old new w w' number r error.Memory of on t is = works_stopped g c began old new w w' number r on t is

-- ---- the beginning

pub going_new : (budget : ℕ) (began : Known Entry) (w : Work) → began.turn ≡ None → w.stage ≡ Ready → 0 < attempts_of w.command → Going (run_of (length began.front) budget w) began began w
going_new budget began w free ready some = record {
  added = [];
  did = record {
    is = ap (λ (t : Option (List Entry)). with_own began began.front t began.own) free
        ∙ ap (with_own began began.front None) (sym (append-nil began.own));
    extends = ([], append-nil began.front);
    made = tt;
  };
  job = refl;
  command = refl;
  from = omega arith;
  staged = subst (OwnStaged (run_of (length began.front) budget w) 0 began.front w.command) (sym ready) (own_ready (run_of (length began.front) budget w) 0 began.front w.command);
  alone = λ all.
      let none : NoneOf w.job [] began.front = none_past w.job 0 [] [] began.front (λ k lt. refl) (omega arith) all in
      let fresh : job_state_of began.front w.job ≡ job_state.Fresh = none_fresh w.job began.front none in
      record { running = running_new budget began.front w fresh ready some; open_yet = ap is_ended fresh };
}
