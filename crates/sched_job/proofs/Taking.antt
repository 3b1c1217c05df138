-- One turn under the lock.
use Rattle.std.proofs.Common.{ℕ, ◌≡◌, ◌∙◌, ◌≤◌, ◌++◌, ◌⊎◌, inl, inr, List, [], ◌∷◌, Option, None, Some, Result, Ok, Err, OnOk, OnErr, IfOk, IsErrOf, length, refl, sym, ap, subst}
use mathlib.Core.List.{IsPrefix}
use Rattle.cluster.specs.declared.entry.Entry.{Entry}
use Rattle.cluster.specs.declared.entry.Event.{Event}
use Rattle.cluster.specs.History.{job_state_of}
use Rattle.ledger_core.specs.declared.error.LedgerError.{LedgerError}
use Rattle.ledger_core.specs.declared.error.LedgerError.TheVariants as error
use Rattle.ledger_core.specs.Ledger.{History}
use Rattle.histories.specs.Legal.{Legal}
use Rattle.turn_lock.specs.Known.{Known, entered, left}
use Rattle.turn_lock.specs.Places.{Grown}
use Rattle.sched_job.specs.declared.work.Next.{Next}
use Rattle.sched_job.specs.declared.work.Work.{Work}
use Rattle.sched_job.specs.Moves.{answer, moved, move_of, stage_after}
use Rattle.sched_job.specs.Runs.{Running}
use Rattle.histories.specs.JobRuns.{Run}
use Rattle.sched_job.specs.Going.{TookTurn, history}

grown_by : (H H' : History) (job : ℕ) (o : Option Event) → H' ≡ moved H job o → Grown H.entries H'.entries
grown_by H H' job None now = inl (ap (λ (x : History). x.entries) now)
grown_by H H' job (Some ev) now = inr (record { job = job; event = ev }, ap (λ (x : History). x.entries) now)

limit_by : (H H' : History) (job : ℕ) (o : Option Event) → H' ≡ moved H job o → H'.limit ≡ H.limit
limit_by H H' job None now = ap (λ (x : History). x.limit) now
limit_by H H' job (Some ev) now = ap (λ (x : History). x.limit) now

-- what a turn leaves of the ledger that it found
pub turn_grows : (r : Result Next LedgerError) (H0 H H' : History) (job : ℕ) (o : Option Event) → H ≡ H0 → OnOk r (H' ≡ moved H job o) → OnErr r (H' ≡ H) → Grown H0.entries H'.entries
turn_grows (Ok n) H0 H H' job o is ok err = subst (λ (x : History). Grown x.entries H'.entries) is (grown_by H H' job o ok)
turn_grows (Err e) H0 H H' job o is ok err = inl (ap (λ (x : History). x.entries) (err ∙ is))

pub turn_limit : (r : Result Next LedgerError) (H0 H H' : History) (job : ℕ) (o : Option Event) → H ≡ H0 → OnOk r (H' ≡ moved H job o) → OnErr r (H' ≡ H) → H'.limit ≡ H0.limit
turn_limit (Ok n) H0 H H' job o is ok err = limit_by H H' job o ok ∙ ap (λ (x : History). x.limit) is
turn_limit (Err e) H0 H H' job o is ok err = ap (λ (x : History). x.limit) (err ∙ is)

on_ok_map : {T E P Q : Type 0} (r : Result T E) → (P → Q) → OnOk r P → OnOk r Q
on_ok_map (Ok x) f p = f p
on_ok_map (Err e) f p = tt

on_err_map : {T E P Q : Type 0} (r : Result T E) → (P → Q) → OnErr r P → OnErr r Q
on_err_map (Ok x) f p = tt
on_err_map (Err e) f p = f p

took_at : (number : ℕ) (old new : Known Entry) (H H' : History) (w w' : Work) (r : Result Next LedgerError) → IsPrefix old.front H.entries → H.limit ≡ number → H'.limit ≡ number → new ≡ left (entered old H.entries) H'.entries → w'.job ≡ w.job → w'.command ≡ w.command
    → OnOk r (H' ≡ moved H w.job (move_of H.entries w)) → OnOk r (w'.stage ≡ stage_after H.entries w) → IfOk r (λ n. n ≡ answer (job_state_of H'.entries w.job) w'.stage) → OnErr r (H' ≡ H)
    → ((n : ℕ) → IsErrOf r (error.Full n) → (length H.entries ≡ n) × (H.limit ≤ n)) → ((c : Run) → Running c H.entries w → Running c H'.entries w') → Legal H'.entries → TookTurn number old new w w' r
took_at number old new H H' w w' r begins limit limit' pass job command ok stage answered err full running legal =
    let front : new.front ≡ H'.entries = ap (λ (k : Known Entry). k.front) pass in
    let is : H ≡ history number H.entries = ap (λ (n : ℕ). history n H.entries) limit in
    let now : history number new.front ≡ H' = ap (history number) front ∙ ap (λ (n : ℕ). history n H'.entries) (sym limit') in
    record {
      found = H.entries;
      begins = begins;
      pass = pass ∙ ap (λ (xs : List Entry). left (entered old H.entries) xs) (sym front);
      job = job;
      command = command;
      ok = on_ok_map r (λ (m : H' ≡ moved H w.job (move_of H.entries w)). now ∙ m ∙ ap (λ (x : History). moved x w.job (move_of H.entries w)) is) ok;
      stage = stage;
      answered = subst (λ (xs : List Entry). IfOk r (λ n. n ≡ answer (job_state_of xs w.job) w'.stage)) (sym front) answered;
      err = on_err_map r (λ (e : H' ≡ H). front ∙ ap (λ (x : History). x.entries) e) err;
      full = λ n e. let f = full n e in (f.0, subst (λ (k : ℕ). k ≤ n) limit f.1);
      running = λ c x. subst (λ (xs : List Entry). Running c xs w') (sym front) (running c x);
      legal = subst Legal (sym front) legal;
    }

pub took : (number : ℕ) (old mid new : Known Entry) (H0 H H' : History) (w w' : Work) (r : Result Next LedgerError) → H ≡ H0 → mid ≡ entered old H0.entries → IsPrefix old.front H0.entries → H0.limit ≡ number → new ≡ left mid H'.entries → w'.job ≡ w.job → w'.command ≡ w.command
    → OnOk r (H' ≡ moved H w.job (move_of H.entries w)) → OnOk r (w'.stage ≡ stage_after H.entries w) → IfOk r (λ n. n ≡ answer (job_state_of H'.entries w.job) w'.stage) → OnErr r (H' ≡ H)
    → ((n : ℕ) → IsErrOf r (error.Full n) → (length H.entries ≡ n) × (H.limit ≤ n)) → ((c : Run) → Running c H.entries w → Running c H'.entries w') → Legal H'.entries → TookTurn number old new w w' r
took number old mid new H0 H H' w w' r is entered_is begins limit pass job command ok stage answered err full running legal =
    took_at number old new H H' w w' r (subst (λ (x : History). IsPrefix old.front x.entries) (sym is) begins) (ap (λ (x : History). x.limit) is ∙ limit)
    (turn_limit r H0 H H' w.job (move_of H.entries w) is ok err ∙ limit)
    (pass ∙ ap (λ (k : Known Entry). left k H'.entries) (entered_is ∙ ap (λ (x : History). entered old x.entries) (sym is))) job command ok stage answered err full running legal
