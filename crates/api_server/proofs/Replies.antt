-- How a command is replied to by the end of its job.
use Rattle.std.proofs.Common.{ℕ, ◌≡◌, ◌∙◌, ◌+◌, ◌-◌, ◌≤◌, ◌<◌, ◌++◌, ◌⊎◌, inl, inr, List, [], ◌∷◌, Bool, true, false, cond, eqb, Option, None, Some, Result, Ok, Err, IfOk, IfErr, IfSome, length, refl, sym, ap, subst, arith, append-nil, append_assoc, length-append, eqb-true, take, slice_get}
use mathlib.Core.List.{IsPrefix}
use Rattle.std.proofs.Math.Seq.{take-length}
use Rattle.std.proofs.lemmas.Bool.Decides.{nat_tests}
use Rattle.cluster.specs.declared.entry.Entry.{Entry}
use Rattle.cluster.specs.declared.entry.Event.{Event}
use Rattle.cluster.specs.declared.entry.Event.TheVariants.{Applied, Deleted, Reserved, Refused, Wrote, Conflict, Unreserved, Bound, VerdictGiven, Contended, Released, Adopted, Denied}
use Rattle.cluster.specs.declared.entry.JobState.{JobState}
use Rattle.cluster.specs.declared.entry.JobState.TheVariants as job_state
use Rattle.cluster.specs.declared.state.State.{State}
use Rattle.cluster.specs.Events.{job_state_after}
use Rattle.cluster.specs.History.{entry_at, job_state_of, state_of}
use Rattle.commands.specs.declared.command.Command.{Command}
use Rattle.commands.specs.declared.command.Command.TheVariants.{Apply, Invalid, Delete, Schedule, Release, Adopt}
use Rattle.histories.specs.JobRuns.{Run, attempts_of, is_schedule}
use Rattle.http_wire.specs.declared.reply.Reply.{Reply}
use Rattle.sched_job.specs.Ledgers.{LedgerError}
use Rattle.sched_job.specs.Ledgers.ledger_error as ledger_error
use Rattle.turn_lock.specs.Known.{Known, entered, left}
use Rattle.sched_job.specs.Going.{Worked}
use Rattle.sched_job.specs.declared.run.JobEnd.TheVariants as job_end
use Rattle.api_print.specs.Parts.{part_json}
use Rattle.api_replies.specs.Answers.{Answer, answer_of, ended, json_after}
use Rattle.api_server.specs.declared.once.Acted.{Acted}
use Rattle.api_server.specs.declared.once.Acted.TheVariants as acted
use Rattle.api_server.specs.declared.once.Ended.{Ended}
use Rattle.api_server.specs.declared.task.Unreplied.{Unreplied}
use Rattle.api_server.specs.declared.task.Unreplied.TheVariants as why
use Rattle.api_server.specs.Once.{IsCaptured, IsMade, RepliesBy, RepliesFound, TookOnce, entry_of, event_of, unreplied}
use Rattle.api_server.specs.Served.{IsEndReply, IsJob, IsPlaced, IsUncarried, Looked, run_for}
use Rattle.api_server.proofs.Made.{Begins, BegunMore, Grows, NoneMore, Starts, prefix_length, run_made, worked_failed, worked_made}
use Rattle.api_server.proofs.Single.{ends_once}

-- ---- entries at indices

got_middle : (xs ys : List Entry) (y : Entry) → slice_get (xs ++ y ∷ ys) (length xs) ≡ Some y
got_middle [] ys y = refl
got_middle (x ∷ xs) ys y = got_middle xs ys y

at_by : (h : List Entry) (n k : ℕ) → n ≡ k + 1 → entry_at h n ≡ slice_get h k
at_by h n k is =
    let e : eqb n 0 ≡ false = grind (arith, nat_tests) in
    let later : n - 1 ≡ k = omega (arith, is) in
    ap (λ (b : Bool). cond b None (slice_get h (n - 1))) e ∙ ap (slice_get h) later

take_whole : (xs ys : List Entry) (n : ℕ) → n ≡ length xs → take n (xs ++ ys) ≡ xs
take_whole [] ys n is = ap (λ (k : ℕ). take k ys) is
take_whole (x ∷ xs) ys n is = ap (λ (k : ℕ). take k (x ∷ (xs ++ ys))) is ∙ ap (λ (l : List Entry). x ∷ l) (take_whole xs ys (length xs) refl)

some_is : {A : Type 0} (x y : A) → Some x ≡ Some y → x ≡ y
some_is x y e = cc

-- ---- a pass that has seen no more

pub looked_same : (p : Known Entry) → p.turn ≡ None → Looked p p
looked_same p free = record {
  is =
      ap (λ (t : Option (List Entry)). record { table = p.table; front = p.front; own = p.own; share = p.share; number = p.number; turn = t }) free
      ∙ ap (λ (o : List ℕ). record { table = p.table; front = p.front; own = o; share = p.share; number = p.number; turn = None }) (sym (append-nil p.own));
  extends = ([], append-nil p.front);
}

-- ---- one turn

attempts_once : (command : Command) → is_schedule command ≡ false → 0 < attempts_of command
attempts_once (Apply x m) once = omega arith
attempts_once (Invalid error) once = omega arith
attempts_once (Delete t) once = omega arith
attempts_once (Schedule pod attempts) once = absurd (cc)
attempts_once (Release pod) once = omega arith
attempts_once (Adopt claim status) once = omega arith

module _ (begins : Begins) (more : BegunMore) (none : NoneMore) (starts : Starts) (grows : Grows) where
  worked_turn : (job budget number : ℕ) (command : Command) (old new : Known Entry) (found : List Entry) → 0 < attempts_of command → is_schedule command ≡ false → IsPrefix old.front found → new ≡ left (entered old found) new.front
      → IsMade found new.front job command → Worked (run_for job budget command old) old new (job_end.Ended (length found + 1))
  worked_turn job budget number command old new found some once prefix pass made = worked_made begins grows job budget number command old new found some once prefix pass made

  free_after : (old new : Known Entry) (found : List Entry) → new ≡ left (entered old found) new.front → new.turn ≡ None
  free_after old new found pass = ap (λ (k : Known Entry). k.turn) pass

  reply_made : (job budget : ℕ) (command : Command) (old new : Known Entry) (found : List Entry) (x : Ended) (a : Answer) → 0 < attempts_of command → is_schedule command ≡ false → IsPrefix old.front found
      → IsMade found new.front job command → IsCaptured new.front x → a ≡ ended (state_of new.front) x.place x.entry → IsEndReply job (take (length found + 1) new.front) a
  reply_made job budget command old new found x a some once prefix made captured is =
      let e : Entry = entry_of found job command in
      let count : length new.front ≡ length found + 1 = ap length made.is ∙ length-append found (e ∷ []) in
      let whole : take (length found + 1) new.front ≡ new.front = ap (λ (k : ℕ). take k new.front) (sym count) ∙ take-length new.front in
      let here : entry_at new.front (length new.front) ≡ Some e =
      at_by new.front (length new.front) (length found) count ∙ ap (λ (h : List Entry). slice_get h (length found)) made.is ∙ got_middle found [] e in
      let same : x.entry ≡ e = some_is x.entry e (sym captured.entry ∙ here) in
      let from : (run_for job budget command old).from ≤ length found = prefix_length old.front found prefix in
      let run = run_made begins grows (run_for job budget command old) found new.front (event_of (state_of found) command) (ends_once (run_for job budget command old) found (state_of found) command once) made.fresh some from made.is in
      subst (λ (h : List Entry). IsEndReply job h a) (sym whole) (record {
        entry = e;
        end = record { before = found; is = made.is; job_is = refl; ended = run.0 ∙ ap job_state.Ended (sym count) };
        answer_is = is ∙ ap (λ (n : ℕ). ended (state_of new.front) n x.entry) captured.place ∙ ap (ended (state_of new.front) (length new.front)) same;
      })

  once_ended : (job budget number : ℕ) (command : Command) (old new : Known Entry) (x : Ended) (r : Result Reply Unreplied) → 0 < attempts_of command → is_schedule command ≡ false → TookOnce number old new job command (acted.Ended x)
      → ((s : State) → part_json x.part ≡ json_after s x.entry.event → IfOk r (λ p. answer_of p ≡ ended s x.place x.entry)) → IfErr r (λ e. e ≡ why.Memory) → IsJob (run_for job budget command old) old new r
  once_ended job budget number command old new x (Ok p) some once took reply err = record {
    done = new;
    index = length took.found + 1;
    worked = worked_turn job budget number command old new took.found some once took.begins took.pass took.did.0;
    looked = looked_same new (free_after old new took.found took.pass);
    reply = reply_made job budget command old new took.found x (answer_of p) some once took.begins took.did.0 took.did.1 (reply (state_of new.front) took.did.1.shows);
  }
  once_ended job budget number command old new x (Err (why.Full n)) some once took reply err = absurd (cc)
  once_ended job budget number command old new x (Err why.Memory) some once took reply err = record {
    done = new;
    end = job_end.Ended (length took.found + 1);
    worked = worked_turn job budget number command old new took.found some once took.begins took.pass took.did.0;
    looked = looked_same new (free_after old new took.found took.pass);
  }

  once_made : (job budget number : ℕ) (command : Command) (old new : Known Entry) → 0 < attempts_of command → is_schedule command ≡ false → TookOnce number old new job command acted.Made → IsUncarried (run_for job budget command old) old new
  once_made job budget number command old new some once took = record {
    done = new;
    end = job_end.Ended (length took.found + 1);
    worked = worked_turn job budget number command old new took.found some once took.begins took.pass took.did;
    looked = looked_same new (free_after old new took.found took.pass);
  }

  once_failed : (job budget number : ℕ) (command : Command) (old new : Known Entry) (error : LedgerError) → new.number ≡ number → TookOnce number old new job command (acted.Failed error) → IsJob (run_for job budget command old) old new (Err (unreplied error))
  once_failed job budget number command old new (ledger_error.Full n) same took = worked_failed begins more none starts job budget number command old new took.found (ledger_error.Full n) same took.begins took.pass took.did
  once_failed job budget number command old new ledger_error.Memory same took = record {
    done = new;
    end = job_end.Memory;
    worked = worked_failed begins more none starts job budget number command old new took.found ledger_error.Memory same took.begins took.pass took.did;
    looked = looked_same new (free_after old new took.found took.pass);
  }

  pub once_done : (job budget number : ℕ) (command : Command) (old new : Known Entry) (a : Acted) (r : Result Reply Unreplied) → is_schedule command ≡ false → new.number ≡ number → TookOnce number old new job command a → RepliesBy a r
      → IsJob (run_for job budget command old) old new r
  once_done job budget number command old new (acted.Ended x) r once same took replied = once_ended job budget number command old new x r (attempts_once command once) once took replied.0 replied.1
  once_done job budget number command old new acted.Made r once same took replied =
      subst (λ (q : Result Reply Unreplied). IsJob (run_for job budget command old) old new q) (sym replied) (once_made job budget number command old new (attempts_once command once) once took)
  once_done job budget number command old new (acted.Failed error) r once same took replied =
      subst (λ (q : Result Reply Unreplied). IsJob (run_for job budget command old) old new q) (sym replied) (once_failed job budget number command old new error same took)

-- ---- a job that has ended

-- the entry that ended a job, among these
pub record IsEnded (job : ℕ) (before es : List Entry) (q : ℕ) : Type 0 where
  pub front : List Entry
  pub entry : Entry
  pub rest : List Entry
  pub is : before ++ es ≡ front ++ entry ∷ rest
  pub count : length front + 1 ≡ q
  pub job_is : entry.job ≡ job
  pub state : job_state_of (front ++ entry ∷ []) job ≡ job_state.Ended q

ends_by : (st : JobState) (index q : ℕ) (event : Event) → job_state_after st index event ≡ job_state.Ended q → index ≡ q
ends_by st index q (Applied object mode) e = cc
ends_by st index q (Deleted target) e = cc
ends_by st index q (Reserved pod plan) e = absurd (cc)
ends_by st index q (Refused pod plan why) e = absurd (cc)
ends_by st index q (Wrote pod claim seen) e = absurd (cc)
ends_by st index q (Conflict pod claim had now) e = absurd (cc)
ends_by st index q (Unreserved pod) e = absurd (cc)
ends_by st index q (Bound pod node) e = cc
ends_by st index q (VerdictGiven pod verdict) e = cc
ends_by st index q (Contended pod attempts) e = cc
ends_by st index q (Released pod) e = cc
ends_by st index q (Adopted claim status) e = cc
ends_by st index q (Denied command refusal) e = cc

step_ends : Grows → (job q : ℕ) (before : List Entry) (x : Entry) (xs : List Entry) (b : Bool) → eqb x.job job ≡ b → job_state_of (before ++ x ∷ []) job ≡ job_state.Ended q → (job_state_of before job ≡ job_state.Ended q) ⊎ IsEnded job before (x ∷ xs) q
step_ends grows job q before x xs true mine e =
    let after : job_state_after (job_state_of before job) (length before + 1) x.event ≡ job_state.Ended q =
    sym (ap (λ (b : Bool). cond b (job_state_after (job_state_of before job) (length before + 1) x.event) (job_state_of before job)) mine) ∙ sym (grows before x job) ∙ e in
    inr (record { front = before; entry = x; rest = xs; is = refl; count = ends_by (job_state_of before job) (length before + 1) q x.event after; job_is = eqb-true x.job job mine; state = e })
step_ends grows job q before x xs false other e =
    inl (sym (ap (λ (b : Bool). cond b (job_state_after (job_state_of before job) (length before + 1) x.event) (job_state_of before job)) other) ∙ sym (grows before x job) ∙ e)

later_ends : Grows → (job q : ℕ) (before : List Entry) (x : Entry) (xs : List Entry) → (job_state_of (before ++ x ∷ []) job ≡ job_state.Ended q) ⊎ IsEnded job (before ++ x ∷ []) xs q → (job_state_of before job ≡ job_state.Ended q) ⊎ IsEnded job before (x ∷ xs) q
later_ends grows job q before x xs (inl e) = step_ends grows job q before x xs (eqb x.job job) refl e
later_ends grows job q before x xs (inr s) = inr (record { front = s.front; entry = s.entry; rest = s.rest; is = sym (append_assoc before (x ∷ []) xs) ∙ s.is; count = s.count; job_is = s.job_is; state = s.state })

pub ended_in : Grows → (job q : ℕ) (before es : List Entry) → job_state_of (before ++ es) job ≡ job_state.Ended q → (job_state_of before job ≡ job_state.Ended q) ⊎ IsEnded job before es q
ended_in grows job q before [] e = inl (subst (λ (h : List Entry). job_state_of h job ≡ job_state.Ended q) (append-nil before) e)
ended_in grows job q before (x ∷ xs) e =
    let later = ended_in grows job q (before ++ x ∷ []) xs (subst (λ (h : List Entry). job_state_of h job ≡ job_state.Ended q) (sym (append_assoc before (x ∷ []) xs)) e) in
    later_ends grows job q before x xs later

-- a reply by the entry that ended the job is one by the job's end
placed_end : (job q : ℕ) (front rest more h h' : List Entry) (last entry : Entry) (a : Answer) → h ≡ front ++ last ∷ rest → h ++ more ≡ h' → length front + 1 ≡ q → last.job ≡ job
    → job_state_of (front ++ last ∷ []) job ≡ job_state.Ended q → entry_at h' q ≡ Some entry → ((s : State) → a ≡ ended s q entry) → IsEndReply job (take q h) a
placed_end job q front rest more h h' last entry a is longer count mine ends at answer =
    let p : List Entry = front ++ last ∷ [] in
    let size : length p ≡ q = length-append front (last ∷ []) ∙ count in
    let parts : h ≡ p ++ rest = is ∙ sym (append_assoc front (last ∷ []) rest) in
    let taken : take q h ≡ p = ap (λ (l : List Entry). take q l) parts ∙ take_whole p rest q (sym size) in
    let whole : h' ≡ front ++ last ∷ (rest ++ more) = sym longer ∙ ap (λ (l : List Entry). l ++ more) is ∙ append_assoc front (last ∷ rest) more in
    let here : entry_at h' q ≡ Some last = at_by h' q (length front) (sym count) ∙ ap (λ (l : List Entry). slice_get l (length front)) whole ∙ got_middle front (rest ++ more) last in
    let same : entry ≡ last = some_is entry last (sym at ∙ here) in
    subst (λ (l : List Entry). IsEndReply job l a) (sym taken) (record {
      entry = last;
      end = record { before = front; is = refl; job_is = mine; ended = ends ∙ ap job_state.Ended (sym size) };
      answer_is = answer (state_of p) ∙ ap (λ (n : ℕ). ended (state_of p) n entry) (sym size) ∙ ap (ended (state_of p) (length p)) same;
    })

placed_in : Starts → (job q : ℕ) (more h h' : List Entry) (entry : Entry) (a : Answer) → (job_state_of [] job ≡ job_state.Ended q) ⊎ IsEnded job [] h q → h ++ more ≡ h'
    → entry_at h' q ≡ Some entry → ((s : State) → a ≡ ended s q entry) → IsEndReply job (take q h) a
placed_in starts job q more h h' entry a (inl e) longer at answer = let f : job_state.Fresh ≡ job_state.Ended q = sym (starts job) ∙ e in absurd (cc)
placed_in starts job q more h h' entry a (inr s) longer at answer = placed_end job q s.front s.rest more h h' s.entry entry a s.is longer s.count s.job_is s.state at answer

pub job_ended : Starts → Grows → (c : Run) (old done new : Known Entry) (index : ℕ) (r : Result Reply Unreplied) → Worked c old done (job_end.Ended index) → IsPlaced done new index r → IsJob c old new r
job_ended starts grows c old done new index (Ok p) worked placed = record {
  done = done;
  index = index;
  worked = worked;
  looked = placed.looked;
  reply =
      placed_in starts c.job index placed.looked.extends.0 done.front new.front placed.entry (answer_of p) (ended_in grows c.job index [] done.front worked.ends.ended) placed.looked.extends.1
      placed.at placed.answer_is;
}
job_ended starts grows c old done new index (Err (why.Full n)) worked placed = absurd placed
job_ended starts grows c old done new index (Err why.Memory) worked placed = record { done = done; end = job_end.Ended index; worked = worked; looked = placed }

pub job_unended : (c : Run) (old new : Known Entry) → new.turn ≡ None → Worked c old new job_end.Memory → IsUncarried c old new
job_unended c old new free worked = record { done = new; end = job_end.Memory; worked = worked; looked = looked_same new free }

placed_entry : (old new : Known Entry) (place : ℕ) (entry : Entry) (r : Result Reply Unreplied) → Looked old new → entry_at new.front place ≡ Some entry
    → IfOk r (λ p. (s : State) → answer_of p ≡ ended s place entry) → IfErr r (λ e. e ≡ why.Memory) → IsPlaced old new place r
placed_entry old new place entry (Ok p) looked at reply err = record { looked = looked; entry = entry; at = at; answer_is = reply }
placed_entry old new place entry (Err (why.Full n)) looked at reply err = absurd (cc)
placed_entry old new place entry (Err why.Memory) looked at reply err = looked

pub placed_found : (old new : Known Entry) (place : ℕ) (found : Option Entry) (r : Result Reply Unreplied) → Looked old new → IfSome found (λ e. entry_at new.front place ≡ Some e) → RepliesFound found place r → IsPlaced old new place r
placed_found old new place (Some entry) r looked at replied = placed_entry old new place entry r looked at replied.0 replied.1
placed_found old new place None r looked at replied = subst (λ (q : Result Reply Unreplied). IsPlaced old new place q) (sym replied) looked
