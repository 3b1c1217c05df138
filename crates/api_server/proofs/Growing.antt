-- What serving requests makes of a pass.
use Rattle.std.proofs.Common.{ℕ, ◌≡◌, ◌≤◌, ◌<◌, ◌∙◌, ◌+◌, ◌++◌, inl, inr, List, [], ◌∷◌, Option, None, Result, Ok, Err, length, refl, sym, ap, subst, append-nil, append_assoc, arith, length-append}
use mathlib.Core.List.{IsPrefix}
use Rattle.cluster.specs.declared.entry.Entry.{Entry}
use Rattle.commands.specs.declared.command.Command.{Command}
use Rattle.turn_lock.specs.Known.{IsFree, Known}
use Rattle.sched_job.specs.Going.{Worked, with_added}
use Rattle.sched_job.specs.Owned.{AllMade}
use Rattle.sched_job.specs.declared.run.JobEnd.{JobEnd}
use Rattle.histories.specs.JobRuns.{Run}
use Rattle.http_wire.specs.Requests.{Message}
use Rattle.http_wire.specs.declared.reply.Reply.{Reply}
use Rattle.api_routes.specs.declared.unserved.Unserved.{Unserved}
use Rattle.api_requests.specs.Tasks.{task_of}
use Rattle.api_requests.specs.declared.task.Task.{Task}
use Rattle.api_requests.specs.declared.task.Task.TheVariants.{Run as Carry, Show, List as Listing, History}
use Rattle.api_server.specs.Requests.{ServesBy, ServesRequest}
use Rattle.api_server.specs.Served.{Looked, run_for}
use Rattle.api_server.specs.declared.task.Unreplied.{Unreplied}
use Rattle.api_server.specs.declared.task.Unreplied.TheVariants as why
use Rattle.api_server.specs.Connections.{Replies, job_of}
use Rattle.api_server.specs.Entries.{AreEntries, Grew, IsOfOne}
use Rattle.api_server.specs.declared.service.Service.{Service}

-- ---- fronts

pub prefix_refl : (a : List Entry) → IsPrefix a a
prefix_refl a = ([], append-nil a)

pub prefix_trans : (a b c : List Entry) → IsPrefix a b → IsPrefix b c → IsPrefix a c
prefix_trans a b c p q = (p.0 ++ q.0, sym (append_assoc a p.0 q.0) ∙ ap (λ (xs : List Entry). xs ++ q.0) p.1 ∙ q.1)

pub prefix_long : (a b : List Entry) → IsPrefix a b → length a ≤ length b
prefix_long a b p = let e : length (a ++ p.0) ≡ length b = ap length p.1 in omega (arith, length-append a p.0)

-- ---- indices of entries

pub weaker : (P Q : Entry → Type 0) (from low : ℕ) (h h' : List Entry) (ps : List ℕ) → ((e : Entry) → P e → Q e) → low ≤ from → IsPrefix h h' → AreEntries P from h ps → AreEntries Q low h' ps
weaker P Q from low h h' [] f le p es = tt
weaker P Q from low h h' (x ∷ ps) f le p es =
    let e = es.0 in (
      record {
        before = e.before;
        entry = e.entry;
        rest = e.rest ++ p.0;
        is = sym p.1 ∙ ap (λ (xs : List Entry). xs ++ p.0) e.is ∙ append_assoc e.before (e.entry ∷ e.rest) p.0;
        place_is = e.place_is;
        past = (let past = e.past in omega (arith, past, le));
        fact = f e.entry e.fact;
      },
      weaker P Q from low h h' ps f le p es.1,
    )

pub entries_join : (P : Entry → Type 0) (from : ℕ) (h : List Entry) (ps qs : List ℕ) → AreEntries P from h ps → AreEntries P from h qs → AreEntries P from h (ps ++ qs)
entries_join P from h [] qs a b = b
entries_join P from h (p ∷ ps) qs a b = (a.0, entries_join P from h ps qs a.1 b)

-- ---- passes

abbrev with_own : Known Entry → List Entry → List ℕ → Known Entry
with_own old front own = record { table = old.table; front = front; own = own; share = old.share; number = old.number; turn = None }

pub added_none : (old : Known Entry) → IsFree old → old ≡ with_added old old.front []
added_none old free = ap (λ (t : Option (List Entry)). record { table = old.table; front = old.front; own = old.own; share = old.share; number = old.number; turn = t }) free ∙ ap (λ (xs : List ℕ). with_own old old.front xs) (sym (append-nil old.own))

pub added_join : (old mid new : Known Entry) (a b : List ℕ) → mid ≡ with_added old mid.front a → new ≡ with_added mid new.front b → new ≡ with_added old new.front (a ++ b)
added_join old mid new a b first then = subst (λ (d : Known Entry). new ≡ with_added d new.front b) first then ∙ ap (λ (xs : List ℕ). with_own old new.front xs) (append_assoc old.own a b)

pub added_looked : (old mid new : Known Entry) (a : List ℕ) → mid ≡ with_added old mid.front a → Looked mid new → new ≡ with_added old new.front a
added_looked old mid new a first looked = subst (λ (xs : List ℕ). new ≡ with_added old new.front xs) (append-nil a) (added_join old mid new a [] first looked.is)

-- a pass that served is free
pub free_then : (old new : Known Entry) (a : List ℕ) → new ≡ with_added old new.front a → IsFree new
free_then old new a is = ap (λ (k : Known Entry). k.turn) is

-- ---- requests

pub of_more : (s : Service) (index : ℕ) (ms ns : List Message) (e : Entry) → IsOfOne s index ms e → IsOfOne s index (ms ++ ns) e
of_more s index [] ns e is = absurd is
of_more s index (m ∷ ms) ns e (inl is) = inl is
of_more s index (m ∷ ms) ns e (inr is) = inr (of_more s (index + 1) ms ns e is)

pub of_rest : (s : Service) (index at : ℕ) (ms ns : List Message) (e : Entry) → at ≡ index + length ms → IsOfOne s at ns e → IsOfOne s index (ms ++ ns) e
of_rest s index at [] ns e count is = subst (λ (n : ℕ). IsOfOne s n ns e) (omega (arith, count)) is
of_rest s index at (m ∷ ms) ns e count is = inr (of_rest s (index + 1) at ms ns e (omega (arith, count)) is)

pub grew_none : (s : Service) (index : ℕ) (ms : List Message) (old : Known Entry) → IsFree old → Grew s index ms old old
grew_none s index ms old free = record { added = []; is = added_none old free; extends = prefix_refl old.front; made = tt }

pub grew_join : (s : Service) (index at : ℕ) (ms ns : List Message) (old mid new : Known Entry) → at ≡ index + length ms → Grew s index ms old mid → Grew s at ns mid new → Grew s index (ms ++ ns) old new
grew_join s index at ms ns old mid new count a b = record {
  added = a.added ++ b.added;
  is = added_join old mid new a.added b.added a.is b.is;
  extends = prefix_trans old.front mid.front new.front a.extends b.extends;
  made = entries_join (IsOfOne s index (ms ++ ns)) (length old.front) new.front a.added b.added
      (weaker (IsOfOne s index ms) (IsOfOne s index (ms ++ ns)) (length old.front) (length old.front) mid.front new.front a.added (λ e is. of_more s index ms ns e is) (omega arith) b.extends a.made)
      (weaker (IsOfOne s at ns) (IsOfOne s index (ms ++ ns)) (length mid.front) (length old.front) new.front new.front b.added (λ e is. of_rest s index at ms ns e count is) (prefix_long old.front mid.front a.extends) (prefix_refl new.front) b.made);
}

-- ---- one request

made_entries : (s : Service) (index : ℕ) (m : Message) (command : Command) (from : ℕ) (c : Run) (h : List Entry) (last : ℕ) (ps : List ℕ) → task_of s.attempts m.method m.target m.body ≡ Ok (Carry command) → c ≡ record { job = job_of s.number index; command = command; from = from; budget = s.budget } → AllMade c h last ps
    → AreEntries (IsOfOne s index (m ∷ [])) from h ps
made_entries s index m command from c h last [] asks is made = tt
made_entries s index m command from c h last (p ∷ ps) asks is made =
    let x = made.0 in (
      record {
        before = x.before;
        entry = record { job = c.job; event = x.event };
        rest = x.rest;
        is = x.is;
        place_is = x.index_is;
        past = subst (λ (r : Run). r.from < p) is x.past;
        fact = inl (record { command = command; asks = asks; job_is = ap (λ (r : Run). r.job) is; of_command = subst (λ (r : Run). Rattle.histories.specs.JobRuns.command_of (Rattle.histories.specs.JobRuns.attempts_of r.command) x.event ≡ r.command) is x.of_command });
      },
      made_entries s index m command from c h p ps asks is made.1,
    )

grew_worked : (s : Service) (index : ℕ) (m : Message) (command : Command) (old done new : Known Entry) (e : JobEnd) → task_of s.attempts m.method m.target m.body ≡ Ok (Carry command) → Worked (run_for (job_of s.number index) s.budget command old) old done e → Looked done new → Grew s index (m ∷ []) old new
grew_worked s index m command old done new e asks worked looked = record {
  added = worked.added;
  is = added_looked old done new worked.added worked.did.is looked;
  extends = prefix_trans old.front done.front new.front worked.did.extends looked.extends;
  made = weaker (IsOfOne s index (m ∷ [])) (IsOfOne s index (m ∷ [])) (length old.front) (length old.front) done.front new.front worked.added (λ x is. is) (omega arith) looked.extends
      (made_entries s index m command (length old.front) (run_for (job_of s.number index) s.budget command old) done.front 0 worked.added asks refl worked.did.made);
}

grew_looked : (s : Service) (index : ℕ) (m : Message) (old new : Known Entry) → Looked old new → Grew s index (m ∷ []) old new
grew_looked s index m old new looked = record { added = []; is = looked.is; extends = looked.extends; made = tt }

looked_same : (old new : Known Entry) (a : List ℕ) (was : Known Entry) → old ≡ with_added was old.front a → Looked old old
looked_same old new a was is = record { is = added_none old (free_then was old a is); extends = prefix_refl old.front }

grew_by : (s : Service) (index : ℕ) (m : Message) (old new : Known Entry) (asked : Result Task Unserved) (r : Result Reply Unreplied) → IsFree old → task_of s.attempts m.method m.target m.body ≡ asked → ServesBy (job_of s.number index) s.budget asked old new r → Grew s index (m ∷ []) old new
grew_by s index m old new (Err reason) r free asks serves = subst (λ (k : Known Entry). Grew s index (m ∷ []) old k) (sym serves.0) (grew_none s index (m ∷ []) old free)
grew_by s index m old new (Ok (Carry command)) (Ok r) free asks serves = grew_worked s index m command old serves.done new _ asks serves.worked serves.looked
grew_by s index m old new (Ok (Carry command)) (Err (why.Full n)) free asks serves =
    grew_worked s index m command old new new _ asks serves (looked_same new new serves.added old serves.did.is)
grew_by s index m old new (Ok (Carry command)) (Err why.Memory) free asks serves = grew_worked s index m command old serves.done new _ asks serves.worked serves.looked
grew_by s index m old new (Ok (Show t)) (Ok r) free asks serves = grew_looked s index m old new serves.looked
grew_by s index m old new (Ok (Show t)) (Err (why.Full n)) free asks serves = absurd serves
grew_by s index m old new (Ok (Show t)) (Err why.Memory) free asks serves = grew_looked s index m old new serves
grew_by s index m old new (Ok (Listing kind namespace)) (Ok r) free asks serves = grew_looked s index m old new serves.looked
grew_by s index m old new (Ok (Listing kind namespace)) (Err (why.Full n)) free asks serves = absurd serves
grew_by s index m old new (Ok (Listing kind namespace)) (Err why.Memory) free asks serves = grew_looked s index m old new serves
grew_by s index m old new (Ok History) (Ok r) free asks serves = grew_looked s index m old new serves.looked
grew_by s index m old new (Ok History) (Err (why.Full n)) free asks serves = absurd serves
grew_by s index m old new (Ok History) (Err why.Memory) free asks serves = grew_looked s index m old new serves

pub grew_one : (s : Service) (index : ℕ) (m : Message) (old new : Known Entry) (r : Result Reply Unreplied) → IsFree old → ServesRequest (job_of s.number index) s.budget (task_of s.attempts m.method m.target m.body) old new r → Grew s index (m ∷ []) old new
grew_one s index m old new r free (inl serves) = grew_by s index m old new (task_of s.attempts m.method m.target m.body) r free refl serves
grew_one s index m old new r free (inr (same, failed)) = subst (λ (k : Known Entry). Grew s index (m ∷ []) old k) (sym same) (grew_none s index (m ∷ []) old free)

pub grew_all : (s : Service) (index : ℕ) (old new : Known Entry) (ms : List Message) (out : List ℕ) → IsFree old → Replies s index old ms new out → Grew s index ms old new
grew_all s index old new [] out free replies = subst (λ (k : Known Entry). Grew s index [] old k) (sym replies.0) (grew_none s index [] old free)
grew_all s index old new (m ∷ ms) out free (mid, r, rest, is, replied, more) =
    let one : Grew s index (m ∷ []) old mid = grew_one s index m old mid (Ok r) free replied in
    grew_join s index (index + 1) (m ∷ []) ms old mid new (omega arith) one (grew_all s (index + 1) mid new ms rest (free_then old mid one.added one.is) more)
