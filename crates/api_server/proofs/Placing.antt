-- Where replies stand in the history, if nobody else works on the connection's jobs.
use Rattle.std.proofs.Common.{ℕ, ◌≡◌, ◌∙◌, ◌+◌, ◌≤◌, ◌<◌, ◌++◌, inl, inr, List, [], ◌∷◌, Result, Ok, Err, length, take, drop, refl, sym, ap, subst, arith, append_assoc, length-append}
use Rattle.std.proofs.lemmas.List.{take-append-drop, append_cancel_left}
use mathlib.Core.List.{IsPrefix}
use Rattle.cluster.specs.declared.entry.Entry.{Entry}
use Rattle.commands.specs.declared.command.Command.{Command}
use Rattle.turn_lock.specs.Known.{IsFree, Known}
use Rattle.histories.specs.JobRuns.{JobBegun, JobRun, Run}
use Rattle.sched_job.specs.Owned.{AllIn, AllMade, NoneOf}
use Rattle.http_wire.specs.Replies.{reply_bytes}
use Rattle.http_wire.specs.Requests.{Message}
use Rattle.http_wire.specs.declared.reply.Reply.{Reply}
use Rattle.api_routes.specs.declared.unserved.Unserved.{Unserved}
use Rattle.api_requests.specs.Tasks.{task_of}
use Rattle.api_requests.specs.declared.task.Task.{Task}
use Rattle.api_requests.specs.declared.task.Task.TheVariants.{Run as Carry, Show, List as Listing, History}
use Rattle.api_replies.specs.Answers.{answer_of}
use Rattle.api_server.specs.Requests.{ServesBy}
use Rattle.api_server.specs.Served.{IsCarried, IsEndReply, Looked, run_for}
use Rattle.sched_job.specs.Going.{with_added}
use Rattle.api_server.specs.declared.task.Unreplied.TheVariants as why
use Rattle.api_server.specs.Connections.{IsReplied, IsUnreplied, Replies, job_of}
use Rattle.api_server.specs.Entries.{AreEntries, IsOfOne}
use Rattle.api_server.specs.Standing.{AllStand, AllTheirs, AnswersAt, IsFullFor, RanFor}
use Rattle.api_server.specs.declared.service.Service.{Service}
use Rattle.api_server.proofs.Attributing.{apart, apart_before, fact_at, only_first, only_last, past_begin, take_again, take_front, there}
use Rattle.api_server.proofs.Growing.{added_join, added_looked, free_then, grew_all, grew_one, prefix_long, prefix_trans, weaker}
use Rattle.api_server.proofs.Joined.{replies_push}

-- the laws on jobs that are cited
pub record Laws : Type 0 where
  pub run : (c : Run) (h more : List Entry) → NoneOf c.job h more → JobRun c h → JobRun c (h ++ more)
  pub run_earlier : (c : Run) (from : ℕ) (h : List Entry) → from ≤ c.from → JobRun c h → JobRun (record c { from = from }) h
  pub begun_earlier : (c : Run) (from : ℕ) (h : List Entry) → from ≤ c.from → JobBegun c h → JobBegun (record c { from = from }) h
  pub made : (c : Run) (h more : List Entry) (added : List ℕ) → AllMade c h 0 added → AllIn c.job added (h ++ more) → AllIn c.job added h × NoneOf c.job h more

-- a reply to what is asked for, at some place from `low` up to `top`
pub record Placed (s : Service) (from index : ℕ) (h : List Entry) (asked : Result Task Unserved) (r : Reply) (low top : ℕ) : Type 0 where
  pub place : ℕ
  pub after_low : low ≤ place
  pub before_top : place ≤ top
  pub answers : AnswersAt (job_of s.number index) (take place h) asked (answer_of r)
  pub ran : RanFor s from index h asked

-- what was shown
placed_looked : (s : Service) (from index : ℕ) (h : List Entry) (asked : Result Task Unserved) (r : Reply) (old new : Known Entry) → Looked old new → IsPrefix new.front h → AnswersAt (job_of s.number index) new.front asked (answer_of r) → RanFor s from index h asked
    → Placed s from index h asked r (length old.front) (length new.front)
placed_looked s from index h asked r old new looked p answers ran = record {
  place = length new.front;
  after_low = prefix_long old.front new.front looked.extends;
  before_top = omega arith;
  answers = subst (λ (xs : List Entry). AnswersAt (job_of s.number index) xs asked (answer_of r)) (sym (ap (λ (xs : List Entry). take (length new.front) xs) (sym p.1) ∙ take_front new.front p.0)) answers;
  ran = ran;
}

-- a command that was carried out
abbrev Mine : Service → ℕ → List Entry → Known Entry → Known Entry → Type 0
Mine s index h old new = (ys : List ℕ) → new ≡ with_added old new.front ys → AllIn (job_of s.number index) ys h

placed_carried : Laws → (s : Service) (from index : ℕ) (h : List Entry) (command : Command) (r : Reply) (old new : Known Entry) (c : IsCarried (run_for (job_of s.number index) s.budget command old) old new (answer_of r)) → IsPrefix new.front h → from ≤ length old.front
    → Mine s index h old new → Placed s from index h (Ok (Carry command)) r (length old.front) (length new.front)
placed_carried laws s from index h command r old new c p le mine =
    let all : AllIn (job_of s.number index) c.worked.added h = mine c.worked.added (added_looked old c.done new c.worked.added c.worked.did.is c.looked) in
    let run : Run = run_for (job_of s.number index) s.budget command old in
    let front : List Entry = c.done.front in
    let q : IsPrefix front h = prefix_trans front new.front h c.looked.extends p in
    let both : AllIn run.job c.worked.added front × NoneOf run.job front q.0 = laws.made run front q.0 c.worked.added c.worked.did.made (subst (λ (xs : List Entry). AllIn run.job c.worked.added xs) (sym q.1) all) in
    let ran : JobRun run h = subst (λ (xs : List Entry). JobRun run xs) q.1 (laws.run run front q.0 both.1 (c.worked.ends.run both.0)) in
    let last = c.reply.end in
    let whole : front ≡ last.before ++ c.reply.entry ∷ drop c.index front =
    sym (take-append-drop c.index front) ∙ ap (λ (xs : List Entry). xs ++ drop c.index front) last.is ∙ append_assoc last.before (c.reply.entry ∷ []) (drop c.index front) in
    let here : 0 < Rattle.turn_lock.specs.Places.times (length last.before + 1) c.worked.added = there run.job c.worked.added front last.before c.reply.entry (drop c.index front) whole both.0 last.job_is in
    let past : length old.front < length last.before + 1 = past_begin run front 0 c.worked.added (length last.before + 1) c.worked.did.made here in
    let long : length (take c.index front) ≡ length last.before + 1 = ap length last.is ∙ length-append last.before (c.reply.entry ∷ []) in
    let all_long : length front ≡ length last.before + length (c.reply.entry ∷ drop c.index front) = ap length whole ∙ length-append last.before (c.reply.entry ∷ drop c.index front) in
    let within : length front ≤ length new.front = prefix_long front new.front c.looked.extends in record {
      place = length (take c.index front);
      after_low = omega (arith, past, long);
      before_top = omega (arith, long, all_long, within);
      answers = subst (λ (xs : List Entry). IsEndReply run.job xs (answer_of r)) (sym (ap (λ (xs : List Entry). take (length (take c.index front)) xs) (sym q.1) ∙ take_again c.index front q.0)) c.reply;
      ran = laws.run_earlier run from h le ran;
    }

placed_by : Laws → (s : Service) (from index : ℕ) (h : List Entry) (old new : Known Entry) (asked : Result Task Unserved) (r : Reply) → ServesBy (job_of s.number index) s.budget asked old new (Ok r) → IsPrefix new.front h → from ≤ length old.front → Mine s index h old new
    → Placed s from index h asked r (length old.front) (length new.front)
placed_by laws s from index h old new (Err reason) r serves p le mine =
    let same : length new.front ≡ length old.front = ap (λ (k : Known Entry). length k.front) serves.0 in record { place = length new.front; after_low = omega (arith, same); before_top = omega arith; answers = serves.1; ran = tt }
placed_by laws s from index h old new (Ok (Carry command)) r serves p le mine = placed_carried laws s from index h command r old new serves p le mine
placed_by laws s from index h old new (Ok (Show t)) r serves p le mine = placed_looked s from index h (Ok (Show t)) r old new serves.looked p serves.reply tt
placed_by laws s from index h old new (Ok (Listing kind namespace)) r serves p le mine = placed_looked s from index h (Ok (Listing kind namespace)) r old new serves.looked p serves.reply tt
placed_by laws s from index h old new (Ok History) r serves p le mine = placed_looked s from index h (Ok History) r old new serves.looked p serves.reply tt

pub placed_one : Laws → (s : Service) (from index : ℕ) (m : Message) (h : List Entry) (old new : Known Entry) (r : Reply) → IsReplied s index m old new r → IsPrefix new.front h → from ≤ length old.front → Mine s index h old new
    → Placed s from index h (task_of s.attempts m.method m.target m.body) r (length old.front) (length new.front)
placed_one laws s from index m h old new r (inl serves) p le mine = placed_by laws s from index h old new (task_of s.attempts m.method m.target m.body) r serves p le mine
placed_one laws s from index m h old new r (inr (same, failed)) p le mine = absurd (cc)

-- the jobs of later requests have no entry at the indices of one that came before
theirs_last : (s : Service) (index at : ℕ) (m : Message) (ms : List Message) (from : ℕ) (xs ys : List ℕ) (h : List Entry) → index < at → AreEntries (IsOfOne s index (m ∷ [])) from h xs → AllTheirs s at ms (xs ++ ys) h → AllTheirs s at ms ys h
theirs_last s index at m [] from xs ys h lt are all = tt
theirs_last s index at m (n ∷ ms) from xs ys h lt are all = (
  only_last (job_of s.number at) xs ys h (λ b e rest is some mine. not_later (fact_at (IsOfOne s index (m ∷ [])) from h xs b e rest are is some) mine) all.0,
  theirs_last s index (at + 1) m ms from xs ys h (omega (arith, lt)) are all.1,
)
  where
    not_later : {e : Entry} → IsOfOne s index (m ∷ []) e → e.job ≡ job_of s.number at → ⊥
    not_later {e} (inl is) mine = let j : e.job ≡ job_of s.number index = is.job_is in omega (arith, j, mine, lt)
    not_later {e} (inr is) mine = is

abbrev Theirs : Service → ℕ → List Message → List Entry → Known Entry → Known Entry → Type 0
Theirs s index ms h old new = (ys : List ℕ) → new ≡ with_added old new.front ys → AllTheirs s index ms ys h

pub stand_all : Laws → (s : Service) (from index low : ℕ) (old new : Known Entry) (ms : List Message) (out : List ℕ) (h : List Entry) → IsFree old → Replies s index old ms new out → from ≤ length old.front → low ≤ length old.front → IsPrefix new.front h → Theirs s index ms h old new
    → AllStand s from index h low (length new.front) ms out
stand_all laws s from index low old new [] out h free replies le least p theirs =
    let same : length new.front ≡ length old.front = ap (λ (k : Known Entry). length k.front) replies.0 in (omega (arith, least, same), replies.1)
stand_all laws s from index low old new (m ∷ ms) out h free (mid, r, rest, is, replied, more) le least p theirs =
    let one = grew_one s index m old mid (Ok r) free replied in
    let free' : IsFree mid = free_then old mid one.added one.is in
    let tail = grew_all s (index + 1) mid new ms rest free' more in
    let q : IsPrefix mid.front h = prefix_trans mid.front new.front h tail.extends p in
    let tail_in : AreEntries (IsOfOne s (index + 1) ms) (length mid.front) h tail.added = weaker (IsOfOne s (index + 1) ms) (IsOfOne s (index + 1) ms) (length mid.front) (length mid.front) new.front h tail.added (λ e i. i) (omega arith) p tail.made in
    let one_in : AreEntries (IsOfOne s index (m ∷ [])) (length old.front) h one.added = weaker (IsOfOne s index (m ∷ [])) (IsOfOne s index (m ∷ [])) (length old.front) (length old.front) mid.front h one.added (λ e i. i) (omega arith) q one.made in
    let placed = placed_one laws s from index m h old mid r replied q le
    (λ ys is_ys. only_first (job_of s.number index) ys tail.added h
    (λ b e others there some mine. apart s index (index + 1) ms e (fact_at (IsOfOne s (index + 1) ms) (length mid.front) h tail.added b e others tail_in there some) (omega arith) mine)
    (theirs (ys ++ tail.added) (added_join old mid new ys tail.added is_ys tail.is)).0) in
    let grown : length old.front ≤ length mid.front = prefix_long old.front mid.front one.extends in
    let low_is : low ≤ placed.place = (let a = placed.after_low in omega (arith, least, a)) in (
      placed.place,
      r,
      rest,
      low_is,
      is,
      record { answers = placed.answers; ran = placed.ran },
      stand_all laws s from (index + 1) placed.place mid new ms rest h free' more (omega (arith, le, grown)) placed.before_top p
          (λ zs is_zs. theirs_last s index (index + 1) m ms (length old.front) one.added zs h (omega arith) one_in (theirs (one.added ++ zs) (added_join old mid new one.added zs one.is is_zs)).1),
    )

-- what was added at the end of the indices
same_added : (old new : Known Entry) (a b : List ℕ) → new ≡ with_added old new.front a → new.own ≡ old.own ++ b → a ≡ b
same_added old new a b is own = append_cancel_left old.own a b (sym (ap (λ (k : Known Entry). k.own) is) ∙ own)

pub stand_in_order : Laws → (s : Service) (old new : Known Entry) (ms : List Message) (out added : List ℕ) (h : List Entry) → IsFree old → Replies s 1 old ms new out → new.own ≡ old.own ++ added → IsPrefix new.front h → AllTheirs s 1 ms added h → AllStand s (length old.front) 1 h (length old.front) (length new.front) ms out
stand_in_order laws s old new ms out added h free replies own p all =
    stand_all laws s (length old.front) 1 (length old.front) old new ms out h free replies (omega arith) (omega arith) p (λ ys is. subst (λ (xs : List ℕ). AllTheirs s 1 ms xs h) (sym (same_added old new ys added is own)) all)

-- ---- the limit

abbrev MineAlone : Service → ℕ → Known Entry → Known Entry → Type 0
MineAlone s index mid now = (ys : List ℕ) → now ≡ with_added mid now.front ys → IsPrefix mid.front now.front → AllIn (job_of s.number index) ys now.front

full_by : Laws → (s : Service) (from index : ℕ) (m : Message) (mid now : Known Entry) (asked : Result Task Unserved) (n : ℕ) → task_of s.attempts m.method m.target m.body ≡ asked → ServesBy (job_of s.number index) s.budget asked mid now (Err (why.Full n)) → from ≤ length mid.front → MineAlone s index mid now → IsFullFor s from index now m n
full_by laws s from index m mid now (Err reason) n asks serves le mine = absurd serves.1
full_by laws s from index m mid now (Ok (Carry command)) n asks serves le mine = record {
  command = command;
  asks = asks;
  count = serves.ends.count;
  limit = serves.ends.limit;
  begun = laws.begun_earlier (run_for (job_of s.number index) s.budget command mid) from now.front le (serves.ends.begun (mine serves.added serves.did.is serves.did.extends));
}
full_by laws s from index m mid now (Ok (Show t)) n asks serves le mine = absurd serves
full_by laws s from index m mid now (Ok (Listing kind namespace)) n asks serves le mine = absurd serves
full_by laws s from index m mid now (Ok History) n asks serves le mine = absurd serves

full_one : Laws → (s : Service) (from index : ℕ) (m : Message) (mid now : Known Entry) (n : ℕ) → IsUnreplied s index m mid now (why.Full n) → from ≤ length mid.front → MineAlone s index mid now → IsFullFor s from index now m n
full_one laws s from index m mid now n (inl serves) le mine = full_by laws s from index m mid now (task_of s.attempts m.method m.target m.body) n refl serves le mine
full_one laws s from index m mid now n (inr (same, failed)) le mine = absurd (cc)

pub full_begun : Laws → (s : Service) (began mid now : Known Entry) (ms : List Message) (m : Message) (out added : List ℕ) (n : ℕ) → IsFree began → Replies s 1 began ms mid out → IsUnreplied s (length ms + 1) m mid now (why.Full n) → now.own ≡ began.own ++ added
    → AllIn (job_of s.number (length ms + 1)) added now.front → IsFullFor s (length began.front) (length ms + 1) now m n
full_begun laws s began mid now ms m out added n free replies unreplied own all =
    let grew = grew_all s 1 began mid ms out free replies in
    full_one laws s (length began.front) (length ms + 1) m mid now n unreplied (prefix_long began.front mid.front grew.extends)
    (λ ys is p.
    let joined : grew.added ++ ys ≡ added = same_added began now (grew.added ++ ys) added (added_join began mid now grew.added ys grew.is is) own in
    let in_ : AreEntries (IsOfOne s 1 ms) (length began.front) now.front grew.added = weaker (IsOfOne s 1 ms) (IsOfOne s 1 ms) (length began.front) (length began.front) mid.front now.front grew.added (λ e i. i) (omega arith) p grew.made in
    only_last (job_of s.number (length ms + 1)) grew.added ys now.front (λ b e rest there some mine. apart_before s (length ms + 1) 1 ms e (fact_at (IsOfOne s 1 ms) (length began.front) now.front grew.added b e rest in_ there some) (omega arith) mine)
    (subst (λ (xs : List ℕ). AllIn (job_of s.number (length ms + 1)) xs now.front) (sym joined) all))

limit_by : (s : Service) (index : ℕ) (mid now : Known Entry) (asked : Result Task Unserved) (n : ℕ) → ServesBy (job_of s.number index) s.budget asked mid now (Err (why.Full n)) → (length now.front ≡ n) × (now.number ≤ n)
limit_by s index mid now (Err reason) n serves = absurd serves.1
limit_by s index mid now (Ok (Carry command)) n serves = (serves.ends.count, serves.ends.limit)
limit_by s index mid now (Ok (Show t)) n serves = absurd serves
limit_by s index mid now (Ok (Listing kind namespace)) n serves = absurd serves
limit_by s index mid now (Ok History) n serves = absurd serves

pub limit_met : (s : Service) (index : ℕ) (m : Message) (mid now : Known Entry) (n : ℕ) → IsUnreplied s index m mid now (why.Full n) → (length now.front ≡ n) × (now.number ≤ n)
limit_met s index m mid now n (inl serves) = limit_by s index mid now (task_of s.attempts m.method m.target m.body) n serves
limit_met s index m mid now n (inr (same, failed)) = absurd (cc)

pub one_more : (s : Service) (began mid now : Known Entry) (ms : List Message) (m : Message) (r : Reply) (out : List ℕ) → Replies s 1 began ms mid out → IsReplied s (length ms + 1) m mid now r → Replies s 1 began (ms ++ m ∷ []) now (out ++ reply_bytes r)
one_more s began mid now ms m r out replies replied = replies_push s 1 (length ms + 1) began mid now ms m r out replies (omega arith) replied
