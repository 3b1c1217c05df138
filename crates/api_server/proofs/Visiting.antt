-- A connection that was served stands in the history, with its requests and replies.
use Rattle.std.proofs.Common.{ℕ, zero, suc, ◌≡◌, ◌∙◌, ◌⊎◌, inl, inr, ◌+◌, ◌≤◌, ◌<◌, ◌++◌, Bool, true, false, ◌||◌, nat_le, List, [], ◌∷◌, Option, None, Some, Result, Ok, Err, length, take, refl, sym, ap, subst, append-nil, append_assoc, arith, length-append}
use Rattle.std.proofs.lemmas.Bool.Decides.{nat_tests}
use Rattle.std.proofs.lemmas.List.{append_cancel_left}
use Rattle.std.specs.Io.KnownBytes.{Appends}
use mathlib.Core.List.{IsPrefix}
use Rattle.cluster.specs.declared.entry.Entry.{Entry}
use Rattle.commands.specs.declared.command.Command.{Command}
use Rattle.histories.specs.Histories.{Each}
use Rattle.histories.specs.JobRuns.{JobBegun, JobRun, attempts_of, command_of}
use Rattle.turn_lock.specs.Places.{times}
use Rattle.turn_lock.specs.Known.{IsFree, Known}
use Rattle.api_server.specs.Ledgers.{with_added}
use Rattle.api_server.specs.Ledgers.{AllIn}
use Rattle.dra_ports.specs.Prefixes.{AppendsPrefix}
use Rattle.http_wire.specs.Replies.{reply_bytes}
use Rattle.http_wire.specs.Requests.{AreRequests, IsRequest, Lie, Message}
use Rattle.http_wire.specs.Requests.{Ending, Closed, BadHead, NoLength, TooLong, EndedEarly}
use Rattle.http_wire.specs.declared.error.WireError.TheVariants as wire
use Rattle.http_wire.specs.declared.reply.Reply.{Reply}
use Rattle.api_requests.specs.Tasks.{task_of}
use Rattle.api_requests.specs.declared.task.Task.{Task}
use Rattle.api_requests.specs.declared.task.Task.TheVariants.{Run as Carry}
use Rattle.api_routes.specs.declared.unserved.Unserved.{Unserved}
use Rattle.api_server.specs.declared.task.Unreplied.{Unreplied}
use Rattle.api_server.specs.declared.task.Unreplied.TheVariants as why
use Rattle.api_server.specs.Connections.{Connected, IsDone as Done, IsStopped as Stopped, IsHalted as Halted, IsCut as Cut, IsFull as Full, IsNext, IsReplied, IsUnreplied, Replies, job_of}
use Rattle.api_server.specs.Entries.{AreEntries, Grew, IsEntry, IsOfOne, IsOfRequest}
use Rattle.api_server.specs.Standing.{AllStand, AllTheirs, IsFullFor, RanFor, Stands, job_for}
use Rattle.api_server.specs.declared.end.ConnEnd.{ConnEnd}
use Rattle.api_server.specs.declared.end.ConnEnd.TheVariants as end
use Rattle.api_server.specs.declared.service.Service.{Service}
use Rattle.api_server.specs.Talks.{AllGoOn, Talk, Terms, goes_on}
use Rattle.api_server.specs.Visits.{AreVisits, EndsBy, IsCut, IsCutRefusal, IsHalted, IsOfRun, IsRefused, IsVisit, IsWhole, MetLimit, OfMet, OfRuns, OfSome, OfVisit, SomeMet, Visit, service_of, visited}
use Rattle.api_server.specs.Whole.{AllStandIn, IsOfTalk, StandsIn}
use Rattle.api_server.specs.Workers.{AllKept, HasEnd, is_kept}
use Rattle.api_server.proofs.Owning.{fact_at, from_places, pos_split, times_append}
use Rattle.api_server.proofs.Chaining.{added_join, entries_join, free_then, prefix_long, prefix_trans, weaker}

-- the laws of connections
pub record Laws : Type 0 where
  pub replies : (s : Service) (old new : Known Entry) (ms : List Message) (out added : List ℕ) (h : List Entry) → IsFree old → Replies s 1 old ms new out → new.own ≡ old.own ++ added → IsPrefix new.front h → AllTheirs s 1 ms added h → AllStand s (length old.front) 1 h (length old.front) (length new.front) ms out
  pub push : (s : Service) (began mid now : Known Entry) (ms : List Message) (m : Message) (r : Reply) (out : List ℕ) → Replies s 1 began ms mid out → IsReplied s (length ms + 1) m mid now r → Replies s 1 began (ms ++ m ∷ []) now (out ++ reply_bytes r)
  pub full : (s : Service) (began mid now : Known Entry) (ms : List Message) (m : Message) (out added : List ℕ) (n : ℕ) → IsFree began → Replies s 1 began ms mid out → IsUnreplied s (length ms + 1) m mid now (why.Full n) → now.own ≡ began.own ++ added → AllIn (job_of s.number (length ms + 1)) added now.front → IsFullFor s (length began.front) (length ms + 1) now m n
  pub limit : (s : Service) (index : ℕ) (m : Message) (mid now : Known Entry) (n : ℕ) → IsUnreplied s index m mid now (why.Full n) → (length now.front ≡ n) × (now.number ≤ n)
  pub replied : (s : Service) (index : ℕ) (old new : Known Entry) (ms : List Message) (out : List ℕ) → IsFree old → Replies s index old ms new out → Grew s index ms old new
  pub unreplied : (s : Service) (index : ℕ) (m : Message) (old new : Known Entry) (reason : Unreplied) → IsFree old → IsUnreplied s index m old new reason → Grew s index (m ∷ []) old new
  pub few : (bytes : List ℕ) (ms : List Message) (e : Ending) → Lie bytes ms e → length ms ≤ 65535

-- ---- how many requests

not_goes : (m : Message) (before : ℕ) (text : List ℕ) → 65535 ≤ before + 1 → IsRequest before text m → m.last ≡ false → ⊥
not_goes m before text le is goes =
    let all : nat_le 65535 (before + 1) ≡ true = grind (arith, nat_tests) in
    let last : m.last ≡ is.said.last || nat_le 65535 (before + 1) = ap (λ (x : Message). x.last) is.message_is in
    let yes : is.said.last || nat_le 65535 (before + 1) ≡ true = ap (λ (b : Bool). is.said.last || b) all ∙ by_last is.said.last in
    let f : true ≡ false = sym yes ∙ sym last ∙ goes in absurd (cc)
  where
    by_last : (b : Bool) → (b || true) ≡ true
    by_last true = refl
    by_last false = refl

-- fewer requests than the most go on
few_go_on : (before : ℕ) (bytes : List ℕ) (ms : List Message) → before ≤ 65534 → AreRequests before bytes ms → before + length ms ≤ 65534
few_go_on before bytes [] le are = omega (arith, le)
few_go_on before bytes (m ∷ ms) le (text, rest, is, request, goes, more) = by_room (nat_le 65535 (before + 1)) refl (λ room. few_go_on (before + 1) rest ms room more)
  where
    by_room : (b : Bool) → nat_le 65535 (before + 1) ≡ b → (before + 1 ≤ 65534 → before + 1 + length ms ≤ 65534) → before + length (m ∷ ms) ≤ 65534
    by_room true full f = let l : 65535 ≤ before + 1 = grind (arith, nat_tests) in absurd (not_goes m before text l request goes)
    by_room false room f = let l : before + 1 ≤ 65534 = grind (arith, nat_tests) in let k = f l in omega (arith, k)

few_first : (bytes : List ℕ) (ms : List Message) → AreRequests 0 bytes ms → length ms ≤ 65534
few_first bytes ms are = let k = few_go_on 0 bytes ms (omega arith) are in omega (arith, k)

-- ---- all entries of its jobs are its own

all_theirs : (s : Service) (index : ℕ) (ms : List Message) (places : List ℕ) (h : List Entry) → index + length ms ≤ 65536 → ((i : ℕ) → i ≤ 65535 → AllIn (job_of s.number i) places h) → AllTheirs s index ms places h
all_theirs s index [] places h le f = tt
all_theirs s index (m ∷ ms) places h le f = (f index (omega (arith, le)), all_theirs s (index + 1) ms places h (omega (arith, le)) f)

-- the requests of a pass's connection have their replies in the history
stand : Laws → (t : Terms) (number : ℕ) (h : List Entry) (k : Talk) (i : StandsIn t number h k) (ms : List Message) (out : List ℕ) → length ms ≤ 65535 → Replies (record { number = k.number; budget = t.budget; attempts = t.attempts }) 1 i.old ms i.new out
    → AllStand (record { number = k.number; budget = t.budget; attempts = t.attempts }) (length i.old.front) 1 h (length i.old.front) (length i.new.front) ms out
stand l t number h k i ms out few are =
    let s : Service = record { number = k.number; budget = t.budget; attempts = t.attempts } in
    l.replies s i.old i.new ms out i.added h i.free are i.made i.begins (all_theirs s 1 ms i.added h (omega (arith, few)) i.alone)

-- ---- runs

of_runs : (s : Service) (from index low top : ℕ) (ms : List Message) (out : List ℕ) (h : List Entry) (e : Entry) → AllStand s from index h low top ms out → IsOfOne s index ms e → OfRuns s from index ms h e
of_runs s from index low top [] out h e are of = absurd of
of_runs s from index low top (m ∷ ms) out h e (place, r, rest, le, is, stands, more) (inl of) =
    inl (record { command = of.command; asks = of.asks; job_is = of.job_is; run = subst (RanFor s from index h) of.asks stands.ran })
of_runs s from index low top (m ∷ ms) out h e (place, r, rest, le, is, stands, more) (inr of) = inr (of_runs s from (index + 1) place top ms rest h e more of)

-- the same indices
same_added : (old new : Known Entry) (a b : List ℕ) → new.own ≡ old.own ++ a → new ≡ with_added old new.front b → b ≡ a
same_added old new a b made is =
    let own : new.own ≡ old.own ++ b = ap (λ (x : Known Entry). x.own) is in
    append_cancel_left old.own b a (sym own ∙ made)

of_entries : (P : Entry → Type 0) (h : List Entry) (old new : Known Entry) (a b : List ℕ) (Q : Entry → Type 0) → ((e : Entry) → P e → Q e) → IsPrefix new.front h → new.own ≡ old.own ++ a → new ≡ with_added old new.front b → AreEntries P (length old.front) new.front b → AreEntries Q 0 h a
of_entries P h old new a b Q f begins made is are = subst (AreEntries Q 0 h) (same_added old new a b made is) (weaker P Q (length old.front) 0 new.front h b f (omega arith) begins are)

-- ---- one connection

-- the connection stands in the history, with what is known of its requests
pub record Told (t : Terms) (number : ℕ) (h : List Entry) (k : Talk) (added : List ℕ) : Type 0 where
  pub visit : Visit
  pub talk_is : visit.talk ≡ k
  pub is : IsVisit t h visit
  pub of : AreEntries (OfMet t h visit) 0 h added
  pub of_runs : goes_on k.end ≡ true → AreEntries (OfVisit t h visit) 0 h added
  pub count : (n : ℕ) → k.end ≡ end.Full n → (length h ≡ n) × (n ≡ number)

abbrev visit_of : (k : Talk) (old new : Known Entry) (ms : List Message) (out : List ℕ) → Visit
visit_of k old new ms out = record { talk = k; from = length old.front; seen = length new.front; ms = ms; out = out }

-- all its requests were replied to
told_replied : Laws → (t : Terms) (number : ℕ) (h : List Entry) (k : Talk) (i : StandsIn t number h k) (ms : List Message) (out : List ℕ) → length ms ≤ 65535 → Replies (record { number = k.number; budget = t.budget; attempts = t.attempts }) 1 i.old ms i.new out
    → EndsBy t h (visit_of k i.old i.new ms out) k.end → ((n : ℕ) → k.end ≡ end.Full n → ⊥) → Told t number h k i.added
told_replied l t number h k i ms out few are ends other =
    let s : Service = record { number = k.number; budget = t.budget; attempts = t.attempts } in
    let v : Visit = visit_of k i.old i.new ms out in
    let all = stand l t number h k i ms out few are in
    let grew : Grew s 1 ms i.old i.new = l.replied s 1 i.old i.new ms out i.free are in
    let runs : (e : Entry) → IsOfOne s 1 ms e → OfVisit t h v e = λ e o. of_runs s (length i.old.front) 1 (length i.old.front) (length i.new.front) ms out h e all o in record {
      visit = v;
      talk_is = refl;
      is = record { stand = all; within = prefix_long i.new.front h i.begins; ends = ends; cause = i.is.cause; unwritten = i.is.unwritten };
      of = of_entries (IsOfOne s 1 ms) h i.old i.new i.added grew.added (OfMet t h v) (λ e o. inl (runs e o)) i.begins i.made grew.is grew.made;
      of_runs = λ on. of_entries (IsOfOne s 1 ms) h i.old i.new i.added grew.added (OfVisit t h v) runs i.begins i.made grew.is grew.made;
      count = λ n is. absurd (other n is);
    }

-- ---- the ways in which a connection ends

abbrev serving : Terms → Talk → Service
serving t k = record { number = k.number; budget = t.budget; attempts = t.attempts }

told_done : Laws → (t : Terms) (number : ℕ) (h : List Entry) (k : Talk) (i : StandsIn t number h k) (ending : Ending) → ((v : Visit) → IsWhole v ending → EndsBy t h v k.end) → Done (serving t k) i.old i.new k.left_before k.left_after k.written_before k.written_after ending → ((n : ℕ) → k.end ≡ end.Full n → ⊥) → Told t number h k i.added
told_done l t number h k i ending ends d other =
    told_replied l t number h k i d.ms d.out (l.few d.bytes d.ms ending d.lie) d.replies (ends _ (record { bytes = d.bytes; read = d.consumed; lie = d.lie; over = d.over; wrote = d.wrote })) other

told_stopped : Laws → (t : Terms) (number : ℕ) (h : List Entry) (k : Talk) (i : StandsIn t number h k) (ending : Ending) (reason : Unserved) → ((v : Visit) → IsRefused v ending reason → EndsBy t h v k.end) → Stopped (serving t k) i.old i.new k.left_before k.left_after k.written_before k.written_after ending reason → ((n : ℕ) → k.end ≡ end.Full n → ⊥) → Told t number h k i.added
told_stopped l t number h k i ending reason ends d other =
    told_replied l t number h k i d.ms d.out (l.few d.bytes d.ms ending d.lie) d.replies (ends _ (record { bytes = d.bytes; refusal = d.refusal; read = d.consumed; lie = d.lie; refusal_is = d.refusal_is; wrote = d.wrote })) other

told_halted : Laws → (t : Terms) (number : ℕ) (h : List Entry) (k : Talk) (i : StandsIn t number h k) → ((v : Visit) → IsHalted v → EndsBy t h v k.end) → Halted (serving t k) i.old i.new k.left_before k.left_after k.written_before k.written_after → ((n : ℕ) → k.end ≡ end.Full n → ⊥) → Told t number h k i.added
told_halted l t number h k i ends d other =
    told_replied l t number h k i d.ms d.out (let f = few_first d.served.bytes d.ms d.served.requests in omega (arith, f)) d.served.replies (ends _ (record { bytes = d.served.bytes; rest = d.rest; read = d.served.consumed; requests = d.served.requests; undone = d.undone; wrote = d.wrote })) other

-- a part of what comes after
part_after : (w w' : Option (List ℕ)) (a b : List ℕ) (n : ℕ) → Appends w w' (a ++ take n b) → AppendsPrefix w w' (a ++ b)
part_after w w' a b n wrote = (length a + n, subst (Appends w w') (sym (take_after a b n)) wrote)
  where
    take_after : (a b : List ℕ) (n : ℕ) → take (length a + n) (a ++ b) ≡ a ++ take n b
    take_after [] b n = ap (λ (m : ℕ). take m b) (omega arith)
    take_after (x ∷ a) b n = let e : length (x ∷ a) + n ≡ suc (length a + n) = omega arith in ap (λ (m : ℕ). take m (x ∷ (a ++ b))) e ∙ ap (λ (xs : List ℕ). x ∷ xs) (take_after a b n)

told_cut : Laws → (t : Terms) (number : ℕ) (h : List Entry) (k : Talk) (i : StandsIn t number h k) → ((v : Visit) → IsCut v ⊎ IsCutRefusal v → EndsBy t h v k.end) → Cut (serving t k) i.old i.new k.left_before k.left_after k.written_before k.written_after → ((n : ℕ) → k.end ≡ end.Full n → ⊥) → Told t number h k i.added
told_cut l t number h k i ends d other = by_next d.next_is
  where
    few : length d.ms ≤ 65534
    few = few_first d.served.bytes d.ms d.served.requests

    by_next : IsNext (serving t k) (length d.ms) d.mid i.new d.rest d.next → Told t number h k i.added
    by_next (inl n) =
        let more : Replies (serving t k) 1 i.old (d.ms ++ n.request ∷ []) i.new (d.out ++ reply_bytes d.next) = l.push (serving t k) i.old d.mid i.new d.ms n.request d.next d.out d.served.replies n.replied in
        told_replied l t number h k i (d.ms ++ n.request ∷ []) (d.out ++ reply_bytes d.next) (let f = few in let a = length-append d.ms (n.request ∷ []) in omega (arith, f, a)) more
        (ends _ (inl (record {
          before = d.ms;
          last = n.request;
          ms_is = refl;
          bytes = d.served.bytes;
          rest = d.rest;
          read = d.served.consumed;
          requests = d.served.requests;
          begins = n.begins;
          wrote = part_after k.written_before k.written_after d.out (reply_bytes d.next) d.written d.wrote;
        }))) other
    by_next (inr n) =
        told_replied l t number h k i d.ms d.out (let f = few in omega (arith, f)) (subst (λ (x : Known Entry). Replies (serving t k) 1 i.old d.ms x d.out) (sym n.same) d.served.replies)
        (ends _ (inr (record {
          bytes = d.served.bytes;
          rest = d.rest;
          read = d.served.consumed;
          requests = d.served.requests;
          reason = n.reason;
          unread = n.unread;
          refusal = d.next;
          refusal_is = n.answer_is;
          wrote = part_after k.written_before k.written_after d.out (reply_bytes d.next) d.written d.wrote;
        }))) other

-- ---- the limit

-- what is said of an entry
pub at_place : (P : List Entry → Entry → Type 0) (before es b : List Entry) (e : Entry) (rest : List Entry) → Each P before es → es ≡ b ++ e ∷ rest → P (before ++ b) e
unfolding Each
at_place P before [] b e rest each is = absurd (let n : length (b ++ e ∷ rest) ≡ 0 = ap length (sym is) in omega (arith, n, length-append b (e ∷ rest)))
at_place P before (x ∷ es) [] e rest each is = subst (λ (xs : List Entry). P xs e) (sym (append-nil before)) (subst (P before) (cc) each.0)
at_place P before (x ∷ es) (y ∷ b) e rest each is =
    let same : x ≡ y = cc in
    let r = at_place P (before ++ x ∷ []) es b e rest each.1 (cc) in
    subst (λ (xs : List Entry). P xs e) (append_assoc before (x ∷ []) b ∙ ap (λ (z : Entry). before ++ z ∷ b) same) r

theirs : (job : ℕ) (places : List ℕ) (h b : List Entry) (e : Entry) (rest : List Entry) → AllIn job places h → h ≡ b ++ e ∷ rest → e.job ≡ job → 0 < times (length b + 1) places
theirs job places h b e rest all is mine = at_place (λ before e. e.job ≡ job → 0 < times (length before + 1) places) [] h b e rest all is mine

-- entries of other jobs don't count
only_first : (job : ℕ) (xs ys : List ℕ) (h : List Entry) → ((b : List Entry) (e : Entry) (rest : List Entry) → h ≡ b ++ e ∷ rest → 0 < times (length b + 1) ys → e.job ≡ job → ⊥) → AllIn job (xs ++ ys) h → AllIn job xs h
only_first job xs ys h not all =
    from_places (λ before e. e.job ≡ job → 0 < times (length before + 1) xs) [] h
    (λ b e rest is mine. pick b e rest is mine (pos_split (times (length b + 1) xs) (times (length b + 1) ys) (let a = theirs job (xs ++ ys) h b e rest all is mine in let s = times_append (length b + 1) xs ys in omega (arith, a, s))))
  where
    pick : (b : List Entry) (e : Entry) (rest : List Entry) → h ≡ b ++ e ∷ rest → e.job ≡ job → (0 < times (length b + 1) xs) ⊎ (0 < times (length b + 1) ys) → 0 < times (length b + 1) xs
    pick b e rest is mine (inl a) = a
    pick b e rest is mine (inr a) = absurd (not b e rest is a mine)

same_long : (a b : List Entry) → IsPrefix a b → length b ≤ length a → b ≡ a
same_long a b (rest, is) le = no_rest rest is (let n : length (a ++ rest) ≡ length b = ap length is in omega (arith, n, le, length-append a rest))
  where
    no_rest : (xs : List Entry) → a ++ xs ≡ b → length xs ≡ 0 → b ≡ a
    no_rest [] e z = sym e ∙ append-nil a
    no_rest (x ∷ xs) e z = absurd (omega (arith, z))

-- jobs of two requests of one connection differ
other_request : (s : Service) (index at : ℕ) (m : Message) (e : Entry) → index < at → IsOfOne s at (m ∷ []) e → e.job ≡ job_of s.number index → ⊥
other_request s index at m e lt (inl of) mine = let j = of.job_is in omega (arith, lt, mine, j)
other_request s index at m e lt (inr of) mine = absurd of

one_job : (s : Service) (at : ℕ) (m : Message) (e : Entry) → IsOfOne s at (m ∷ []) e → e.job ≡ job_of s.number at
one_job s at m e (inl of) = of.job_is
one_job s at m e (inr of) = absurd of

theirs_below : (s : Service) (index last : ℕ) (ms : List Message) (places : List ℕ) (h : List Entry) → index + length ms ≤ last → ((i : ℕ) → i < last → AllIn (job_of s.number i) places h) → AllTheirs s index ms places h
theirs_below s index last [] places h le f = tt
theirs_below s index last (m ∷ ms) places h le f = (f index (omega (arith, le)), theirs_below s (index + 1) last ms places h (omega (arith, le)) f)

told_full : Laws → (t : Terms) (number : ℕ) (h : List Entry) (k : Talk) (i : StandsIn t number h k) (n : ℕ) → length h ≤ number → k.end ≡ end.Full n → Full (serving t k) i.old i.new k.left_before k.left_after k.written_before k.written_after n → Told t number h k i.added
told_full l t number h k i n within ends d =
    let s : Service = serving t k in
    let m : Message = d.full.request in
    let at : ℕ = length d.ms + 1 in
    let few = few_first d.served.bytes d.ms d.served.requests in
    let first : Grew s 1 d.ms i.old d.mid = l.replied s 1 i.old d.mid d.ms d.out i.free d.served.replies in
    let then : Grew s at (m ∷ []) d.mid i.new = l.unreplied s at m d.mid i.new (why.Full n) (free_then i.old d.mid first.added first.is) d.full.unreplied in
    let all : i.new ≡ with_added i.old i.new.front (first.added ++ then.added) = added_join i.old d.mid i.new first.added then.added first.is then.is in
    let same : first.added ++ then.added ≡ i.added = same_added i.old i.new i.added (first.added ++ then.added) i.made all in
    let mid_begins : IsPrefix d.mid.front h = prefix_trans d.mid.front i.new.front h then.extends i.begins in
    let alone : (j : ℕ) → j ≤ 65535 → AllIn (job_of k.number j) (first.added ++ then.added) h = λ j le. subst (λ (ps : List ℕ). AllIn (job_of k.number j) ps h) (sym same) (i.alone j le) in
    let not : (j : ℕ) → j < at → (b : List Entry) (e : Entry) (rest : List Entry) → h ≡ b ++ e ∷ rest → 0 < times (length b + 1) then.added → e.job ≡ job_of k.number j → ⊥ =
    λ j lt b e rest is in_ mine. other_request s j at m e lt (fact_at (IsOfOne s at (m ∷ [])) 0 h then.added b e rest (weaker (IsOfOne s at (m ∷ [])) (IsOfOne s at (m ∷ [])) (length d.mid.front) 0 i.new.front h then.added (λ x o. o) (omega arith) i.begins then.made) is in_) mine in
    let firsts : (j : ℕ) → j < at → AllIn (job_of k.number j) first.added h = λ j lt. only_first (job_of k.number j) first.added then.added h (not j lt) (alone j (omega (arith, lt, few))) in
    let stands = l.replies s i.old d.mid d.ms d.out first.added h i.free d.served.replies (ap (λ (x : Known Entry). x.own) first.is) mid_begins (theirs_below s 1 at d.ms first.added h (omega arith) firsts) in
    let met_at = met_now (l.limit s at m d.mid i.new n d.full.unreplied) in
    let last : AllIn (job_of k.number at) i.added i.new.front = subst (AllIn (job_of k.number at) i.added) met_at (i.alone at (omega (arith, few))) in
    let met : IsFullFor s (length i.old.front) at i.new m n = l.full s i.old d.mid i.new d.ms m d.out i.added n i.free d.served.replies d.full.unreplied i.made last in
    let v : Visit = record { talk = k; from = length i.old.front; seen = length d.mid.front; ms = d.ms; out = d.out } in
    let limit : MetLimit t h v = record {
      bytes = d.served.bytes;
      rest = d.rest;
      read = d.served.consumed;
      requests = d.served.requests;
      request = m;
      begins = d.full.begins;
      command = met.command;
      asks = met.asks;
      begun = subst (JobBegun (job_for s (length i.old.front) at met.command)) (sym met_at) met.begun;
      wrote = d.wrote;
    } in
    let runs : (e : Entry) → IsOfOne s 1 d.ms e → OfMet t h v e = λ e o. inl (of_runs s (length i.old.front) 1 (length i.old.front) (length d.mid.front) d.ms d.out h e stands o) in
    let lasts : (e : Entry) → IsOfOne s at (m ∷ []) e → OfMet t h v e = λ e o. inr (limit, one_job s at m e o) in
    record {
      visit = v;
      talk_is = refl;
      is = record { stand = stands; within = prefix_long d.mid.front h mid_begins; ends = subst (EndsBy t h v) (sym ends) limit; cause = i.is.cause; unwritten = i.is.unwritten };
      of = subst (AreEntries (OfMet t h v) 0 h) same (entries_join (OfMet t h v) 0 h first.added then.added
          (weaker (IsOfOne s 1 d.ms) (OfMet t h v) (length i.old.front) 0 d.mid.front h first.added runs (omega arith) mid_begins first.made)
          (weaker (IsOfOne s at (m ∷ [])) (OfMet t h v) (length d.mid.front) 0 i.new.front h then.added lasts (omega arith) i.begins then.made));
      of_runs = λ on. absurd (on_full (ap goes_on (sym ends) ∙ on));
      count = λ c is. (count_is c (l.limit s at m d.mid i.new n d.full.unreplied) (same_count c is));
    }
  where
    met_now : (length i.new.front ≡ n) × (i.new.number ≤ n) → h ≡ i.new.front
    met_now (long, least) = let num = i.number_is in same_long i.new.front h i.begins (omega (arith, long, least, num, within))

    on_full : goes_on (end.Full n) ≡ true → ⊥
    on_full on = absurd (cc)

    same_count : (c : ℕ) → k.end ≡ end.Full c → c ≡ n
    same_count c is = let both : end.Full c ≡ end.Full n = sym is ∙ ends in cc

    count_is : (c : ℕ) → (length i.new.front ≡ n) × (i.new.number ≤ n) → c ≡ n → (length h ≡ c) × (c ≡ number)
    count_is c (long, least) is =
        let num = i.number_is in let more = prefix_long i.new.front h i.begins in (omega (arith, long, least, num, within, more, is), omega (arith, long, least, num, within, more, is))

-- ---- whatever the end

told_by : Laws → (t : Terms) (number : ℕ) (h : List Entry) (k : Talk) (i : StandsIn t number h k) (e : ConnEnd) → length h ≤ number → k.end ≡ e → is_kept e ≡ true → Connected (serving t k) i.old i.new k.left_before k.left_after k.written_before k.written_after e → Told t number h k i.added
told_by l t number h k i end.Closed within is kept c = told_done l t number h k i Closed (λ v w. subst (EndsBy t h v) (sym is) w) c (λ n f. absurd (cc))
told_by l t number h k i (end.Wire wire.BadHead) within is kept c = told_stopped l t number h k i BadHead _ (λ v w. subst (EndsBy t h v) (sym is) w) c (λ n f. absurd (cc))
told_by l t number h k i (end.Wire wire.NoLength) within is kept c = told_stopped l t number h k i NoLength _ (λ v w. subst (EndsBy t h v) (sym is) w) c (λ n f. absurd (cc))
told_by l t number h k i (end.Wire wire.TooLong) within is kept c = told_stopped l t number h k i TooLong _ (λ v w. subst (EndsBy t h v) (sym is) w) c (λ n f. absurd (cc))
told_by l t number h k i (end.Wire wire.EndedEarly) within is kept c = told_done l t number h k i EndedEarly (λ v w. subst (EndsBy t h v) (sym is) w) c (λ n f. absurd (cc))
told_by l t number h k i (end.Wire wire.ReadFault) within is kept c = told_halted l t number h k i (λ v w. subst (EndsBy t h v) (sym is) w) c (λ n f. absurd (cc))
told_by l t number h k i (end.Wire wire.WriteFault) within is kept c = told_cut l t number h k i (λ v w. subst (EndsBy t h v) (sym is) w) c (λ n f. absurd (cc))
told_by l t number h k i (end.Wire wire.Memory) within is kept c = absurd c
told_by l t number h k i (end.Full n) within is kept c = told_full l t number h k i n within is c
told_by l t number h k i end.Memory within is kept c = absurd (cc)

pub told_of : Laws → (t : Terms) (number : ℕ) (h : List Entry) (k : Talk) (i : StandsIn t number h k) → length h ≤ number → is_kept k.end ≡ true → Told t number h k i.added
told_of l t number h k i within kept = told_by l t number h k i k.end within refl kept i.is.connected

-- ---- all connections

-- they stand in the history, and each of its entries is of one of them
pub record AllTold (t : Terms) (number : ℕ) (h : List Entry) (ks : List Talk) : Type 0 where
  pub visits : List Visit
  pub talks_are : visited visits ≡ ks
  pub are : AreVisits t h visits
  pub of : (b : List Entry) (e : Entry) (rest : List Entry) → h ≡ b ++ e ∷ rest → IsOfTalk ks e → OfSome (OfMet t h) visits e
  pub of_runs : AllGoOn ks → (b : List Entry) (e : Entry) (rest : List Entry) → h ≡ b ++ e ∷ rest → IsOfTalk ks e → OfSome (OfVisit t h) visits e
  pub met : (n : ℕ) → HasEnd (end.Full n) ks → SomeMet t h visits × (length h ≡ n) × (n ≡ number)

met_of : (t : Terms) (h : List Entry) (v : Visit) (k : Talk) (n : ℕ) → IsVisit t h v → v.talk ≡ k → k.end ≡ end.Full n → MetLimit t h v
met_of t h v k n i same is = subst (EndsBy t h v) (ap (λ (x : Talk). x.end) same ∙ is) i.ends

pub all_told : Laws → (t : Terms) (number : ℕ) (h : List Entry) (ks : List Talk) → AllStandIn t number h ks → length h ≤ number → AllKept ks → AllTold t number h ks
all_told l t number h [] stands within kept = record { visits = []; talks_are = refl; are = tt; of = λ b e rest is of. absurd of; of_runs = λ on b e rest is of. absurd of; met = λ n has. absurd has }
all_told l t number h (k ∷ ks) stands within kept =
    let one : Told t number h k stands.0.added = told_of l t number h k stands.0 within kept.0 in
    let more : AllTold t number h ks = all_told l t number h ks stands.1 within kept.1 in
    record {
      visits = one.visit ∷ more.visits;
      talks_are = ap (λ (x : Talk). x ∷ visited more.visits) one.talk_is ∙ ap (λ (xs : List Talk). k ∷ xs) more.talks_are;
      are = (one.is, more.are);
      of = λ b e rest is of. of_first (OfMet t h) one.visit more.visits b e rest is one.of (more.of b e rest is) of;
      of_runs = λ on b e rest is of. of_first (OfVisit t h) one.visit more.visits b e rest is (one.of_runs on.0) (more.of_runs on.1 b e rest is) of;
      met = λ n has. has_met n one more has;
    }
  where
    of_first : (P : Visit → Entry → Type 0) (v : Visit) (vs : List Visit) (b : List Entry) (e : Entry) (rest : List Entry) → h ≡ b ++ e ∷ rest → AreEntries (P v) 0 h stands.0.added → (IsOfTalk ks e → OfSome P vs e) → IsOfTalk (k ∷ ks) e → OfSome P (v ∷ vs) e
    of_first P v vs b e rest is are more (inl (j, le, mine)) = inl (fact_at (P v) 0 h stands.0.added b e rest are is (theirs (job_of k.number j) stands.0.added h b e rest (stands.0.alone j le) is mine))
    of_first P v vs b e rest is are more (inr of) = inr (more of)

    has_met : (n : ℕ) (one : Told t number h k stands.0.added) (more : AllTold t number h ks) → (k.end ≡ end.Full n) ⊎ HasEnd (end.Full n) ks → SomeMet t h (one.visit ∷ more.visits) × (length h ≡ n) × (n ≡ number)
    has_met n one more (inl is) = (let c = one.count n is in (inl (met_of t h one.visit k n one.is one.talk_is is), c.0, c.1))
    has_met n one more (inr has) = let m = more.met n has in (inr m.0, m.1, m.2)
