-- How a connection goes on and how it ends, by what was read and written last.
use Rattle.std.proofs.Common.{ℕ, ◌≡◌, ◌≤◌, ◌∙◌, ◌+◌, ◌++◌, ◌||◌, inl, inr, Bool, true, false, List, [], ◌∷◌, Option, None, Some, Err, length, take, refl, sym, ap, subst, append-nil, append_assoc, arith}
use Rattle.std.proofs.lemmas.List.{length-append}
use Rattle.std.proofs.lemmas.Bool.Decides.{nat_tests}
use Rattle.std.specs.Prelude.{IfNone, IfSome, nat_le}
use Rattle.std.specs.Io.KnownBytes.{Appends, Consumes, IsAtEnd}
use Rattle.dra_ports.specs.Prefixes.{AppendsPrefix}
use Rattle.cluster.specs.declared.entry.Entry.{Entry}
use Rattle.turn_lock.specs.Known.{Known}
use Rattle.http_wire.specs.Heads.{IsBlank}
use Rattle.http_wire.specs.Reader.{Answers, Begins, remaining}
use Rattle.http_wire.specs.Replies.{reply_bytes}
use Rattle.http_wire.specs.Requests.{AreRequests, Ending, IsRequest, Lie, LieAfter, Message, Stops, next_count}
use Rattle.http_wire.specs.Requests.Ending.{Closed, BadHead, NoLength, TooLong, EndedEarly}
use Rattle.http_wire.specs.declared.error.WireError.{WireError}
use Rattle.http_wire.specs.declared.error.WireError.TheVariants as wire
use Rattle.http_wire.specs.declared.reply.Reply.{Reply}
use Rattle.api_replies.specs.Answers.{answer_of, refused}
use Rattle.api_routes.specs.declared.unserved.Unserved.{Unserved}
use Rattle.api_routes.specs.declared.unserved.Unserved.TheVariants as unserved
use Rattle.api_server.specs.declared.task.Unreplied.TheVariants as why
use Rattle.api_server.specs.Connections.{Connected, HasServed, IsCut, IsReplied, IsStopped, IsUnread, IsUnreplied, OnWay, Refusing, Serving, Stopping, has_last}
use Rattle.api_server.specs.declared.end.ConnEnd.{ConnEnd}
use Rattle.api_server.specs.declared.end.ConnEnd.TheVariants as end
use Rattle.api_server.specs.declared.service.Service.{Service}
use Rattle.api_server.proofs.Joined.{appends_join, at_end, consumes_ahead, consumes_end, consumes_join, replies_push}

-- the law of what follows requests
abbrev pub Follows : Type 0
Follows = (before : ℕ) (bytes rest : List ℕ) (ms ns : List Message) (e : Ending) → AreRequests before bytes ms → LieAfter (before + length ms) rest ns e → LieAfter before (bytes ++ rest) (ms ++ ns) e

-- the law of one request more
abbrev pub More : Type 0
More = (before : ℕ) (bytes text : List ℕ) (ms : List Message) (m : Message) → AreRequests before bytes ms → IsRequest (before + length ms) text m → m.last ≡ false → AreRequests before (bytes ++ text) (ms ++ m ∷ [])

-- no further request, and an ending
pub lies_by : Follows → (bytes rest : List ℕ) (ms : List Message) (e : Ending) → AreRequests 0 bytes ms → LieAfter (length ms) rest [] e → Lie (bytes ++ rest) ms e
lies_by follows bytes rest ms e many stops =
    let count : length ms ≡ 0 + length ms = omega arith in
    let after : LieAfter (0 + length ms) rest [] e = subst (λ (n : ℕ). LieAfter n rest [] e) count stops in
    subst (λ (l : List Message). LieAfter 0 (bytes ++ rest) l e) (append-nil ms) (follows 0 bytes rest ms [] e many after)

-- ---- what was read

-- what was read, and with it the bytes that belong to no request
reads : (l left left' : Option (List ℕ)) (bytes prefix ahead ahead' : List ℕ) → Consumes l (remaining ahead left) bytes → Consumes (remaining ahead left) (remaining ahead' left') prefix → Consumes l left' (bytes ++ (prefix ++ ahead'))
reads l left left' bytes prefix ahead ahead' a b =
    subst (λ (x : List ℕ). Consumes l left' x) (append_assoc bytes prefix ahead') (consumes_ahead l left' ahead' (bytes ++ prefix) (consumes_join l (remaining ahead left) (remaining ahead' left') bytes prefix a b))

served : (s : Service) (began now : Known Entry) (ahead : List ℕ) (l left left' w wr : Option (List ℕ)) (index taken : ℕ) (on : OnWay s began now l (remaining ahead left) w wr index taken) (rest : List ℕ) → Consumes l left' (on.bytes ++ rest) → HasServed s began now l left' on.ms rest on.out
served s began now ahead l left left' w wr index taken on rest consumed = record { bytes = on.bytes; consumed = consumed; requests = on.requests; replies = on.replies }

-- ---- a request that is served

pub goes_on : More → (s : Service) (began old new : Known Entry) (ahead ahead' : List ℕ) (l left left' left'' w wr wr' : Option (List ℕ)) (index taken taken' : ℕ) (m : Message)
    → Begins ahead left (remaining ahead' left') (λ (p : List ℕ). IsRequest taken p m) → left'' ≡ left' → index ≤ 65535 → taken' ≡ next_count taken → Serving s index m old new wr wr' None
    → OnWay s began old l (remaining ahead left) w wr index taken → OnWay s began new l (remaining ahead' left'') w wr' (index + 1) taken'
goes_on more s began old new ahead ahead' l left left' left'' w wr wr' index taken taken' m b same few counts (r, replied, wrote, goes) on =
    let count : taken ≡ 0 + length on.ms = omega (arith, on.taken_is) in
    let long : length (on.ms ++ m ∷ []) ≡ length on.ms + 1 = length-append on.ms (m ∷ []) in record {
      ms = on.ms ++ m ∷ [];
      bytes = on.bytes ++ b.prefix;
      out = on.out ++ reply_bytes r;
      consumed = subst (λ (x : Option (List ℕ)). Consumes l (remaining ahead' x) (on.bytes ++ b.prefix)) (sym same) (consumes_join l (remaining ahead left) (remaining ahead' left') on.bytes b.prefix on.consumed b.consumed);
      requests = more 0 on.bytes b.prefix on.ms m on.requests (subst (λ (n : ℕ). IsRequest n b.prefix m) count b.fact) goes;
      wrote = appends_join w wr wr' on.out (reply_bytes r) on.wrote wrote;
      replies = replies_push s 1 index began old new on.ms m r on.out on.replies (omega (arith, on.index_is)) replied;
      index_is = omega (arith, on.index_is, long);
      taken_is = omega (arith, on.index_is, on.taken_is, long, few, counts);
    }

ends_last : (ms : List Message) (m : Message) → m.last ≡ true → has_last (ms ++ m ∷ []) ≡ true
ends_last [] m is = rw is refl
ends_last (n ∷ ms) m is = rw (ends_last ms m is) (by_last n.last)
  where
    by_last : (b : Bool) → (b || true) ≡ true
    by_last true = refl
    by_last false = refl

last_lies : Follows → (bytes text rest : List ℕ) (ms : List Message) (m : Message) (taken : ℕ) → taken ≡ length ms → AreRequests 0 bytes ms → IsRequest taken text m → m.last ≡ true → Lie (bytes ++ (text ++ rest)) (ms ++ m ∷ []) Closed
last_lies follows bytes text rest ms m taken taken_is many is ends =
    let count : taken ≡ 0 + length ms = omega (arith, taken_is) in
    follows 0 bytes (text ++ rest) ms (m ∷ []) Closed many (text, rest, refl, subst (λ (n : ℕ). IsRequest n text m) count is, rw ends (refl, refl))

-- the connection ends at this request
pub ends_served : Follows → (s : Service) (began old new : Known Entry) (ahead ahead' : List ℕ) (l left left' left'' w wr wr' : Option (List ℕ)) (index taken : ℕ) (m : Message) (e : ConnEnd)
    → Begins ahead left (remaining ahead' left') (λ (p : List ℕ). IsRequest taken p m) → left'' ≡ left' → Serving s index m old new wr wr' (Some e)
    → OnWay s began old l (remaining ahead left) w wr index taken → Connected s began new l left'' w wr' e
ends_served follows s began old new ahead ahead' l left left' left'' w wr wr' index taken m e b same serving on = by_end e serving
  where
    consumed : Consumes l left'' (on.bytes ++ (b.prefix ++ ahead'))
    consumed = subst (λ (x : Option (List ℕ)). Consumes l x (on.bytes ++ (b.prefix ++ ahead'))) (sym same) (reads l left left' on.bytes b.prefix ahead ahead' on.consumed b.consumed)

    before : HasServed s began old l left'' on.ms (b.prefix ++ ahead') on.out
    before = served s began old ahead l left left'' w wr index taken on (b.prefix ++ ahead') consumed

    begins : (text rest : List ℕ) × (b.prefix ++ ahead' ≡ text ++ rest) × IsRequest (length on.ms) text m
    begins = (b.prefix, ahead', refl, subst (λ (n : ℕ). IsRequest n b.prefix m) on.taken_is b.fact)

    next : index ≡ length on.ms + 1
    next = on.index_is

    cut : (r : Reply) → IsReplied s index m old new r → AppendsPrefix wr wr' (reply_bytes r) → IsCut s began new l left'' w wr'
    cut r replied (n, wrote) = record {
      ms = on.ms;
      rest = b.prefix ++ ahead';
      out = on.out;
      mid = old;
      served = before;
      next = r;
      next_is = inl (record { request = m; begins = begins; replied = subst (λ (n : ℕ). IsReplied s n m old new r) next replied });
      written = n;
      wrote = appends_join w wr wr' on.out (take n (reply_bytes r)) on.wrote wrote;
    }

    by_end : (e : ConnEnd) → Serving s index m old new wr wr' (Some e) → Connected s began new l left'' w wr' e
    by_end end.Closed (r, replied, wrote, ends) = record {
      ms = on.ms ++ m ∷ [];
      bytes = on.bytes ++ (b.prefix ++ ahead');
      out = on.out ++ reply_bytes r;
      consumed = consumed;
      lie = last_lies follows on.bytes b.prefix ahead' on.ms m taken on.taken_is on.requests b.fact ends;
      over = inl (ends_last on.ms m ends);
      wrote = appends_join w wr wr' on.out (reply_bytes r) on.wrote wrote;
      replies = replies_push s 1 index began old new on.ms m r on.out on.replies (omega (arith, on.index_is)) replied;
    }
    by_end (end.Wire error) (r, replied, wrote, fault) = subst (λ (x : WireError). Connected s began new l left'' w wr' (end.Wire x)) (sym fault) (cut r replied wrote)
    by_end (end.Full n) (unreplied, kept) = record {
      ms = on.ms;
      rest = b.prefix ++ ahead';
      out = on.out;
      mid = old;
      served = before;
      full = record { request = m; begins = begins; unreplied = subst (λ (i : ℕ). IsUnreplied s i m old new (why.Full n)) next unreplied };
      wrote = subst (λ (x : Option (List ℕ)). Appends w x on.out) (sym kept) on.wrote;
    }
    by_end end.Memory (inl (r, replied, wrote)) = inr (cut r replied wrote)
    by_end end.Memory (inr (unreplied, kept)) = inl (record {
      ms = on.ms;
      rest = b.prefix ++ ahead';
      out = on.out;
      mid = old;
      served = before;
      unserved = inr (record { request = m; begins = begins; unreplied = subst (λ (i : ℕ). IsUnreplied s i m old new why.Memory) next unreplied });
      wrote = subst (λ (x : Option (List ℕ)). Appends w x on.out) (sym kept) on.wrote;
    })

-- ---- no further request

pub closes : Follows → (s : Service) (began now : Known Entry) (ahead ahead' : List ℕ) (l left left' w wr wr' : Option (List ℕ)) (index taken : ℕ)
    → Begins ahead left (remaining ahead' left') IsBlank × IsAtEnd (remaining ahead' left') → wr' ≡ wr → OnWay s began now l (remaining ahead left) w wr index taken → Connected s began now l left' w wr' end.Closed
closes follows s began now ahead ahead' l left left' w wr wr' index taken (b, over) same on = record {
  ms = on.ms;
  bytes = on.bytes ++ b.prefix;
  out = on.out;
  consumed = consumes_end l left' ahead' (on.bytes ++ b.prefix) (consumes_join l (remaining ahead left) (remaining ahead' left') on.bytes b.prefix on.consumed b.consumed) over;
  lie = lies_by follows on.bytes b.prefix on.ms Closed on.requests b.fact;
  over = inr (at_end left' ahead' over);
  wrote = subst (λ (x : Option (List ℕ)). Appends w x on.out) (sym same) on.wrote;
  replies = on.replies;
}

-- ---- a request that can't be read

refuses : Follows → (s : Service) (began now : Known Entry) (ahead more : List ℕ) (l left left' left'' w wr wr' : Option (List ℕ)) (index taken : ℕ) (reason : Unserved) (error : WireError) (ending : Ending) (e : ConnEnd)
    → ((x : List ℕ) → Stops x ending → IsUnread x reason) → (IsStopped s began now l left'' w wr' ending reason → Connected s began now l left'' w wr' (end.Wire error))
    → (prefix : List ℕ) → Consumes (remaining ahead left) (remaining more left') prefix → Stops (prefix ++ more) ending → left'' ≡ left' → Refusing reason error wr wr' e
    → OnWay s began now l (remaining ahead left) w wr index taken → Connected s began now l left'' w wr' e
refuses follows s began now ahead more l left left' left'' w wr wr' index taken reason error ending e unread stopped prefix took stops same refusing on = by_end e refusing
  where
    consumed : Consumes l left'' (on.bytes ++ (prefix ++ more))
    consumed = subst (λ (x : Option (List ℕ)). Consumes l x (on.bytes ++ (prefix ++ more))) (sym same) (reads l left left' on.bytes prefix ahead more on.consumed took)

    before : HasServed s began now l left'' on.ms (prefix ++ more) on.out
    before = served s began now ahead l left left'' w wr index taken on (prefix ++ more) consumed

    cut : (r : Reply) → answer_of r ≡ refused reason → AppendsPrefix wr wr' (reply_bytes r) → IsCut s began now l left'' w wr'
    cut r is (n, wrote) = record {
      ms = on.ms;
      rest = prefix ++ more;
      out = on.out;
      mid = now;
      served = before;
      next = r;
      next_is = inr (record { reason = reason; unread = unread (prefix ++ more) stops; answer_is = is; same = refl });
      written = n;
      wrote = appends_join w wr wr' on.out (take n (reply_bytes r)) on.wrote wrote;
    }

    by_end : (e : ConnEnd) → Refusing reason error wr wr' e → Connected s began now l left'' w wr' e
    by_end end.Closed refusing = absurd refusing
    by_end (end.Wire x) (r, is, inl (wrote, e_is)) = subst (λ (y : WireError). Connected s began now l left'' w wr' (end.Wire y)) (sym e_is) (stopped (record {
      ms = on.ms;
      bytes = on.bytes ++ (prefix ++ more);
      out = on.out;
      refusal = r;
      consumed = consumed;
      lie = lies_by follows on.bytes (prefix ++ more) on.ms ending on.requests stops;
      refusal_is = is;
      wrote = appends_join w wr wr' on.out (reply_bytes r) on.wrote wrote;
      replies = on.replies;
    }))
    by_end (end.Wire x) (r, is, inr (wrote, e_is)) = subst (λ (y : WireError). Connected s began now l left'' w wr' (end.Wire y)) (sym e_is) (cut r is wrote)
    by_end (end.Full n) refusing = absurd refusing
    by_end end.Memory (inl (r, is, wrote)) = inr (cut r is wrote)
    by_end end.Memory (inr kept) = inl (record {
      ms = on.ms;
      rest = prefix ++ more;
      out = on.out;
      mid = now;
      served = before;
      unserved = inl refl;
      wrote = subst (λ (x : Option (List ℕ)). Appends w x on.out) (sym kept) on.wrote;
    })

-- the connection ends after an error of the reader
pub stops : Follows → (s : Service) (began now : Known Entry) (ahead ahead' : List ℕ) (l left left' left'' w wr wr' : Option (List ℕ)) (index taken : ℕ) (P : List ℕ → Message → Type 0) (error : WireError) (e : ConnEnd)
    → Answers P ahead ahead' left left' (Err error) → left'' ≡ left' → Stopping error wr wr' e → OnWay s began now l (remaining ahead left) w wr index taken → Connected s began now l left'' w wr' e
stops follows s began now ahead ahead' l left left' left'' w wr wr' index taken P wire.BadHead e (more, b) same stopping on =
    refuses follows s began now ahead more l left left' left'' w wr wr' index taken unserved.BadRequest wire.BadHead BadHead e (λ x i. i) (λ i. i) b.prefix b.consumed (b.prefix, more, refl, b.fact) same stopping on
stops follows s began now ahead ahead' l left left' left'' w wr wr' index taken P wire.NoLength e (more, b) same stopping on =
    refuses follows s began now ahead more l left left' left'' w wr wr' index taken unserved.LengthRequired wire.NoLength NoLength e (λ x i. i) (λ i. i) b.prefix b.consumed (b.prefix, more, refl, b.fact) same stopping on
stops follows s began now ahead ahead' l left left' left'' w wr wr' index taken P wire.TooLong e (more, b) same stopping on =
    refuses follows s began now ahead more l left left' left'' w wr wr' index taken unserved.RequestEntityTooLarge wire.TooLong TooLong e (λ x i. i) (λ i. i) b.prefix b.consumed (b.prefix, more, refl, b.fact) same stopping on
stops follows s began now ahead ahead' l left left' left'' w wr wr' index taken P wire.EndedEarly e (b, over) same (kept, is) on =
    subst (λ (x : ConnEnd). Connected s began now l left'' w wr' x) (sym is) (record {
      ms = on.ms;
      bytes = on.bytes ++ b.prefix;
      out = on.out;
      consumed = subst (λ (x : Option (List ℕ)). Consumes l x (on.bytes ++ b.prefix)) (sym same) (consumes_join l (remaining ahead left) left' on.bytes b.prefix on.consumed b.consumed);
      lie = lies_by follows on.bytes b.prefix on.ms EndedEarly on.requests b.fact;
      over = inr (subst IsAtEnd (sym same) over);
      wrote = subst (λ (x : Option (List ℕ)). Appends w x on.out) (sym kept) on.wrote;
      replies = on.replies;
    })
stops follows s began now ahead ahead' l left left' left'' w wr wr' index taken P wire.ReadFault e b same (kept, is) on =
    subst (λ (x : ConnEnd). Connected s began now l left'' w wr' x) (sym is) (record {
      ms = on.ms;
      rest = b.prefix;
      out = on.out;
      served = served s began now ahead l left left'' w wr index taken on b.prefix (subst (λ (x : Option (List ℕ)). Consumes l x (on.bytes ++ b.prefix)) (sym same) (consumes_join l (remaining ahead left) left' on.bytes b.prefix on.consumed b.consumed));
      undone = b.fact;
      wrote = subst (λ (x : Option (List ℕ)). Appends w x on.out) (sym kept) on.wrote;
    })
stops follows s began now ahead ahead' l left left' left'' w wr wr' index taken P wire.WriteFault e none same stopping on = absurd none
stops follows s began now ahead ahead' l left left' left'' w wr wr' index taken P wire.Memory e (taken_more, took) same (kept, is) on =
    subst (λ (x : ConnEnd). Connected s began now l left'' w wr' x) (sym is) (inl (record {
      ms = on.ms;
      rest = taken_more;
      out = on.out;
      mid = now;
      served = served s began now ahead l left left'' w wr index taken on taken_more (subst (λ (x : Option (List ℕ)). Consumes l x (on.bytes ++ taken_more)) (sym same) (consumes_join l (remaining ahead left) left' on.bytes taken_more on.consumed took));
      unserved = inl refl;
      wrote = subst (λ (x : Option (List ℕ)). Appends w x on.out) (sym kept) on.wrote;
    }))

-- ---- one step, whatever it returns

pub on_served : More → (s : Service) (old new : Known Entry) (ahead ahead' : List ℕ) (left left' left'' wr kept wr' : Option (List ℕ)) (index taken taken' : ℕ) (m : Message) (o : Option ConnEnd) → kept ≡ wr
    → Begins ahead left (remaining ahead' left') (λ (p : List ℕ). IsRequest taken p m) → left'' ≡ left' → index ≤ 65535 → taken' ≡ next_count taken → Serving s index m old new kept wr' o
    → IfNone o ((began : Known Entry) (l w : Option (List ℕ)) → OnWay s began old l (remaining ahead left) w wr index taken → OnWay s began new l (remaining ahead' left'') w wr' (index + 1) taken')
on_served more s old new ahead ahead' left left' left'' wr kept wr' index taken taken' m None keeps b same few counts serving =
    λ began l w on. goes_on more s began old new ahead ahead' l left left' left'' w wr wr' index taken taken' m b same few counts (subst (λ (x : Option (List ℕ)). Serving s index m old new x wr' None) keeps serving) on
on_served more s old new ahead ahead' left left' left'' wr kept wr' index taken taken' m (Some e) keeps b same few counts serving = tt

pub over_served : Follows → (s : Service) (old new : Known Entry) (ahead ahead' : List ℕ) (left left' left'' wr kept wr' : Option (List ℕ)) (index taken : ℕ) (m : Message) (o : Option ConnEnd) → kept ≡ wr
    → Begins ahead left (remaining ahead' left') (λ (p : List ℕ). IsRequest taken p m) → left'' ≡ left' → Serving s index m old new kept wr' o
    → IfSome o (λ (e : ConnEnd). (began : Known Entry) (l w : Option (List ℕ)) → OnWay s began old l (remaining ahead left) w wr index taken → Connected s began new l left'' w wr' e)
over_served follows s old new ahead ahead' left left' left'' wr kept wr' index taken m None keeps b same serving = tt
over_served follows s old new ahead ahead' left left' left'' wr kept wr' index taken m (Some e) keeps b same serving =
    λ began l w on. ends_served follows s began old new ahead ahead' l left left' left'' w wr wr' index taken m e b same (subst (λ (x : Option (List ℕ)). Serving s index m old new x wr' (Some e)) keeps serving) on

pub over_stopped : Follows → (s : Service) (now : Known Entry) (ahead ahead' : List ℕ) (left left' left'' wr kept wr' : Option (List ℕ)) (index taken : ℕ) (P : List ℕ → Message → Type 0) (error : WireError) (e : ConnEnd) → kept ≡ wr
    → Answers P ahead ahead' left left' (Err error) → left'' ≡ left' → Stopping error kept wr' e
    → (began : Known Entry) (l w : Option (List ℕ)) → OnWay s began now l (remaining ahead left) w wr index taken → Connected s began now l left'' w wr' e
over_stopped follows s now ahead ahead' left left' left'' wr kept wr' index taken P error e keeps answers same stopping =
    λ began l w on. stops follows s began now ahead ahead' l left left' left'' w wr wr' index taken P error e answers same (subst (λ (x : Option (List ℕ)). Stopping error x wr' e) keeps stopping) on

-- ---- the most requests

not_goes : (m : Message) (before : ℕ) (text : List ℕ) → 65535 ≤ before + 1 → IsRequest before text m → m.last ≡ false → ⊥
not_goes m before text le is goes =
    let all : nat_le 65535 (before + 1) ≡ true = grind (arith, nat_tests) in
    let last : m.last ≡ is.said.last || nat_le 65535 (before + 1) = ap (λ (x : Message). x.last) is.message_is in
    let yes : is.said.last || nat_le 65535 (before + 1) ≡ true = ap (λ (b : Bool). is.said.last || b) all ∙ by_last is.said.last in
    let f : true ≡ false = sym yes ∙ sym last ∙ goes in absurd (cc)
  where
    by_last : (b : Bool) → (b || true) ≡ true
    by_last true = refl
    by_last false = refl

-- fewer requests than the most go on
pub few_go_on : (before : ℕ) (bytes : List ℕ) (ms : List Message) → before ≤ 65534 → AreRequests before bytes ms → before + length ms ≤ 65534
few_go_on before bytes [] le are = omega (arith, le)
few_go_on before bytes (m ∷ ms) le (text, rest, is, request, goes, more) = by_room (nat_le 65535 (before + 1)) refl (λ room. few_go_on (before + 1) rest ms room more)
  where
    by_room : (b : Bool) → nat_le 65535 (before + 1) ≡ b → (before + 1 ≤ 65534 → before + 1 + length ms ≤ 65534) → before + length (m ∷ ms) ≤ 65534
    by_room true full f = let l : 65535 ≤ before + 1 = grind (arith, nat_tests) in absurd (not_goes m before text l request goes)
    by_room false room f = let l : before + 1 ≤ 65534 = grind (arith, nat_tests) in let k = f l in omega (arith, k)

-- so a connection does not get past the most
pub none_past : (s : Service) (began now : Known Entry) (l l' w w' : Option (List ℕ)) (index taken : ℕ) → 65536 ≤ index → OnWay s began now l l' w w' index taken → ⊥
none_past s began now l l' w w' index taken le on = let k = few_go_on 0 on.bytes on.ms (omega arith) on.requests in omega (arith, k, le, on.index_is)

-- nothing was read yet
pub begins_way : (s : Service) (began : Known Entry) (l w : Option (List ℕ)) → OnWay s began began l (remaining [] l) w w 1 0
begins_way s began l w = record { ms = []; bytes = []; out = []; consumed = consumes_none l; requests = refl; wrote = appends_none w; replies = (refl, refl); index_is = omega arith; taken_is = omega arith }
  where
    consumes_none : (a : Option (List ℕ)) → Consumes a (remaining [] a) []
    consumes_none None = tt
    consumes_none (Some xs) = refl

    appends_none : (a : Option (List ℕ)) → Appends a a []
    appends_none None = tt
    appends_none (Some xs) = sym (append-nil xs)
