-- What a connection makes of a pass, by how it ended.
use Rattle.std.proofs.Common.{ℕ, ◌≡◌, ◌∙◌, ◌⊎◌, ◌+◌, ◌++◌, inl, inr, Bool, true, false, List, [], ◌∷◌, Option, Ok, Err, length, sym, ap, subst, append-nil, append_assoc, length-append, ◌≤◌, arith}
use Rattle.std.specs.Prelude.{MatchBool}
use Rattle.cluster.specs.declared.entry.Entry.{Entry}
use Rattle.turn_lock.specs.Known.{IsFree, Known}
use Rattle.http_wire.specs.Requests.{AreRequests, Ending, Lie, LieAfter, Message}
use Rattle.http_wire.specs.Requests.Ending.{Closed, BadHead, NoLength, TooLong, EndedEarly}
use Rattle.http_wire.specs.declared.error.WireError.TheVariants as wire
use Rattle.api_routes.specs.declared.unserved.Unserved.{Unserved}
use Rattle.api_server.specs.declared.task.Unreplied.{Unreplied}
use Rattle.api_server.specs.declared.task.Unreplied.TheVariants as why
use Rattle.api_server.specs.Connections.{BeginsWith, Connected, HasServed, IsCut, IsDone, IsLate, IsStopped, NextUnreplied}
use Rattle.api_server.specs.Entries.{Begin, Grew, HasMade}
use Rattle.api_server.specs.declared.end.ConnEnd.{ConnEnd}
use Rattle.api_server.specs.declared.end.ConnEnd.TheVariants as end
use Rattle.api_server.specs.declared.service.Service.{Service}
use Rattle.api_server.proofs.Growing.{free_then, grew_all, grew_join, grew_one}
use Rattle.api_server.proofs.Talk.{few_go_on}

after_last : (A : Type 0) (n : ℕ) (rest : List ℕ) (ms : List Message) (e : Ending) (b : Bool) → MatchBool b ((ms ≡ []) × (e ≡ Closed)) A → (A → Begin n rest ms) → Begin n rest ms
after_last A n rest ms e true is f = subst (λ (xs : List Message). Begin n rest xs) (sym is.0) tt
after_last A n rest ms e false is f = f is

begin_lie : (before : ℕ) (bytes : List ℕ) (ms : List Message) (e : Ending) → LieAfter before bytes ms e → Begin before bytes ms
begin_lie before bytes [] e lie = tt
begin_lie before bytes (m ∷ ms) e (text, rest, is, request, follow) =
    (text, rest, is, request, after_last (LieAfter (before + 1) rest ms e) (before + 1) rest ms e m.last follow (λ more. begin_lie (before + 1) rest ms e more))

begin_requests : (before at : ℕ) (bytes rest : List ℕ) (ms ns : List Message) → at ≡ before + length ms → AreRequests before bytes ms → Begin at rest ns → Begin before (bytes ++ rest) (ms ++ ns)
begin_requests before at bytes rest [] ns count are more =
    subst (λ (xs : List ℕ). Begin before xs ns) (ap (λ (xs : List ℕ). xs ++ rest) (sym are)) (subst (λ (n : ℕ). Begin n rest ns) (omega (arith, count)) more)
begin_requests before at bytes rest (m ∷ ms) ns count (text, others, is, request, goes, are) more =
    (text, others ++ rest, ap (λ (xs : List ℕ). xs ++ rest) is ∙ append_assoc text others rest, request, begin_requests (before + 1) at others rest ms ns (omega (arith, count)) are more)

begin_next : (before : ℕ) (rest : List ℕ) (m : Message) → BeginsWith before rest m → Begin before rest (m ∷ [])
begin_next before rest m (text, more, is, request) = (text, more, is, request, tt)

-- the requests that were served, and no other
made_served : (s : Service) (began now : Known Entry) (l l' : Option (List ℕ)) (ms : List Message) (rest out : List ℕ) → IsFree began → HasServed s began now l l' ms rest out → HasMade s began now l l'
made_served s began now l l' ms rest out free h = record {
  ms = ms;
  bytes = h.bytes ++ rest;
  consumed = h.consumed;
  begin = subst (λ (xs : List Message). Begin 0 (h.bytes ++ rest) xs) (append-nil ms) (begin_requests 0 (length ms) h.bytes rest ms [] (omega arith) h.requests tt);
  few = (let k = few_go_on 0 h.bytes ms (omega arith) h.requests in omega (arith, k));
  grew = grew_all s 1 began now ms out free h.replies;
}

-- the requests that were served, and the next one
made_next : (s : Service) (began mid now : Known Entry) (l l' : Option (List ℕ)) (ms : List Message) (rest out : List ℕ) (m : Message) → IsFree began → HasServed s began mid l l' ms rest out → BeginsWith (length ms) rest m → (IsFree mid → Grew s (length ms + 1) (m ∷ []) mid now) → HasMade s began now l l'
made_next s began mid now l l' ms rest out m free h begins grew =
    let all : Grew s 1 ms began mid = grew_all s 1 began mid ms out free h.replies in record {
      ms = ms ++ m ∷ [];
      bytes = h.bytes ++ rest;
      consumed = h.consumed;
      begin = begin_requests 0 (length ms) h.bytes rest ms (m ∷ []) (omega arith) h.requests (begin_next (length ms) rest m begins);
      few = (let k = few_go_on 0 h.bytes ms (omega arith) h.requests in let n = length-append ms (m ∷ []) in omega (arith, k, n));
      grew = grew_join s 1 (length ms + 1) ms (m ∷ []) began mid now (omega arith) all (grew (free_then began mid all.added all.is));
    }

made_unreplied : (s : Service) (began mid now : Known Entry) (l l' : Option (List ℕ)) (ms : List Message) (rest out : List ℕ) (reason : Unreplied) → IsFree began → HasServed s began mid l l' ms rest out → NextUnreplied s (length ms) mid now rest reason → HasMade s began now l l'
made_unreplied s began mid now l l' ms rest out reason free h next =
    made_next s began mid now l l' ms rest out next.request free h next.begins (λ f. grew_one s (length ms + 1) next.request mid now (Err reason) f next.unreplied)

abbrev pub Few : Type 0
Few = (bytes : List ℕ) (ms : List Message) (e : Ending) → Lie bytes ms e → length ms ≤ 65535

made_done : Few → (s : Service) (began now : Known Entry) (l l' w w' : Option (List ℕ)) (e : Ending) → IsFree began → IsDone s began now l l' w w' e → HasMade s began now l l'
made_done law s began now l l' w w' e free d = record { ms = d.ms; bytes = d.bytes; consumed = d.consumed; begin = begin_lie 0 d.bytes d.ms e d.lie; few = law d.bytes d.ms e d.lie; grew = grew_all s 1 began now d.ms d.out free d.replies }

made_stopped : Few → (s : Service) (began now : Known Entry) (l l' w w' : Option (List ℕ)) (e : Ending) (reason : Unserved) → IsFree began → IsStopped s began now l l' w w' e reason → HasMade s began now l l'
made_stopped law s began now l l' w w' e reason free d = record { ms = d.ms; bytes = d.bytes; consumed = d.consumed; begin = begin_lie 0 d.bytes d.ms e d.lie; few = law d.bytes d.ms e d.lie; grew = grew_all s 1 began now d.ms d.out free d.replies }

made_cut : (s : Service) (began now : Known Entry) (l l' w w' : Option (List ℕ)) → IsFree began → IsCut s began now l l' w w' → HasMade s began now l l'
made_cut s began now l l' w w' free d = by_next d.next_is
  where
    by_next : Rattle.api_server.specs.Connections.IsNext s (length d.ms) d.mid now d.rest d.next → HasMade s began now l l'
    by_next (inl n) = made_next s began d.mid now l l' d.ms d.rest d.out n.request free d.served n.begins (λ f. grew_one s (length d.ms + 1) n.request d.mid now (Ok d.next) f n.replied)
    by_next (inr n) = subst (λ (k : Known Entry). HasMade s began k l l') (sym n.same) (made_served s began d.mid l l' d.ms d.rest d.out free d.served)

made_late : (s : Service) (began now : Known Entry) (l l' w w' : Option (List ℕ)) → IsFree began → IsLate s began now l l' w w' → HasMade s began now l l'
made_late s began now l l' w w' free d = by_next d.unserved
  where
    by_next : (now ≡ d.mid) ⊎ NextUnreplied s (length d.ms) d.mid now d.rest why.Memory → HasMade s began now l l'
    by_next (inl same) = subst (λ (k : Known Entry). HasMade s began k l l') (sym same) (made_served s began d.mid l l' d.ms d.rest d.out free d.served)
    by_next (inr n) = made_unreplied s began d.mid now l l' d.ms d.rest d.out why.Memory free d.served n

pub made_by : Few → (s : Service) (began now : Known Entry) (l l' w w' : Option (List ℕ)) (e : ConnEnd) → IsFree began → Connected s began now l l' w w' e → HasMade s began now l l'
made_by law s began now l l' w w' end.Closed free c = made_done law s began now l l' w w' Closed free c
made_by law s began now l l' w w' (end.Wire wire.BadHead) free c = made_stopped law s began now l l' w w' BadHead _ free c
made_by law s began now l l' w w' (end.Wire wire.NoLength) free c = made_stopped law s began now l l' w w' NoLength _ free c
made_by law s began now l l' w w' (end.Wire wire.TooLong) free c = made_stopped law s began now l l' w w' TooLong _ free c
made_by law s began now l l' w w' (end.Wire wire.EndedEarly) free c = made_done law s began now l l' w w' EndedEarly free c
made_by law s began now l l' w w' (end.Wire wire.ReadFault) free c = made_served s began now l l' c.ms c.rest c.out free c.served
made_by law s began now l l' w w' (end.Wire wire.WriteFault) free c = made_cut s began now l l' w w' free c
made_by law s began now l l' w w' (end.Wire wire.Memory) free c = absurd c
made_by law s began now l l' w w' (end.Full n) free c = made_unreplied s began c.mid now l l' c.ms c.rest c.out (why.Full n) free c.served c.full
made_by law s began now l l' w w' end.Memory free (inl c) = made_late s began now l l' w w' free c
made_by law s began now l l' w w' end.Memory free (inr c) = made_cut s began now l l' w w' free c
