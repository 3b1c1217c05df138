-- Connections that are served one after another.
use Rattle.std.proofs.Common.{ℕ, ◌≡◌, ◌∙◌, ◌⊎◌, ◌+◌, ◌++◌, inl, inr, Bool, true, false, List, [], ◌∷◌, Option, None, Some, refl, sym, ap, subst}
use Rattle.cluster.specs.declared.entry.Entry.{Entry}
use Rattle.turn_lock.specs.Known.{Known}
use Rattle.dra_ports.specs.Causes.{Rose}
use Rattle.door_ports.specs.Shares.{IsLeft, Share, advanced}
use Rattle.std.specs.Prelude.{IfSome}
use Rattle.door_ports.specs.Visits.{Ended, Visit, ending, with_conn, with_ended}
use Rattle.api_server.specs.Connections.{Connected}
use Rattle.api_server.specs.EndCauses.{HasEndCause}
use Rattle.api_server.specs.declared.end.ConnEnd.{ConnEnd}
use Rattle.api_server.specs.declared.end.ConnEnd.TheVariants as conn_end
use Rattle.api_server.specs.declared.share_end.ShareEnd.{ShareEnd}
use Rattle.api_server.specs.declared.share_end.ShareEnd.TheVariants as share_end
use Rattle.api_server.specs.Talks.{AllGoOn, AreNext, AreTalks, AtDoor, IsTalk, NextDid, Served, ServedOne, ShareDid, Stopped, Talk, Terms, Unaccepted, WentOn, after_talk, after_talks, goes_on, stop_after}

served_one : (t : Terms) (old new : Known Entry) (before now : AtDoor) (k : Talk) (e : ConnEnd) → IsTalk t old new k → IsLeft before.share → k.number ≡ before.share.next → now ≡ after_talk before k → k.end ≡ e → ServedOne t old new before now e
served_one t old new before now k e is left number door end_is = record {
  talk = k;
  served = record { talks = (new, is, refl); next = (left, number, tt); door = door };
  end_is = end_is;
}

-- a connection was served
pub next_did : (t : Terms) (old new : Known Entry) (before now : AtDoor) (k : Talk) (e : ConnEnd) → k.end ≡ e → IsTalk t old new k → IsLeft before.share → k.number ≡ before.share.next → now ≡ after_talk before k → NextDid t old new before now (stop_after e)
next_did t old new before now k conn_end.Closed end_is is left number door = (conn_end.Closed, served_one t old new before now k conn_end.Closed is left number door end_is, refl)
next_did t old new before now k (conn_end.Wire error) end_is is left number door = (conn_end.Wire error, served_one t old new before now k (conn_end.Wire error) is left number door end_is, refl)
next_did t old new before now k (conn_end.Full n) end_is is left number door = served_one t old new before now k (conn_end.Full n) is left number door end_is
next_did t old new before now k conn_end.Memory end_is is left number door = inl (served_one t old new before now k conn_end.Memory is left number door end_is)

-- ---- one connection more

talks_more : (t : Terms) (old mid new : Known Entry) (ks : List Talk) (k : Talk) → AreTalks t old mid ks → IsTalk t mid new k → AreTalks t old new (ks ++ k ∷ [])
talks_more t old mid new [] k are is = (new, subst (λ (p : Known Entry). IsTalk t p new k) are is, refl)
talks_more t old mid new (x ∷ ks) k (p, first, are) is = (p, first, talks_more t p mid new ks k are is)

doors_more : (d : AtDoor) (ks : List Talk) (k : Talk) → after_talks d (ks ++ k ∷ []) ≡ after_talk (after_talks d ks) k
doors_more d [] k = refl
doors_more d (x ∷ ks) k = doors_more (after_talk d x) ks k

next_more : (d : AtDoor) (ks : List Talk) (k : Talk) → AreNext d.share ks → IsLeft (after_talks d ks).share → k.number ≡ (after_talks d ks).share.next → AreNext d.share (ks ++ k ∷ [])
next_more d [] k are left number = (left, number, tt)
next_more d (x ∷ ks) k (l, n, are) left number = (l, n, next_more (after_talk d x) ks k are left number)

on_more : (ks : List Talk) (k : Talk) → AllGoOn ks → goes_on k.end ≡ true → AllGoOn (ks ++ k ∷ [])
on_more [] k all goes = (goes, tt)
on_more (x ∷ ks) k (first, all) goes = (first, on_more ks k all goes)

pub went_none : (t : Terms) (old : Known Entry) (before : AtDoor) → WentOn t old old before before
went_none t old before = record { ks = []; served = record { talks = refl; next = tt; door = refl }; go_on = tt }

pub went_more : (t : Terms) (old mid new : Known Entry) (before at now : AtDoor) → WentOn t old mid before at → NextDid t mid new at now None → WentOn t old new before now
went_more t old mid new before at now went (e, one, goes) =
    let s = went.served in let o = one.served in
    let is : IsTalk t mid new one.talk = subst (λ (p : Known Entry). IsTalk t mid p one.talk) (sym o.talks.2) o.talks.1 in record {
      ks = went.ks ++ one.talk ∷ [];
      served = record {
        talks = talks_more t old mid new went.ks one.talk s.talks is;
        next = next_more before went.ks one.talk s.next (subst (λ (d : AtDoor). IsLeft d.share) s.door o.next.0) (o.next.1 ∙ ap (λ (d : AtDoor). d.share.next) s.door);
        door = o.door ∙ ap (λ (d : AtDoor). after_talk d one.talk) s.door ∙ sym (doors_more before went.ks one.talk);
      };
      go_on = on_more went.ks one.talk went.go_on (ap goes_on one.end_is ∙ goes);
    }

-- the share after a connection
pub next_share : (t : Terms) (old new : Known Entry) (before now : AtDoor) → NextDid t old new before now None → now.share ≡ advanced before.share
next_share t old new before now (e, one, goes) = ap (λ (d : AtDoor). d.share) one.served.door

-- the service ended early
pub stopped : (t : Terms) (old mid new : Known Entry) (before at now : AtDoor) (e : ShareEnd) → WentOn t old mid before at → NextDid t mid new at now (Some e) → ShareDid t old new before now e
stopped t old mid new before at now share_end.Served went did = absurd did
stopped t old mid new before at now share_end.Door went did = record { mid = mid; door = at; went_on = went; last = did }
stopped t old mid new before at now (share_end.Full n) went did = record { mid = mid; door = at; went_on = went; last = did }
stopped t old mid new before at now share_end.Memory went did = record { mid = mid; door = at; went_on = went; last = did }

-- ---- from the calls of the door and of the connection

same_door : (d : AtDoor) (s : Share) (i n : ℕ) (es : Option (List Ended)) (f : ℕ) → d.share ≡ s → d.in_service ≡ i → d.served ≡ n → d.ended ≡ es → d.faults ≡ f → d ≡ record { share = s; in_service = i; served = n; ended = es; faults = f }
same_door d s i n es f a b c e g =
    ap (λ (x : Share). record { share = x; in_service = d.in_service; served = d.served; ended = d.ended; faults = d.faults }) a
    ∙ ap (λ (x : ℕ). record { share = s; in_service = x; served = d.served; ended = d.ended; faults = d.faults }) b
    ∙ ap (λ (x : ℕ). record { share = s; in_service = i; served = x; ended = d.ended; faults = d.faults }) c
    ∙ ap (λ (x : Option (List Ended)). record { share = s; in_service = i; served = n; ended = x; faults = d.faults }) e
    ∙ ap (λ (x : ℕ). record { share = s; in_service = i; served = n; ended = es; faults = x }) g

pub next_by : {C : Type 0} (left written : C → Option (List ℕ)) (faults : C → ℕ) (t : Terms) (old new : Known Entry) (before now : AtDoor) (v : Visit C) (first conn : C) (e : ConnEnd) (number : ℕ) (r : Option ShareEnd) → v.start ≡ v.conn → first ≡ v.conn → IfSome (written v.conn) (λ (bytes : List ℕ). bytes ≡ []) → faults v.conn ≡ 0 → number ≡ v.number
    → Connected (record { number = number; budget = t.budget; attempts = t.attempts }) old new (left first) (left conn) (written first) (written conn) e → HasEndCause (faults first) (faults conn) e → IsLeft before.share → v.number ≡ before.share.next → r ≡ stop_after e
    → now.share ≡ advanced before.share → now.in_service ≡ before.in_service → now.served ≡ before.served + 1 → now.ended ≡ with_ended before.ended (ending left written faults (with_conn v conn)) → now.faults ≡ before.faults → NextDid t old new before now r
next_by left written faults t old new before now v first conn e number r start same unwritten faultless number_is connected cause left_over next stops share in_service served ended count =
    let k : Talk = record { number = v.number; left_before = left v.start; left_after = left conn; written_before = written v.start; written_after = written conn; faults = faults conn; end = e } in
    let here : Connected (record { number = v.number; budget = t.budget; attempts = t.attempts }) old new (left first) (left conn) (written first) (written conn) e =
    subst (λ (n : ℕ). Connected (record { number = n; budget = t.budget; attempts = t.attempts }) old new (left first) (left conn) (written first) (written conn) e) number_is connected in
    let there : Connected (record { number = v.number; budget = t.budget; attempts = t.attempts }) old new (left v.conn) (left conn) (written v.conn) (written conn) e =
    subst (λ c. Connected (record { number = v.number; budget = t.budget; attempts = t.attempts }) old new (left c) (left conn) (written c) (written conn) e) same here in
    let is : IsTalk t old new k = record {
      connected = subst (λ c. Connected (record { number = v.number; budget = t.budget; attempts = t.attempts }) old new (left c) (left conn) (written c) (written conn) e) (sym start) there;
      cause = subst (λ (n : ℕ). HasEndCause n (faults conn) e) (ap faults same ∙ faultless) cause;
      unwritten = subst (λ c. IfSome (written c) (λ (bytes : List ℕ). bytes ≡ [])) (sym start) unwritten;
    } in
    subst (λ (o : Option ShareEnd). NextDid t old new before now o) (sym stops)
    (next_did t old new before now k e refl is left_over next (same_door now (advanced before.share) before.in_service (before.served + 1) (with_ended before.ended (ending left written faults (with_conn v conn))) before.faults share in_service served ended count))
