-- What was read and written so far, and what comes after it.
use Rattle.std.proofs.Common.{ℕ, ◌≡◌, ◌∙◌, ◌+◌, ◌++◌, List, [], ◌∷◌, Option, None, Some, length, refl, sym, ap, subst, arith, append-nil, append_assoc}
use Rattle.std.specs.Io.KnownBytes.{Appends, Consumes, IsAtEnd, prepend_known}
use Rattle.cluster.specs.declared.entry.Entry.{Entry}
use Rattle.turn_lock.specs.Known.{Known}
use Rattle.http_wire.specs.Replies.{reply_bytes}
use Rattle.http_wire.specs.Requests.{Message}
use Rattle.http_wire.specs.declared.reply.Reply.{Reply}
use Rattle.api_server.specs.Connections.{IsReplied, Replies}
use Rattle.api_server.specs.declared.service.Service.{Service}

pub consumes_join : (a b c : Option (List ℕ)) (x y : List ℕ) → Consumes a b x → Consumes b c y → Consumes a c (x ++ y)
consumes_join None b c x y p q = tt
consumes_join (Some xs) None c x y p q = absurd p
consumes_join (Some xs) (Some ys) None x y p q = absurd q
consumes_join (Some xs) (Some ys) (Some zs) x y p q = p ∙ ap (λ (l : List ℕ). x ++ l) q ∙ sym (append_assoc x y zs)

pub appends_join : (a b c : Option (List ℕ)) (x y : List ℕ) → Appends a b x → Appends b c y → Appends a c (x ++ y)
appends_join None b c x y p q = tt
appends_join (Some xs) None c x y p q = absurd p
appends_join (Some xs) (Some ys) None x y p q = absurd q
appends_join (Some xs) (Some ys) (Some zs) x y p q = q ∙ ap (λ (l : List ℕ). l ++ y) p ∙ append_assoc xs x y

-- bytes that were taken and belong to no request were read too
pub consumes_ahead : (a b : Option (List ℕ)) (ahead x : List ℕ) → Consumes a (prepend_known ahead b) x → Consumes a b (x ++ ahead)
consumes_ahead None b ahead x p = tt
consumes_ahead (Some xs) None ahead x p = absurd p
consumes_ahead (Some xs) (Some ys) ahead x p = p ∙ sym (append_assoc x ahead ys)

no_more : (ahead ys : List ℕ) → ahead ++ ys ≡ [] → ys ≡ []
no_more [] ys e = e
no_more (y ∷ ahead) ys e = absurd (cc)

-- at the end nothing was taken that belongs to no request
pub consumes_end : (a b : Option (List ℕ)) (ahead x : List ℕ) → Consumes a (prepend_known ahead b) x → IsAtEnd (prepend_known ahead b) → Consumes a b x
consumes_end None b ahead x p end = tt
consumes_end (Some xs) None ahead x p end = absurd p
consumes_end (Some xs) (Some ys) ahead x p end = p ∙ ap (λ (l : List ℕ). x ++ l) (end ∙ sym (no_more ahead ys end))

pub at_end : (b : Option (List ℕ)) (ahead : List ℕ) → IsAtEnd (prepend_known ahead b) → IsAtEnd b
at_end None ahead end = tt
at_end (Some ys) ahead end = no_more ahead ys end

-- one more reply
pub replies_push : (s : Service) (index at : ℕ) (old mid new : Known Entry) (ms : List Message) (m : Message) (r : Reply) (out : List ℕ) → Replies s index old ms mid out → at ≡ index + length ms → IsReplied s at m mid new r
    → Replies s index old (ms ++ m ∷ []) new (out ++ reply_bytes r)
replies_push s index at old mid new [] m r out many is one =
    let here : at ≡ index = omega (arith, is) in (
      new,
      r,
      [],
      ap (λ (l : List ℕ). l ++ reply_bytes r) many.1 ∙ sym (append-nil (reply_bytes r)),
      subst (λ (n : ℕ). IsReplied s n m old new r) here (subst (λ (k : Known Entry). IsReplied s at m k new r) many.0 one),
      (refl, refl),
    )
replies_push s index at old mid new (n ∷ ms) m r out (next, q, rest, is, first, more) count one =
    let later : at ≡ index + 1 + length ms = omega (arith, count) in (
      next,
      q,
      rest ++ reply_bytes r,
      ap (λ (l : List ℕ). l ++ reply_bytes r) is ∙ append_assoc (reply_bytes q) rest (reply_bytes r),
      first,
      replies_push s (index + 1) at next mid new ms m r rest more later one,
    )
