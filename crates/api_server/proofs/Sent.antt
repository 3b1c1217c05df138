-- How writing a reply goes on.
use Rattle.std.proofs.Common.{ℕ, ◌≡◌, ◌∙◌, ◌⊎◌, inl, inr, List, Bool, true, false, Option, None, Some, refl, sym, subst}
use Rattle.std.specs.Io.KnownBytes.{Appends}
use Rattle.dra_ports.specs.Prefixes.{AppendsPrefix}
use Rattle.cluster.specs.declared.entry.Entry.{Entry}
use Rattle.turn_lock.specs.Known.{Known}
use Rattle.http_wire.specs.Replies.{reply_bytes}
use Rattle.http_wire.specs.Requests.{Message}
use Rattle.http_wire.specs.declared.error.WireError.{WireError}
use Rattle.http_wire.specs.declared.error.WireError.TheVariants as wire
use Rattle.http_wire.specs.declared.reply.Reply.{Reply}
use Rattle.api_server.specs.Connections.{IsReplied, Refusing, Sends, Serving, broken, closed_if, refused_end}
use Rattle.api_replies.specs.Answers.{answer_of, refused}
use Rattle.api_routes.specs.declared.unserved.Unserved.{Unserved}
use Rattle.api_server.specs.declared.end.ConnEnd.{ConnEnd}
use Rattle.api_server.specs.declared.end.ConnEnd.TheVariants as end
use Rattle.api_server.specs.declared.service.Service.{Service}

pub sends_all : (w w' : Option (List ℕ)) (bytes : List ℕ) (last : Bool) → Appends w w' bytes → Sends w w' bytes last (closed_if last)
sends_all w w' bytes true wrote = (wrote, refl)
sends_all w w' bytes false wrote = (wrote, refl)

pub sends_part : (w w' : Option (List ℕ)) (bytes : List ℕ) (last : Bool) (e : WireError) → (e ≡ wire.WriteFault) ⊎ (e ≡ wire.Memory) → AppendsPrefix w w' bytes → Sends w w' bytes last (Some (broken e))
sends_part w w' bytes last e (inl is) wrote = subst (λ (x : WireError). Sends w w' bytes last (Some (broken x))) (sym is) (wrote, refl)
sends_part w w' bytes last e (inr is) wrote = subst (λ (x : WireError). Sends w w' bytes last (Some (broken x))) (sym is) wrote

pub serves_sent : (s : Service) (index : ℕ) (m : Message) (old new : Known Entry) (w w' : Option (List ℕ)) (r : Reply) (last : Bool) (e : Option ConnEnd) → IsReplied s index m old new r → last ≡ m.last → Sends w w' (reply_bytes r) last e → Serving s index m old new w w' e
serves_sent s index m old new w w' r last None replied same sent = (r, replied, sent.0, sym same ∙ sent.1)
serves_sent s index m old new w w' r last (Some end.Closed) replied same sent = (r, replied, sent.0, sym same ∙ sent.1)
serves_sent s index m old new w w' r last (Some (end.Wire error)) replied same sent = (r, replied, sent.0, sent.1)
serves_sent s index m old new w w' r last (Some (end.Full n)) replied same sent = absurd sent
serves_sent s index m old new w w' r last (Some end.Memory) replied same sent = inl (r, replied, sent)

pub refuses_sent : (reason : Unserved) (error : WireError) (w w' : Option (List ℕ)) (r : Reply) (e : Option ConnEnd) → answer_of r ≡ refused reason → Sends w w' (reply_bytes r) true e → Refusing reason error w w' (refused_end error e)
refuses_sent reason error w w' r None is sent = let f : true ≡ false = sent.1 in absurd (cc)
refuses_sent reason error w w' r (Some end.Closed) is sent = (r, is, inl (sent.0, refl))
refuses_sent reason error w w' r (Some (end.Wire e)) is sent = (r, is, inr sent)
refuses_sent reason error w w' r (Some (end.Full n)) is sent = absurd sent
refuses_sent reason error w w' r (Some end.Memory) is sent = inl (r, is, sent)
