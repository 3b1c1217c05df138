use Rattle.std.proofs.Common.{rules, ap, sym, ◌∙◌, arith}
use Rattle.std.specs.Prelude.{Some}
use Rattle.turn_lock.proofs.Keeps.{take_keeps, out_keeps, idle_of}
use Rattle.turn_lock.proofs.Views.{has_slot}
use Rattle.turn_lock.proofs.lock.TurnLock.enter.Goals as goal

pub fetch_add-ticket-requires : goal.fetch_add-ticket-requires
fetch_add-ticket-requires g c =
    let i = c.pass.invariant in
    let is = c.pass.view_is in
    (ap (λ k. k.table) is ∙ c.requires.of.0 ∙ sym (ap (λ l. l.table) c.self.view_is), search rules, take_keeps _ _ _ _ _ _ _ _ _ (idle_of _ i.2 (ap (λ k. k.turn) is ∙ c.requires.free)) (omega (arith, i.0, i.1)))

pub load-requires : goal.load-requires
load-requires g c =
    let a = c.fetch_add-ticket.ensures in
    let b = c.wait_turn.ensures in
    let q = b.2 in
    let is = c.pass.view_is in
    (b.0 ∙ a.0 ∙ ap (λ k. k.table) is ∙ c.requires.of.0 ∙ sym (ap (λ l. l.table) c.self.view_is), search rules, out_keeps _ _ _ _ _ _ _ _ _ q.0 (ap (λ m. m.0.stage) q.1) (search rules))

pub exchange-requires : goal.exchange-requires
exchange-requires g c =
    let a = c.fetch_add-ticket.ensures in
    let b = c.wait_turn.ensures in
    let q = b.2 in
    let o = c.load.ensures in
    let p = o.2 q.0 (ap (λ m. m.0.stage) q.1) in
    (o.0 ∙ b.0 ∙ a.0 ∙ ap (λ k. k.table) c.pass.view_is ∙ c.requires.of.0 ∙ sym (ap (λ l. l.table) c.self.view_is), (Some p.0, has_slot _ _ _ _ (ap (λ m. m.1) p.1)))
