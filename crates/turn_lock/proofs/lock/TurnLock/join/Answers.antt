use Rattle.std.proofs.Common.{rules, ap, sym, ◌∙◌, arith}
use Rattle.turn_lock.specs.Stages.{carried}
use Rattle.turn_lock.proofs.Keeps.{join_keeps, meet_keeps, idle_of}
use Rattle.turn_lock.proofs.lock.TurnLock.join.Goals as goal

pub join_seat-requires : goal.join_seat-requires
join_seat-requires g c =
    let p = c.pass.view_is in
    let o = c.other.view_is in
    let i = c.pass.invariant in
    let j = c.other.invariant in
    let l = sym (ap (λ l. l.table) c.self.view_is) in
    let free = idle_of _ i.2 (ap (λ k. k.turn) p ∙ c.requires.free.0) in
    let free' = idle_of _ j.2 (ap (λ k. k.turn) o ∙ c.requires.free.1) in (
      ap (λ k. k.table) p ∙ c.requires.of.0.0 ∙ l,
      ap (λ k. k.table) o ∙ c.requires.of.1.0 ∙ l,
      j.3 ∙ ap carried free',
      search rules,
      join_keeps _ _ _ _ _ _ _ _ _ free free' (omega (arith, i.0, i.1)),
    )

pub load-requires : goal.load-requires
load-requires g c =
    let l = sym (ap (λ l. l.table) c.self.view_is) in
    (c.join_seat.ensures.0 ∙ ap (λ k. k.table) c.pass.view_is ∙ c.requires.of.0.0 ∙ l, search rules, meet_keeps _ _ _ _ _ _ _ _ _)
