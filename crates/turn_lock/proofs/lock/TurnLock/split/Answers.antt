use Rattle.std.proofs.Common.{rules, ap, sym, ◌∙◌, arith}
use Rattle.turn_lock.proofs.Keeps.{split_keeps, idle_of}
use Rattle.turn_lock.proofs.lock.TurnLock.split.Goals as goal

pub split_seat-seat-requires : goal.split_seat-seat-requires
split_seat-seat-requires g c =
    let p = c.pass.view_is in
    let two = ap (λ k. k.share) p in (
      ap (λ k. k.table) p ∙ c.requires.of.0 ∙ sym (ap (λ l. l.table) c.self.view_is),
      search rules,
      split_keeps _ _ _ _ _ _ _ (idle_of _ c.pass.invariant.2 (ap (λ k. k.turn) p ∙ c.requires.free)) (omega (arith, two, c.requires.room)),
    )
