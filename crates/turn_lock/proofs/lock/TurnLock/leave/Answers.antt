use Rattle.std.proofs.Common.{rules, ap, sym, ◌∙◌, subst}
use Rattle.turn_lock.proofs.Keeps.{in_keeps_at, leave_keeps, turn_over, carried_slot, holding_of, left_is}
use Rattle.turn_lock.proofs.Seen.{own_after}
use Rattle.turn_lock.specs.Places.{Grown}
use Rattle.turn_lock.specs.Known.{left, OwnIsSeen, BeginsLater}
use Rattle.turn_lock.specs.Stages.{carried, known_of, rests}
use Rattle.turn_lock.proofs.lock.TurnLock.leave.Goals as goal

pub load-requires : goal.load-requires
load-requires g c =
    let i = c.pass.invariant in
    let p = c.pass.view_is in
    let x = c.exchange-empty.ensures in
    let q = c.requires.turn in
    let same = c.into_state-state.ensures in
    let held = holding_of _ _ (ap (λ k. k.turn) p ∙ q.1) in (
      x.0 ∙ ap (λ k. k.table) p ∙ c.requires.of.0 ∙ sym (ap (λ l. l.table) c.self.view_is),
      search rules,
      in_keeps_at _ _ _ _ _ _ _ _ _ held.0 q.0 c.into_state-state.result (x.3 ∙ ap (λ z. (c.pass.inside.seat.me.0, z)) (carried_slot _ _ _ _ _ i.3 held.1)) held.1 (search rules)
          (subst (λ y. Grown q.0 (g.T.Recorded.history y)) (sym same) q.2)
          (ap g.T.Recorded.number same ∙ c.requires.number ∙ sym (ap (λ k. k.number) p ∙ c.requires.of.1)),
    )

pub fetch_add-requires : goal.fetch_add-requires
fetch_add-requires g c =
    let i = c.pass.invariant in
    let p = c.pass.view_is in
    let x = c.exchange-empty.ensures in
    let q = c.requires.turn in
    let held = holding_of _ _ (ap (λ k. k.turn) p ∙ q.1) in
    let e = x.3 ∙ ap (λ z. (c.pass.inside.seat.me.0, z)) (carried_slot _ _ _ _ _ i.3 held.1) in
    let o = c.load.ensures in
    let e2 = o.2 held.0 q.0 c.into_state-state.result (ap (λ m. m.0.stage) e ∙ held.1) (ap (λ m. m.1) e) in
    (o.0 ∙ x.0 ∙ ap (λ k. k.table) p ∙ c.requires.of.0 ∙ sym (ap (λ l. l.table) c.self.view_is), search rules, leave_keeps _ _ _ _ _ _ _ _ _ _ _ _ (ap (λ m. m.0.stage) e2))

pub invariant_of-pass : goal.invariant_of-pass
invariant_of-pass g c =
    let i = c.pass.invariant in
    let held = holding_of _ _ (ap (λ k. k.turn) c.pass.view_is ∙ c.requires.turn.1) in
    let e = c.exchange-empty.ensures.3 ∙ ap (λ z. (c.pass.inside.seat.me.0, z)) (carried_slot _ _ _ _ _ i.3 held.1) in
    let z = turn_over _ c.pass.inside.seat.me _ _ _ _ _ c.into_state-state.result held.1 e c.load.ensures.2 c.fetch_add.ensures.2 in
    let grown = subst (λ y. Grown c.requires.turn.0 (g.T.Recorded.history y)) (sym c.into_state-state.ensures) c.requires.turn.2 in
    let seen = subst (λ m. OwnIsSeen (known_of c.fetch_add.new.seat.table_id m.0) × BeginsLater (known_of c.fetch_add.new.seat.table_id m.0)) (sym z)
    (own_after c.pass.inside.seat.me.0 held.0 c.requires.turn.0 (g.T.Recorded.history c.into_state-state.result) held.1 i.4 i.5 grown, tt) in
    (i.0 ∙ sym (ap (λ m. m.0.share) z), i.1, ap (λ m. rests m.0.stage) z, ap (λ m. m.1) z ∙ sym (ap (λ m. carried m.0.stage) z), seen.0, seen.1)

pub returns : goal.returns
returns g c =
    let i = c.pass.invariant in
    let p = c.pass.view_is in
    let held = holding_of _ _ (ap (λ k. k.turn) p ∙ c.requires.turn.1) in
    let e = c.exchange-empty.ensures.3 ∙ ap (λ z. (c.pass.inside.seat.me.0, z)) (carried_slot _ _ _ _ _ i.3 held.1) in
    let z = turn_over _ c.pass.inside.seat.me _ _ _ _ _ c.into_state-state.result held.1 e c.load.ensures.2 c.fetch_add.ensures.2 in
    let table = c.fetch_add.ensures.0 ∙ c.load.ensures.0 ∙ c.exchange-empty.ensures.0 in
    record {
      pass = (λ k. known_of (table k) (z k).0)
          ∙ left_is c.pass.inside.seat.table_id c.pass.inside.seat.me.0 held.0 c.requires.turn.0 _ held.1
          ∙ (λ k. left (p k) (g.T.Recorded.history (c.into_state-state.ensures k)));
      of = (table ∙ ap (λ k. k.table) p ∙ c.requires.of.0, ap (λ m. m.0.number) z ∙ ap (λ k. k.number) p ∙ c.requires.of.1);
    }
