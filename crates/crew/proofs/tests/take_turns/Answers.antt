use Rattle.std.proofs.Common.{◌+◌, ap, sym, ◌∙◌, ⊎_elim, inl, inr, replicate}
use Rattle.std.proofs.lemmas.List.{replicate-append-replicate}
use Rattle.crew.proofs.tests.take_turns.Goals as goal

pub leave-requires-clause-turn : goal.leave-requires-clause-turn
leave-requires-clause-turn g c = (
  _,
  ap (λ p. p.turn) c.enter-turn.ensures.pass,
  ⊎_elim
      (λ same. inl (ap (λ n. replicate n tt) (same ∙ ap (λ z. z.value) c.state.ensures.value)))
      (λ more. inr (tt, ap (λ n. replicate n tt) (more ∙ ap (λ z. z.value + 1) c.state.ensures.value) ∙ sym (replicate-append-replicate _ 1 tt)))
      c.add.ensures.value,
)
