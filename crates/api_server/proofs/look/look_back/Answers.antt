use Rattle.std.proofs.Common.{ap, inl}
use Rattle.api_server.proofs.look.look_back.Goals as goal

pub leave-requires-clause-turn : goal.leave-requires-clause-turn
leave-requires-clause-turn g c = (_, ap (λ p. p.turn) c.enter-turn.ensures.pass, inl (ap (λ h. h.entries) c.state.ensures.value))
