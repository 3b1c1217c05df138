use Rattle.std.proofs.Common.{ap, ◌∙◌}
use Rattle.api_server.proofs.Turning.{took, turn_grows}
use Rattle.api_server.proofs.once.take_turn.Goals as goal

pub leave-requires-clause-turn : goal.leave-requires-clause-turn
leave-requires-clause-turn g c = (_, ap (λ p. p.turn) c.enter-turn.ensures.pass, turn_grows _ _ _ _ _ c.act-acted.result c.state.ensures.value c.act-acted.ensures)

pub returns-clause-took : goal.returns-clause-took
returns-clause-took g c =
    took _ _ _ _ _ _ _ _ _ c.act-acted.result c.state.ensures.value c.enter-turn.ensures.pass c.enter-turn.ensures.begins c.enter-turn.ensures.number c.leave.ensures.pass c.act-acted.ensures
