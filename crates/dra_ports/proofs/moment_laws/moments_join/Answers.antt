use Rattle.dra_ports.proofs.Moments.{no_call, moves, may_move, then}
use Rattle.dra_ports.proofs.moment_laws.moments_join.Goals as goal

pub returns-clause-rest : goal.returns-clause-rest
returns-clause-rest g c = λ p x holds. no_call (g.P.ImageProperty.holds p) x holds

pub returns-clause-call : goal.returns-clause-call
returns-clause-call g c = λ p bytes sure x y z so_far is leaves. moves (g.P.ImageProperty.holds p) bytes sure x y z so_far is leaves

pub returns-clause-failed : goal.returns-clause-failed
returns-clause-failed g c = λ p change x y z so_far part leaves. may_move (g.P.ImageProperty.holds p) change x y z so_far part leaves

pub returns-clause-joined : goal.returns-clause-joined
returns-clause-joined g c = λ p x y z first second. then (g.P.ImageProperty.holds p) x y z first second
