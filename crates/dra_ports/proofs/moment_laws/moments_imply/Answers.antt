use Rattle.dra_ports.proofs.Moments.{under}
use Rattle.dra_ports.proofs.moment_laws.moments_imply.Goals as goal

pub returns : goal.returns
returns g c = λ p q x y implied all. under (g.P.ImageProperty.holds p) (g.Q.ImageProperty.holds q) x y implied all
