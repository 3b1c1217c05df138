use Rattle.std.proofs.Common.{◌∙◌}
use Rattle.constraints.proofs.Taken.{fits_taken}
use Rattle.constraints.proofs.agreement.Agreement.fits.Goals as goal

pub returns : goal.returns
returns c k taken of = c.admits.ensures ∙ fits_taken k taken c.args.self.now c.args.picked.now of
