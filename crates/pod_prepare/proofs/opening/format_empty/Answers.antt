use Rattle.std.proofs.Common.{◌≡◌, rules}
use Rattle.pod_prepare.proofs.Opened.{formatted_is, half_allowed, tells_mapped}
use Rattle.pod_prepare.proofs.opening.format_empty.Goals as goal

pub format-requires : goal.format-requires
format-requires g c = half_allowed

pub returns-in-Ok-format-clause-formatted : goal.returns-in-Ok-format-clause-formatted
returns-in-Ok-format-clause-formatted g c = formatted_is (g.D.Disk.content c.args.disk.now) (g.D.Disk.content c.format.new.disk) (Prim.search rules) (Prim.search rules) (Prim.search rules)
