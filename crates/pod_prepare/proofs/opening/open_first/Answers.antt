use Rattle.std.proofs.Common.{◌≡◌}
use Rattle.prepare_core.specs.Words.{half_in, rows_in}
use Rattle.pod_prepare.proofs.Opened.{begins_with, half_allowed}
use Rattle.pod_prepare.proofs.Turning.{if_ok_two}
use Rattle.pod_prepare.proofs.opening.open_first.Goals as goal

pub open-requires : goal.open-requires
open-requires g c = half_allowed

pub returns-in-Ok-clause-begins : goal.returns-in-Ok-clause-begins
returns-in-Ok-clause-begins g c = if_ok_two c.open.result _ _ _ (λ k table half. begins_with (g.D.Disk.content c.args.disk) (g.D.Disk.content c.format_empty.new.disk) (rows_in k) (half_in k) c.in-Ok.ensures.formatted c.in-Ok.ensures.tells table half) c.open.ensures.claims c.open.ensures.half
