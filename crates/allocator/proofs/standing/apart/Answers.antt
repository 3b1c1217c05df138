use Rattle.std.proofs.Common.{eqb, refl}
use Rattle.request_rows.specs.Wanted.{input_of}
use Rattle.allocator.specs.Placing.{pick_seen}
use Rattle.allocator.proofs.Tests.{numbers_differ}
use Rattle.allocator.proofs.Placed.{far}
use Rattle.allocator.proofs.standing.apart.Goals as goal

pub returns-then-other-pick : goal.returns-then-other-pick
returns-then-other-pick c =
    far (input_of c.args.rows.now) (pick_seen (input_of c.args.rows.now) c.args.other) (pick_seen (input_of c.args.rows.now) c.args.pick) c.requires.apart c.requires.other.position c.requires.pick.position
    (numbers_differ c.args.other.position c.args.pick.position (eqb c.args.other.position c.args.pick.position) refl c.if-other-pick.true)
