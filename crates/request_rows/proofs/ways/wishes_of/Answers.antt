use Rattle.std.proofs.Common.{arith}
use Rattle.request_rows.proofs.Ends.{claim_step}
use Rattle.request_rows.proofs.ways.wishes_of.Goals as goal

pub loop-place-preserved : goal.loop-place-preserved
loop-place-preserved c =
    claim_step c.loop-place.wishes.items c.add_wishes.new.wishes.items c.args.claims.now c.loop-place.place c.index-claims-place.result _ (omega arith) c.index-claims-place.is c.in_ok-add_wishes.ensures c.loop-place.invariant
