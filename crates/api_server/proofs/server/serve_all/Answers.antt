use Rattle.std.proofs.Common.{◌≡◌, ◌≤◌, refl, arith}
use Rattle.api_server.specs.Talks.{seen}
use Rattle.api_server.specs.Serving.{terms_of}
use Rattle.api_server.proofs.Closing.{back_long, closes, no_doors, not_served, opened_all, serves_none}
use Rattle.api_server.proofs.server.serve_all.Goals as goal

pub serve_doors-ledger-requires-clause-new : goal.serve_doors-ledger-requires-clause-new
serve_doors-ledger-requires-clause-new g c κs within = opened_all (seen g.O.Door.Door.share g.O.Door.Door.in_service g.O.Door.Door.served g.O.Door.Door.ended g.O.Door.Door.faults) c.args.options.workers c.args.options.connections _ c.in-Ok.ensures.count c.in-Ok.ensures.new

pub close-requires : goal.close-requires
close-requires g c =
    let long = back_long (seen g.O.Door.Door.share g.O.Door.Door.in_service g.O.Door.Door.served g.O.Door.Door.ended g.O.Door.Door.faults) _ _ _ _ c.serve_doors-ledger.ensures.worked in
    let many = c.in-Ok.ensures.count in
    let given = c.in-Ok.ensures.given in
    record { opened = omega (arith, long, many, given) }

pub returns-in-Ok : goal.returns-in-Ok
returns-in-Ok g c =
    let o = c.in-Ok.ensures in
    let z = c.close.ensures in
    closes (seen g.O.Door.Door.share g.O.Door.Door.in_service g.O.Door.Door.served g.O.Door.Door.ended g.O.Door.Door.faults) (terms_of c.args.options) c.args.options.workers c.args.options.connections c.args.ledger.limit _ _ _ _ _ _ _ _ _ _ _ _ _ c.serve_doors-ledger.ensures (opened_all (seen g.O.Door.Door.share g.O.Door.Door.in_service g.O.Door.Door.served g.O.Door.Door.ended g.O.Door.Door.faults) c.args.options.workers c.args.options.connections _ o.count o.new) o.count c.requires.workers.0
    o.cause.ok z.later z.rose z.faultless o.same_served z.served o.same_ended z.ended

pub returns-in-Err : goal.returns-in-Err
returns-in-Err g c =
    let l = c.len-len.ensures in
    serves_none (terms_of c.args.options) c.args.options.connections c.args.ledger.limit _ _ _ _ _ _ _ _ c.requires.new refl l.legal (let a = l.length in let b = l.within in omega (arith, a, b)) (not_served c.in-Err.error _ c.unopened.ensures) c.open.ensures.same_ended
    (no_doors c.args.options.connections _ _ _ c.in-Err.error _ c.open.ensures.cause c.in-Err.is c.unopened.ensures)
