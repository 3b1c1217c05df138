use Rattle.std.proofs.Common.{◌≡◌, ◌∙◌, ◌≤◌, subst, sym, ap, arith}
use Rattle.api_server.specs.Ledgers.{History}
use Rattle.api_server.specs.Talks.{seen}
use Rattle.api_server.specs.Serving.{terms_of}
use Rattle.api_server.proofs.Closing.{ran_all, ran_none}
use Rattle.api_server.proofs.Under.{seen_long}
use Rattle.api_server.proofs.server.serve_doors.Goals as goal

pub returns-in-Err : goal.returns-in-Err
returns-in-Err g c =
    let same = c.in-Err.ensures.err in
    let n = (seen_long (seen g.D.Door.share g.D.Door.in_service g.D.Door.served g.D.Door.ended g.D.Door.faults) c.args.doors.items c.args.options.workers c.requires.count) in
    let w = c.requires.workers.0 in
    let l = c.len-len.ensures in
    let limit = ap (λ (h : History). h.limit) same in
    ran_none (terms_of c.args.options) c.args.ledger.limit _ _ (ap (λ (h : History). h.entries) same ∙ c.requires.empty) limit l.legal (let a = l.length in let b = l.within in omega (arith, a, b, limit)) (omega (arith, n, w))

pub returns : goal.returns
returns g c =
    let b = c.in-Ok.ensures.lock in
    let u = c.serve_under-whole.ensures in
    let e = c.close-ledger.ensures in
    let l = c.len-len-2.ensures in
    let number = e.number in
    let limit = b.2 in
    ran_all (terms_of c.args.options) _ _ _ _ _ _ c.args.options.workers c.args.options.connections c.args.ledger.limit u.did (b.1 ∙ c.requires.empty) e.begins e.own l.legal (number ∙ limit) limit (let x = l.length in let y = l.within in omega (arith, x, y, number, limit)) c.requires.new (seen_long (seen g.D.Door.share g.D.Door.in_service g.D.Door.served g.D.Door.ended g.D.Door.faults) c.args.doors.items c.args.options.workers c.requires.count)
