use Rattle.std.proofs.Common.{◌≡◌, ap}
use Rattle.api_server.specs.Ledgers.{History}
use Rattle.api_server.proofs.Finishing.{finish_at}
use Rattle.api_server.proofs.Visiting.{Laws}
use Rattle.api_server.proofs.serving.serve.Goals as goal

pub returns-clause-prints : goal.returns-clause-prints
returns-clause-prints g c =
    let r = c.replies_stand_in_order.ensures in
    let m = c.connections_make_entries.ensures in
    let l : Laws = record { replies = r.replies; push = r.push; full = r.full; limit = r.limit; replied = m.replied; unreplied = m.unreplied; few = c.requests_lie_in_order.ensures.few } in
    let all = finish_at c.args.options (g.O.Doors.served c.args.doors.now) (g.O.Doors.served c.serve_all-ledger.new.doors) (g.O.Doors.ended c.args.doors.now) (g.O.Doors.ended c.serve_all-ledger.new.doors) (g.K.Sink.written c.args.output.now) (g.K.Sink.written c.print.new.output) (g.K.Sink.faults c.args.output.now) (g.K.Sink.faults c.print.new.output) (g.O.Doors.faults c.args.doors.now) (g.O.Doors.faults c.serve_all-ledger.new.doors)
    l c.in-Ok.ledger.limit (ap (λ (h : History). h.limit) c.in-Ok.ensures) _ _ _ c.serve_all-ledger.ensures c.print.ensures.prints in
    all.0

pub returns-clause-write : goal.returns-clause-write
returns-clause-write g c =
    let r = c.replies_stand_in_order.ensures in
    let m = c.connections_make_entries.ensures in
    let l : Laws = record { replies = r.replies; push = r.push; full = r.full; limit = r.limit; replied = m.replied; unreplied = m.unreplied; few = c.requests_lie_in_order.ensures.few } in
    let all = finish_at c.args.options (g.O.Doors.served c.args.doors.now) (g.O.Doors.served c.serve_all-ledger.new.doors) (g.O.Doors.ended c.args.doors.now) (g.O.Doors.ended c.serve_all-ledger.new.doors) (g.K.Sink.written c.args.output.now) (g.K.Sink.written c.print.new.output) (g.K.Sink.faults c.args.output.now) (g.K.Sink.faults c.print.new.output) (g.O.Doors.faults c.args.doors.now) (g.O.Doors.faults c.serve_all-ledger.new.doors)
    l c.in-Ok.ledger.limit (ap (λ (h : History). h.limit) c.in-Ok.ensures) _ _ _ c.serve_all-ledger.ensures c.print.ensures.prints in
    all.1.write

pub returns-clause-faultless_output : goal.returns-clause-faultless_output
returns-clause-faultless_output g c =
    let r = c.replies_stand_in_order.ensures in
    let m = c.connections_make_entries.ensures in
    let l : Laws = record { replies = r.replies; push = r.push; full = r.full; limit = r.limit; replied = m.replied; unreplied = m.unreplied; few = c.requests_lie_in_order.ensures.few } in
    let all = finish_at c.args.options (g.O.Doors.served c.args.doors.now) (g.O.Doors.served c.serve_all-ledger.new.doors) (g.O.Doors.ended c.args.doors.now) (g.O.Doors.ended c.serve_all-ledger.new.doors) (g.K.Sink.written c.args.output.now) (g.K.Sink.written c.print.new.output) (g.K.Sink.faults c.args.output.now) (g.K.Sink.faults c.print.new.output) (g.O.Doors.faults c.args.doors.now) (g.O.Doors.faults c.serve_all-ledger.new.doors)
    l c.in-Ok.ledger.limit (ap (λ (h : History). h.limit) c.in-Ok.ensures) _ _ _ c.serve_all-ledger.ensures c.print.ensures.prints in
    all.1.faultless_output

pub returns-clause-door : goal.returns-clause-door
returns-clause-door g c =
    let r = c.replies_stand_in_order.ensures in
    let m = c.connections_make_entries.ensures in
    let l : Laws = record { replies = r.replies; push = r.push; full = r.full; limit = r.limit; replied = m.replied; unreplied = m.unreplied; few = c.requests_lie_in_order.ensures.few } in
    let all = finish_at c.args.options (g.O.Doors.served c.args.doors.now) (g.O.Doors.served c.serve_all-ledger.new.doors) (g.O.Doors.ended c.args.doors.now) (g.O.Doors.ended c.serve_all-ledger.new.doors) (g.K.Sink.written c.args.output.now) (g.K.Sink.written c.print.new.output) (g.K.Sink.faults c.args.output.now) (g.K.Sink.faults c.print.new.output) (g.O.Doors.faults c.args.doors.now) (g.O.Doors.faults c.serve_all-ledger.new.doors)
    l c.in-Ok.ledger.limit (ap (λ (h : History). h.limit) c.in-Ok.ensures) _ _ _ c.serve_all-ledger.ensures c.print.ensures.prints in
    all.1.door

pub returns-clause-later_doors : goal.returns-clause-later_doors
returns-clause-later_doors g c =
    let r = c.replies_stand_in_order.ensures in
    let m = c.connections_make_entries.ensures in
    let l : Laws = record { replies = r.replies; push = r.push; full = r.full; limit = r.limit; replied = m.replied; unreplied = m.unreplied; few = c.requests_lie_in_order.ensures.few } in
    let all = finish_at c.args.options (g.O.Doors.served c.args.doors.now) (g.O.Doors.served c.serve_all-ledger.new.doors) (g.O.Doors.ended c.args.doors.now) (g.O.Doors.ended c.serve_all-ledger.new.doors) (g.K.Sink.written c.args.output.now) (g.K.Sink.written c.print.new.output) (g.K.Sink.faults c.args.output.now) (g.K.Sink.faults c.print.new.output) (g.O.Doors.faults c.args.doors.now) (g.O.Doors.faults c.serve_all-ledger.new.doors)
    l c.in-Ok.ledger.limit (ap (λ (h : History). h.limit) c.in-Ok.ensures) _ _ _ c.serve_all-ledger.ensures c.print.ensures.prints in
    all.1.later_doors

pub returns-clause-faultless_doors : goal.returns-clause-faultless_doors
returns-clause-faultless_doors g c =
    let r = c.replies_stand_in_order.ensures in
    let m = c.connections_make_entries.ensures in
    let l : Laws = record { replies = r.replies; push = r.push; full = r.full; limit = r.limit; replied = m.replied; unreplied = m.unreplied; few = c.requests_lie_in_order.ensures.few } in
    let all = finish_at c.args.options (g.O.Doors.served c.args.doors.now) (g.O.Doors.served c.serve_all-ledger.new.doors) (g.O.Doors.ended c.args.doors.now) (g.O.Doors.ended c.serve_all-ledger.new.doors) (g.K.Sink.written c.args.output.now) (g.K.Sink.written c.print.new.output) (g.K.Sink.faults c.args.output.now) (g.K.Sink.faults c.print.new.output) (g.O.Doors.faults c.args.doors.now) (g.O.Doors.faults c.serve_all-ledger.new.doors)
    l c.in-Ok.ledger.limit (ap (λ (h : History). h.limit) c.in-Ok.ensures) _ _ _ c.serve_all-ledger.ensures c.print.ensures.prints in
    all.1.faultless_doors
