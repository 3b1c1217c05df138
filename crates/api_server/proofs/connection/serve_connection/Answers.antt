use Rattle.std.proofs.Common.{arith, refl, subst, sym}
use Rattle.http_wire.specs.Reader.{Reading, remaining}
use Rattle.api_server.specs.Connections.{OnWay}
use Rattle.api_server.specs.declared.end.ConnEnd.TheVariants as end
use Rattle.api_server.proofs.Causing.{counted_from, no_fault}
use Rattle.api_server.proofs.Talk.{begins_way, none_past}
use Rattle.api_server.proofs.connection.serve_connection.Goals as goal

pub loop-index-init : goal.loop-index-init
loop-index-init g c = record {
  of = c.requires.of;
  free = c.requires.free;
  on = subst (λ (r : Reading). OnWay (record { number = c.args.number; budget = c.args.budget; attempts = c.args.attempts }) c.args.pass.now c.args.pass.now (g.C.Source.left c.args.conn.now) (remaining r.ahead (g.C.Source.left c.args.conn.now)) (g.C.Sink.written c.args.conn.now) (g.C.Sink.written c.args.conn.now) 1 r.taken)
      (sym c.new-reader.ensures) (begins_way (record { number = c.args.number; budget = c.args.budget; attempts = c.args.attempts }) c.args.pass.now (g.C.Source.left c.args.conn.now) (g.C.Sink.written c.args.conn.now));
  faultless = refl;
}

pub returns-in-Some-clause-connected : goal.returns-in-Some-clause-connected
returns-in-Some-clause-connected g c = c.in-Some.ensures.over c.args.pass.now (g.C.Source.left c.args.conn.now) (g.C.Sink.written c.args.conn.now) c.loop-index.invariant.on

pub returns-in-Some-clause-cause : goal.returns-in-Some-clause-cause
returns-in-Some-clause-cause g c = counted_from (g.C.Source.faults c.args.conn.now) (g.C.Source.faults c.loop-index.conn) (g.C.Source.faults c.go_on-end.new.conn) c.in-Some.end c.loop-index.invariant.faultless c.in-Some.ensures.cause

pub returns-clause-connected : goal.returns-clause-connected
returns-clause-connected g c = absurd (none_past (record { number = c.args.number; budget = c.args.budget; attempts = c.args.attempts }) c.args.pass.now c.loop-index.pass (g.C.Source.left c.args.conn.now) (remaining c.loop-index.reader.ahead (g.C.Source.left c.loop-index.conn)) (g.C.Sink.written c.args.conn.now) (g.C.Sink.written c.loop-index.conn) c.loop-index.index c.loop-index.reader.taken (omega (arith, c.loop-index-test.false)) c.loop-index.invariant.on)

pub returns-clause-cause : goal.returns-clause-cause
returns-clause-cause g c = no_fault (g.C.Source.faults c.args.conn.now) (g.C.Source.faults c.loop-index.conn) end.Closed refl c.loop-index.invariant.faultless
