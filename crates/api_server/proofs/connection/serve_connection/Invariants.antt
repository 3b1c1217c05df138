use Rattle.std.proofs.Common.{◌≡◌}
use Rattle.turn_lock.specs.Known.{IsFree, IsOf}
use Rattle.http_wire.specs.Reader.{remaining}
use Rattle.api_server.specs.Connections.{OnWay}
use Rattle.api_server.proofs.connection.serve_connection.Given as goal

abbrev pub invariant-loop-index : goal.invariant-loop-index
invariant-loop-index g l = record {
  of : IsOf l.lock l.pass;
  free : IsFree l.pass;
  on : OnWay l.service l.fn.pass l.pass (g.C.Source.left l.fn.conn) (remaining l.reader.ahead (g.C.Source.left l.conn)) (g.C.Sink.written l.fn.conn) (g.C.Sink.written l.conn) l.index l.reader.taken;
  faultless : g.C.Source.faults l.conn ≡ g.C.Source.faults l.fn.conn;
}
