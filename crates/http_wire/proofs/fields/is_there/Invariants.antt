use Rattle.std.proofs.Common.{◌≡◌, drop, map}
use Rattle.httparse.specs.Borrowed.{header_parts}
use Rattle.http_wire.specs.Fields.{is_there}
use Rattle.http_wire.proofs.fields.is_there.Given as goal

abbrev pub invariant-loop-header : goal.invariant-loop-header
invariant-loop-header l = is_there l.name (map header_parts (drop l.header-index l.headers)) ≡ is_there l.name (map header_parts l.headers)
