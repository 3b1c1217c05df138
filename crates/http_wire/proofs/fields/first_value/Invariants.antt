use Rattle.std.proofs.Common.{◌≡◌, drop, map}
use Rattle.httparse.specs.Borrowed.{header_parts}
use Rattle.http_wire.specs.Fields.{values_of}
use Rattle.http_wire.proofs.fields.first_value.Given as goal

abbrev pub invariant-loop-header : goal.invariant-loop-header
invariant-loop-header l = values_of l.name (map header_parts (drop l.header-index l.headers)) ≡ values_of l.name (map header_parts l.headers)
