use Rattle.std.proofs.Common.{◌≡◌, drop, map}
use Rattle.httparse.specs.Borrowed.{header_parts}
use Rattle.http_wire.specs.Fields.{all_are, values_of}
use Rattle.http_wire.proofs.fields.all_have.Given as goal

abbrev pub invariant-loop-header : goal.invariant-loop-header
invariant-loop-header l = all_are l.value (values_of l.name (map header_parts (drop l.header-index l.headers))) ≡ all_are l.value (values_of l.name (map header_parts l.headers))
