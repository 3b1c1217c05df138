use Rattle.std.proofs.Common.{◌≡◌, drop, map}
use Rattle.std.specs.Prelude.{codes}
use Rattle.std.specs.List.{list_any}
use Rattle.httparse.specs.Borrowed.{header_parts}
use Rattle.http_wire.specs.Fields.{has_close, values_of}
use Rattle.http_wire.proofs.fields.closes.Given as goal

abbrev pub invariant-loop-header : goal.invariant-loop-header
invariant-loop-header l = list_any has_close (values_of (codes "connection") (map header_parts (drop l.header-index l.headers))) ≡ list_any has_close (values_of (codes "connection") (map header_parts l.headers))
