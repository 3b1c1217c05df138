use Rattle.http_wire.proofs.Lengths.{with_of, without_of}
use Rattle.http_wire.proofs.fields.body_length.Goals as goal

pub returns-in-None : goal.returns-in-None
returns-in-None c = without_of _ c.is_there-encoded.result _ c.wants_length.result _ c.length_without.result c.length_without.ensures c.is_there-encoded.ensures c.wants_length.ensures (rw c.in-None.is at c.first_value.ensures)

pub returns-in-Some : goal.returns-in-Some
returns-in-Some c = with_of c.in-Some.value.now _ c.is_there-encoded.result _ _ c.length_with.result c.length_with.ensures c.is_there-encoded.ensures (rw c.in-Some.is at c.first_value.ensures)
