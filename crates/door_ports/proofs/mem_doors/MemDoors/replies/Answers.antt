use Rattle.std.proofs.Common.{◌∙◌, Bor, List, ap, map, subst, sym}
use Rattle.std.proofs.lemmas.Simd.{map-map}
use Rattle.dra_ports.specs.Conn.{conn_written}
use Rattle.dra_ports.specs.declared.mem_conn.MemConn.{MemConn}
use Rattle.door_ports.specs.MemDoors.{ended_in, mem_ending}
use Rattle.door_ports.specs.Replies.{AreInOrder}
use Rattle.door_ports.specs.Visits.{Ended}
use Rattle.door_ports.specs.declared.accepted.Accepted.{Accepted}
use Rattle.door_ports.proofs.mem_doors.MemDoors.replies.Goals as goal

abbrev endings : List (Bor (Accepted MemConn)) → List Ended
endings vs = map (λ (v : Bor (Accepted MemConn)). mem_ending v.now) vs

pub returns : goal.returns
returns c = record {
  visits = endings c.sort_visits.new.visits.items;
  in_order = subst (λ (es : List Ended). AreInOrder es (endings c.sort_visits.new.visits.items)) (c.in_ok-visits.ensures ∙ ap ended_in c.deref.ensures.value) c.in_ok-sort_visits.ensures;
  written = c.in_ok-texts.ensures ∙ ap (map (λ (v : Bor (Accepted MemConn)). conn_written v.now.conn)) c.deref-2.ensures.value
      ∙ sym (map-map (λ (e : Ended). e.written) (λ (v : Bor (Accepted MemConn)). mem_ending v.now) c.sort_visits.new.visits.items);
}
