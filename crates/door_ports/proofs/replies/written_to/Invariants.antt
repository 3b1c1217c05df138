use Rattle.std.proofs.Common.{◌≡◌, ◌++◌, drop, map}
use Rattle.dra_ports.specs.Conn.{conn_written}
use Rattle.door_ports.proofs.replies.written_to.Given as goal

abbrev pub invariant-loop-visit : goal.invariant-loop-visit
invariant-loop-visit l = map (λ t. t.now) l.texts.items ++ map (λ v. conn_written v.now.conn) (drop l.visit-index l.visits) ≡ map (λ v. conn_written v.now.conn) l.visits
