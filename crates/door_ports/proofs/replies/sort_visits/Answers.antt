use Rattle.std.proofs.Common.{Bor, refl, rules, ℕ}
use Rattle.std.proofs.lemmas.List.Sorted.{answers_always}
use Rattle.dra_ports.specs.declared.mem_conn.MemConn.{MemConn}
use Rattle.door_ports.specs.MemDoors.{mem_ending}
use Rattle.door_ports.specs.declared.accepted.Accepted.{Accepted}
use Rattle.door_ports.proofs.Sorting.{in_order_by}
use Rattle.door_ports.proofs.replies.sort_visits.Goals as goal

abbrev numbered : Bor (Accepted MemConn) → ℕ → Bor (Accepted MemConn)
numbered v n = record v { now = record v.now { number = n } }

abbrev number : Bor (Accepted MemConn) → ℕ
number v = v.now.number

pub returns : goal.returns
returns c =
    in_order_by (λ (v : Bor (Accepted MemConn)). mem_ending v.now) numbered (λ x n. refl) c.args.visits.now.items c.sort_by_key.new.self.items c.sort_by_key.ensures.permutation
    (c.in_ok-sort_by_key.ensures.sorted number (answers_always _ _ _ (λ f a r f' called. search rules)))
    (c.sort_by_key.ensures.stable number (answers_always _ _ _ (λ f a r f' called. search rules)))
