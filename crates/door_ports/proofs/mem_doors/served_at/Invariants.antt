use Rattle.std.proofs.Common.{◌≡◌, ◌-◌, ◌^◌, min, take, vec_len}
use Rattle.std.specs.List.{sum_by}
use Rattle.door_ports.proofs.mem_doors.served_at.Given as goal

abbrev pub invariant-loop-door : goal.invariant-loop-door
invariant-loop-door l = l.served ≡ min (sum_by (λ d. vec_len d.ended) (take l.door-index l.doors)) (2 ^ 64 - 1)
