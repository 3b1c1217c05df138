use Rattle.std.proofs.Common.{◌≡◌, ◌-◌, ◌^◌, min, take}
use Rattle.std.specs.List.{sum_by}
use Rattle.net_doors.proofs.doors.served_at.Given as goal

abbrev pub invariant-loop-door : goal.invariant-loop-door
invariant-loop-door l = l.served ≡ min (sum_by (λ d. d.served) (take l.door-index l.doors)) (2 ^ 64 - 1)
