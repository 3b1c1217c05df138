use Rattle.std.proofs.Common.{◌≡◌, ◌≤◌, ◌<◌, ◌+◌, ◌-◌, ℕ, length, get_or}
use Rattle.dra_cli.proofs.last_line.last_line.Given as goal

abbrev pub invariant-bytes : goal.invariant-bytes
invariant-bytes l =
    (l.start ≤ length l.text - 1) × ((i : ℕ) → l.start ≤ i → i + 1 < length l.text → get_or l.text i 0 ≡ 10 → ⊥)

abbrev pub decreases-bytes : goal.decreases-bytes
decreases-bytes l = l.start
