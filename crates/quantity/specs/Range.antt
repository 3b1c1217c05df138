-- How large a quantity can be, in units of 10^-9: 2^63 - 1 times 10^9 either way.
use Rattle.std.specs.Prelude.{ℕ, ℤ, pos, neg_ℤ, ◌≤ℤ◌}

abbrev pub most : ℕ
most = 9223372036854775807000000000

abbrev pub IsInRange : ℤ → Type 0
IsInRange n = (neg_ℤ (pos most) ≤ℤ n) × (n ≤ℤ pos most)
