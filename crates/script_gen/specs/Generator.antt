-- The numbers that a script is generated from: a linear congruential generator of 64 bits, with
-- Knuth's constants for MMIX.
use Rattle.std.specs.Prelude.{ℕ, ◌+◌, ◌*◌, ◌/◌, ◌%◌, ◌^◌}

-- the number after this one
abbrev pub next_number : ℕ → ℕ
next_number x = (x * 6364136223846793005 + 1442695040888963407) % 2 ^ 64

-- what a draw gives of the number that it comes to
abbrev pub drawn : ℕ → ℕ
drawn x = x / 2 ^ 33
