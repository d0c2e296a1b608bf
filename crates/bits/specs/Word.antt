-- A word of 64 bits, and its bits.
-- Source: arithmetic.
use Rattle.std.specs.Prelude.{Bool, ℕ, ◌/◌, ◌%◌, ◌^◌, ◌<◌, eqb}

abbrev pub Fits : ℕ → Type 0
Fits n = n < 2 ^ 64

-- bit i of n
abbrev pub bit : ℕ → ℕ → Bool
bit i n = eqb (n / 2 ^ i % 2) 1
