-- What it is that a call left the same as in the original.
use Rattle.std.specs.Prelude.{ℕ, ◌<◌, ◌≡◌, List, get_or}
use Rattle.std.specs.Int.Bits.{bit_xor}

-- the word x is y with the bits d changed
abbrev pub Alike : ℕ → ℕ → ℕ → Type 0
Alike x y d = x ≡ bit_xor y d

-- each of the first n words is so, with its own bits
abbrev pub AllAlike : ℕ → List ℕ → List ℕ → List ℕ → Type 0
AllAlike n xs ys ds = (j : ℕ) → j < n → Alike (get_or xs j 0) (get_or ys j 0) (get_or ds j 0)
