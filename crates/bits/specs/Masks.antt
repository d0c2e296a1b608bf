-- Masks and fields of a 64-bit word: what is kept, merged and set.
use Rattle.std.specs.Prelude.{Bool, ℕ, ◌*◌, ◌%◌, ◌^◌}
use Rattle.bits.specs.Alg.{plain}
open plain use {◌&◌, merged, when}

-- the bits of v that m has
abbrev pub kept : ℕ → ℕ → ℕ
kept = ◌&◌

-- the bits of v that m has, and the others of old
abbrev pub merged_word : ℕ → ℕ → ℕ → ℕ
merged_word = merged

-- x where b, else 0
abbrev pub only_if : Bool → ℕ → ℕ
only_if = when

-- `x << o` as a 64-bit machine shifts: by o modulo 64 places, and what leaves the word is lost
abbrev pub shifted : ℕ → ℕ → ℕ
shifted x o = x * 2 ^ (o % 64) % 2 ^ 64

-- word with the bits of the filter f taken from x, shifted to o
abbrev pub field_set : ℕ → ℕ → ℕ → ℕ → ℕ
field_set word o f x = merged word (shifted x o) f
