-- What a number of the text is, told by the digits that it has in base 16. The first two
-- definitions are those of the kit's library io, by which numbers were printed.
use Rattle.std.specs.Prelude.{ℕ, zero, suc, ◌+◌, ◌/◌, ◌%◌, ◌<◌, ◌≡◌, cond, nat_lt, List, [], ◌∷◌, ◌++◌, length, Option, Some, None, IfSome}

-- the ASCII code of a digit below 16: `0` to `9`, then `a` to `f`
abbrev pub hex_digit_ascii : ℕ → ℕ
hex_digit_ascii d = cond (nat_lt d 10) (48 + d) (87 + d)

-- the last k digits of n in base b, the most significant first
abbrev pub last_digits : ℕ → ℕ → ℕ → List ℕ
last_digits b zero n = []
last_digits b (suc k) n = last_digits b k (n / b) ++ (hex_digit_ascii (n % b) ∷ [])

-- r is what the digit b is worth, and None where b isn't a digit
pub record Worth (b : ℕ) (r : Option ℕ) : Type 0 where
  pub digit : IfSome r (λ d. (d < 16) × (hex_digit_ascii d ≡ b))
  pub other : (d : ℕ) → d < 16 → hex_digit_ascii d ≡ b → r ≡ Some d

-- the text s is the number's own digits, at its own width
abbrev pub Spells : Option ℕ → List ℕ → Type 0
Spells (Some n) s = last_digits 16 (length s) n ≡ s
Spells None s = Unit {0}
