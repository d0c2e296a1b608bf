-- Expressions over 64-bit words and tests on them, and what they mean.
use mathlib.Core.Bool.{Bool, true, not, ◌&&◌, ◌||◌, cond}
use Prim.Native.Nat.{ℕ, ◌+◌, ◌-◌, ◌*◌, ◌/◌, ◌%◌, ◌^◌, ◌<◌, min, max}
use lib.Bits.{bit_and, bit_or, bit_xor}
use lib.Dec.{eqb, leb, ltb}

infixl 60 ◌&◌
infixl 50 ◌∣◌
infixl 55 ◌⊕◌
infix 40 ◌≐◌
mutual
  -- words
  pub data W : Type 0 where
    var : ℕ → W  -- a word of 64 bits
    lit : ℕ → W
    ◌&◌ ◌∣◌ ◌⊕◌ : W → W → W
    inv : W → W  -- `!` at 64 bits
    shr shl : ℕ → W → W  -- by a number of places; `shl` loses nothing
    low : ℕ → W → W  -- the lowest bits, so many
    ite : B → W → W → W

  -- tests
  pub data B : Type 0 where
    flag : ℕ → B
    ◌≐◌ : W → W → B
    both either : B → B → B
    isnt : B → B

-- what the variables are
pub record Env : Type 0 where
  pub word : ℕ → ℕ
  pub flagged : ℕ → Bool
  pub fits : (k : ℕ) → word k < 2 ^ 64

abbrev mutual
  pub eval : W → Env → ℕ
  eval (var k) ρ = ρ.word k
  eval (lit n) ρ = n
  eval (a & b) ρ = bit_and (eval a ρ) (eval b ρ)
  eval (a ∣ b) ρ = bit_or (eval a ρ) (eval b ρ)
  eval (a ⊕ b) ρ = bit_xor (eval a ρ) (eval b ρ)
  eval (inv a) ρ = (2 ^ 64 - 1) - eval a ρ
  eval (shr k a) ρ = eval a ρ / 2 ^ k
  eval (shl k a) ρ = eval a ρ * 2 ^ k
  eval (low w a) ρ = eval a ρ % 2 ^ w
  eval (ite t a b) ρ = cond (test t ρ) (eval a ρ) (eval b ρ)

  pub test : B → Env → Bool
  test (flag k) ρ = ρ.flagged k
  test (a ≐ b) ρ = eqb (eval a ρ) (eval b ρ)
  test (both s t) ρ = test s ρ && test t ρ
  test (either s t) ρ = test s ρ || test t ρ
  test (isnt t) ρ = not (test t ρ)

abbrev pub lit_wid : ℕ → ℕ
lit_wid n = cond (ltb n (2 ^ 4)) 4 (cond (ltb n (2 ^ 16)) 16 64)

-- how many bits a word may have
abbrev pub wid : W → ℕ
wid (var k) = 64
wid (lit n) = lit_wid n
wid (a & b) = min (wid a) (wid b)
wid (a ∣ b) = max (wid a) (wid b)
wid (a ⊕ b) = max (wid a) (wid b)
wid (inv a) = 64
wid (shr k a) = wid a
wid (shl k a) = wid a + k
wid (low w a) = w
wid (ite t a b) = max (wid a) (wid b)

-- numerals have 64 bits, and so has what is complemented
abbrev mutual
  pub ok : W → Bool
  ok (var k) = true
  ok (lit n) = ltb n (2 ^ 64)
  ok (a & b) = ok a && ok b
  ok (a ∣ b) = ok a && ok b
  ok (a ⊕ b) = ok a && ok b
  ok (inv a) = leb (wid a) 64 && ok a
  ok (shr k a) = ok a
  ok (shl k a) = ok a
  ok (low w a) = ok a
  ok (ite t a b) = ok_b t && (ok a && ok b)

  pub ok_b : B → Bool
  ok_b (flag k) = true
  ok_b (a ≐ b) = ok a && ok b
  ok_b (both s t) = ok_b s && ok_b t
  ok_b (either s t) = ok_b s && ok_b t
  ok_b (isnt t) = ok_b t
