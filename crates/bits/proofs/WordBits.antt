-- The bits of a number as tests: of `&`, `|`, `^`, `!`, of shifts and of a remainder; and two
-- numbers with the same bits are equal.
use mathlib.Core.Path.{◌≡◌, sym, ap, ◌∙◌}
use mathlib.Core.Bool.{Bool, false, not, ◌&&◌, ◌||◌, beq}
use Prim.Native.Nat.{ℕ, ◌+◌, ◌-◌, ◌*◌, ◌/◌, ◌%◌, ◌^◌, ◌≤◌, ◌<◌, min, max}
use native.Mathlib.Nat.{mod-lt, div-add-mod'}
use native.Mathlib.Omega.{arith}
use lib.Pow.{pow_pos, shr-shr}
use lib.Bits.{bit_and, bit_or, bit_xor}
use lib.Dec.{eqb}
use mir.Syntax.{w64}
use Rattle.std.proofs.lemmas.Nat.Bits.{bit_at_and, bit_at_or, bit_at_xor, bit_at_not, bit_at-lt, bit_at-zero, bit_at_above, bit_at_cat_low, bit_at_cat_high, same_from_bits_below}
use Rattle.std.specs.Int.{bit_at}
use Rattle.bits.specs.Word.{bit}

-- whether a digit is 1
abbrev one : ℕ → Bool
one x = eqb x 1

and2 : (x y : ℕ) → x < 2 → y < 2 → one (min x y) ≡ (one x && one y)
and2 x y p q = grind arith

or2 : (x y : ℕ) → x < 2 → y < 2 → one (max x y) ≡ (one x || one y)
or2 x y p q = grind arith

xor2 : (x y : ℕ) → x < 2 → y < 2 → one ((x + y) % 2) ≡ not (beq (one x) (one y))
xor2 x y p q = grind arith

not2 : (x : ℕ) → x < 2 → one (1 - x) ≡ not (one x)
not2 x p = grind arith

same2 : (x y : ℕ) → x < 2 → y < 2 → one x ≡ one y → x ≡ y
same2 x y p q e = grind arith

pub bit_bit_and : (i a b : ℕ) → bit i (bit_and a b) ≡ (bit i a && bit i b)
bit_bit_and i a b = ap one (bit_at_and a b i) ∙ and2 _ _ (bit_at-lt a i) (bit_at-lt b i)

pub bit_bit_or : (i a b : ℕ) → bit i (bit_or a b) ≡ (bit i a || bit i b)
bit_bit_or i a b = ap one (bit_at_or a b i) ∙ or2 _ _ (bit_at-lt a i) (bit_at-lt b i)

pub bit_bit_xor : (i a b : ℕ) → bit i (bit_xor a b) ≡ not (beq (bit i a) (bit i b))
bit_bit_xor i a b = ap one (bit_at_xor a b i) ∙ xor2 _ _ (bit_at-lt a i) (bit_at-lt b i)

pub bit_not : (i a : ℕ) → a < 2 ^ 64 → i < 64 → bit i ((2 ^ 64 - 1) - a) ≡ not (bit i a)
bit_not i a h q = ap one (bit_at_not w64 a i h q) ∙ not2 _ (bit_at-lt a i)

-- shifts
pub bit_shr : (i k n : ℕ) → bit i (n / 2 ^ k) ≡ bit (k + i) n
bit_shr i k n = ap (λ (x : ℕ). one (x % 2)) (shr-shr n k i)

-- past the end
pub bit_high : (i k n : ℕ) → n < 2 ^ k → k ≤ i → bit i n ≡ false
bit_high i k n h le = ap one (bit_at_above n k i h le)

pub bit_shl_low : (i k n : ℕ) → i < k → bit i (n * 2 ^ k) ≡ false
bit_shl_low i k n h =
    let e : n * 2 ^ k ≡ n * 2 ^ k + 0 = omega arith in
    rw e (ap one (bit_at_cat_low n k 0 i h ∙ bit_at-zero i))

pub bit_shl : (i k n : ℕ) → k ≤ i → bit i (n * 2 ^ k) ≡ bit (i - k) n
bit_shl i k n h =
    let e : n * 2 ^ k ≡ n * 2 ^ k + 0 = omega arith in
    rw e (ap one (bit_at_cat_high n k 0 i (pow_pos k) h))

-- a remainder
pub bit_mod : (i w n : ℕ) → i < w → bit i (n % 2 ^ w) ≡ bit i n
bit_mod i w n h =
    ap one (sym (bit_at_cat_low (n / 2 ^ w) w (n % 2 ^ w) i h) ∙ ap (λ (x : ℕ). bit_at x i) (div-add-mod' n (2 ^ w)))

pub bit_mod_high : (i w n : ℕ) → w ≤ i → bit i (n % 2 ^ w) ≡ false
bit_mod_high i w n h = bit_high i w (n % 2 ^ w) (mod-lt n (pow_pos w)) h

-- numbers below 2 ^ k with the same k bits are the same
pub ext : (k a b : ℕ) → a < 2 ^ k → b < 2 ^ k → ((i : ℕ) → i < k → bit i a ≡ bit i b) → a ≡ b
ext k a b ha hb e =
    same_from_bits_below k a b ha hb (λ i h. same2 _ _ (bit_at-lt a i) (bit_at-lt b i) (e i h))
