-- The order of interrupts: its numbers, and the first that passes one test is the first that passes
-- another with the same bits.
use Rattle.std.proofs.Common.{◌≡◌, ℕ, ◌-◌, ◌^◌, ◌<◌, Bool, cond, ◌&&◌, List, [], ◌∷◌, refl, ◌∙◌, ap₂, arith, lit<}
use lib.Bits.{bit_and}
use Rattle.bits.specs.Word.{Fits, bit}
use Rattle.bits.proofs.WordBits.{bit_bit_and, bit_not}
use Rattle.first.specs.Laws.{Each}
use Rattle.first.specs.First.{first_of}
use Rattle.trap.specs.Inner.{first_set}
use Rattle.trap.specs.Interrupts.{order, is_ready, next_of}

pub order_below : Each (λ n. n < 64) order
order_below = (lit< tt, (lit< tt, (lit< tt, (lit< tt, (lit< tt, (lit< tt, (lit< tt, tt)))))))

pub order_positive : Each (λ n. n ≡ 0 → ⊥) order
order_positive = (λ e. absurd (omega arith), (λ e. absurd (omega arith), (λ e. absurd (omega arith), (λ e. absurd (omega arith), (λ e. absurd (omega arith), (λ e. absurd (omega arith), (λ e. absurd (omega arith), tt)))))))

first_same : (ns : List ℕ) (p q : ℕ → Bool) → ((n : ℕ) → n < 64 → p n ≡ q n) → Each (λ n. n < 64) ns → first_of 0 (λ n. n) p ns ≡ first_of 0 (λ n. n) q ns
first_same [] p q e b = refl
first_same (n ∷ ns) p q e b = ap₂ (λ (t : Bool) (m : ℕ). cond t n m) (e n b.0) (first_same ns p q e b.1)

-- the bits of the word that the code makes of the three
ready_bit : (mie mip mideleg : ℕ) → Fits mideleg → (n : ℕ) → n < 64 → bit n (bit_and (bit_and mie mip) ((2 ^ 64 - 1) - mideleg)) ≡ is_ready mie mip mideleg n
ready_bit mie mip mideleg h n l = bit_bit_and n (bit_and mie mip) ((2 ^ 64 - 1) - mideleg) ∙ ap₂ ◌&&◌ (bit_bit_and n mie mip) (bit_not n mideleg h l)

-- so the first in the order of its bits is the next interrupt
pub first_is_next : (mie mip mideleg : ℕ) → Fits mideleg → first_set (bit_and (bit_and mie mip) ((2 ^ 64 - 1) - mideleg)) ≡ next_of mie mip mideleg
first_is_next mie mip mideleg h = first_same order _ (is_ready mie mip mideleg) (ready_bit mie mip mideleg h) order_below
