-- Where a trap goes.
-- Source: RISC-V manual 20240411, Volume II, "Machine Trap-Vector Base-Address (mtvec) Register".
use Rattle.std.specs.Prelude.{ℕ, ◌+◌, ◌*◌, ◌%◌, ◌^◌, cond, ◌&&◌, ◌==◌}
use Rattle.bits.specs.Alg.{Alg, plain}
use Rattle.bits.specs.Word.{bit}

module _ (A : Alg) where
  open A use {Word, field, at}

  -- BASE
  abbrev pub base : Word → Word
  base mtvec = at 2 (field 2 62 mtvec)

unfoldable pub base_of : ℕ → ℕ
base_of = base plain

-- the trap of this mcause goes to BASE, and for an interrupt, where MODE is 1 (vectored), 4 times
-- its code further; the sum wraps at 64 bits
abbrev pub target_of : ℕ → ℕ → ℕ
target_of mtvec mcause =
    cond (mtvec % 4 == 1 && bit 63 mcause) ((base_of mtvec + 4 * (mcause % 2 ^ 63)) % 2 ^ 64)
    (base_of mtvec)
