-- The code's own notions, on which no entry's contract rests: a read with the controller's line,
-- and what a CSR needs as bits.
use Rattle.std.specs.Prelude.{ℕ, Bool, cond, eqb}
use Rattle.bits.specs.Alg.{plain}
use Rattle.bits.specs.Masks.{only_if}
use Rattle.rules.specs.Interrupts.{read_delegated, read_mip}
use Rattle.hart.specs.declared.record.Hart.{Hart}
use Rattle.csr.specs.Address.{needs_s, needs_sstc}
open plain use {◌∣◌}

-- what the CSR at an address reads, of its old value, which it reads with the line down
abbrev pub shown_at : Bool → Hart → ℕ → ℕ → ℕ
shown_at up h a old =
    cond (eqb a 0x344) (read_mip up h.mip)
    (cond (eqb a 0x144) (read_delegated h.mideleg (read_mip up h.mip)) old)

-- 1 is S, and 2 is Sstc
abbrev pub needs_of : ℕ → ℕ
needs_of a = only_if (needs_s a) 1 ∣ only_if (needs_sstc a) 2
