-- The bits that menvcfg can have depend on four flags alone: so a table of them has 16 rows.
use mathlib.Core.Path.{◌≡◌, sym, ap, ◌∙◌}
use mathlib.Core.List.{[]}
use Prim.Native.Nat.{ℕ, ◌*◌, ◌/◌, ◌%◌}
use Rattle.bits.specs.Word.{Fits}
use Rattle.bits.proofs.Decide.{W, var, shr, shl, low, env1, by_bits}
use Rattle.bits.proofs.Shown.{shown}
use Rattle.hart.specs.Inner.{menvcfg_mask, envcfg_bits}
use Rattle.hart.proofs.CapsBits.{has}

abbrev mask : W → W
mask flags = menvcfg_mask shown (has 2 flags) (has 3 flags) (has 4 flags) (has 1 flags)

pub by_key : (flags : ℕ) → Fits flags → (k : ℕ) → flags / 2 % 16 ≡ k → envcfg_bits (k * 2) ≡ envcfg_bits flags
unfolding envcfg_bits
by_key flags h k e =
    ap (λ (n : ℕ). envcfg_bits (n * 2)) (sym e)
    ∙ by_bits (mask (shl 1 (low 4 (shr 1 (var 0))))) (mask (var 0)) tt (env1 flags h [])
