-- `hart::table::envcfg_bits` meets its contract: a key that no arm names is the last.
use mathlib.Core.Path.{◌≡◌}
use Prim.Native.Nat.{ℕ, zero, suc, ◌/◌, ◌%◌, ◌≤◌}
use native.Mathlib.Omega.{arith}
use Rattle.hart.specs.Inner.{envcfg_bits}
use Rattle.hart.proofs.EnvcfgBits.{by_key}
use Rattle.hart.proofs.table.envcfg_bits.Goals as goal

-- none of the numbers below k
abbrev Missed : ℕ → ℕ → Type 0
Missed zero n = Unit {0}
Missed (suc k) n = Missed k n × (n ≡ k → ⊥)

missed : (k n : ℕ) → Missed k n → k ≤ n
missed zero n h = omega arith
missed (suc k) n h =
    let past = missed k n h.0 in
    let other = h.1 in
    omega arith

last : (n : ℕ) → Missed 15 (n % 16) → n % 16 ≡ 15
last n h =
    let past = missed 15 (n % 16) h in
    omega arith

pub returns-in_default : goal.returns-in_default
unfolding envcfg_bits
returns-in_default c =
    let flags = c.args.flags in
    by_key flags c.ranges.flags.fits 15 (last (flags / 2) c.in_default.in_default-own.rest)
