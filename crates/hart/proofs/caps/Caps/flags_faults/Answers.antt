-- `hart::caps::Caps::flags_faults` meets its contract.
use mathlib.Core.Path.{◌≡◌, sym, ap, ap₂, ◌∙◌}
use mathlib.Core.Bool.{Bool, not, ◌&&◌, ◌||◌}
use mathlib.Core.List.{[], ◌∷◌}
use Prim.Native.Nat.{◌-◌, ◌/◌, ◌^◌}
use native.Mathlib.Omega.{arith}
use lib.Dec.{eqb, ltb}
use lib.Bits.{bit_and, bit_or}
use Rattle.bits.specs.Word.{Fits}
use Rattle.bits.specs.Masks.{only_if}
use Rattle.bits.proofs.Decide.{var, lit, flag, ◌&◌, ◌∣◌, inv, shr, ◌≐◌, both, either, isnt, env1, env2, by_tests}
use Rattle.bits.proofs.Shown.{shown}
use Rattle.bits.proofs.Zero.{joined}
use Rattle.hart.specs.Caps.{has_f, has_s, has_zfinx, has_sstc, has_svpbmt}
use Rattle.hart.specs.declared.caps.Caps.{Caps}
use Rattle.hart.proofs.CapsBits.{has, below}
use Rattle.hart.proofs.caps.Caps.flags_faults.Goals as goal
open shown use {when}

module _ (c : Caps) (f : Fits c.flags) (m : Fits c.misa) where
  of_flags : eqb (bit_and c.flags ((2 ^ 64 - 1) - bit_or 0xD (only_if (has_s c) 0x12))) 0 ≡ (ltb c.flags 32 && (not (has_sstc c) || has_s c) && (not (has_svpbmt c) || has_s c))
  of_flags =
      by_tests ((var 0 & inv (lit 0xD ∣ when (flag 0) (lit 0x12))) ≐ lit 0)
      (both (both (shr 5 (var 0) ≐ lit 0) (either (isnt (has 1 (var 0))) (flag 0))) (either (isnt (has 4 (var 0))) (flag 0))) tt
      (env1 c.flags f (has_s c ∷ []))
      ∙ ap (λ (t : Bool). t && (not (has_sstc c) || has_s c) && (not (has_svpbmt c) || has_s c)) (below c.flags 32 (λ e. omega arith) (λ e. omega arith))

  of_zfinx : eqb (bit_and (bit_and c.flags (c.misa / 2 ^ 5)) 1) 0 ≡ not (has_zfinx c && has_f c)
  of_zfinx =
      by_tests ((var 0 & shr 5 (var 1) & lit 1) ≐ lit 0) (isnt (both (has 0 (var 0)) (has 5 (var 1)))) tt
      (env2 c.flags c.misa f m [])

pub returns : goal.returns
returns c =
    let self = c.args.self in
    rw (c.only.ensures, sym c.requires, joined) (ap₂ ◌&&◌ (of_flags self (omega arith) (omega arith)) (of_zfinx self (omega arith) (omega arith)))
