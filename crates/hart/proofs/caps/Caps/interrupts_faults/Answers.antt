-- `hart::caps::Caps::interrupts_faults` meets its contract.
use mathlib.Core.Path.{◌≡◌, sym}
use mathlib.Core.List.{[], ◌∷◌}
use Prim.Native.Nat.{◌-◌, ◌^◌}
use native.Mathlib.Omega.{arith}
use lib.Dec.{eqb}
use lib.Bits.{bit_and, bit_or, bit_xor}
use Rattle.bits.specs.Word.{Fits}
use Rattle.bits.specs.Masks.{only_if}
use Rattle.bits.proofs.Decide.{var, lit, flag, ◌&◌, ◌∣◌, ◌⊕◌, inv, ◌≐◌, both, either, isnt, env1, by_tests}
use Rattle.bits.proofs.Shown.{shown}
use Rattle.hart.specs.Caps.{has_s, legal_interrupts}
use Rattle.hart.specs.declared.caps.Caps.{Caps}
use Rattle.hart.proofs.caps.Caps.interrupts_faults.Goals as goal
open shown use {when}

right : (c : Caps) → Fits c.interrupts
    → eqb (bit_and (bit_xor c.interrupts (only_if (has_s c) 0x222)) ((2 ^ 64 - 1) - bit_or 0x888 (only_if (has_s c) 0x2000))) 0 ≡ legal_interrupts c
right c f =
    by_tests (((var 0 ⊕ when (flag 0) (lit 0x222)) & inv (lit 0x888 ∣ when (flag 0) (lit 0x2000))) ≐ lit 0)
    (both (both (var 0 & lit 0x2AAA ≐ var 0) (either (isnt (flag 0)) (var 0 & lit 0x222 ≐ lit 0x222))) (either (flag 0) (var 0 & lit 0x2222 ≐ lit 0))) tt
    (env1 c.interrupts f (has_s c ∷ []))

pub returns : goal.returns
returns c =
    rw (c.only-2.ensures, c.only.ensures, sym c.requires) (right c.args.self (omega arith))
