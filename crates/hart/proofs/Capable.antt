-- What legal capabilities say of the interrupts.
use mathlib.Core.Path.{◌≡◌, subst}
use mathlib.Core.Bool.{Bool, true, false, not, ◌&&◌, ◌||◌}
use lib.Bits.{bit_and}
use lib.Dec.{eqb}
use borrow.Author.Tests.{eqb-true}
use Rattle.bits.proofs.Bools.{left, right, implied}
use Rattle.hart.specs.Caps.{has_s, legal_misa, legal_interrupts, legal_flags, legal_mvendorid, legal_caps}
use Rattle.hart.specs.declared.caps.Caps.{Caps}

module _ (c : Caps) (e : legal_caps c ≡ true) where
  abbrev within : Bool
  within = eqb (bit_and c.interrupts 0x2AAA) c.interrupts

  abbrev containing : Bool
  containing = eqb (bit_and c.interrupts 0x222) 0x222

  abbrev without : Bool
  without = eqb (bit_and c.interrupts 0x2222) 0

  interrupts : legal_interrupts c ≡ true
  unfolding legal_caps
  interrupts =
      right (legal_misa c) (legal_interrupts c)
      (left (legal_misa c && legal_interrupts c) (legal_flags c) (left (legal_misa c && legal_interrupts c && legal_flags c) (legal_mvendorid c) e))

  -- there are no others than these
  pub caps_2_aaa : bit_and c.interrupts 0x2AAA ≡ c.interrupts
  caps_2_aaa = eqb-true _ _ (left within (not (has_s c) || containing) (left (within && (not (has_s c) || containing)) (has_s c || without) interrupts))

  -- with S they have the interrupts 0x222
  pub caps_222 : has_s c ≡ true → bit_and c.interrupts 0x222 ≡ 0x222
  caps_222 s = eqb-true _ _ (implied (has_s c) containing (right within (not (has_s c) || containing) (left (within && (not (has_s c) || containing)) (has_s c || without) interrupts)) s)

  -- without S they have none of 0x2222
  pub caps_2222 : has_s c ≡ false → bit_and c.interrupts 0x2222 ≡ 0
  caps_2222 s = eqb-true _ _ (subst (λ (b : Bool). (b || without) ≡ true) s (right (within && (not (has_s c) || containing)) (has_s c || without) interrupts))
