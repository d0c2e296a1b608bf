-- What antt computes, bit by bit, of each register: every lost bit has a reason; what any legal
-- capabilities store as it is written, one of the three does; and what no hart takes from a value
-- is stored the same, whatever the value.
use Prim.Native.Nat.{ℕ, ◌-◌, ◌^◌}
use mathlib.Core.Bool.{Bool, true, false, cond, ◌&&◌, ◌||◌}
use mathlib.Core.List.{List, [], ◌∷◌}
use mathlib.Core.Path.{◌≡◌, refl}
use lib.Dec.{eqb}
use Rattle.bits.proofs.Decide.{W, B, Given, var, lit, flag, ◌&◌, ◌∣◌, ◌⊕◌, ◌≐◌, inv, low, isnt, same, holds}
use Rattle.bits.proofs.Run.{check}
use Rattle.bits.proofs.Shown.{shown}
use Rattle.csr.specs.Access.{stored_of}
use Rattle.csr.specs.Address.{address_of, needs_s, is_present_with}
use Rattle.csr.specs.declared.address.Csr.{Csr}
use Rattle.csr.proofs.Found.{each_found}
use Rattle.csr.proofs.Expressed.{Asked, stores, place, ignores}
use Rattle.explain.specs.Lost.{compared_bits}
use Rattle.explain.specs.Reasons as words

-- ---- the variables

-- 0 the value, 1 the register's word, 2 interrupts, 3 mideleg, 4 menvcfg; 5 the interrupts of other
-- capabilities; 6 another value
abbrev value : W
value = var 0

-- what a rule looks at; mideleg, menvcfg and the register's word are the same for all
abbrev asking : (s c f v zfinx sstc zicbom zicboz svpbmt above : B) (interrupts value : W) → Asked shown
asking s c f v zfinx sstc zicbom zicboz svpbmt above interrupts value =
    record {
      s = s;
      c = c;
      f = f;
      v = v;
      zfinx = zfinx;
      sstc = sstc;
      zicbom = zicbom;
      zicboz = zicboz;
      svpbmt = svpbmt;
      above = above;
      interrupts = interrupts;
      mideleg = var 3;
      menvcfg = var 4;
      old = var 1;
      value = value;
    }

-- flag 9: the value lies above the highest address, which is the same for all capabilities
abbrev pub mine : Asked shown
mine = asking (flag 0) (flag 1) (flag 2) (flag 3) (flag 4) (flag 5) (flag 6) (flag 7) (flag 8) (flag 9) (var 2) value

abbrev pub others : Asked shown
others = asking (flag 10) (flag 11) (flag 12) (flag 13) (flag 14) (flag 15) (flag 16) (flag 17) (flag 18) (flag 9) (var 5) value

-- another value, and flag 19 of it
abbrev pub again : Asked shown
again = asking (flag 0) (flag 1) (flag 2) (flag 3) (flag 4) (flag 5) (flag 6) (flag 7) (flag 8) (flag 19) (var 2) (var 6)

abbrev yes! : B
yes! = lit 0 ≐ lit 0

abbrev no! : B
no! = isnt yes!

-- the three that answer for all others
abbrev pub widest : Asked shown
widest = asking yes! yes! yes! yes! no! yes! yes! yes! yes! (flag 9) (lit 0x2AAA) value

abbrev pub barest : Asked shown
barest = asking no! no! no! no! no! no! no! no! no! (flag 9) (lit 0) value

abbrev pub with_zfinx : Asked shown
with_zfinx = asking yes! no! no! no! yes! no! no! no! no! (flag 9) (lit 0x222) value

-- ---- of a register

module _ (r : Csr) where
  abbrev a : ℕ
  a = address_of r

  -- what is stored has 64 bits
  abbrev pub sized : Asked shown → Bool
  sized q = check [] (stores shown q r) (low 64 (stores shown q r))

  -- the bits that a write stores as they are written
  abbrev pub equal : Asked shown → W
  equal q = inv (value ⊕ low 64 (stores shown q r))

  abbrev pub kept : Asked shown → W
  kept q = cond (ignores r) (lit 0) (equal q)

  abbrev pub kept_if : Bool → Asked shown → W
  kept_if present q = cond present (kept q) (lit 0)

  abbrev pub elsewhere : W
  elsewhere =
      kept_if (is_present_with true true a) widest ∣ kept_if (is_present_with false false a) barest ∣ kept_if (is_present_with true false a) with_zfinx

  abbrev pub unstored : W
  unstored = cond (ignores r) (lit (2 ^ 64 - 1)) (lit 0)

  -- the bits for which a reason holds
  abbrev pub any_reason : W
  any_reason =
      unstored ∣ words.never shown a ∣ elsewhere ∣ words.reserved shown a value ∣ words.forced shown a
      ∣ words.ignored shown a (flag 9) value ∣ words.driven shown a (var 4)

  abbrev pub lost : W
  lost = (value ⊕ stores shown mine r) & compared_bits shown a (var 3)

  -- each lost bit has one
  abbrev pub explained : Bool
  explained = check [] (lost ∣ any_reason) any_reason

  -- other capabilities have no other interrupts than 0x2AAA, and have the register
  abbrev pub elsewhere_legal : List Given
  elsewhere_legal = same (var 5 & lit 0x2AAA) (var 5) ∷ cond (needs_s a) (holds (flag 10) ∷ []) []

  abbrev pub answered : Bool
  answered = check elsewhere_legal (kept others ∣ elsewhere) elsewhere

  -- so have these; and the word of mepc and sepc is aligned
  abbrev pub legal : List Given
  legal = same (var 2 & lit 0x2AAA) (var 2) ∷ cond (eqb a 0x341 || eqb a 0x141) (same (var 1 & lit 1) (lit 0) ∷ []) []

  abbrev pub untaken : Bool
  untaken = check legal (stores shown mine r & words.never shown a) (stores shown again r & words.never shown a)

  abbrev pub sizes : Bool
  sizes = sized others && (sized widest && (sized barest && sized with_zfinx))

  abbrev pub register : Bool
  register = explained && (answered && (untaken && sizes))

pub all_pass : each_found register ≡ true
unfolding stored_of place
all_pass = refl
