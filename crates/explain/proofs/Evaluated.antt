-- The words of the reasons as expressions, evaluated, are those of the definitions, whatever the
-- address.
use Prim.Native.Nat.{ℕ}
use mathlib.Core.Bool.{◌||◌}
use mathlib.Core.List.{List, [], ◌∷◌, map}
use mathlib.Core.Path.{◌≡◌, refl, ap₂, ap}
use Prim.Native.Nat.{◌-◌, ◌^◌}
use lib.Bits.{bit_or}
use lib.Dec.{eqb}
use Rattle.bits.specs.Alg.{plain}
use Rattle.bits.proofs.Chosen.{either}
use Rattle.bits.proofs.Decide.{W, B, Env, eval, test}
use Rattle.bits.proofs.Shown.{shown}
use Rattle.first.specs.First.{first_of}
use Rattle.explain.specs.Lost.{all, compared_bits}
use Rattle.explain.specs.Reasons.{taken, taken_at, never, reserved, forced, ignored, driven}

module _ (ρ : Env) (a : ℕ) where
  -- the first of a list by its key
  keyed : (ks : List (ℕ × W)) (other : W)
      → eval (first_of other (λ (k : ℕ × W). k.1) (λ (k : ℕ × W). eqb a k.0) ks) ρ ≡ first_of (eval other ρ) (λ (k : ℕ × ℕ). k.1) (λ (k : ℕ × ℕ). eqb a k.0) (map (λ (k : ℕ × W). (k.0, eval k.1 ρ)) ks)
  keyed [] other = refl
  keyed (k ∷ ks) other = either ρ (eqb a k.0) _ _ refl (keyed ks other)

  taken_is : eval (taken_at shown a) ρ ≡ taken_at plain a
  taken_is = keyed (taken shown) (all shown)

  pub forced_is : eval (forced shown a) ρ ≡ forced plain a
  forced_is = either ρ (eqb a 0x300) _ _ refl (either ρ (eqb a 0x100) _ _ refl (either ρ (eqb a 0x303) _ _ refl refl))

  pub never_is : eval (never shown a) ρ ≡ never plain a
  never_is = ap (λ (n : ℕ). (2 ^ 64 - 1) - n) (ap₂ bit_or taken_is forced_is)

  pub reserved_is : (v : W) → eval (reserved shown a v) ρ ≡ reserved plain a (eval v ρ)
  reserved_is v =
      either ρ (eqb a 0x300) _ _ refl (either ρ (eqb a 0x30A || eqb a 0x10A) _ _ refl (either ρ (eqb a 0x305 || eqb a 0x105) _ _ refl refl))

  pub ignored_is : (above : B) (v : W) → eval (ignored shown a above v) ρ ≡ ignored plain a (test above ρ) (eval v ρ)
  ignored_is above v = either ρ (eqb a 0x341 || eqb a 0x141) _ _ refl (either ρ (eqb a 0x180) _ _ refl refl)

  pub driven_is : (menvcfg : W) → eval (driven shown a menvcfg) ρ ≡ driven plain a (eval menvcfg ρ)
  driven_is menvcfg = either ρ (eqb a 0x344) _ _ refl refl

  pub compared_is : (mideleg : W) → eval (compared_bits shown a mideleg) ρ ≡ compared_bits plain a (eval mideleg ρ)
  compared_is mideleg = either ρ (eqb a 0x100) _ _ refl (either ρ (eqb a 0x104 || eqb a 0x144) _ _ refl refl)
