-- What the judge's answer says: the entry refuses with it, or both images are of their sizes and it
-- goes. One law for whatever an entry gives.
use mathlib.Core.Path.{◌≡◌, refl, ap}
use mathlib.Core.Bool.{Bool, true, false, cond, ◌&&◌}
use mathlib.Core.List.{List}
use Prim.Native.Nat.{ℕ}
use native.Mathlib.Omega.{arith}
use lib.Dec.{eqb}
use lib.ListN.{length}
use borrow.Author.Tests.{eqb-true}
use Rattle.std.specs.Prelude.{Result, Ok, Err}
use Rattle.bits.proofs.Bools.{left}
use Rattle.hart.specs.Caps.{legal_caps}
use Rattle.hart.specs.declared.answer.Refusal.{Refusal}
use Rattle.hart.specs.declared.answer.Refusal.TheVariants.{BadCaps, BadHart}
use Rattle.lent.specs.Images.{caps_bytes, hart_bytes, caps_at, is_caps, is_hart}
use Rattle.lent.specs.Inner.{judged_under, judged}

-- the answer by the three tests: the capability image's size, its words, and the hart image
abbrev by_tests : Bool → Bool → Bool → Result (Unit {0}) Refusal
by_tests a b d = cond a (cond b (cond d (Ok tt) (Err BadHart)) (Err BadCaps)) (Err BadCaps)

refused : {A : Type 0} {why : Refusal} → ◌≡◌ {A = Result (Unit {0}) Refusal} (Err why) (Ok tt) → A
refused e = let z : ◌≡◌ {A = ℕ} 0 1 = cc in absurd (omega arith)

module _ (c s : List ℕ) where
  pub images_sized : judged c s ≡ Ok tt → (length c ≡ caps_bytes) × (length s ≡ hart_bytes)
  unfolding is_hart judged judged_under
  images_sized = go (eqb (length c) caps_bytes) (legal_caps (caps_at c)) (is_hart (caps_at c) s) refl refl
    where
      go : (a b d : Bool) → eqb (length c) caps_bytes ≡ a → is_hart (caps_at c) s ≡ d → by_tests a b d ≡ Ok tt → (length c ≡ caps_bytes) × (length s ≡ hart_bytes)
      go true true true p q e = (eqb-true (length c) caps_bytes p, eqb-true (length s) hart_bytes (left (eqb (length s) hart_bytes) _ q))
      go true true false p q e = refused e
      go true false d p q e = refused e
      go false b d p q e = refused e

  -- what is refused, and what is given where the images are legal
  module _ {A : Type 0} (bad : Refusal → A) (good : A) where
    abbrev pub tested : A
    tested = cond (is_caps c) (cond (is_hart (caps_at c) s) good (bad BadHart)) (bad BadCaps)

    pub is_bad : {why : Refusal} → judged c s ≡ Err why → tested ≡ bad why
    unfolding is_caps judged judged_under
    is_bad {why = why} = go (eqb (length c) caps_bytes) (legal_caps (caps_at c)) (is_hart (caps_at c) s)
      where
        go : (a b d : Bool) → by_tests a b d ≡ Err why → cond (a && b) (cond d good (bad BadHart)) (bad BadCaps) ≡ bad why
        go true true true e = let z : ◌≡◌ {A = ℕ} 0 1 = cc in absurd (omega arith)
        go true true false e = let same : BadHart ≡ why = cc in ap bad same
        go true false d e = let same : BadCaps ≡ why = cc in ap bad same
        go false b d e = let same : BadCaps ≡ why = cc in ap bad same

    pub is_good : judged c s ≡ Ok tt → tested ≡ good
    unfolding is_caps judged judged_under
    is_good = go (eqb (length c) caps_bytes) (legal_caps (caps_at c)) (is_hart (caps_at c) s)
      where
        go : (a b d : Bool) → by_tests a b d ≡ Ok tt → cond (a && b) (cond d good (bad BadHart)) (bad BadCaps) ≡ good
        go true true true e = refl
        go true true false e = refused e
        go true false d e = refused e
        go false b d e = refused e
