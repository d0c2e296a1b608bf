-- What the tests of the capabilities' words look at: whether a word has a bit, and whether it is
-- below a power of two.
use mathlib.Core.Path.{◌≡◌, refl, sym}
use mathlib.Core.Bool.{Bool, true, false}
use Prim.Native.Nat.{ℕ, ◌/◌, ◌<◌, ◌≤◌}
use lib.Dec.{eqb, ltb}
use borrow.Author.Tests.{eqb-true, eqb-false, lt-ltb, le-ltb}
use Rattle.bits.proofs.Decide.{W, B, lit, shr, low, ◌≐◌}

abbrev pub has : ℕ → W → B
has n w = low 1 (shr n w) ≐ lit 1

-- nothing from a power of two on: below it
pub below : (v k : ℕ) → (v / k ≡ 0 → v < k) → ((v / k ≡ 0 → ⊥) → k ≤ v) → eqb (v / k) 0 ≡ ltb v k
below v k small large = go (eqb (v / k) 0) refl
  where
    go : (t : Bool) → eqb (v / k) 0 ≡ t → t ≡ ltb v k
    go true e = sym (lt-ltb v k (small (eqb-true (v / k) 0 e)))
    go false e = sym (le-ltb v k (large (eqb-false (v / k) 0 e)))
