-- The default arm of a `match` knows that the number is none of the keys, as a tuple nested to the
-- left: so no row of the table has it. One law for a table of any length.
use mathlib.Core.Path.{◌≡◌, refl}
use mathlib.Core.List.{List, [], ◌∷◌}
use Prim.Native.Nat.{ℕ}
use lib.Dec.{eqb}
use borrow.Author.Tests.{ne_eqb}
use Rattle.first.specs.First.{first_of}

module _ {A B : Type 0} (key : A → ℕ) (said : A → B) (other : B) (n : ℕ) where
  -- T, and that n is the key of none of the list
  abbrev pub Absent : Type 0 → List A → Type 0
  Absent T [] = T
  Absent T (x ∷ xs) = Absent (T × (n ≡ key x → ⊥)) xs

  first : (T : Type 0) (xs : List A) → Absent T xs → T
  first T [] t = t
  first T (x ∷ xs) t = (first (T × (n ≡ key x → ⊥)) xs t).0

  pub missed : (T : Type 0) (xs : List A) → Absent T xs → first_of other said (λ x. eqb n (key x)) xs ≡ other
  missed T [] t = refl
  missed T (x ∷ xs) t =
      rw (ne_eqb n (key x) (first (T × (n ≡ key x → ⊥)) xs t).1) (missed (T × (n ≡ key x → ⊥)) xs t)
