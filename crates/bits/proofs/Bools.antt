-- What a test that passed, or did not, says of its parts.
use mathlib.Core.Path.{◌≡◌, refl, sym, subst}
use mathlib.Core.Bool.{Bool, true, false, not, ◌&&◌, ◌||◌, beq}
use mathlib.Core.List.{List, [], ◌∷◌}
use lib.Dec.{T}
use native.Mathlib.Omega.{arith}
use Rattle.std.proofs.lemmas.Bool.{and_parts}
pub use Rattle.std.proofs.lemmas.Bool.{and_from as pair, or_left, or_right}

pub and_l : (a b : Bool) → T (a && b) → T a
and_l true b t = tt
and_l false b t = t

pub and_r : (a b : Bool) → T (a && b) → T b
and_r true b t = t
and_r false b t = absurd t

pub T→≡ : (b : Bool) → T b → b ≡ true
T→≡ true t = refl
T→≡ false t = absurd t

pub ≡→T : (b : Bool) → b ≡ true → T b
≡→T b e = subst T (sym e) tt

pub beq→≡ : (x y : Bool) → beq x y ≡ true → x ≡ y
beq→≡ x y e = grind arith

pub not_beq : (x y : Bool) → beq x y ≡ false → x ≡ y → ⊥
not_beq x y e r = grind arith

-- the same facts as equations
pub left : (a b : Bool) → (a && b) ≡ true → a ≡ true
left a b e = (and_parts a b e).0

pub right : (a b : Bool) → (a && b) ≡ true → b ≡ true
right a b e = (and_parts a b e).1

pub implied : (a b : Bool) → (not a || b) ≡ true → a ≡ true → b ≡ true
implied a b e f = grind arith

-- two tests that pass together
pub same : (a b : Bool) → (a ≡ true → b ≡ true) → (b ≡ true → a ≡ true) → a ≡ b
same a b f g = grind arith

-- each of the list passes the test
abbrev pub every : {A : Type 0} → (A → Bool) → List A → Bool
every t [] = true
every t (x ∷ xs) = t x && every t xs
