-- What the laws of interrupts, refusals and faults say of a list: that something is so of each,
-- that something is said of the first that passes a test, and that the numbers ascend.
use Rattle.std.specs.Prelude.{ℕ, ◌<◌, Bool, true, false, List, [], ◌∷◌, ◌≡◌}

-- it is so of each of the list
abbrev pub Each : {A : Type 0} → (A → Type 0) → List A → Type 0
Each P [] = Unit {0}
Each P (x ∷ xs) = P x × Each P xs

-- b is said of the first that passes
pub data First {A B : Type 0} (said : A → B) (passes : A → Bool) (b : B) : List A → Type 0 where
  here : {x : A} {xs : List A} → passes x ≡ true → said x ≡ b → First said passes b (x ∷ xs)
  later : {x : A} {xs : List A} → passes x ≡ false → First said passes b xs → First said passes b (x ∷ xs)

-- no number is followed by one that isn't above it
abbrev pub Ascending : {A : Type 0} → (A → ℕ) → List A → Type 0
Ascending number [] = Unit {0}
Ascending number (x ∷ xs) = Each (λ behind. number x < number behind) xs × Ascending number xs
