-- The first of a list that passes a test, by what is said of it: the orders of interrupts, of
-- refusals and of the words of an image are read so. Source: arithmetic.
use Rattle.std.specs.Prelude.{Bool, cond, List, [], ◌∷◌}

-- what is said of the first that passes, or `none`
abbrev pub first_of : {A B : Type 0} → B → (A → B) → (A → Bool) → List A → B
first_of none said passes [] = none
first_of none said passes (x ∷ xs) = cond (passes x) (said x) (first_of none said passes xs)
