-- The laws of the first that passes: there is none exactly if `none` is given, and something else
-- is given exactly if it is said of the first one. Where numbers ascend, the first is the lowest.
use mathlib.Core.Path.{◌≡◌, refl, sym, ap, ◌∙◌, subst}
use mathlib.Core.Bool.{Bool, true, false, true≢false, cond, ◌&&◌}
use mathlib.Core.List.{List, [], ◌∷◌}
use mathlib.Core.Logic.{◌↔◌}
use Prim.Native.Nat.{ℕ, ◌≤◌, ◌<◌}
use native.Mathlib.Nat.{le_refl}
use native.Mathlib.Omega.{arith}
use lib.Dec.{ltb}
use borrow.Author.Tests.{ltb-true}
use Rattle.bits.proofs.Bools.{left, right}
use Rattle.first.specs.Laws.{Each, First, here, later, Ascending}
use Rattle.first.specs.First.{first_of}

module _ {A B : Type 0} (none : B) (said : A → B) (passes : A → Bool) where
  none_to : (xs : List A) → Each (λ x. said x ≡ none → ⊥) xs → first_of none said passes xs ≡ none → Each (λ x. passes x ≡ false) xs
  none_to [] z e = tt
  none_to (x ∷ xs) z e = go (passes x) refl e (none_to xs z.1)
    where
      go : (b : Bool) → passes x ≡ b → cond b (said x) (first_of none said passes xs) ≡ none
          → (first_of none said passes xs ≡ none → Each (λ y. passes y ≡ false) xs) → (passes x ≡ false) × Each (λ y. passes y ≡ false) xs
      go true q f next = absurd (z.0 f)
      go false q f next = (q, next f)

  none_from : (xs : List A) → Each (λ x. passes x ≡ false) xs → first_of none said passes xs ≡ none
  none_from [] f = refl
  none_from (x ∷ xs) f = ap (λ (b : Bool). cond b (said x) (first_of none said passes xs)) f.0 ∙ none_from xs f.1

  -- where `none` is said of none
  pub first_none : (xs : List A) → Each (λ x. said x ≡ none → ⊥) xs → (first_of none said passes xs ≡ none) ↔ Each (λ x. passes x ≡ false) xs
  first_none xs z = (none_to xs z, none_from xs)

  module _ (n : B) (z : n ≡ none → ⊥) where
    is_to : (xs : List A) → first_of none said passes xs ≡ n → First said passes n xs
    is_to [] e = absurd (z (sym e))
    is_to (x ∷ xs) e = go (passes x) refl e (is_to xs)
      where
        go : (b : Bool) → passes x ≡ b → cond b (said x) (first_of none said passes xs) ≡ n
            → (first_of none said passes xs ≡ n → First said passes n xs) → First said passes n (x ∷ xs)
        go true q f next = here q f
        go false q f next = later q (next f)

    is_from : (xs : List A) → First said passes n xs → first_of none said passes xs ≡ n
    is_from [] x' = elim x' [ ]
    is_from (x ∷ xs) (here q f) = ap (λ (b : Bool). cond b (said x) (first_of none said passes xs)) q ∙ f
    is_from (x ∷ xs) (later q f) = ap (λ (b : Bool). cond b (said x) (first_of none said passes xs)) q ∙ is_from xs f

    pub first_is : (xs : List A) → (first_of none said passes xs ≡ n) ↔ First said passes n xs
    first_is xs = (is_to xs, is_from xs)

-- what is so of each is so of it
pub first_has : {A B : Type 0} (said : A → B) (passes : A → Bool) (P : A → Type 0) (xs : List A) (n : B) → First said passes n xs → Each P xs
    → (x : A) × (said x ≡ n) × (passes x ≡ true) × P x
first_has {A = A} {B = B} said passes P [] n x'' e = elim x'' [ ]
first_has said passes P (x ∷ xs) n (here q f) e = (x, f, q, e.0)
first_has said passes P (x ∷ xs) n (later q f) e = first_has said passes P xs n f e.1

-- ---- numbers that ascend

module _ {A : Type 0} (number : A → ℕ) where
  -- whether they do is computed
  abbrev above : ℕ → List A → Bool
  above n [] = true
  above n (x ∷ xs) = ltb n (number x) && above n xs

  abbrev pub ascends : List A → Bool
  ascends [] = true
  ascends (x ∷ xs) = above (number x) xs && ascends xs

  pub ascending : (xs : List A) → ascends xs ≡ true → Ascending number xs
  ascending [] e = tt
  ascending (x ∷ xs) e = (each xs (left (above (number x) xs) (ascends xs) e), ascending xs (right (above (number x) xs) (ascends xs) e))
    where
      each : (us : List A) → above (number x) us ≡ true → Each (λ behind. number x < number behind) us
      each [] q = tt
      each (u ∷ us) q = (ltb-true (number x) (number u) (left (ltb (number x) (number u)) (above (number x) us) q), each us (right (ltb (number x) (number u)) (above (number x) us) q))

-- the number of the first that passes is the lowest of those that do
module _ {A B : Type 0} (said : A → B) (passes : A → Bool) (number : B → ℕ) where
  pub lowest : (xs : List A) (n : B) → Ascending (λ x. number (said x)) xs → First said passes n xs → Each (λ x. passes x ≡ true → number n ≤ number (said x)) xs
  lowest [] n a x'' = elim x'' [ ]
  lowest (x ∷ xs) n a (here q f) = (λ p. subst (λ (m : B). number n ≤ number m) (sym f) (le_refl (number n)), behind xs a.0)
    where
      behind : (us : List A) → Each (λ behind. number (said x) < number (said behind)) us → Each (λ u. passes u ≡ true → number n ≤ number (said u)) us
      behind [] b = tt
      behind (u ∷ us) b = (λ p. omega (arith, b.0, ap number f), behind us b.1)
  lowest (x ∷ xs) n a (later q f) = (λ p. absurd (true≢false (sym p ∙ q)), lowest xs n a.1 f)
