-- A record is legal exactly if x0 is 0 and each of its words is legal, in whatever order they are
-- tested.
use mathlib.Core.Path.{◌≡◌, refl, sym, ap, ◌∙◌, subst}
use mathlib.Core.Bool.{Bool, true, false, ◌&&◌, ◌||◌}
use mathlib.Core.List.{List, [], ◌∷◌}
use Prim.Native.Nat.{ℕ, zero, suc, ◌-◌, ◌%◌, ◌^◌, ◌<◌}
use native.Mathlib.Omega.{arith}
use native.Mathlib.Nat.{mod-lt, mod-eq_of_lt}
use lib.Dec.{eqb, leb, leb-suc-suc, ltb, T}
use lib.Pow.{pow_pos}
use lib.Bits.{bit_and, and_mask}
use borrow.Author.Tests.{eqb-true, eq-eqb, ne_eqb, lt-ltb, le-ltb, ltb-true}
use Rattle.bits.proofs.Bools.{≡→T, left, right, pair, same, every}
use Rattle.rules.specs.Config.{legal_counteren}
use Rattle.hart.specs.Words.{place_of, words, get}
use Rattle.hart.specs.Legal.{x0_zero, legal_word, each_legal, legal_hart}
use Rattle.hart.proofs.EveryWord.{every_word}
use Rattle.hart.proofs.Put.{place_same}
use Rattle.hart.specs.declared.caps.Caps.{Caps}
use Rattle.hart.specs.declared.record.Hart.{Hart}
use Rattle.hart.specs.declared.record.Word.{Word}

-- w is one of the words of the list
abbrev pub among : Word → List Word → Bool
among w [] = false
among w (u ∷ us) = eqb (place_of u) (place_of w) || among w us

module _ (c : Caps) (h : Hart) where
  each_first : (t : Bool) (ws : List Word) → each_legal c h t ws ≡ true → t ≡ true
  each_first t [] e = e
  each_first t (w ∷ ws) e = left t (legal_word c w (get w h)) (each_first (t && legal_word c w (get w h)) ws e)

  each_in : (w : Word) (t : Bool) (ws : List Word) → T (among w ws) → each_legal c h t ws ≡ true → legal_word c w (get w h) ≡ true
  each_in w t [] q e = absurd q
  each_in w t (u ∷ us) q e =
      go (eqb (place_of u) (place_of w)) refl q (right t (legal_word c u (get u h)) (each_first t' us e)) (λ r. each_in w t' us r e)
    where
      t' : Bool
      t' = t && legal_word c u (get u h)

      go : (b : Bool) → eqb (place_of u) (place_of w) ≡ b → T (b || among w us) → legal_word c u (get u h) ≡ true
          → (T (among w us) → legal_word c w (get w h) ≡ true) → legal_word c w (get w h) ≡ true
      go true r q' here there = subst (λ (x : Word). legal_word c x (get x h) ≡ true) (place_same u w (eqb-true (place_of u) (place_of w) r)) here
      go false r q' here there = there q'

  each_all : (t : Bool) (ws : List Word) → t ≡ true → ((w : Word) → legal_word c w (get w h) ≡ true) → each_legal c h t ws ≡ true
  each_all t [] e f = e
  each_all t (w ∷ ws) e f = each_all (t && legal_word c w (get w h)) ws (pair t (legal_word c w (get w h)) e (f w)) f

  module _ (e : legal_hart c h ≡ true) where
    pub x0_zero_lem : x0_zero h ≡ true
    unfolding legal_hart
    x0_zero_lem = each_first (x0_zero h) words e

    pub legal_word_lem : (w : Word) → legal_word c w (get w h) ≡ true
    unfolding legal_hart
    legal_word_lem w = each_in w (x0_zero h) words (≡→T (among w words) (every_word (λ u. among u words) refl w)) e

  pub legal_all : x0_zero h ≡ true → ((w : Word) → legal_word c w (get w h) ≡ true) → legal_hart c h ≡ true
  unfolding legal_hart
  legal_all x f = each_all (x0_zero h) words x f

  -- the words may be tested in any order
  pub in_any_order : (ws : List Word) → every (λ w. among w ws) words ≡ true → each_legal c h (x0_zero h) ws ≡ legal_hart c h
  in_any_order ws p = same (each_legal c h (x0_zero h) ws) (legal_hart c h) there back
    where
      there : each_legal c h (x0_zero h) ws ≡ true → legal_hart c h ≡ true
      there e = legal_all (each_first (x0_zero h) ws e) (λ w. each_in w (x0_zero h) ws (≡→T (among w ws) (every_word (λ u. among u ws) p w)) e)

      back : legal_hart c h ≡ true → each_legal c h (x0_zero h) ws ≡ true
      back e = each_all (x0_zero h) ws (x0_zero_lem e) (legal_word_lem e)

-- nothing but the lowest bits: below a power of two
lowest : (v k : ℕ) → eqb (bit_and v (2 ^ k - 1)) v ≡ ltb v (2 ^ k)
lowest v k = ap (λ (x : ℕ). eqb x v) (and_mask v k) ∙ same (eqb (v % 2 ^ k) v) (ltb v (2 ^ k)) there back
  where
    there : eqb (v % 2 ^ k) v ≡ true → ltb v (2 ^ k) ≡ true
    there e = lt-ltb v (2 ^ k) (subst (λ (x : ℕ). x < 2 ^ k) (eqb-true (v % 2 ^ k) v e) (mod-lt v (pow_pos k)))

    back : ltb v (2 ^ k) ≡ true → eqb (v % 2 ^ k) v ≡ true
    back e = eq-eqb (v % 2 ^ k) v (mod-eq_of_lt (ltb-true v (2 ^ k) e))

pub is_waiting : (v : ℕ) → eqb (bit_and v 1) v ≡ (eqb v 0 || eqb v 1)
is_waiting v = lowest v 1 ∙ two v
  where
    two : (n : ℕ) → ltb n 2 ≡ (eqb n 0 || eqb n 1)
    two zero = refl
    two (suc zero) = refl
    two (suc (suc n)) = le-ltb (suc (suc n)) 2 (omega arith) ∙ sym (rw (ne_eqb (suc (suc n)) 0 (λ e. omega arith), ne_eqb (suc (suc n)) 1 (λ e. omega arith)))

pub is_counteren : (v : ℕ) → eqb (legal_counteren v) v ≡ leb v 7
unfolding legal_counteren
is_counteren v = lowest v 3 ∙ leb-suc-suc v 7
