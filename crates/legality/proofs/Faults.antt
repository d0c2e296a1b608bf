-- The conditions of the words that go with S, on a hart that has S and on one that doesn't.
use mathlib.Core.Path.{◌≡◌, refl, sym, ◌∙◌}
use mathlib.Core.Bool.{Bool, true, false, and-false, not, ◌&&◌, ◌||◌}
use mathlib.Core.List.{List, [], ◌∷◌, ◌++◌}
use Prim.Native.Nat.{ℕ}
use native.Mathlib.Omega.{arith}
use lib.Dec.{eqb}
use borrow.Author.Tests.{eqb-true}
use Rattle.bits.specs.Masks.{only_if}
use Rattle.hart.specs.Caps.{has_s}
use Rattle.hart.specs.Legal.{x0_zero, legal_word, each_legal, legal_hart}
use Rattle.legality.specs.Inner.{alike}
use Rattle.hart.specs.declared.caps.Caps.{Caps}
use Rattle.hart.specs.declared.record.Hart.{Hart}
use Rattle.hart.specs.declared.record.Word.{Word}
use Rattle.hart.specs.declared.record.Word.TheVariants.{Mideleg, Medeleg, Mscratch, Mcause, Mtval, Mcycle, Minstret, Tselect, Stvec, Scounteren, Senvcfg, Sscratch, Sepc, Scause, Stval, Satp, Stimecmp}
use Rattle.hart.proofs.Legal.{in_any_order}

-- behind the words that are tested alike: those with a test where there is S ..
abbrev tested : List Word
tested = Sepc ∷ Stvec ∷ Scounteren ∷ Senvcfg ∷ Mideleg ∷ Medeleg ∷ Satp ∷ Stimecmp ∷ []

-- .. those that are 0 where there is none ..
abbrev zeros : List Word
zeros = Mideleg ∷ Medeleg ∷ Stvec ∷ Scounteren ∷ Senvcfg ∷ Sscratch ∷ Sepc ∷ Scause ∷ Stval ∷ Satp ∷ Stimecmp ∷ []

-- .. and those that are always legal
abbrev free : List Word
free = Mscratch ∷ Mcause ∷ Mtval ∷ Mcycle ∷ Minstret ∷ Tselect ∷ []

module _ (c : Caps) (s : has_s c ≡ true) where
  pub with_stimecmp : (t : Bool) (v : ℕ) → eqb (only_if (not t) v) 0 ≡ ((has_s c || eqb v 0) && (t || eqb v 0))
  with_stimecmp true v = rw s
  with_stimecmp false v = rw s

  pub legal_with_s : (h : Hart) → each_legal c h (x0_zero h) (alike ++ tested) ≡ legal_hart c h
  unfolding legal_word
  legal_with_s h = sym (rest (each_legal c h (x0_zero h) (alike ++ tested))) ∙ in_any_order c h (alike ++ (tested ++ (Sscratch ∷ Scause ∷ Stval ∷ free))) refl
    where
      rest : (t : Bool) → each_legal c h t (Sscratch ∷ Scause ∷ Stval ∷ free) ≡ t
      rest true = rw s
      rest false = refl

-- a word that has to be 0 meets a condition that 0 meets
pub zero_meets : (t : ℕ → Bool) → t 0 ≡ true → (v : ℕ) → (t v && eqb v 0) ≡ eqb v 0
zero_meets t z v = go (eqb v 0) refl
  where
    go : (b : Bool) → eqb v 0 ≡ b → (t v && b) ≡ b
    go true e = rw (eqb-true v 0 e, z)
    go false e = and-false (t v)

pub zero_alone : (z t : Bool) → (z && (t || z)) ≡ z
zero_alone z t = grind arith

module _ (c : Caps) (s : has_s c ≡ false) where
  pub legal_without_s : (h : Hart) → each_legal c h (x0_zero h) (alike ++ zeros) ≡ legal_hart c h
  unfolding legal_word
  legal_without_s h = sym (rest (each_legal c h (x0_zero h) (alike ++ zeros))) ∙ in_any_order c h (alike ++ (zeros ++ free)) refl
    where
      rest : (t : Bool) → each_legal c h t free ≡ t
      rest true = refl
      rest false = refl
