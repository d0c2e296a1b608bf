-- Laws of the counters' masks, menvcfg, senvcfg and tselect, on words.
use mathlib.Core.Path.{◌≡◌, ◌∙◌}
use mathlib.Core.Bool.{Bool, true}
use mathlib.Core.List.{[], ◌∷◌}
use Prim.Native.Nat.{ℕ}
use native.Mathlib.Nat.{mod-eq_of_lt}
use native.Mathlib.Omega.{arith}
use lib.Bits.{bit_and, and_le_r, and_mask}
use lib.Dec.{leb, lit<}
use borrow.Author.Tests.{leb-true, le-leb}
use Rattle.bits.specs.Word.{Fits}
use Rattle.bits.proofs.Decide.{W, var, flag, env1, by_bits, below_64}
use Rattle.bits.proofs.Shown.{shown}
use Rattle.bits.proofs.Laws.{kept_fits, kept_within}
use Rattle.rules.specs.Config.{senvcfg, menvcfg, legal_counteren, legal_countinhibit, legal_senvcfg, legal_menvcfg, tselect_read, read_tselect}
use Rattle.rules.specs.Laws.{Again}

module _ (v : ℕ) (h : Fits v) where
  pub counteren_fits : Fits (legal_counteren v)
  unfolding legal_counteren
  counteren_fits = kept_fits v 7 h

  pub counteren_legal : leb (legal_counteren v) 7 ≡ true
  unfolding legal_counteren
  counteren_legal = le-leb (bit_and v 7) 7 (and_le_r v 7)

  -- CY, TM and IR are the three lowest bits
  pub counteren_back : leb v 7 ≡ true → legal_counteren v ≡ v
  unfolding legal_counteren
  counteren_back e = and_mask v 3 ∙ mod-eq_of_lt (let q = leb-true v 7 e in omega arith)

pub counteren_again : Again legal_counteren
unfolding legal_counteren
counteren_again v h = kept_within v 7 h (lit< tt)

pub countinhibit_fits : (v : ℕ) → Fits v → Fits (legal_countinhibit v)
unfolding legal_countinhibit
countinhibit_fits v h = kept_fits v 5 h

pub countinhibit_again : Again legal_countinhibit
unfolding legal_countinhibit
countinhibit_again v h = kept_within v 5 h (lit< tt)

-- menvcfg by the flags Zicbom, Zicboz, Svpbmt and Sstc, and senvcfg by the first two
abbrev menv : W → W
menv = menvcfg shown (flag 0) (flag 1) (flag 2) (flag 3)

abbrev senv : W → W
senv = senvcfg shown (flag 0) (flag 1)

module _ (zicbom zicboz svpbmt sstc : Bool) where
  pub menvcfg_again : Again (legal_menvcfg zicbom zicboz svpbmt sstc)
  unfolding legal_menvcfg
  menvcfg_again v h = by_bits (menv (menv (var 0))) (menv (var 0)) tt (env1 v h (zicbom ∷ zicboz ∷ svpbmt ∷ sstc ∷ []))

  pub menvcfg_fits : (v : ℕ) → Fits v → Fits (legal_menvcfg zicbom zicboz svpbmt sstc v)
  unfolding legal_menvcfg
  menvcfg_fits v h = below_64 (menv (var 0)) tt (env1 v h (zicbom ∷ zicboz ∷ svpbmt ∷ sstc ∷ []))

module _ (zicbom zicboz : Bool) where
  pub senvcfg_again : Again (legal_senvcfg zicbom zicboz)
  unfolding legal_senvcfg
  senvcfg_again v h = by_bits (senv (senv (var 0))) (senv (var 0)) tt (env1 v h (zicbom ∷ zicboz ∷ []))

  pub senvcfg_fits : (v : ℕ) → Fits v → Fits (legal_senvcfg zicbom zicboz v)
  unfolding legal_senvcfg
  senvcfg_fits v h = below_64 (senv (var 0)) tt (env1 v h (zicbom ∷ zicboz ∷ []))

pub tselect_fits : (v : ℕ) → Fits v → Fits (read_tselect v)
tselect_fits v h = below_64 (tselect_read shown (var 0)) tt (env1 v h [])
