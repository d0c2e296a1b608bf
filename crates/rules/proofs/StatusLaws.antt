-- Laws of mstatus and sstatus, on words.
use mathlib.Core.Path.{◌≡◌, ap, ◌∙◌}
use mathlib.Core.Bool.{Bool}
use mathlib.Core.List.{List, [], ◌∷◌}
use Prim.Native.Nat.{ℕ}
use lib.Dec.{T, lit<}
use Rattle.bits.specs.Alg.{plain}
use Rattle.bits.specs.Word.{Fits}
use Rattle.bits.proofs.Decide.{W, Given, var, lit, low, flag, ◌≐◌, both, either, eval, same, holds, env1, env2, env3, by_bits, by_bits_if, by_test, below_64}
use Rattle.bits.proofs.Run.{check}
use Rattle.bits.proofs.Sound.{Holds}
use Rattle.bits.proofs.Shown.{shown}
use Rattle.bits.proofs.Laws.{kept_fits, kept_within, merged_fits, back_changes_nothing}
use Rattle.rules.specs.Status.{mstatus, sstatus_bits, sstatus_merged, legal_mstatus, read_sstatus, merged_sstatus}
use Rattle.rules.specs.Fields.{fields}
use Rattle.rules.specs.Laws.{Again, LegalMstatus, FieldsFree, MppIsMode}
open fields shown use {MPP, set_sie, set_mie, set_spie, set_mpie, set_spp, set_mpp, set_mprv}

-- mstatus as it is stored, by the flags S, FS and VS
abbrev legalized : W → W
legalized = mstatus shown (flag 0) (flag 1) (flag 2)

abbrev sstatus : W → W → W
sstatus m v = legalized (sstatus_merged shown m v)

-- the bits of mstatus that sstatus shows
abbrev shown_bits : ℕ
shown_bits = sstatus_bits plain

pub sstatus_read_fits : (m : ℕ) → Fits m → Fits (read_sstatus m)
unfolding read_sstatus
sstatus_read_fits m h = kept_fits m _ h

module _ (s fs vs : Bool) where
  pub mstatus_again : Again (legal_mstatus s fs vs)
  unfolding legal_mstatus
  mstatus_again v h = by_bits (legalized (legalized (var 0))) (legalized (var 0)) tt (env1 v h (s ∷ fs ∷ vs ∷ []))

  pub mstatus_fits : (v : ℕ) → Fits v → Fits (legal_mstatus s fs vs v)
  unfolding legal_mstatus
  mstatus_fits v h = below_64 (legalized (var 0)) tt (env1 v h (s ∷ fs ∷ vs ∷ []))

  -- what a write of sstatus stores
  abbrev written : ℕ → ℕ → ℕ
  written m v = legal_mstatus s fs vs (merged_sstatus m v)

  pub sstatus_fits : (m v : ℕ) → Fits m → Fits v → Fits (written m v)
  unfolding merged_sstatus
  sstatus_fits m v hm hv = mstatus_fits _ (merged_fits m v shown_bits hm hv (lit< tt))

  -- what sstatus stores is a legal mstatus
  pub sstatus_legal : (m v : ℕ) → Fits m → Fits v → legal_mstatus s fs vs (written m v) ≡ written m v
  unfolding merged_sstatus
  sstatus_legal m v hm hv = mstatus_again _ (merged_fits m v shown_bits hm hv (lit< tt))

  pub sstatus_back : (m : ℕ) → Fits m → legal_mstatus s fs vs m ≡ m → written m (read_sstatus m) ≡ m
  unfolding read_sstatus merged_sstatus
  sstatus_back m hm e = ap (legal_mstatus s fs vs) (back_changes_nothing m _ shown_bits hm (kept_fits m _ hm) (lit< tt) (kept_within m shown_bits hm (lit< tt))) ∙ e

  pub sstatus_twice : (m v w : ℕ) → Fits m → Fits v → Fits w → written (written m v) w ≡ written m w
  unfolding legal_mstatus merged_sstatus
  sstatus_twice m v w hm hv hw = by_bits (sstatus (sstatus (var 0) (var 1)) (var 2)) (sstatus (var 0) (var 2)) tt (env3 m v w hm hv hw (s ∷ fs ∷ vs ∷ []))

  -- what is made of a legal word m and of x is legal, where the tests say so
  stays : (a : W) (gs : List Given) → T (check (same (legalized (var 0)) (var 0) ∷ gs) (legalized a) a) → T (check [] a (low 64 a)) → (x : ℕ) (hx : Fits x) (m : ℕ) (l : LegalMstatus s fs vs m)
      → Holds (env2 m x l.fits hx (s ∷ fs ∷ vs ∷ [])) gs → LegalMstatus s fs vs (eval a (env2 m x l.fits hx (s ∷ fs ∷ vs ∷ [])))
  unfolding legal_mstatus
  stays a gs t u x hx m l g = record {
    fits = below_64 a u (env2 m x l.fits hx (s ∷ fs ∷ vs ∷ []));
    legal = by_bits_if (same (legalized (var 0)) (var 0) ∷ gs) (legalized a) a t (env2 m x l.fits hx (s ∷ fs ∷ vs ∷ [])) (l.legal, g);
  }

  abbrev if_s : List Given
  if_s = holds (flag 0) ∷ []

  pub fields_free : FieldsFree s fs vs
  fields_free = record {
    mie = λ x hx m l. stays (set_mie (var 1) (var 0)) [] tt tt x hx m l tt;
    mpie = λ x hx m l. stays (set_mpie (var 1) (var 0)) [] tt tt x hx m l tt;
    mprv = λ x hx m l. stays (set_mprv (var 1) (var 0)) [] tt tt x hx m l tt;
    mpp_u = λ m l. stays (set_mpp (lit 0) (var 0)) [] tt tt m l.fits m l tt;
    mpp_s = λ p m l. stays (set_mpp (lit 1) (var 0)) if_s tt tt m l.fits m l (p, tt);
    mpp_m = λ m l. stays (set_mpp (lit 3) (var 0)) [] tt tt m l.fits m l tt;
    sie = λ p x hx m l. stays (set_sie (var 1) (var 0)) if_s tt tt x hx m l (p, tt);
    spie = λ p x hx m l. stays (set_spie (var 1) (var 0)) if_s tt tt x hx m l (p, tt);
    spp = λ p x hx m l. stays (set_spp (var 1) (var 0)) if_s tt tt x hx m l (p, tt);
  }

pub mpp_is_mode : MppIsMode
unfolding legal_mstatus
mpp_is_mode s fs vs v h =
    let x = MPP (legalized (var 0)) in
    by_test (either (either (x ≐ lit 0) (both (x ≐ lit 1) (flag 0))) (x ≐ lit 3)) tt (env1 v h (s ∷ fs ∷ vs ∷ []))
