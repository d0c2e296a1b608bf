-- Laws of the registers that hold addresses, on words.
use mathlib.Core.Path.{◌≡◌, ap}
use mathlib.Core.Bool.{Bool, true, false, not}
use mathlib.Core.List.{[], ◌∷◌}
use Prim.Native.Nat.{ℕ}
use lib.Dec.{ltb}
use borrow.Author.Tests.{eq-eqb}
use Rattle.bits.specs.Word.{Fits}
use Rattle.bits.proofs.Decide.{var, lit, flag, low, ◌≐◌, holds, isnt, env1, env2, env3, by_bits, by_bits_if, by_test_if, below_64}
use Rattle.bits.proofs.Shown.{shown}
use Rattle.rules.specs.Addresses.{tvec_mode, tvec, aligned, epc, satp_mode, satp, is_tvec_mode, written_tvec, is_aligned, written_epc, is_satp_mode, written_satp}
use Rattle.rules.specs.Laws.{FoursAligned}

-- mtvec and stvec, over the stored word m
module _ (m : ℕ) (hm : Fits m) where
  pub tvec_fits : (v : ℕ) → Fits v → Fits (written_tvec m v)
  unfolding written_tvec
  tvec_fits v h = below_64 (tvec shown (var 0) (var 1)) tt (env2 m v hm h [])

  pub tvec_legal : (v : ℕ) → Fits v → is_tvec_mode m ≡ true → is_tvec_mode (written_tvec m v) ≡ true
  unfolding is_tvec_mode written_tvec
  tvec_legal v h e = by_test_if (holds (tvec_mode shown (var 0)) ∷ []) (tvec_mode shown (tvec shown (var 0) (var 1))) tt (env2 m v hm h []) (e, tt)

  pub tvec_back : written_tvec m m ≡ m
  unfolding written_tvec
  tvec_back = by_bits (tvec shown (var 0) (var 0)) (var 0) tt (env1 m hm [])

  pub tvec_twice : (v w : ℕ) → Fits v → Fits w → is_tvec_mode w ≡ true → written_tvec (written_tvec m v) w ≡ written_tvec m w
  unfolding is_tvec_mode written_tvec
  tvec_twice v w hv hw e =
      by_bits_if (holds (tvec_mode shown (var 2)) ∷ []) (tvec shown (tvec shown (var 0) (var 1)) (var 2)) (tvec shown (var 0) (var 2)) tt
      (env3 m v w hm hv hw []) (e, tt)

-- mepc and sepc, over the highest valid address, C and the stored word m
module _ (top : ℕ) (c : Bool) (m : ℕ) (hm : Fits m) where
  pub epc_fits : (v : ℕ) → Fits v → Fits (written_epc top c m v)
  unfolding written_epc
  epc_fits v h = below_64 (epc shown (flag 0) (flag 1) (var 0) (var 1)) tt (env2 m v hm h (c ∷ ltb top v ∷ []))

  pub epc_legal : (v : ℕ) → Fits v → is_aligned c m ≡ true → is_aligned c (written_epc top c m v) ≡ true
  unfolding is_aligned written_epc
  epc_legal v h e =
      by_test_if (holds (aligned shown (flag 0) (var 0)) ∷ []) (aligned shown (flag 0) (epc shown (flag 0) (flag 1) (var 0) (var 1))) tt
      (env2 m v hm h (c ∷ ltb top v ∷ [])) (e, tt)

  pub epc_back : is_aligned c m ≡ true → written_epc top c m m ≡ m
  unfolding is_aligned written_epc
  epc_back e =
      by_bits_if (holds (aligned shown (flag 0) (var 0)) ∷ []) (epc shown (flag 0) (flag 1) (var 0) (var 0)) (var 0) tt
      (env1 m hm (c ∷ ltb top m ∷ [])) (e, tt)

  pub epc_twice : (v w : ℕ) → Fits v → Fits w → ltb top w ≡ false → written_epc top c (written_epc top c m v) w ≡ written_epc top c m w
  unfolding written_epc
  epc_twice v w hv hw e =
      by_bits_if (holds (isnt (flag 2)) ∷ []) (epc shown (flag 0) (flag 2) (epc shown (flag 0) (flag 1) (var 0) (var 1)) (var 2)) (epc shown (flag 0) (flag 2) (var 0) (var 2)) tt
      (env3 m v w hm hv hw (c ∷ ltb top v ∷ ltb top w ∷ [])) (ap not e, tt)

-- satp, over the stored word m
module _ (m : ℕ) (hm : Fits m) where
  pub satp_fits : (v : ℕ) → Fits v → Fits (written_satp m v)
  unfolding written_satp
  satp_fits v h = below_64 (satp shown (var 0) (var 1)) tt (env2 m v hm h [])

  pub satp_legal : (v : ℕ) → Fits v → is_satp_mode m ≡ true → is_satp_mode (written_satp m v) ≡ true
  unfolding is_satp_mode written_satp
  satp_legal v h e = by_test_if (holds (satp_mode shown (var 0)) ∷ []) (satp_mode shown (satp shown (var 0) (var 1))) tt (env2 m v hm h []) (e, tt)

  pub satp_back : written_satp m m ≡ m
  unfolding written_satp
  satp_back = by_bits (satp shown (var 0) (var 0)) (var 0) tt (env1 m hm [])

  pub satp_twice : (v w : ℕ) → Fits v → Fits w → is_satp_mode w ≡ true → written_satp (written_satp m v) w ≡ written_satp m w
  unfolding is_satp_mode written_satp
  satp_twice v w hv hw e =
      by_bits_if (holds (satp_mode shown (var 2)) ∷ []) (satp shown (satp shown (var 0) (var 1)) (var 2)) (satp shown (var 0) (var 2)) tt
      (env3 m v w hm hv hw []) (e, tt)

pub fours_aligned : FoursAligned
unfolding is_aligned
fours_aligned c v h e = by_test_if (holds (low 2 (var 0) ≐ lit 0) ∷ []) (aligned shown (flag 0) (var 0)) tt (env1 v h (c ∷ [])) (eq-eqb _ _ e, tt)
