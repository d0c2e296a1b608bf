-- Laws of the interrupt registers, on words.
use mathlib.Core.Path.{◌≡◌, refl}
use mathlib.Core.Bool.{Bool, true, false}
use mathlib.Core.List.{[], ◌∷◌}
use Prim.Native.Nat.{ℕ}
use lib.Bits.{bit_and, bit_or, or_lt, or_zero_r}
use lib.Dec.{T, lit<}
use Rattle.bits.specs.Alg.{plain}
use Rattle.bits.specs.Word.{Fits, bit}
use Rattle.bits.proofs.Decide.{W, B, Given, var, lit, ◌&◌, ◌∣◌, flag, ◌≐◌, same, env1, env2, env3, by_bits_if, by_test, by_tests, below_64}
use Rattle.bits.proofs.Run.{alike}
use Rattle.bits.proofs.Shown.{shown}
use Rattle.bits.proofs.Laws.{kept_fits, kept_within, row_again, merged_fits, merged_within, back_changes_nothing, merged_twice}
use Rattle.rules.specs.Interrupts.{mie, delegated, mip_shown, mip_writable, sip, seip, mideleg, legal_mie, read_delegated, read_mip, written_sie, written_mip, written_sip, has_seip, legal_mideleg, legal_medeleg}
use Rattle.rules.specs.Laws.{Again, LegalLevels}
open shown use {field}

-- the controller raises SEIP
abbrev raised : B
raised = lit 1 ≐ lit 1

-- with S the interrupts have 0x222
abbrev has222 : W → Given
has222 i = same (i & lit 0x222) (lit 0x222)

pub delegated_fits : (d m : ℕ) → Fits d → Fits m → Fits (read_delegated d m)
unfolding read_delegated
delegated_fits d m hd hm = kept_fits m _ hm

-- what mip shows of a stored word, whether the controller raises SEIP or not
module _ (up : Bool) (m : ℕ) (hm : Fits m) where
  pub mip_read_fits : Fits (read_mip up m)
  unfolding read_mip
  mip_read_fits = below_64 (mip_shown shown (flag 0) (var 0)) tt (env1 m hm (up ∷ []))

  -- a hart with S has this interrupt
  pub mip_read_within : (i : ℕ) → Fits i → bit_and i 0x222 ≡ 0x222 → bit_and m i ≡ m → bit_and (read_mip up m) i ≡ read_mip up m
  unfolding read_mip
  mip_read_within i hi e f =
      by_bits_if (has222 (var 0) ∷ same (var 1 & var 0) (var 1) ∷ []) (mip_shown shown (flag 0) (var 1) & var 0) (mip_shown shown (flag 0) (var 1)) tt
      (env2 i m hi hm (up ∷ [])) (e, (f, tt))

  -- the controller's signal is no interrupt of machine level
  pub mip_read_machine : (bit 11 (read_mip up m) ≡ bit 11 m) × ((bit 3 (read_mip up m) ≡ bit 3 m) × (bit 7 (read_mip up m) ≡ bit 7 m))
  unfolding read_mip
  mip_read_machine = (same_bit 11 tt, (same_bit 3 tt, same_bit 7 tt))
    where
      same_bit : (n : ℕ) → T (alike (field n 1 (mip_shown shown (flag 0) (var 0)) ≐ lit 1) (field n 1 (var 0) ≐ lit 1)) → bit n (read_mip up m) ≡ bit n m
      same_bit n t = by_tests (field n 1 (mip_shown shown (flag 0) (var 0)) ≐ lit 1) (field n 1 (var 0) ≐ lit 1) t (env1 m hm (up ∷ []))

-- where it does, bit 9 is shown; where it doesn't, the stored word
pub mip_up : (m : ℕ) → read_mip true m ≡ bit_or m 0x200
unfolding read_mip
mip_up m = refl

pub mip_down : (m : ℕ) → read_mip false m ≡ m
unfolding read_mip
mip_down m = or_zero_r m

-- so does sip, since a legal mideleg delegates SEI
pub sip_up : (i d m : ℕ) → Fits i → Fits d → Fits m → legal_mideleg i d ≡ d → read_delegated d (read_mip true m) ≡ bit_or (read_delegated d m) 0x200
unfolding read_mip read_delegated legal_mideleg
sip_up i d m hi hd hm e =
    by_bits_if (same (mideleg shown (var 0) (var 1)) (var 1) ∷ []) (delegated shown (var 1) (mip_shown shown raised (var 2))) (delegated shown (var 1) (var 2) ∣ lit 0x200) tt
    (env3 i d m hi hd hm []) (e, tt)

-- mie and mideleg, over the interrupts i
module _ (i : ℕ) (hi : Fits i) where
  pub mie_again : Again (legal_mie i)
  unfolding legal_mie
  mie_again v h = kept_within v _ h (kept_fits i 0xAAA hi)

  pub mie_fits : (v : ℕ) → Fits v → Fits (legal_mie i v)
  unfolding legal_mie
  mie_fits v h = kept_fits v _ h

  pub mideleg_again : Again (legal_mideleg i)
  unfolding legal_mideleg
  mideleg_again v h = row_again _ 0x222 v (kept_fits i _ hi) (lit< tt) h

  pub mideleg_fits : (v : ℕ) → Fits v → Fits (legal_mideleg i v)
  unfolding legal_mideleg
  mideleg_fits v h = or_lt 64 _ 0x222 (kept_fits v _ h) (lit< tt)

pub medeleg_again : Again legal_medeleg
unfolding legal_medeleg
medeleg_again v h = kept_within v _ h (lit< tt)

pub medeleg_fits : (v : ℕ) → Fits v → Fits (legal_medeleg v)
unfolding legal_medeleg
medeleg_fits v h = kept_fits v _ h

-- sie, over mideleg d and the stored mie m
module _ (d m : ℕ) (hd : Fits d) (hm : Fits m) where
  -- its mask
  sie_mask : Fits (bit_and d 0x222)
  sie_mask = kept_fits d 0x222 hd

  pub sie_fits : (v : ℕ) → Fits v → Fits (written_sie d m v)
  unfolding written_sie
  sie_fits v h = merged_fits m v _ hm h sie_mask

  pub sie_legal : (i v : ℕ) → Fits i → Fits v → bit_and i 0x222 ≡ 0x222 → legal_mie i m ≡ m → legal_mie i (written_sie d m v) ≡ written_sie d m v
  unfolding legal_mie written_sie
  sie_legal i v hi hv e f =
      merged_within m v _ _ hm hv sie_mask (kept_fits i 0xAAA hi) f
      (by_bits_if (has222 (var 0) ∷ []) (mie shown (var 0) (var 1 & lit 0x222)) (var 1 & lit 0x222) tt (env2 i d hi hd []) (e, tt))

  pub sie_back : written_sie d m (read_delegated d m) ≡ m
  unfolding read_delegated written_sie
  sie_back = back_changes_nothing m _ _ hm (kept_fits m _ hm) sie_mask (kept_within m _ hm sie_mask)

  pub sie_twice : (v w : ℕ) → Fits v → Fits w → written_sie d (written_sie d m v) w ≡ written_sie d m w
  unfolding written_sie
  sie_twice v w hv hw = merged_twice m v w _ hm hv hw sie_mask

-- mip, over the interrupts i, menvcfg n and the stored mip m
module _ (i n m : ℕ) (hi : Fits i) (hn : Fits n) (hm : Fits m) where
  writable_fits : Fits (mip_writable plain n)
  writable_fits = below_64 (mip_writable shown (var 0)) tt (env1 n hn [])

  -- its mask
  mip_mask : Fits (bit_and (mip_writable plain n) i)
  mip_mask = kept_fits (mip_writable plain n) i writable_fits

  pub mip_fits : (v : ℕ) → Fits v → Fits (written_mip i n m v)
  unfolding written_mip
  mip_fits v h = merged_fits m v _ hm h mip_mask

  pub mip_legal : (v : ℕ) → Fits v → bit_and m i ≡ m → bit_and (written_mip i n m v) i ≡ written_mip i n m v
  unfolding written_mip
  mip_legal v h e = merged_within m v _ i hm h mip_mask hi e (kept_within (mip_writable plain n) i writable_fits hi)

  pub mip_back : written_mip i n m m ≡ m
  unfolding written_mip
  mip_back = back_changes_nothing m m _ hm hm mip_mask refl

  pub mip_twice : (v w : ℕ) → Fits v → Fits w → written_mip i n (written_mip i n m v) w ≡ written_mip i n m w
  unfolding written_mip
  mip_twice v w hv hw = merged_twice m v w _ hm hv hw mip_mask

-- sip, over the stored mip m
module _ (m : ℕ) (hm : Fits m) where
  pub sip_fits : (v : ℕ) → Fits v → Fits (written_sip m v)
  unfolding written_sip
  sip_fits v h = merged_fits m v 2 hm h (lit< tt)

  pub sip_legal : (i v : ℕ) → Fits i → Fits v → bit_and i 0x222 ≡ 0x222 → bit_and m i ≡ m → bit_and (written_sip m v) i ≡ written_sip m v
  unfolding written_sip
  sip_legal i v hi hv e f =
      merged_within m v 2 i hm hv (lit< tt) hi f (by_bits_if (has222 (var 0) ∷ []) (lit 2 & var 0) (lit 2) tt (env1 i hi []) (e, tt))

  pub sip_back : (up : Bool) (i d : ℕ) → Fits i → Fits d → legal_mideleg i d ≡ d → written_sip m (read_delegated d (read_mip up m)) ≡ m
  unfolding read_mip read_delegated written_sip legal_mideleg
  sip_back up i d hi hd e =
      by_bits_if (same (mideleg shown (var 0) (var 1)) (var 1) ∷ []) (sip shown (var 2) (delegated shown (var 1) (mip_shown shown (flag 0) (var 2)))) (var 2) tt
      (env3 i d m hi hd hm (up ∷ [])) (e, tt)

  pub sip_twice : (v w : ℕ) → Fits v → Fits w → written_sip (written_sip m v) w ≡ written_sip m w
  unfolding written_sip
  sip_twice v w hv hw = merged_twice m v w 2 hm hv hw (lit< tt)

  -- SEIP isn't written through sip
  pub sip_seip : (v : ℕ) → Fits v → has_seip (written_sip m v) ≡ has_seip m
  unfolding written_sip has_seip
  sip_seip v h = by_tests (seip shown (sip shown (var 0) (var 1))) (seip shown (var 0)) tt (env2 m v hm h [])

pub legal_levels : LegalLevels
unfolding legal_mie legal_mideleg
legal_levels i v hi hv =
    let ρ = env2 i v hi hv [] in
    record {
      lcofi = by_tests (field 13 1 (mie shown (var 0) (var 1)) ≐ lit 1) (lit 0 ≐ lit 1) tt ρ;
      ssi = by_test (field 1 1 (mideleg shown (var 0) (var 1)) ≐ lit 1) tt ρ;
      sti = by_test (field 5 1 (mideleg shown (var 0) (var 1)) ≐ lit 1) tt ρ;
      sei = by_test (field 9 1 (mideleg shown (var 0) (var 1)) ≐ lit 1) tt ρ;
    }
