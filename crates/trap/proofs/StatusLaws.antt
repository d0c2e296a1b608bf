-- mstatus on the way into a trap and out of it stays a legal word; and what an injection and mret
-- leave of it.
use Rattle.std.proofs.Common.{◌≡◌, ℕ, zero, suc, ◌/◌, ◌%◌, ◌^◌, ◌<◌, Bool, true, false, cond, T, eqb, [], ◌∷◌, refl, lt_trans, le_of_suc-le-suc, not-suc-le-zero, mod-lt, lit<}
use Rattle.bits.specs.Alg.{plain}
use Rattle.bits.specs.Word.{Fits}
use Rattle.bits.proofs.Run.{check}
use Rattle.bits.proofs.Decide.{W, var, lit, flag, ite, ◌≐◌, env1, by_bits}
use Rattle.bits.proofs.Shown.{shown}
use Rattle.rules.specs.Fields.{fields}
use Rattle.rules.specs.Laws.{LegalMstatus, FieldsFree}
use Rattle.rules.proofs.Laws.{fields_free}
use Rattle.hart.specs.Modes.{mode_u, mode_s, mode_m, is_mode}
use Rattle.hart.proofs.Laws.{by_mode, has_modes}
use Rattle.trap.specs.Status.{entered, mret, mpp_of, spp_of, entered_status, mret_status, sret_status}
use Rattle.trap.specs.Laws.{RestoredFields}
use Rattle.trap.specs.Restored.{entered_then_mret, restored_status}
open fields plain use {MIE, MPIE, SPIE, MPP, MPRV, set_mpp}

-- a field of one bit
bit_fits : (x : ℕ) → Fits (x % 2 ^ 1)
bit_fits x = lt_trans (mod-lt x (lit< tt)) (lit< tt)

pub mpp_fits : (m : ℕ) → Fits (mpp_of m)
unfolding mpp_of
mpp_fits m = lt_trans (mod-lt (m / 2 ^ 11) (lit< tt)) (lit< tt)

pub spp_fits : (m : ℕ) → Fits (spp_of m)
unfolding spp_of
spp_fits m = bit_fits (m / 2 ^ 8)

module _ (s fs vs : Bool) (m : ℕ) (l : LegalMstatus s fs vs m) where
  free : FieldsFree s fs vs
  free = fields_free s fs vs

  pub mpp_mode : is_mode s (mpp_of m) ≡ true
  unfolding mpp_of
  mpp_mode = (has_modes s).mpp fs vs m l

  -- MPP takes any mode that the hart has
  mode_free : (mode : ℕ) → is_mode s mode ≡ true → LegalMstatus s fs vs (set_mpp mode m)
  mode_free mode p = by_mode (λ (x : ℕ). LegalMstatus s fs vs (set_mpp x m)) s mode p (free.mpp_u m l) (λ q. free.mpp_s q m l) (free.mpp_m m l)

  pub entered_legal : (mode : ℕ) → is_mode s mode ≡ true → LegalMstatus s fs vs (entered_status mode m)
  unfolding entered_status
  entered_legal mode p = free.mie 0 (lit< tt) _ (free.mpie (MIE m) (bit_fits (m / 2 ^ 3)) _ (mode_free mode p))

  pub mret_legal : LegalMstatus s fs vs (mret_status m)
  unfolding mret_status
  mret_legal = free.mpp_u _ (free.mpie 1 (lit< tt) _ (free.mie (MPIE m) (bit_fits (m / 2 ^ 7)) _ (free.mprv _ (when_fits (eqb (MPP m) mode_m)) m l)))
    where
      when_fits : (t : Bool) → Fits (cond t (MPRV m) 0)
      when_fits true = bit_fits (m / 2 ^ 17)
      when_fits false = lit< tt

  pub sret_legal : s ≡ true → LegalMstatus s fs vs (sret_status m)
  unfolding sret_status
  sret_legal p = free.mprv 0 (lit< tt) _ (free.spp p mode_u (lit< tt) _ (free.spie p 1 (lit< tt) _ (free.sie p (SPIE m) (bit_fits (m / 2 ^ 5)) m l)))

-- SPP is U or S
pub spp_mode : (m : ℕ) → is_mode true (spp_of m) ≡ true
unfolding spp_of
spp_mode m = small (m / 2 ^ 8 % 2 ^ 1) (mod-lt (m / 2 ^ 8) (lit< tt))
  where
    small : (x : ℕ) → x < 2 → is_mode true x ≡ true
    small zero h = (has_modes true).user
    small (suc zero) h = (has_modes true).supervisor refl
    small (suc (suc x)) h = absurd (not-suc-le-zero (le_of_suc-le-suc (le_of_suc-le-suc h)))

-- ---- an injection, then mret

-- mret goes back to the mode that the injection saved, and leaves this of mstatus
pub record Returned (mode m : ℕ) : Type 0 where
  pub mode_back : mpp_of (entered_status mode m) ≡ mode
  pub status_left : mret_status (entered_status mode m) ≡ restored_status mode m

module _ (m : ℕ) (h : Fits m) where
  abbrev saved : ℕ → W
  saved mode = entered shown (lit mode) (var 0)

  abbrev left : ℕ → W
  left mode = entered_then_mret shown (lit mode ≐ lit mode_m) (var 0)

  at_mode : (mode : ℕ) → T (check [] ((fields shown).MPP (saved mode)) (lit mode)) → T (check [] (mret shown (saved mode)) (left mode)) → Returned mode m
  unfolding mpp_of entered_status mret_status restored_status
  at_mode mode t u = record {
    mode_back = by_bits ((fields shown).MPP (saved mode)) (lit mode) t (env1 m h []);
    status_left = by_bits (mret shown (saved mode)) (left mode) u (env1 m h []);
  }

  pub returned : (s : Bool) (mode : ℕ) → is_mode s mode ≡ true → Returned mode m
  returned s mode p = by_mode (λ (x : ℕ). Returned x m) s mode p (at_mode mode_u tt tt) (λ q. at_mode mode_s tt tt) (at_mode mode_m tt tt)

pub restored_fields : RestoredFields
unfolding restored_status
restored_fields mode m h =
    let after = entered_then_mret shown (flag 0) (var 0) in
    let ρ = env1 m h (eqb mode mode_m ∷ []) in
    record {
      mie = by_bits ((fields shown).MIE after) ((fields shown).MIE (var 0)) tt ρ;
      mpie = by_bits ((fields shown).MPIE after) (lit 1) tt ρ;
      mpp = by_bits ((fields shown).MPP after) (lit mode_u) tt ρ;
      mprv = by_bits ((fields shown).MPRV after) (ite (flag 0) ((fields shown).MPRV (var 0)) (lit 0)) tt ρ;
    }
