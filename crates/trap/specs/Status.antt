-- mstatus (300) on the way into a trap and out of it.
-- Source: RISC-V manual 20240411, Volume II, "Privilege and Global Interrupt-Enable Stack in
-- mstatus register" and "Trap-Return Instructions"; docs/RULES.md, "Traps and returns".
use Rattle.std.specs.Prelude.{ℕ}
use Rattle.bits.specs.Alg.{Alg, plain}
use Rattle.rules.specs.Fields.{fields}
use Rattle.hart.specs.Modes.{mode_u, mode_m}

module _ (A : Alg) where
  open A use {Word, Test, num, ◌≐◌, when}
  open fields A use {MIE, SPIE, MPIE, MPP, MPRV, set_sie, set_mie, set_spie, set_mpie, set_spp, set_mpp, set_mprv}

  -- a trap from a mode to M: MPP takes the mode, MPIE takes MIE, MIE 0
  abbrev pub entered : Word → Word → Word
  entered mode m = set_mie (num 0) (set_mpie (MIE m) (set_mpp mode m))

  -- mret: MPRV 0 unless MPP is M; MIE takes MPIE; MPIE 1; MPP U
  abbrev pub mret : Word → Word
  mret m =
      set_mpp (num mode_u)
      (set_mpie (num 1)
      (set_mie (MPIE m)
      (set_mprv (when (MPP m ≐ num mode_m) (MPRV m)) m)))

  -- sret: SIE takes SPIE; SPIE 1; SPP U; MPRV 0
  abbrev pub sret : Word → Word
  sret m = set_mprv (num 0) (set_spp (num mode_u) (set_spie (num 1) (set_sie (SPIE m) m)))

-- what mstatus holds in MIE, in MPP and in SPP
unfoldable pub mie_of : ℕ → ℕ
mie_of = (fields plain).MIE

unfoldable pub mpp_of : ℕ → ℕ
mpp_of = (fields plain).MPP

unfoldable pub spp_of : ℕ → ℕ
spp_of = (fields plain).SPP

-- the mode trapped from, mstatus
unfoldable pub entered_status : ℕ → ℕ → ℕ
entered_status = entered plain

unfoldable pub mret_status : ℕ → ℕ
mret_status = mret plain

unfoldable pub sret_status : ℕ → ℕ
sret_status = sret plain
