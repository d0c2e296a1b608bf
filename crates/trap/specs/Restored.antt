-- What an injection and the mret after it leave of mstatus (300): what the third law speaks of.
use Rattle.std.specs.Prelude.{ℕ, ◌==◌}
use Rattle.bits.specs.Alg.{Alg, plain}
use Rattle.rules.specs.Fields.{fields}
use Rattle.hart.specs.Modes.{mode_u, mode_m}

module _ (A : Alg) where
  open A use {Word, Test, num, when}
  open fields A use {MPRV, set_mpie, set_mpp, set_mprv}

  -- by whether the mode was M: MPIE 1, MPP U, MPRV 0 unless it was; every other field as it was
  abbrev pub entered_then_mret : Test → Word → Word
  entered_then_mret wasM m = set_mpp (num mode_u) (set_mpie (num 1) (set_mprv (when wasM (MPRV m)) m))

-- the mode injected in, mstatus
unfoldable pub restored_status : ℕ → ℕ → ℕ
restored_status mode m = entered_then_mret plain (mode == mode_m) m
