-- The privilege modes. The contract of `Mode::exists` ties these numbers to the code's constants.
-- Source: RISC-V manual 20240411, Volume II, "Privilege Levels".
use Rattle.std.specs.Prelude.{ℕ, Bool, ◌&&◌, ◌||◌, eqb}

-- user, supervisor, machine
abbrev pub mode_u : ℕ
mode_u = 0

abbrev pub mode_s : ℕ
mode_s = 1

abbrev pub mode_m : ℕ
mode_m = 3

-- the modes of a hart with S or without
unfoldable pub is_mode : Bool → ℕ → Bool
is_mode s n = eqb n mode_u || (eqb n mode_s && s) || eqb n mode_m
