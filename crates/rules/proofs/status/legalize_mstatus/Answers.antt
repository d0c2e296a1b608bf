-- `rules::status::legalize_mstatus` meets its contract.
use mathlib.Core.Path.{◌≡◌}
use mathlib.Core.Bool.{Bool}
use mathlib.Core.List.{[], ◌∷◌}
use Prim.Native.Nat.{ℕ, ◌^◌, ◌<◌}
use Rattle.bits.proofs.Decide.{W, var, lit, flag, ◌&◌, ◌∣◌, eval, env1, by_bits}
use Rattle.bits.proofs.Shown.{shown}
use Rattle.rules.specs.Inner.{mpp_legalized, dirty, with_legal_mpp, is_dirty}
use Rattle.rules.specs.Status.{mstatus, legal_mstatus}
use Rattle.rules.proofs.status.legalize_mstatus.Goals as goal
open shown use {when}

-- the fields that are copied
abbrev copied : W → W
copied v =
    mpp_legalized shown (flag 0) v
    & (when (flag 0) (lit 0x5C0122) ∣ when (flag 1) (lit 0x6000) ∣ when (flag 2) (lit 0x600) ∣ lit 0x221888)

-- with UXL, SXL and SD
abbrev code : W → W
code v =
    copied v
    ∣ lit 0x200000000
    ∣ when (flag 0) (lit 0x800000000)
    ∣ when (dirty shown (copied v)) (lit 0x8000000000000000)

right : (v : ℕ) (h : v < 2 ^ 64) (s fs vs : Bool) → eval (code (var 0)) (env1 v h (s ∷ fs ∷ vs ∷ [])) ≡ legal_mstatus s fs vs v
unfolding legal_mstatus
right v h s fs vs = by_bits (code (var 0)) (mstatus shown (flag 0) (flag 1) (flag 2) (var 0)) tt (env1 v h (s ∷ fs ∷ vs ∷ []))

pub returns : goal.returns
unfolding with_legal_mpp is_dirty
returns c =
    let a = c.args in
    rw (c.only-5.ensures, c.is_dirty.ensures, c.only-4.ensures, c.only-3.ensures, c.only-2.ensures, c.only.ensures, c.legalize_mpp.ensures) (right a.v c.ranges.v.fits a.has_s a.has_fs a.has_vs)
