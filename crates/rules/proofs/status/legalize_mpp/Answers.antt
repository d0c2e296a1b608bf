-- `rules::status::legalize_mpp` meets its contract.
use mathlib.Core.List.{[], ◌∷◌}
use Prim.Native.Nat.{ℕ}
use Rattle.bits.proofs.Decide.{W, var, lit, flag, ◌&◌, ◌∣◌, inv, shr, shl, low, isnt, env1, by_bits}
use Rattle.bits.proofs.Shown.{shown}
use Rattle.rules.specs.Inner.{mpp_legalized, with_legal_mpp}
use Rattle.rules.proofs.status.legalize_mpp.Goals as goal
open shown use {when}

abbrev code : ℕ → W → W
code rest v = v & (low 64 (shl 1 v) ∣ lit rest) & (shr 1 v ∣ inv (when (isnt (flag 0)) (lit 0x800)))

pub returns : goal.returns
unfolding with_legal_mpp
returns c =
    rw c.only.ensures
    (by_bits (code _ (var 0)) (mpp_legalized shown (flag 0) (var 0)) tt
    (env1 c.args.v c.ranges.v.fits (c.args.has_s ∷ [])))
