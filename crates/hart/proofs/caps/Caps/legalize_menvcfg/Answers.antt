-- `hart::caps::Caps::legalize_menvcfg` meets its contract.
use mathlib.Core.List.{[], ◌∷◌}
use Rattle.bits.proofs.Decide.{var, flag, env1, by_bits}
use Rattle.bits.proofs.Shown.{shown}
use Rattle.rules.specs.Config.{menvcfg, legal_menvcfg}
use Rattle.rules.specs.Inner.{envcfg, legal_envcfg}
use Rattle.hart.specs.Caps.{has_zicbom, has_zicboz, has_svpbmt, has_sstc}
use Rattle.hart.specs.Inner.{menvcfg_mask, envcfg_bits}
use Rattle.hart.proofs.caps.Caps.legalize_menvcfg.Goals as goal

pub returns : goal.returns
unfolding legal_envcfg legal_menvcfg envcfg_bits
returns c =
    let caps = c.args.self in
    rw (c.legalize_envcfg.ensures, c.envcfg_bits.ensures)
    (by_bits (envcfg shown (menvcfg_mask shown (flag 0) (flag 1) (flag 2) (flag 3)) (var 0)) (menvcfg shown (flag 0) (flag 1) (flag 2) (flag 3) (var 0)) tt
    (env1 c.args.v c.ranges.v.fits (has_zicbom caps ∷ has_zicboz caps ∷ has_svpbmt caps ∷ has_sstc caps ∷ [])))
