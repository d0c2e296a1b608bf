-- `rules::config::legalize_envcfg` meets its contract.
use mathlib.Core.List.{[]}
use Rattle.bits.proofs.Decide.{var, lit, ◌&◌, ◌∣◌, inv, shl, low, env2, by_bits}
use Rattle.bits.proofs.Shown.{shown}
use Rattle.rules.specs.Inner.{envcfg, legal_envcfg}
use Rattle.rules.proofs.config.legalize_envcfg.Goals as goal

pub returns : goal.returns
unfolding legal_envcfg
returns c =
    by_bits (var 0 & (low 64 (shl 1 (var 0)) ∣ inv (lit 0x20)) & var 1) (envcfg shown (var 1) (var 0)) tt
    (env2 c.args.v c.args.mask c.ranges.v.fits c.ranges.mask.fits [])
