-- `rules::interrupts::write_mip` meets its contract.
use mathlib.Core.List.{[]}
use Rattle.bits.proofs.Decide.{var, lit, ◌&◌, inv, shr, low, ◌≐◌, env4, by_bits}
use Rattle.bits.proofs.Shown.{shown}
use Rattle.rules.specs.Interrupts.{mip, written_mip}
use Rattle.rules.proofs.interrupts.write_mip.Goals as goal
open shown use {merged, when}

pub returns : goal.returns
unfolding written_mip
returns c =
    rw (c.merge.ensures, c.only-driven.ensures, c.bit.ensures)
    (by_bits (merged (var 0) (var 1) (var 2 & lit _ & inv (when (low 1 (shr 63 (var 3)) ≐ lit 1) (lit _)))) (mip shown (var 2) (var 3) (var 0) (var 1)) tt
    (env4 c.args.mip c.args.v c.args.interrupts c.args.menvcfg c.ranges.mip.fits c.ranges.v.fits c.ranges.interrupts.fits c.ranges.menvcfg.fits []))
