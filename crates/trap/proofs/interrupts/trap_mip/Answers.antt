-- `trap::interrupts::trap_mip` meets its contract.
use Rattle.std.proofs.Common.{[]}
use Rattle.bits.proofs.Decide.{var, lit, env2, by_bits}
use Rattle.bits.proofs.Shown.{shown}
use Rattle.trap.specs.Interrupts.{mip_after, trapped_mip}
use Rattle.trap.proofs.interrupts.trap_mip.Goals as goal
open shown use {merged}

pub returns : goal.returns
unfolding trapped_mip
returns c =
    rw c.merge.ensures
    (by_bits (merged (var 1) (var 0) (lit 0x2A88)) (mip_after shown (var 0) (var 1)) tt (env2 c.args.mip c.args.trap c.ranges.mip.fits c.ranges.trap.fits []))
