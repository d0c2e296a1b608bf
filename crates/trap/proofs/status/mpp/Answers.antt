-- `trap::status::mpp` meets its contract.
use Rattle.std.proofs.Common.{[]}
use Rattle.bits.proofs.Decide.{var, lit, ◌&◌, shr, env1, by_bits}
use Rattle.bits.proofs.Shown.{shown}
use Rattle.rules.specs.Fields.{fields}
use Rattle.trap.specs.Status.{mpp_of}
use Rattle.trap.proofs.status.mpp.Goals as goal
open fields shown use {MPP}

pub returns : goal.returns
unfolding mpp_of
returns c = rw c.get.ensures (by_bits (shr 11 (var 0 & lit _)) (MPP (var 0)) tt (env1 c.args.mstatus c.ranges.mstatus.fits []))
