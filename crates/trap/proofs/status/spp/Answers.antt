-- `trap::status::spp` meets its contract.
use Rattle.std.proofs.Common.{[]}
use Rattle.bits.proofs.Decide.{var, lit, ◌&◌, shr, env1, by_bits}
use Rattle.bits.proofs.Shown.{shown}
use Rattle.rules.specs.Fields.{fields}
use Rattle.trap.specs.Status.{spp_of}
use Rattle.trap.proofs.status.spp.Goals as goal
open fields shown use {SPP}

pub returns : goal.returns
unfolding spp_of
returns c = rw c.get.ensures (by_bits (shr 8 (var 0 & lit _)) (SPP (var 0)) tt (env1 c.args.mstatus c.ranges.mstatus.fits []))
