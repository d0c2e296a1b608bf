-- `trap::status::mie` meets its contract.
use Rattle.std.proofs.Common.{[]}
use Rattle.bits.proofs.Decide.{var, lit, ◌&◌, shr, env1, by_bits}
use Rattle.bits.proofs.Shown.{shown}
use Rattle.rules.specs.Fields.{fields}
use Rattle.trap.specs.Status.{mie_of}
use Rattle.trap.proofs.status.mie.Goals as goal
open fields shown use {MIE}

pub returns : goal.returns
unfolding mie_of
returns c = rw c.get.ensures (by_bits (shr 3 (var 0 & lit _)) (MIE (var 0)) tt (env1 c.args.mstatus c.ranges.mstatus.fits []))
