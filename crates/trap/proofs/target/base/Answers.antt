-- `trap::target::base` meets its contract.
use Rattle.std.proofs.Common.{[]}
use Rattle.bits.proofs.Decide.{var, lit, ◌&◌, env1, by_bits}
use Rattle.bits.proofs.Shown.{shown}
use Rattle.trap.specs.Target.{base, base_of}
use Rattle.trap.proofs.target.base.Goals as goal

pub returns : goal.returns
unfolding base_of
returns c = by_bits (var 0 & lit _) (base shown (var 0)) tt (env1 c.args.mtvec c.ranges.mtvec.fits [])
