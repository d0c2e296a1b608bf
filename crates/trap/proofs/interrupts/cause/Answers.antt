-- `trap::interrupts::cause` meets its contract.
use Rattle.std.proofs.Common.{[]}
use Rattle.bits.proofs.Decide.{var, lit, ◌∣◌, env1, by_bits}
use Rattle.bits.proofs.Shown.{shown}
use Rattle.trap.specs.Interrupts.{cause, cause_of}
use Rattle.trap.proofs.interrupts.cause.Goals as goal

pub returns : goal.returns
unfolding cause_of
returns c = by_bits (var 0 ∣ lit _) (cause shown (var 0)) tt (env1 c.args.n c.ranges.n.fits [])
