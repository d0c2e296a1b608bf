-- `trap::status::sret` meets its contract.
use Rattle.std.proofs.Common.{[]}
use Rattle.bits.proofs.Decide.{W, var, lit, ◌&◌, shr, env1, by_bits}
use Rattle.bits.proofs.Shown.{shown, set_field}
use Rattle.trap.specs.Status.{sret, sret_status}
use Rattle.trap.proofs.status.sret.Goals as goal

abbrev code : W → W
code m = set_field (set_field (set_field (set_field m 5 0x20 (lit 1)) 1 2 (shr 5 (m & lit 0x20))) 8 0x100 (lit 0)) 17 0x20000 (lit 0)

pub returns : goal.returns
unfolding sret_status
returns c =
    rw (c.set.ensures, c.set-m-3.ensures, c.set-m-2.ensures, c.get.ensures, c.set-m.ensures)
    (by_bits (code (var 0)) (sret shown (var 0)) tt (env1 c.args.mstatus c.ranges.mstatus.fits []))
