-- `trap::status::enter` meets its contract.
use Rattle.std.proofs.Common.{[]}
use Rattle.bits.proofs.Decide.{W, var, lit, env2, by_bits}
use Rattle.bits.proofs.Shown.{shown, set_field}
use Rattle.rules.specs.Fields.{fields}
use Rattle.trap.specs.Status.{entered, mie_of, entered_status}
use Rattle.trap.proofs.status.enter.Goals as goal
open fields shown use {MIE}

abbrev code : W → W → W
code m mode = set_field (set_field (set_field m 11 0x1800 mode) 7 0x80 (MIE m)) 3 8 (lit 0)

pub returns : goal.returns
unfolding mie_of entered_status
returns c =
    rw (c.set.ensures, c.set-m-2.ensures, c.mie.ensures, c.set-m.ensures)
    (by_bits (code (var 0) (var 1)) (entered shown (var 1) (var 0)) tt (env2 c.args.mstatus c.args.mode c.ranges.mstatus.fits c.ranges.mode.fits []))
