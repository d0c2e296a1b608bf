-- `trap::status::mret` meets its contract.
use Rattle.std.proofs.Common.{ℕ, []}
use Rattle.bits.proofs.Decide.{W, var, lit, ◌&◌, inv, shr, ◌≐◌, isnt, env1, by_bits}
use Rattle.bits.proofs.Shown.{shown, set_field}
use Rattle.rules.specs.Fields.{fields}
use Rattle.trap.specs.Status.{mret, mpp_of, mret_status}
use Rattle.trap.proofs.status.mret.Goals as goal
open shown use {when}
open fields shown use {MPP}

-- returning to this mode leaves MPRV
abbrev code : ℕ → W → W
code mode m = set_field (set_field (set_field (m & inv (when (isnt (MPP m ≐ lit mode)) (lit 0x20000))) 7 0x80 (lit 1)) 3 8 (shr 7 (m & lit 0x80))) 11 0x1800 (lit 0)

pub returns : goal.returns
unfolding mpp_of mret_status
returns c =
    rw (c.set.ensures, c.set-m-2.ensures, c.get.ensures, c.set-m.ensures, c.only.ensures, c.mpp.ensures)
    (by_bits (code _ (var 0)) (mret shown (var 0)) tt (env1 c.args.mstatus c.ranges.mstatus.fits []))
