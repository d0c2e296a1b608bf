-- `rules::addresses::write_tvec` meets its contract.
use mathlib.Core.List.{[]}
use Rattle.bits.proofs.Decide.{var, lit, isnt, env2, by_bits}
use Rattle.bits.proofs.Shown.{shown}
use Rattle.rules.specs.Addresses.{tvec_mode, tvec, is_tvec_mode, written_tvec}
use Rattle.rules.proofs.addresses.write_tvec.Goals as goal
open shown use {merged, when}

pub returns : goal.returns
unfolding is_tvec_mode written_tvec
returns c =
    rw (c.merge.ensures, c.only.ensures, c.is_tvec_mode.ensures)
    (by_bits (merged (var 1) (var 0) (when (isnt (tvec_mode shown (var 1))) (lit _))) (tvec shown (var 0) (var 1)) tt
    (env2 c.args.old c.args.v c.ranges.old.fits c.ranges.v.fits []))
