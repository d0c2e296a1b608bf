-- `rules::addresses::is_satp_mode` meets its contract.
use mathlib.Core.List.{[]}
use Rattle.bits.proofs.Decide.{var, lit, shr, ◌≐◌, either, env1, by_tests}
use Rattle.bits.proofs.Shown.{shown}
use Rattle.rules.specs.Addresses.{satp_mode, is_satp_mode}
use Rattle.rules.proofs.addresses.is_satp_mode.Goals as goal

pub returns : goal.returns
unfolding is_satp_mode
returns c =
    by_tests (either (shr 60 (var 0) ≐ lit _) (shr 60 (var 0) ≐ lit _)) (satp_mode shown (var 0)) tt
    (env1 c.args.v c.ranges.v.fits [])
