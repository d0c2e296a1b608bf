-- `rules::interrupts::has_seip` meets its contract.
use mathlib.Core.List.{[]}
use Rattle.bits.proofs.Decide.{var, lit, ◌&◌, ◌≐◌, isnt, env1, by_tests}
use Rattle.bits.proofs.Shown.{shown}
use Rattle.rules.specs.Interrupts.{seip, has_seip}
use Rattle.rules.proofs.interrupts.has_seip.Goals as goal

pub returns : goal.returns
unfolding has_seip
returns c =
    by_tests (isnt (var 0 & lit _ ≐ lit _)) (seip shown (var 0)) tt
    (env1 c.args.mip c.ranges.mip.fits [])
