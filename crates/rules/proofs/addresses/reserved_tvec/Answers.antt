-- `rules::addresses::reserved_tvec` meets its contract.
use mathlib.Core.List.{[]}
use Rattle.bits.proofs.Decide.{var, lit, ◌&◌, ◌≐◌, env1, by_tests}
use Rattle.bits.proofs.Shown.{shown}
use Rattle.rules.specs.Addresses.{tvec_mode, is_tvec_mode}
use Rattle.rules.proofs.addresses.reserved_tvec.Goals as goal

pub returns : goal.returns
unfolding is_tvec_mode
returns c =
    by_tests (var 0 & lit _ ≐ lit _) (tvec_mode shown (var 0)) tt
    (env1 c.args.v c.ranges.v.fits [])
