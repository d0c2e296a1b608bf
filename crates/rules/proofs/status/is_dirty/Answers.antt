-- `rules::status::is_dirty` meets its contract.
use mathlib.Core.List.{[]}
use Rattle.bits.proofs.Decide.{var, lit, ◌&◌, shl, low, ◌≐◌, isnt, env1, by_tests}
use Rattle.bits.proofs.Shown.{shown}
use Rattle.rules.specs.Inner.{dirty, is_dirty}
use Rattle.rules.proofs.status.is_dirty.Goals as goal

pub returns : goal.returns
unfolding is_dirty
returns c =
    by_tests (isnt (var 0 & low 64 (shl 1 (var 0)) & lit _ ≐ lit _)) (dirty shown (var 0)) tt
    (env1 c.args.mstatus c.ranges.mstatus.fits [])
