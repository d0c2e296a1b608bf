-- `explain::reasons::reserved` meets its contract.
use mathlib.Core.List.{[]}
use mathlib.Core.Logic.{⊎_elim}
use mathlib.Core.Path.{◌≡◌}
use Rattle.bits.specs.Alg.{plain}
use Rattle.bits.proofs.Decide.{var, lit, ◌&◌, ◌≐◌, env1, by_bits}
use Rattle.bits.proofs.Shown.{shown}
use Rattle.explain.specs.Reasons.{reserved}
use Rattle.explain.proofs.reasons.reserved.Goals as goal
open shown use {when}

pub returns-in-768 : goal.returns-in-768
returns-in-768 c =
    rw (c.only.ensures, c.in-768.is) (by_bits (when (var 0 & lit _ ≐ lit _) (lit _)) (reserved shown 0x300 (var 0)) tt (env1 c.args.v c.ranges.v.fits []))

pub returns-in-778 : goal.returns-in-778
returns-in-778 c =
    let is : c.only-in-778.result ≡ reserved plain 0x30A c.args.v =
    rw c.only-in-778.ensures (by_bits (when (var 0 & lit _ ≐ lit _) (lit _)) (reserved shown 0x30A (var 0)) tt (env1 c.args.v c.ranges.v.fits [])) in
    ⊎_elim (λ e. rw e is) (λ e. rw e is) c.in-778.is
