-- `image::store` meets its contract.
use mathlib.Core.Path.{◌≡◌}
use Rattle.std.proofs.lemmas.Grind.{common_steps}
use native.Mathlib.Omega.{arith}
use Rattle.image.specs.Inner.{put_run}
use Rattle.image.proofs.Words.{run_stored}
use Rattle.image.proofs.store.Goals as goal

pub returns-clause-read : goal.returns-clause-read
returns-clause-read c =
    let a = c.args in
    let stored : c.loop-i.s ≡ put_run a.s.now a.at a.w.now = grind (arith, common_steps) in
    rw stored (run_stored a.w.now a.s.now a.at c.requires (λ k. (c.type_inv.w k).fits))
