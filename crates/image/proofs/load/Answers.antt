-- `image::load` meets its contract.
use native.Mathlib.Omega.{arith}
use Rattle.image.proofs.Words.{load_turn}
use Rattle.image.proofs.load.Goals as goal

pub loop-i-preserved : goal.loop-i-preserved
loop-i-preserved c =
    let l = c.loop-i in
    rw c.word.ensures (load_turn _ _ l.out l.i (omega arith) l.invariant)
