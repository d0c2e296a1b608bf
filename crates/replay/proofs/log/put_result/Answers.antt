-- `replay::log::put_result` meets its contract.
use mathlib.Core.Path.{◌≡◌}
use Prim.Native.Nat.{◌+◌}
use native.Mathlib.Omega.{arith}
use Rattle.replay.proofs.log.put_result.Goals as goal

pub returns : goal.returns
returns c =
    let a = c.args in
    let e : a.at + 8 + 8 ≡ a.at + 16 = omega arith in
    rw (e, c.set_word-3.ensures, c.set_word-2.ensures, c.set_word.ensures)
