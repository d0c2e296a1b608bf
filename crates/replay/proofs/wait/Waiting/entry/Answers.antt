-- `replay::wait::Waiting::entry` meets its contract.
use mathlib.Core.Path.{◌≡◌, sym, ap, ◌∙◌}
use Prim.Native.Nat.{ℕ, ◌-◌}
use native.Mathlib.Omega.{arith}
use Rattle.replay.specs.Log.{entry_at}
use Rattle.replay.specs.Replay.{log_of}
use Rattle.replay.proofs.Waits.{later_whole}
use Rattle.replay.proofs.wait.Waiting.entry.Goals as goal

pub returns-then-at-n : goal.returns-then-at-n
returns-then-at-n c =
    let a = c.args in
    let zero : a.at ≡ 0 = c.requires.cut (omega (arith, c.if-at-n.true, c.held-n.ensures)) in
    c.first.ensures ∙ ap (entry_at (log_of a.self.bytes a.fragment.now)) (sym zero)

pub returns-else-at-n : goal.returns-else-at-n
returns-else-at-n c =
    let a = c.args in
    c.entry_at.ensures ∙ ap (λ (n : ℕ). entry_at a.fragment.now (a.at - n)) c.held-n.ensures
    ∙ later_whole a.self.bytes a.fragment.now a.at (omega (arith, c.if-at-n.false, c.held-n.ensures))
