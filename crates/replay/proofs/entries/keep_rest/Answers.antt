-- `replay::entries::keep_rest` meets its contract.
use mathlib.Core.List.{◌++◌}
use mathlib.Core.Path.{ap, ◌∙◌}
use Prim.Native.Nat.{ℕ, ◌*◌, ◌-◌}
use native.Mathlib.Omega.{arith}
use lib.ListN.{length, take, drop, length-drop}
use lib.Seq.{take_all}
use Rattle.image.specs.Word.{from}
use Rattle.replay.specs.Log.{entry_bytes}
use Rattle.replay.specs.Replay.{held_in, wait_of}
use Rattle.replay.proofs.Waits.{all_left, some_left}
use Rattle.replay.proofs.entries.keep_rest.Goals as goal

pub returns-then-n-eq0 : goal.returns-then-n-eq0
returns-then-n-eq0 c =
    let a = c.args in
    let w = a.wait.now in
    let f = a.fragment.now in
    let held = c.held-count.ensures in
    c.keep.ensures ∙ ap (λ (k : ℕ). wait_of (from w 1 k ++ f)) held ∙ ap wait_of (all_left w f a.n c.requires.whole c.if-n-eq0.true)

pub returns-else-n-eq0 : goal.returns-else-n-eq0
returns-else-n-eq0 c =
    let a = c.args in
    let w = a.wait.now in
    let f = a.fragment.now in
    let at = entry_bytes * a.n - held_in w in
    let held = c.held-count.ensures in
    let back : ℕ → ℕ = λ k. entry_bytes * a.n - k in
    c.keep-else-n-eq0.ensures ∙ ap (λ (k : ℕ). wait_of (take (length f - back k) (drop (back k) f))) held
    ∙ ap wait_of (take_all (length f - at) (drop at f) (omega (arith, length-drop at f)))
    ∙ ap wait_of (some_left w f a.n c.requires.whole (omega (arith, c.if-n-eq0.false, c.requires.held)))
