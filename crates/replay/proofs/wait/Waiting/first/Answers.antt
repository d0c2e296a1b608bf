-- `replay::wait::Waiting::first` meets its contract.
use borrow.Author.Rules.{rules}
use mathlib.Core.List.{List}
use Prim.Native.Nat.{ℕ, ◌+◌, ◌-◌}
use native.Mathlib.Omega.{arith}
use lib.ListN.{take, drop, replicate}
use lib.Seq.{sets, length-take-le}
use Rattle.replay.specs.Log.{entry_bytes}
use mathlib.Core.Path.{◌≡◌, sym, ap, ◌∙◌}
use Rattle.replay.proofs.Waits.{first_joined}
use Rattle.replay.proofs.wait.Waiting.first.Goals as goal

pub slice_bounds-put-length-2 : goal.slice_bounds-put-length-2
slice_bounds-put-length-2 c =
    sym (length-take-le (entry_bytes - c.held-n.result) c.args.fragment.now (omega (arith, c.held-n.ensures, c.requires)))

pub returns : goal.returns
returns c =
    let a = c.args in
    let w = a.self.bytes in
    let f = a.fragment.now in
    let n = c.held-n.result in
    let one : 1 + n - 1 ≡ n = omega arith in
    c.entry_at.ensures ∙ first_joined w f _ (search rules) c.args.self.short c.requires
    (c.put-2.ensures
    ∙ ap (λ (l : List ℕ). sets l n (take (entry_bytes - n) f)) (c.put.ensures ∙ ap (λ (k : ℕ). sets (replicate entry_bytes 0) 0 (take k (drop 1 w))) one)
    ∙ ap (λ (k : ℕ). sets (sets (replicate entry_bytes 0) 0 (take k (drop 1 w))) k (take (entry_bytes - k) f)) c.held-n.ensures)
