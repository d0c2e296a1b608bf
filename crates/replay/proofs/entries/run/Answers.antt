-- `replay::entries::run` meets its contract.
use mathlib.Core.Path.{sym, ap, ◌∙◌}
use Prim.Native.Nat.{◌+◌, ◌*◌}
use native.Mathlib.Omega.{arith}
use Rattle.lent.specs.Images.{caps_at, hart_at}
use Rattle.replay.specs.Log.{entry_bytes}
use Rattle.replay.specs.Replay.{log_of}
use Rattle.replay.specs.Inner.{made}
use Rattle.replay.specs.declared.log.Entry.{Entry}
use Rattle.replay.proofs.Runs.{onward, begins, turn, ends}
use Rattle.replay.proofs.entries.run.Goals as goal

pub loop-i-preserved : goal.loop-i-preserved
loop-i-preserved c =
    let l = c.loop-i in
    let a = c.args in
    let caps = caps_at a.caps.now in
    let log = log_of a.waiting.bytes a.fragment.now in
    let one = c.replay_one.ensures ∙ ap (λ (e : Entry). made caps e (entry_bytes * l.i) (hart_at l.hart, l.out)) c.entry-e.ensures in
    (omega arith, c.replay_one.auto.out ∙ l.invariant.1, ap (onward caps log a.n (l.i + 1)) one ∙ turn caps log a.n l.i (hart_at l.hart, l.out) (omega arith) ∙ l.invariant.2)

pub returns : goal.returns
returns c =
    let l = c.loop-i in
    let a = c.args in
    let caps = caps_at a.caps.now in
    let log = log_of a.waiting.bytes a.fragment.now in
    sym (ends caps log a.n l.i (hart_at l.hart, l.out) (omega arith)) ∙ l.invariant.2 ∙ begins caps log a.n (hart_at a.hart.now, a.out.now)
