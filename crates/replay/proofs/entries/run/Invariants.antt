-- What `replay::entries::run` keeps as it goes: the rest of the log, made from here on, gives what
-- the whole log gives from the start.
use mathlib.Core.Path.{◌≡◌}
use Prim.Native.Nat.{◌-◌, ◌≤◌}
use lib.ListN.{length}
use Rattle.lent.specs.Images.{caps_at, hart_at}
use Rattle.replay.specs.Replay.{log_of}
use Rattle.replay.proofs.Runs.{onward}
use Rattle.replay.proofs.entries.run.Given as goal

abbrev pub invariant-loop-i : goal.invariant-loop-i
invariant-loop-i l =
    (l.i ≤ l.n) × (length l.out ≡ length l.fn.out)
    × (onward (caps_at l.caps) (log_of l.waiting.bytes l.fragment) l.n l.i (hart_at l.hart, l.out) ≡ onward (caps_at l.caps) (log_of l.waiting.bytes l.fragment) l.n 0 (hart_at l.fn.hart, l.fn.out))

abbrev pub decreases-loop-i : goal.decreases-loop-i
decreases-loop-i l = l.n - l.i
