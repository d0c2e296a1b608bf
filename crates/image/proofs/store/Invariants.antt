-- What is left of w, stored, makes the whole run.
use Rattle.std.proofs.Common.{◌≡◌, ◌+◌, ◌*◌, length, drop}
use Rattle.image.specs.Inner.{put_run}
use Rattle.image.proofs.store.Given as goal

abbrev pub invariant-loop-i : goal.invariant-loop-i
invariant-loop-i l =
    record {
      sized : length l.s ≡ length l.fn.s;
      left : put_run l.s (l.at + 8 * l.i) (drop l.i l.w) ≡ put_run l.fn.s l.at l.w;
    }
