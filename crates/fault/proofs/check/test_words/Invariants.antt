-- No word before this one is at fault.
use Rattle.std.proofs.Common.{◌≡◌, drop}
use Rattle.lent.specs.Images.{hart_at}
use Rattle.fault.specs.Inner.{first_among}
use Rattle.fault.proofs.check.test_words.Given as goal

abbrev pub invariant-loop-w : goal.invariant-loop-w
invariant-loop-w l =
    first_among l.c (hart_at l.hart) (drop l.w-index l.words) ≡ first_among l.c (hart_at l.hart) l.words
