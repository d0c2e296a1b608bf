-- The words so far are those of s.
use Rattle.std.proofs.Common.{◌≡◌, take}
use Rattle.image.specs.Word.{words_from}
use Rattle.image.proofs.load.Given as goal

abbrev pub invariant-loop-i : goal.invariant-loop-i
invariant-loop-i l = take l.i l.out ≡ words_from l.s l.at l.i
