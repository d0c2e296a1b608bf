-- The bytes so far are zeros.
use Rattle.std.proofs.Common.{◌≡◌, take}
use Rattle.image.specs.Inner.{zeros}
use Rattle.image.proofs.clear.Given as goal

abbrev pub invariant-loop-b : goal.invariant-loop-b
invariant-loop-b l = take l.b-index l.b-items ≡ zeros l.b-index
