-- `legality::common_faults` meets its contract.
use native.Mathlib.Omega.{arith}
use Rattle.bits.proofs.Zero.{joined}
use Rattle.hart.specs.Legal.{legal_word}
use Rattle.hart.proofs.Legal.{is_waiting, is_counteren}
use Rattle.legality.proofs.common_faults.Goals as goal

pub returns : goal.returns
unfolding legal_word
returns c = grind (arith, joined, is_waiting, is_counteren)
