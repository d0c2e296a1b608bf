-- The code's own notion of the order of interrupts: no entry's contract rests on it.
use Rattle.std.specs.Prelude.{ℕ}
use Rattle.bits.specs.Word.{bit}
use Rattle.first.specs.First.{first_of}
use Rattle.trap.specs.Interrupts.{order}

-- the first in the order whose bit is set
abbrev pub first_set : ℕ → ℕ
first_set ip = first_of 0 (λ n. n) (λ n. bit n ip) order
