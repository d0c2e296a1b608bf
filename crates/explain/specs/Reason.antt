-- The reasons by their numbers, and the one that is given of a bit: the first that holds.
-- Source: docs/RULES.md, "Lost bits".
use Rattle.std.specs.Prelude.{ℕ, List, [], ◌∷◌, Option, Some, None}
use Rattle.bits.specs.Word.{bit}
use Rattle.first.specs.First.{first_of}
use Rattle.explain.specs.declared.reasons.Reason.{Reason}
use Rattle.explain.specs.declared.reasons.Reason.TheVariants.{Unstored, Never, Elsewhere, Reserved, Forced, Ignored, Driven}
use Rattle.explain.specs.declared.reasons.Reasons.{Reasons}

abbrev pub reason_number : Reason → ℕ
reason_number Unstored = 1
reason_number Never = 2
reason_number Elsewhere = 3
reason_number Reserved = 4
reason_number Forced = 5
reason_number Ignored = 6
reason_number Driven = 7

abbrev pub reasons : List Reason
reasons = Unstored ∷ Never ∷ Elsewhere ∷ Reserved ∷ Forced ∷ Ignored ∷ Driven ∷ []

-- the bits for which a reason holds
abbrev pub word_of : Reasons → Reason → ℕ
word_of w Unstored = w.unstored
word_of w Never = w.never
word_of w Elsewhere = w.elsewhere
word_of w Reserved = w.reserved
word_of w Forced = w.forced
word_of w Ignored = w.ignored
word_of w Driven = w.driven

-- the first that holds for bit i
abbrev pub first_at : Reasons → ℕ → Option Reason
first_at w i = first_of None Some (λ k. bit i (word_of w k)) reasons

-- its number; 0 where none does
abbrev pub number_of : Option Reason → ℕ
number_of None = 0
number_of (Some k) = reason_number k

abbrev pub reason_at : Reasons → ℕ → ℕ
reason_at w i = first_of 0 reason_number (λ k. bit i (word_of w k)) reasons
