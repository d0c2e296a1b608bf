-- The code's own notions of a check: no entry's contract rests on them.
use Rattle.std.specs.Prelude.{ℕ, List, map, Result, Ok, Err}
use Rattle.hart.specs.Answers.{refusal_number}
use Rattle.hart.specs.declared.answer.Refusal.{Refusal}
use Rattle.hart.specs.declared.answer.Refusal.TheVariants.{BadHart}
use Rattle.hart.specs.declared.caps.Caps.{Caps}
use Rattle.hart.specs.declared.record.Hart.{Hart}
use Rattle.hart.specs.declared.record.Word.{Word}
use Rattle.fault.specs.Fault.{fault_of, no_fault, first_fault, word_tested}
use Rattle.fault.specs.declared.fault.BadWord.{BadWord}
use Rattle.fault.specs.declared.fault.Fault.{Fault}

abbrev pub bad_word : Refusal → ℕ → ℕ → BadWord
bad_word why word value = record { why = why; word = word; value = value }

-- what a check gives, in numbers
abbrev pub fault_in : Result (Unit {0}) BadWord → Fault
fault_in (Ok _) = no_fault
fault_in (Err b) = fault_of (refusal_number b.why) b.word b.value

-- the first of some words that isn't legal
abbrev pub first_among : Caps → Hart → List Word → Fault
first_among c h ws = first_fault BadHart (map (word_tested c h) ws)
