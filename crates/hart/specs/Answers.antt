-- The number, value and effect for each case of an answer; and the steps that are done and refused.
-- Source: docs/RULES.md, "Refusals" and "Effects".
use Rattle.std.specs.Prelude.{ℕ, Result, Ok, Err}
use Rattle.hart.specs.declared.answer.Refusal.{Refusal}
use Rattle.hart.specs.declared.answer.Refusal.TheVariants.{BadCaps, BadHart, NoSuchCsr, CsrAbsent, BadOperand, NotMachine, NoSupervisor, BadInterrupt, NotException, BadTrap, BadStart, BadLength, BadMark, UnknownVersion, BadLine, TotalFull, BadEntry, EntryWaits, ShortBuffer}
use Rattle.hart.specs.declared.answer.Effect.{Effect}
use Rattle.hart.specs.declared.answer.Effect.TheVariants.{Nothing, SetSeip, ClearSeip}
use Rattle.hart.specs.declared.answer.Step.{Step}
use Rattle.hart.specs.declared.record.Hart.{Hart}

-- the value and the effect of a call that is done, or why it is refused
abbrev pub Answer : Type 0
Answer = Result (ℕ × Effect) Refusal

-- the table of refusals
abbrev pub refusal_number : Refusal → ℕ
refusal_number BadCaps = 1
refusal_number BadHart = 2
refusal_number NoSuchCsr = 3
refusal_number CsrAbsent = 4
refusal_number BadOperand = 5
refusal_number NotMachine = 6
refusal_number NoSupervisor = 7
refusal_number BadInterrupt = 8
refusal_number NotException = 9
refusal_number BadTrap = 10
refusal_number BadStart = 11
refusal_number BadLength = 12
refusal_number BadMark = 13
refusal_number UnknownVersion = 14
refusal_number BadLine = 15
refusal_number TotalFull = 16
refusal_number BadEntry = 17
refusal_number EntryWaits = 18
refusal_number ShortBuffer = 23

abbrev pub effect_number : Effect → ℕ
effect_number Nothing = 0
effect_number SetSeip = 1
effect_number ClearSeip = 2

-- the step that is done with this record, reads nothing and asks for nothing
abbrev pub done : Hart → Step
done h = record { hart = h; answer = Ok (0, Nothing) }

-- the step that is refused, with the record as it was
abbrev pub refused : Hart → Refusal → Step
refused h why = record { hart = h; answer = Err why }
