-- What an entry hands back: the numbers of an answer. Source: docs/RULES.md, "Refusals".
use Rattle.std.specs.Prelude.{ℕ, List, Ok, Err}
use Rattle.hart.specs.Answers.{refusal_number, effect_number}
use Rattle.hart.specs.declared.answer.Refusal.{Refusal}
use Rattle.hart.specs.Answers.{Answer}
use Rattle.lent.specs.declared.outcome.Outcome.{Outcome}

-- an answer in numbers: what is refused answers 0 and asks for nothing
abbrev pub outcome_of : Answer → Outcome
outcome_of (Ok (v, e)) = record { refusal = 0; answer = v; effect = effect_number e }
outcome_of (Err why) = record { refusal = refusal_number why; answer = 0; effect = 0 }

-- refused, with the lent bytes as they were
abbrev pub refused_by : Refusal → List ℕ → Outcome × List ℕ
refused_by why s = (outcome_of (Err why), s)
