-- What a read, a write or an instruction leaves where the record lies, as the code in place tells
-- it: an answer, and the record that the bytes hold. No entry's contract rests on it.
use Rattle.hart.specs.Answers.{Answer}
use Rattle.hart.specs.declared.record.Hart.{Hart}
use Rattle.hart.specs.declared.answer.Effect.{Effect}
use Rattle.hart.specs.declared.answer.Step.{Step}
use Rattle.csr.specs.Access.{effect_after}

-- a step's answer and record
unfoldable pub told : Step → Answer × Hart
told t = (t.answer, t.hart)

-- a record changed to another, and what that asks of the host
unfoldable pub changed_to : Hart → Hart → Effect × Hart
changed_to h next = (effect_after h next, next)
