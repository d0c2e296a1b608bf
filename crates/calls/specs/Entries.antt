-- What an entry gives for any bytes and any numbers: the outcome, and the bytes of the hart image
-- at exit. Source: docs/RULES.md, "Refusals".
use Rattle.std.specs.Prelude.{ℕ, Bool, cond, List, eqb, length, Ok, Err}
use Rattle.hart.specs.declared.caps.Caps.{Caps}
use Rattle.hart.specs.declared.record.Hart.{Hart}
use Rattle.hart.specs.declared.answer.Refusal.TheVariants.{BadCaps, BadHart}
use Rattle.hart.specs.Answers.{Answer}
use Rattle.hart.specs.declared.answer.Step.{Step}
use Rattle.lent.specs.Images.{hart_bytes, caps_at, hart_at, bytes_of, is_caps, is_hart}
use Rattle.lent.specs.Outcome.{outcome_of, refused_by}
use Rattle.lent.specs.declared.outcome.Outcome.{Outcome}
use Rattle.calls.specs.Calls.{Call, step_of, is_start}

-- the bytes after an answer: a refusal leaves them as they were
abbrev pub bytes_after : List ℕ → Hart → Answer → List ℕ
bytes_after s h (Ok (v, e)) = bytes_of h
bytes_after s h (Err why) = s

-- what a step on the record in s gives
unfoldable pub given : List ℕ → Step → Outcome × List ℕ
given s t = (outcome_of t.answer, bytes_after s t.hart t.answer)

-- what a call asks of the hart image: of a buffer for a fresh record only its size
abbrev pub is_lent : Call → Caps → List ℕ → Bool
is_lent call c s = cond (is_start call) (eqb (length s) hart_bytes) (is_hart c s)

-- the entry of a call, on the bytes c of the capability image and s of the hart image: refusal 1,
-- then 2, then those of the step
unfoldable pub entry_of : Call → List ℕ → List ℕ → Outcome × List ℕ
entry_of call c s =
    cond (is_caps c)
    (cond (is_lent call (caps_at c) s) (given s (step_of (caps_at c) (hart_at s) call))
    (refused_by BadHart s))
    (refused_by BadCaps s)
