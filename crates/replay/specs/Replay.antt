-- A call log replayed as it arrives: what its entries do, the bytes that wait, and what the two
-- calls give for any bytes. Source: docs/RULES.md, "Call logs".
use Rattle.std.specs.Prelude.{ℕ, ◌+◌, ◌*◌, ◌-◌, Bool, cond, ◌&&◌, List, [], ◌∷◌, ◌++◌, eqb, ltb, leb, length, get_or, drop, replicate, Ok, Err, Option, Some, None}
use Rattle.image.specs.Word.{from, image_of}
use Rattle.hart.specs.Answers.{refused}
use Rattle.hart.specs.declared.caps.Caps.{Caps}
use Rattle.hart.specs.declared.record.Hart.{Hart}
use Rattle.hart.specs.declared.answer.Refusal.{Refusal}
use Rattle.hart.specs.declared.answer.Refusal.TheVariants.{BadCaps, BadHart, BadEntry, EntryWaits, ShortBuffer}
use Rattle.hart.specs.declared.answer.Effect.TheVariants.{Nothing}
use Rattle.hart.specs.declared.answer.Step.{Step}
use Rattle.lent.specs.Images.{caps_at, hart_at, bytes_of, is_caps, is_hart}
use Rattle.lent.specs.Outcome.{outcome_of}
use Rattle.lent.specs.declared.outcome.Outcome.{Outcome}
use Rattle.calls.specs.Calls.{Call, step_of}
use Rattle.replay.specs.Log.{entry_bytes, call_of, whole_in, entries_of, rest_of}
use Rattle.replay.specs.declared.log.Entry.{Entry}

-- ---- the entries

-- what an entry does to the record h: its call, where it is one
abbrev pub call_step : Caps → Hart → Option Call → Step
call_step c h None = refused h BadEntry
call_step c h (Some call) = step_of c h call

abbrev pub entry_step : Caps → Hart → Entry → Step
entry_step c h e = call_step c h (call_of e)

-- the record after entries
abbrev pub hart_after : Caps → Hart → List Entry → Hart
hart_after c h [] = h
hart_after c h (e ∷ es) = hart_after c (entry_step c h e).hart es

-- the three words that an outcome puts out
abbrev pub result_words : Outcome → List ℕ
result_words o = o.answer ∷ o.effect ∷ o.refusal ∷ []

-- the words that entries put out
abbrev pub results_of : Caps → Hart → List Entry → List ℕ
results_of c h [] = []
results_of c h (e ∷ es) = result_words (outcome_of (entry_step c h e).answer) ++ results_of c (entry_step c h e).hart es

-- ---- the bytes that wait

-- how many bytes wait in w, and which they are
abbrev pub held_in : List ℕ → ℕ
held_in w = get_or w 0 0

abbrev pub waiting : List ℕ → List ℕ
waiting w = from w 1 (held_in w)

-- false where refusal 2 applies
unfoldable pub is_wait : List ℕ → Bool
is_wait w = eqb (length w) entry_bytes && ltb (held_in w) entry_bytes

-- what lets these bytes wait: behind them stand zeros
abbrev pub wait_of : List ℕ → List ℕ
wait_of rest = length rest ∷ (rest ++ replicate (entry_bytes - (1 + length rest)) 0)

-- the log that a fragment goes on with: what waits, and the fragment
abbrev pub log_of : List ℕ → List ℕ → List ℕ
log_of w f = waiting w ++ f

-- ---- the two calls

-- the images c and s and the waiting bytes w: their refusal, or what comes then
abbrev pub lent : {A : Type 0} → List ℕ → List ℕ → List ℕ → (Refusal → A) → A → A
lent c s w refuse go = cond (is_caps c) (cond (is_hart (caps_at c) s && is_wait w) go (refuse BadHart)) (refuse BadCaps)

-- what a fragment gives: the outcome, and the bytes of the hart image, of w and of out at exit
abbrev pub Given : Type 0
Given = Outcome × List ℕ × List ℕ × List ℕ

-- what the log l gives that isn't refused
abbrev pub replayed : Caps → Hart → List ℕ → List ℕ → Given
replayed c h l out =
    (outcome_of (Ok (whole_in l, Nothing)), bytes_of (hart_after c h (entries_of l)), wait_of (rest_of l), image_of (results_of c h (entries_of l)) ++ drop (entry_bytes * whole_in l) out)

-- of a fragment f
unfoldable pub replay_of : List ℕ → List ℕ → List ℕ → List ℕ → List ℕ → Given
replay_of c s w f out =
    let refuse : Refusal → Given = λ why. (outcome_of (Err why), s, w, out) in
    lent c s w refuse
    (cond (leb (entry_bytes * whole_in (log_of w f)) (length out))
    (replayed (caps_at c) (hart_at s) (log_of w f) out)
    (refuse ShortBuffer))

-- the outcome of the log's end
unfoldable pub end_of : List ℕ → List ℕ → List ℕ → Outcome
end_of c s w =
    let refuse : Refusal → Outcome = λ why. outcome_of (Err why) in
    lent c s w refuse (cond (eqb (held_in w) 0) (outcome_of (Ok (0, Nothing))) (refuse EntryWaits))
