-- The refusals of a call, each with the condition under which it applies, in the order in which
-- they are tested. Source: docs/RULES.md, "Refusals", "The settings file", "Month totals" and
-- "Call logs".
use Rattle.std.specs.Prelude.{ℕ, ◌*◌, Bool, true, false, not, ◌&&◌, ◌||◌, List, [], ◌∷◌, ◌++◌, eqb, ltb, length, Option, Some, None}
use Rattle.rules.specs.Addresses.{is_aligned}
use Rattle.hart.specs.Caps.{has_c, has_s}
use Rattle.hart.specs.Answers.{refusal_number}
use Rattle.hart.specs.declared.caps.Caps.{Caps}
use Rattle.hart.specs.declared.record.Hart.{Hart}
use Rattle.hart.specs.declared.record.Host.{Host}
use Rattle.hart.specs.declared.answer.Refusal.{Refusal}
use Rattle.hart.specs.declared.answer.Refusal.TheVariants.{BadCaps, BadHart, NoSuchCsr, CsrAbsent, BadOperand, NotMachine, NoSupervisor, BadInterrupt, NotException, BadTrap, BadStart, BadLength, BadMark, UnknownVersion, BadLine, TotalFull, EntryWaits, ShortBuffer}
use Rattle.csr.specs.declared.address.Csr.{Csr}
use Rattle.csr.specs.Address.{csr_at, is_present_at}
use Rattle.csr.specs.Line.{is_line}
use Rattle.trap.specs.Interrupts.{is_interrupt}
use Rattle.trap.specs.Steps.{is_m, is_interrupt_cause, is_trap}
use Rattle.lent.specs.Images.{caps_at, hart_at, is_caps, is_hart}
use Rattle.settings.specs.Settings.{version, head_bytes, file_bytes, is_marked, version_of, image_in}
use Rattle.calls.specs.Calls.{Call, Fresh, Read, Write, Instruction, Pending, Take, host_of}
use Rattle.calls.specs.Entries.{is_lent}
use Rattle.calls.specs.declared.steps.Taken.{Taken}
use Rattle.explain.specs.Explain.{explain_of}
use Rattle.tally.specs.Totals.{totals, adds, passes}
use Rattle.tally.specs.declared.totals.Totals.{Totals}
use Rattle.calls.specs.declared.steps.Taken.TheVariants.{Inject, Trap, Mret, Sret}
use Rattle.replay.specs.Log.{entry_bytes, whole_in}
use Rattle.replay.specs.Replay.{held_in, is_wait, log_of}

infix 70 ◌when◌
-- a refusal, and whether it applies
pub data Row : Type 0 where
  ◌when◌ : Refusal → Bool → Row

abbrev pub number_of : Row → ℕ
number_of (why when t) = refusal_number why

abbrev pub applies : Row → Bool
applies (why when t) = t

-- ---- the conditions

-- no CSR has this address
abbrev pub is_unknown : Option Csr → Bool
is_unknown None = true
is_unknown (Some r) = false

abbrev unknown : ℕ → Bool
unknown a = is_unknown (csr_at a)

-- this hart has no CSR at such an address
abbrev absent : Caps → ℕ → Bool
absent c a = not (is_present_at c a)

-- the number of a general register, or an immediate, above 31
abbrev bad_operand : ℕ → ℕ → Bool
bad_operand rd source = ltb 31 rd || ltb 31 source

-- another mode than M
abbrev not_machine : Hart → Bool
not_machine h = not (is_m h)

-- the controller's line is neither 0 nor 1
abbrev bad_line : Host → Bool
bad_line o = not (is_line o.line)

-- ---- the order

-- of a trap or a return
abbrev pub of_taken : Caps → Hart → Taken → List Row
of_taken c h (Inject n) = BadInterrupt when not (is_interrupt c.interrupts n) ∷ []
of_taken c h (Trap t) = NotException when is_interrupt_cause t ∷ BadTrap when not (is_trap c h t) ∷ []
of_taken c h Mret = NotMachine when not_machine h ∷ []
of_taken c h Sret = NotMachine when not_machine h ∷ NoSupervisor when not (has_s c) ∷ []

-- of a call on a record
abbrev pub of_step : Caps → Hart → Call → List Row
of_step c h (Fresh pc) = BadStart when not (is_aligned (has_c c) pc) ∷ []
of_step c h (Read o a) = NoSuchCsr when unknown a ∷ CsrAbsent when absent c a ∷ BadLine when bad_line o ∷ []
of_step c h (Write a v) = NoSuchCsr when unknown a ∷ CsrAbsent when absent c a ∷ []
of_step c h (Instruction form op o a rd source) =
    NoSuchCsr when unknown a ∷
    CsrAbsent when absent c a ∷
    BadOperand when bad_operand rd source ∷
    NotMachine when not_machine h ∷
    BadLine when bad_line o ∷
    []
of_step c h Pending = []
of_step c h (Take t) = of_taken c h t

-- of a call on two images, which are tested before anything else
abbrev pub refusals : Call → List ℕ → List ℕ → List Row
refusals call c s =
    BadCaps when not (is_caps c) ∷
    BadHart when not (is_lent call (caps_at c) s) ∷
    of_step (caps_at c) (hart_at s) call

-- of a tally: those of the write, and last whether a total would pass the limit
abbrev pub of_tally : (time seed address value : ℕ) → List ℕ → List ℕ → Totals → List Row
of_tally time seed a v c s t =
    refusals (Write a v) c s ++
    (TotalFull when passes t (totals (adds (explain_of (host_of time seed 0) a v c s))) ∷ [])

-- of what a replay is lent: the two images and the waiting bytes
abbrev of_log : List ℕ → List ℕ → List ℕ → List Row
of_log c s w = BadCaps when not (is_caps c) ∷ BadHart when not (is_hart (caps_at c) s && is_wait w) ∷ []

-- of a fragment of a call log, and of its end
abbrev pub of_replay : List ℕ → List ℕ → List ℕ → List ℕ → List ℕ → List Row
of_replay c s w f out = of_log c s w ++ (ShortBuffer when ltb (length out) (entry_bytes * whole_in (log_of w f)) ∷ [])

abbrev pub of_end : List ℕ → List ℕ → List ℕ → List Row
of_end c s w = of_log c s w ++ (EntryWaits when not (eqb (held_in w) 0) ∷ [])

-- of reading a settings file; this order isn't that of the numbers
abbrev pub of_settings_read : List ℕ → List Row
of_settings_read f =
    BadLength when ltb (length f) head_bytes ∷
    BadMark when not (is_marked f) ∷
    UnknownVersion when not (eqb (version_of f) version) ∷
    BadLength when not (eqb (length f) file_bytes) ∷
    BadCaps when not (is_caps (image_in f)) ∷
    []

-- of writing one
abbrev pub of_settings_write : List ℕ → List ℕ → List Row
of_settings_write c f =
    BadCaps when not (is_caps c) ∷
    BadLength when not (eqb (length f) file_bytes) ∷
    []
