-- The pending question, injection, the firmware's trap, mret and sret on the record, with their
-- refusals.
-- Source: RISC-V manual 20240411, Volume II, "Trap-Return Instructions" and "Wait for Interrupt";
-- docs/RULES.md, "The pending question", "Traps and returns", refusals 6 to 10.
use Rattle.std.specs.Prelude.{ℕ, Bool, cond, ◌&&◌, ◌||◌, List, [], ◌∷◌, ◌==◌, bit_and}
use Rattle.bits.specs.Word.{bit}
use Rattle.rules.specs.Addresses.{is_aligned}
use Rattle.hart.specs.Words.{puts}
use Rattle.hart.specs.Modes.{mode_m}
use Rattle.hart.specs.Caps.{has_c, has_s, mstatus_of}
use Rattle.hart.specs.Answers.{done, refused}
use Rattle.hart.specs.declared.caps.Caps.{Caps}
use Rattle.hart.specs.declared.record.Hart.{Hart}
use Rattle.hart.specs.declared.record.Word.{Word}
use Rattle.hart.specs.declared.record.Word.TheVariants.{Pc, Mode, Mstatus, Mip, Mepc, Mcause, Mtval}
use Rattle.hart.specs.declared.answer.Refusal.TheVariants.{NotMachine, NoSupervisor, BadInterrupt, NotException, BadTrap}
use Rattle.hart.specs.declared.answer.Step.{Step}
use Rattle.trap.specs.Status.{mie_of, mpp_of, spp_of, entered_status, mret_status, sret_status}
use Rattle.trap.specs.Interrupts.{next_of, is_interrupt, cause_of, trapped_mip}
use Rattle.trap.specs.Target.{target_of}
use Rattle.trap.specs.declared.context.TrapInfo.{TrapInfo}

abbrev pub is_m : Hart → Bool
is_m h = h.mode == mode_m

-- ---- pending

-- in M with MIE 0, and not waiting, no interrupt is answered
abbrev pub is_held : Hart → Bool
is_held h = is_m h && mie_of h.mstatus == 0 && h.waiting == 0

abbrev pub pending_of : Hart → ℕ
pending_of h = cond (is_held h) 0 (next_of h.mie h.mip h.mideleg)

-- ---- injection of interrupt n

-- the words that it changes, each with its new value
abbrev pub inject_changes : Hart → ℕ → List (Word × ℕ)
inject_changes h n =
    (Mstatus, entered_status h.mode h.mstatus) ∷
    (Mcause, cause_of n) ∷
    (Mepc, h.pc) ∷
    (Mtval, 0) ∷
    (Mode, mode_m) ∷
    (Pc, target_of h.mtvec (cause_of n)) ∷
    []

abbrev pub injected : Hart → ℕ → Hart
injected h n = puts (inject_changes h n) h

abbrev pub inject_step : Caps → Hart → ℕ → Step
inject_step c h n =
    cond (is_interrupt c.interrupts n) (done (injected h n))
    (refused h BadInterrupt)

-- ---- the firmware's trap

-- from M as any trap; from another mode mstatus is the trap's, in which the board has moved MPP
abbrev pub trapped_status : Hart → TrapInfo → ℕ
trapped_status h t = cond (is_m h) (entered_status mode_m h.mstatus) t.mstatus

abbrev pub trap_changes : Hart → TrapInfo → List (Word × ℕ)
trap_changes h t =
    (Mcause, t.mcause) ∷
    (Mtval, t.mtval) ∷
    (Mepc, t.mepc) ∷
    (Mip, trapped_mip h.mip t.mip) ∷
    (Mstatus, trapped_status h t) ∷
    (Mode, mode_m) ∷
    (Pc, target_of h.mtvec t.mcause) ∷  -- BASE, since mcause is no interrupt's
    []

abbrev pub trapped : Hart → TrapInfo → Hart
trapped h t = puts (trap_changes h t) h

-- true where refusal 9 applies: mcause has bit 63
abbrev pub is_interrupt_cause : TrapInfo → Bool
is_interrupt_cause t = bit 63 t.mcause

-- the trap's mepc is aligned
abbrev pub is_mepc : Caps → TrapInfo → Bool
is_mepc c t = is_aligned (has_c c) t.mepc

-- its mip is within interrupts
abbrev pub is_mip : Caps → TrapInfo → Bool
is_mip c t = bit_and t.mip c.interrupts == t.mip

-- from another mode than M, its mstatus is its own legalized value, and MPP there the mode
abbrev pub is_status : Caps → Hart → TrapInfo → Bool
is_status c h t =
    is_m h || (mstatus_of c t.mstatus == t.mstatus && mpp_of t.mstatus == h.mode)

-- false where refusal 10 applies
abbrev pub is_trap : Caps → Hart → TrapInfo → Bool
is_trap c h t = is_mepc c t && is_mip c t && is_status c h t

abbrev pub trap_step : Caps → Hart → TrapInfo → Step
trap_step c h t =
    cond (is_interrupt_cause t) (refused h NotException)
    (cond (is_trap c h t) (done (trapped h t))
    (refused h BadTrap))

-- ---- mret, sret

abbrev pub mret_changes : Hart → List (Word × ℕ)
mret_changes h =
    (Mode, mpp_of h.mstatus) ∷
    (Mstatus, mret_status h.mstatus) ∷
    (Pc, h.mepc) ∷
    []

abbrev pub mret_of : Hart → Hart
mret_of h = puts (mret_changes h) h

abbrev pub mret_step : Hart → Step
mret_step h = cond (is_m h) (done (mret_of h)) (refused h NotMachine)

abbrev pub sret_changes : Hart → List (Word × ℕ)
sret_changes h =
    (Mode, spp_of h.mstatus) ∷
    (Mstatus, sret_status h.mstatus) ∷
    (Pc, h.sepc) ∷
    []

abbrev pub sret_of : Hart → Hart
sret_of h = puts (sret_changes h) h

abbrev pub sret_step : Caps → Hart → Step
sret_step c h =
    cond (is_m h)
    (cond (has_s c) (done (sret_of h))
    (refused h NoSupervisor))
    (refused h NotMachine)
