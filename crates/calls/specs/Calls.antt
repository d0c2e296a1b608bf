-- The fourteen calls on a record: what each is asked, and what it does to a legal record.
-- Source: include/vhart.h; docs/RULES.md, "The fresh record", and refusal 11.
use Rattle.std.specs.Prelude.{ℕ, Bool, true, false, cond, Ok}
use Rattle.rules.specs.Addresses.{is_aligned}
use Rattle.hart.specs.Modes.{mode_m}
use Rattle.hart.specs.Caps.{has_c}
use Rattle.hart.specs.Fresh.{fresh_of}
use Rattle.hart.specs.Answers.{done, refused}
use Rattle.hart.specs.declared.caps.Caps.{Caps}
use Rattle.hart.specs.declared.record.Hart.{Hart}
use Rattle.hart.specs.declared.record.Host.{Host}
use Rattle.hart.specs.declared.answer.Refusal.TheVariants.{BadStart}
use Rattle.hart.specs.declared.answer.Effect.TheVariants.{Nothing}
use Rattle.hart.specs.declared.answer.Step.{Step}
use Rattle.csr.specs.Access.{read_at, write_at}
use Rattle.instr.specs.Instructions.{emulated}
use Rattle.instr.specs.declared.operation.Op.{Op}
use Rattle.trap.specs.Steps.{pending_of, inject_step, trap_step, mret_step, sret_step}
use Rattle.trap.specs.declared.context.TrapInfo.{TrapInfo}
use Rattle.registers.specs.Operand.{operand_of}
use Rattle.registers.specs.declared.Form.{Form}
use Rattle.calls.specs.declared.steps.Taken.{Taken}
use Rattle.calls.specs.declared.steps.Taken.TheVariants.{Inject, Trap, Mret, Sret}

pub data Call : Type 0 where
  Fresh : ℕ → Call  -- the start pc
  Read : Host → ℕ → Call  -- the address
  Write : ℕ → ℕ → Call  -- the address, the value
  Instruction : Form → Op → Host → ℕ → ℕ → ℕ → Call  -- the address, rd, rs1 or the immediate
  Pending : Call
  Take : Taken → Call  -- an injection, a trap or a return

-- what the host hands in
abbrev pub host_of : ℕ → ℕ → ℕ → Host
host_of time seed line = record { time = time; seed = seed; line = line }

-- what the host hands in of a trap
abbrev pub trap_info_of : ℕ → ℕ → ℕ → ℕ → ℕ → TrapInfo
trap_info_of mcause mtval mepc mip mstatus =
    record { mcause = mcause; mtval = mtval; mepc = mepc; mip = mip; mstatus = mstatus }

-- a fresh record, unless pc is not aligned (refusal 11)
abbrev pub fresh_step : Caps → Hart → ℕ → Step
fresh_step c h pc = cond (is_aligned (has_c c) pc) (done (fresh_of c mode_m pc)) (refused h BadStart)

-- a trap or a return
abbrev pub taken_step : Caps → Hart → Taken → Step
taken_step c h (Inject n) = inject_step c h n
taken_step c h (Trap t) = trap_step c h t
taken_step c h Mret = mret_step h
taken_step c h Sret = sret_step c h

-- what the call does to the record h
abbrev pub step_of : Caps → Hart → Call → Step
step_of c h (Fresh pc) = fresh_step c h pc
step_of c h (Read o a) = record { hart = h; answer = read_at c h o a }
step_of c h (Write a v) = write_at c h a v
step_of c h (Instruction form op o a rd source) = emulated op c h o a rd source (operand_of form h source)
step_of c h Pending = record { hart = h; answer = Ok (pending_of h, Nothing) }
step_of c h (Take t) = taken_step c h t

-- a fresh record is made over any content; every other call is handed a record
abbrev pub is_start : Call → Bool
is_start (Fresh pc) = true
is_start (Read o a) = false
is_start (Write a v) = false
is_start (Instruction form op o a rd source) = false
is_start Pending = false
is_start (Take t) = false
