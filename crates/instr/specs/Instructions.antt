-- The CSR instructions: read, then write, then rd.
-- Source: RISC-V manual 20240411, Volume I, "Zicsr"; docs/RULES.md, "CSR instructions", and
-- refusals 3 to 6 and 15.
use Rattle.std.specs.Prelude.{Bool, true, not, ◌||◌, cond, ℕ, eqb, ltb, Ok, Err}
use Rattle.bits.specs.Alg.{plain}
use Rattle.hart.specs.Words.{set_x}
use Rattle.hart.specs.Modes.{mode_m}
use Rattle.hart.specs.Answers.{refused}
use Rattle.hart.specs.declared.caps.Caps.{Caps}
use Rattle.hart.specs.declared.record.Hart.{Hart}
use Rattle.hart.specs.declared.record.Host.{Host}
use Rattle.hart.specs.declared.answer.Refusal.TheVariants.{BadOperand, NotMachine}
use Rattle.hart.specs.declared.answer.Step.{Step}
use Rattle.csr.specs.Address.{Decoded, decode_of}
use Rattle.csr.specs.Line.{line_down, line_to}
use Rattle.csr.specs.Access.{read_of, hart_after, effect_after}
use Rattle.csr.specs.declared.address.Csr.{Csr}
use Rattle.instr.specs.declared.operation.Op.{Op}
use Rattle.instr.specs.declared.operation.Op.TheVariants.{Csrrw, Csrrs, Csrrc}
open plain use {◌∣◌, ◌&◌, compl}

-- the source is the number of rs1, or the immediate: one field of the instruction. Where it is 0,
-- csrrs and csrrc don't write
abbrev pub is_written : Op → ℕ → Bool
is_written Csrrw source = true
is_written Csrrs source = not (eqb source 0)
is_written Csrrc source = not (eqb source 0)

-- what is written, of the old value and the operand
abbrev pub written : Op → ℕ → ℕ → ℕ
written Csrrw old x = x
written Csrrs old x = old ∣ x
written Csrrc old x = old & compl x

-- the record with the CSR written, or as it is
abbrev pub written_if : Bool → Caps → Hart → Csr → ℕ → Hart
written_if w c h r v = cond w (hart_after c h r v) h

-- rd takes the value read, which is also the answer
abbrev pub read_into : ℕ → ℕ → Hart → Hart → Step
read_into rd v h next = record { hart = set_x rd v next; answer = Ok (v, effect_after h next) }

-- read, write, rd. The old value is read with the controller's line down, which is no part of what
-- csrrs and csrrc write. After the host's numbers: the CSR, rd, the source, the operand
abbrev pub performed : Op → Caps → Hart → Host → Csr → ℕ → ℕ → ℕ → Step
performed op c h o r rd source x =
    read_into rd (read_of c h o r) h
    (written_if (is_written op source) c h r (written op (read_of c h (line_down o) r) x))

-- refusals 3 and 4, then 5, then 6: the mode, rd, the source, and what the address gave
abbrev pub accepted_to : ℕ → ℕ → ℕ → Decoded → Decoded
accepted_to mode rd source (Err why) = Err why
accepted_to mode rd source (Ok r) =
    cond (ltb 31 rd || ltb 31 source) (Err BadOperand)
    (cond (eqb mode mode_m) (Ok r)
    (Err NotMachine))

-- and then 15: the capabilities, the mode, the address, rd, the source, the line
abbrev pub accepted_of : Caps → ℕ → ℕ → ℕ → ℕ → ℕ → Decoded
accepted_of c mode a rd source line = line_to line (accepted_to mode rd source (decode_of c a))

abbrev pub emulated_to : Op → Caps → Hart → Host → ℕ → ℕ → ℕ → Decoded → Step
emulated_to op c h o rd source x (Err why) = refused h why
emulated_to op c h o rd source x (Ok r) = performed op c h o r rd source x

-- an instruction, done or refused. After the host's numbers: the address, rd, the source, the
-- operand
abbrev pub emulated : Op → Caps → Hart → Host → ℕ → ℕ → ℕ → ℕ → Step
emulated op c h o a rd source x = emulated_to op c h o rd source x (accepted_of c h.mode a rd source o.line)
