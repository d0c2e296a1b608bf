-- What is proved of the CSR instructions, over the definitions alone. The proofs are in
-- proofs/Laws.antt.
use Rattle.std.specs.Prelude.{ℕ, Bool, true, false, cond, ◌||◌, ◌≡◌, ltb, Ok, Err}
use Rattle.bits.specs.Word.{Fits}
use Rattle.hart.specs.Words.{get_x, set_x}
use Rattle.hart.specs.Laws.{FitsHost, Legal}
use Rattle.hart.specs.Modes.{mode_m}
use Rattle.hart.specs.Answers.{done}
use Rattle.hart.specs.declared.caps.Caps.{Caps}
use Rattle.hart.specs.declared.record.Hart.{Hart}
use Rattle.hart.specs.declared.record.Host.{Host}
use Rattle.hart.specs.declared.answer.Effect.{Effect}
use Rattle.hart.specs.Answers.{Answer}
use Rattle.hart.specs.declared.answer.Step.{Step}
use Rattle.csr.specs.Line.{is_line, line_down}
use Rattle.csr.specs.Access.{read_at, write_at}
use Rattle.instr.specs.Instructions.{is_written, written, emulated}
use Rattle.instr.specs.declared.operation.Op.{Op}
use Rattle.instr.specs.declared.operation.Op.TheVariants.{Csrrw, Csrrs, Csrrc}

-- ---- an instruction is its read and its write, one after the other

abbrev pub answering : ℕ → Answer → Answer
answering v (Ok (u, e)) = Ok (v, e)
answering v (Err why) = Err why

-- after the write, rd takes the value that was read, which is the answer
abbrev pub then_into : ℕ → ℕ → Step → Step
then_into rd v s = record { hart = set_x rd v s.hart; answer = answering v s.answer }

-- an accepted instruction: its numbers are at most 31, the mode is M, and the address reads v, and
-- `old` with the controller's line down
pub record Accepted (c : Caps) (h : Hart) (o : Host) (a rd field v old : ℕ) : Type 0 where
  pub numbers : (ltb 31 rd || ltb 31 field) ≡ false
  pub mode : h.mode ≡ mode_m
  pub effect : Effect
  pub reads : read_at c h o a ≡ Ok (v, effect)
  pub reads_old : read_at c h (line_down o) a ≡ Ok (old, effect)

-- what is written is made of the old value; rd and the answer take what is read with the line as it
-- is
abbrev pub ReadThenWrite : Type 0
ReadThenWrite =
    (op : Op) (c : Caps) (h : Hart) (o : Host) (a rd field x v old : ℕ) → Accepted c h o a rd field v old
    → emulated op c h o a rd field x ≡ then_into rd v (cond (is_written op field) (write_at c h a (written op old x)) (done h))

-- ---- a mask of no bits

-- the operand is a mask: csrrs and csrrc
abbrev pub is_masking : Op → Bool
is_masking Csrrw = false
is_masking Csrrs = true
is_masking Csrrc = true

-- with x0, or with the immediate 0, they write nothing: only rd changes, and nothing is asked
abbrev pub NoBitsNoWrite : Type 0
NoBitsNoWrite =
    (op : Op) (c : Caps) (h : Hart) (o : Host) (a rd x v old : ℕ) → is_masking op ≡ true → Accepted c h o a rd 0 v old
    → emulated op c h o a rd 0 x ≡ then_into rd v (done h)

-- with another register that holds 0 they write back the old value, and that changes nothing,
-- whatever the line, but for tselect
abbrev pub ZeroWritesBack : Type 0
ZeroWritesBack =
    (op : Op) (c : Caps) (h : Hart) (o : Host) (a rd rs1 v old : ℕ) → is_masking op ≡ true → Legal c h → FitsHost o → (a ≡ 0x7A0 → ⊥) → Accepted c h o a rd rs1 v old
    → emulated op c h o a rd rs1 0 ≡ then_into rd v (done h)

-- ---- the controller's line

-- two steps that differ at most in what rd takes, which is the answer
pub record SameButRd (rd : ℕ) (t u : Step) : Type 0 where
  pub hart : (v : ℕ) → set_x rd v t.hart ≡ set_x rd v u.hart
  pub answer : (v : ℕ) → answering v t.answer ≡ answering v u.answer

-- the line changes nothing else: no other word of the record, no effect and no refusal
abbrev pub LineReachesRdAlone : Type 0
LineReachesRdAlone =
    (op : Op) (c : Caps) (h : Hart) (o : Host) (a rd field x : ℕ) → is_line o.line ≡ true
    → SameButRd rd (emulated op c h o a rd field x) (emulated op c h (line_down o) a rd field x)

-- ---- legal kept

-- the operand is what rs1 holds ..
abbrev pub by_register : Op → Caps → Hart → Host → ℕ → ℕ → ℕ → Step
by_register op c h o a rd rs1 = emulated op c h o a rd rs1 (get_x rs1 h)

-- .. or the immediate itself
abbrev pub by_immediate : Op → Caps → Hart → Host → ℕ → ℕ → ℕ → Step
by_immediate op c h o a rd imm = emulated op c h o a rd imm imm

-- whatever the instruction, done or refused, a legal record stays legal
abbrev pub RegisterKeepsLegal : Type 0
RegisterKeepsLegal = (op : Op) (c : Caps) (h : Hart) (o : Host) (a rd rs1 : ℕ) → Legal c h → FitsHost o → Legal c (by_register op c h o a rd rs1).hart

abbrev pub ImmediateKeepsLegal : Type 0
ImmediateKeepsLegal = (op : Op) (c : Caps) (h : Hart) (o : Host) (a rd imm : ℕ) → Legal c h → FitsHost o → Fits imm → Legal c (by_immediate op c h o a rd imm).hart
