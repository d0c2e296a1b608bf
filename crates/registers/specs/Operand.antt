-- The operand of a CSR instruction, by its form. Source: RISC-V manual 20240411, Volume I, "Zicsr".
use Rattle.std.specs.Prelude.{ℕ}
use Rattle.hart.specs.Words.{get_x}
use Rattle.hart.specs.declared.record.Hart.{Hart}
use Rattle.registers.specs.declared.Form.{Form}
use Rattle.registers.specs.declared.Form.TheVariants.{Register, Immediate}

-- what the register of that number holds, or the field of the instruction itself
abbrev pub operand_of : Form → Hart → ℕ → ℕ
operand_of Register h n = get_x n h
operand_of Immediate h n = n
