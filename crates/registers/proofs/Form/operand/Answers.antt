-- `registers::Form::operand` meets its contract.
use mathlib.Core.Path.{sym, ap, ◌∙◌}
use Rattle.registers.specs.Operand.{operand_of}
use Rattle.lent.specs.Images.{hart_at}
use Rattle.registers.proofs.Form.operand.Goals as goal

pub returns-in-Register : goal.returns-in-Register
returns-in-Register c =
    let a = c.args in
    c.get_x.ensures ∙ sym (ap (λ f. operand_of f (hart_at a.hart.now) a.field) c.in-Register.is)

pub returns-in-Immediate : goal.returns-in-Immediate
returns-in-Immediate c =
    let a = c.args in
    sym (ap (λ f. operand_of f (hart_at a.hart.now) a.field) c.in-Immediate.is)
