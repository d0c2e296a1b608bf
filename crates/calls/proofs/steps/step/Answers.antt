-- `calls::steps::step` meets its contract.
use mathlib.Core.Path.{sym, ap, ◌∙◌, subst}
use Rattle.lent.specs.Images.{caps_at, hart_at}
use Rattle.registers.specs.Inner.{told}
use Rattle.calls.specs.Calls.{taken_step}
use Rattle.calls.specs.Inner.{Leaves}
use Rattle.calls.proofs.Carried.{carried_as, carried_step}
use Rattle.calls.proofs.Leaves.{taken_leaves}
use Rattle.calls.proofs.steps.step.Goals as goal

pub returns : goal.returns
returns c =
    let a = c.args in
    c.finish.ensures ∙ ap told (c.take.ensures ∙ ap (λ v. taken_step v.caps v.hart a.t) c.context-v.ensures)

-- what was taken, of the record that the bytes hold
pub finish-requires-clause-differs : goal.finish-requires-clause-differs
finish-requires-clause-differs c =
    let a = c.args in
    let caps = caps_at a.caps.now in
    let h = hart_at a.hart.now in
    let e = c.take.ensures ∙ ap (λ v. taken_step v.caps v.hart a.t) c.context-v.ensures in
    (carried_as e (carried_step caps h a.t)).told

pub finish-requires-clause-refused : goal.finish-requires-clause-refused
finish-requires-clause-refused c =
    let a = c.args in
    let caps = caps_at a.caps.now in
    let h = hart_at a.hart.now in
    let e = c.take.ensures ∙ ap (λ v. taken_step v.caps v.hart a.t) c.context-v.ensures in
    subst (Leaves h) (sym e) (taken_leaves caps h a.t)
