-- `registers::commit` meets its contract.
use Rattle.std.proofs.Common.{rules, ◌*◌, ap}
use Rattle.lent.specs.Images.{caps_at}
use Rattle.registers.proofs.Committed.{mip_left, other_left}
use Rattle.registers.proofs.commit.Goals as goal

pub returns-then-n-eq-MIP : goal.returns-then-n-eq-MIP
returns-then-n-eq-MIP c =
    let a = c.args in
    rw c.seip_change.ensures (mip_left (caps_at a.caps.now) a.hart.now (search rules) (λ j. search rules) a.csr a.v a.writes _ _ _ _ _ (ap (λ k. 8 * k.word) c.row_of-n.ensures) c.word-old.ensures c.left_of-left.ensures c.select-new.ensures c.set_word.ensures c.left_of-left.type_inv c.select-new.type_inv c.if-n-eq-MIP.true)

pub returns-else-n-eq-MIP : goal.returns-else-n-eq-MIP
returns-else-n-eq-MIP c =
    let a = c.args in
    other_left (caps_at a.caps.now) a.hart.now (search rules) (λ j. search rules) a.csr a.v a.writes _ _ _ _ _ (ap (λ k. 8 * k.word) c.row_of-n.ensures) c.word-old.ensures c.left_of-left.ensures c.select-new.ensures c.set_word.ensures c.left_of-left.type_inv c.select-new.type_inv c.if-n-eq-MIP.false
