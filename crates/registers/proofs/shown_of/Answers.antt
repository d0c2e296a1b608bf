-- `registers::shown_of` meets its contract.
use mathlib.Core.Path.{◌≡◌, ap, ◌∙◌}
use Rattle.csr.specs.Line.{raises_seip}
use Rattle.lent.specs.Images.{caps_at, hart_at}
use Rattle.registers.specs.Table.{row_of}
use Rattle.registers.proofs.Places.{unlined}
use Rattle.registers.proofs.shown_of.Goals as goal

pub returns-else-row_of-eq-MIP : goal.returns-else-row_of-eq-MIP
returns-else-row_of-eq-MIP c =
    let a = c.args in
    let other : (row_of a.csr).word ≡ 37 → ⊥ = λ e. c.if-row_of-eq-MIP.false (ap (λ k. k.word) c.row_of.ensures ∙ e) in
    unlined a.address a.csr c.requires.found other (raises_seip (caps_at a.caps.now) a.o) (hart_at a.hart.now) a.old

pub returns-then-row_of-eq-MIP : goal.returns-then-row_of-eq-MIP
returns-then-row_of-eq-MIP c = rw (c.shown.ensures, c.hart_at.ensures, c.caps_at.ensures)
