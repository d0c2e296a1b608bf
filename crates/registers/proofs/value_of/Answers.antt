-- `registers::value_of` meets its contract.
use borrow.Author.Rules.{rules}
use mathlib.Core.Bool.{Bool, cond}
use mathlib.Core.Path.{sym, ap, ◌∙◌}
use Rattle.bits.specs.Masks.{kept}
use Rattle.rules.specs.Interrupts.{read_delegated}
use Rattle.lent.specs.Images.{hart_at}
use Rattle.registers.specs.declared.table.Row.{Row}
use Rattle.registers.specs.declared.table.Kind.TheVariants.{Delegated}
use Rattle.registers.specs.Table.{row_of, word_in}
use Rattle.registers.proofs.Places.{fits_in}
use Rattle.registers.proofs.Rows.{is, turned, by_tests, value_is}
use Rattle.registers.proofs.value_of.Goals as goal

pub returns-then-eq : goal.returns-then-eq
returns-then-eq c =
    let a = c.args in
    let s = a.hart.now in
    let row = row_of a.csr in
    let w = kept (word_in a.caps.now s row.word) row.shown in
    let delegated = ap (λ (b : Bool). cond b (read_delegated (hart_at s).mideleg (turned a.o row.kind w)) (turned a.o row.kind w)) (sym c.if-eq.true ∙ c.eq-4.ensures ∙ ap (λ (k : Row). is k.kind Delegated) c.row_of-word.ensures) in
    rw (c.read_delegated.ensures, c.hart_at-h.ensures, c.select-turned.ensures, c.eq-3.ensures, c.read_tselect.ensures, c.select-seeded.ensures, c.eq-2.ensures, c.select-timed.ensures, c.eq.ensures, c.keep-shown.ensures, c.word_in.ensures, c.row_of-word.ensures)
    (delegated ∙ by_tests s a.o row.kind w ∙ value_is a.caps.now s a.o (fits_in _ _ (λ j. search rules) (λ j. search rules)) a.csr)

pub returns-else-eq : goal.returns-else-eq
returns-else-eq c =
    let a = c.args in
    let s = a.hart.now in
    let row = row_of a.csr in
    let w = kept (word_in a.caps.now s row.word) row.shown in
    let whole = ap (λ (b : Bool). cond b (read_delegated (hart_at s).mideleg (turned a.o row.kind w)) (turned a.o row.kind w)) (sym c.if-eq.false ∙ c.eq-4.ensures ∙ ap (λ (k : Row). is k.kind Delegated) c.row_of-word.ensures) in
    rw (c.select-turned.ensures, c.eq-3.ensures, c.read_tselect.ensures, c.select-seeded.ensures, c.eq-2.ensures, c.select-timed.ensures, c.eq.ensures, c.keep-shown.ensures, c.word_in.ensures, c.row_of-word.ensures)
    (whole ∙ by_tests s a.o row.kind w ∙ value_is a.caps.now s a.o (fits_in _ _ (λ j. search rules) (λ j. search rules)) a.csr)
