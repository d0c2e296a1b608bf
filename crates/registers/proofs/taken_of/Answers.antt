-- `registers::taken_of` meets its contract.
use Rattle.registers.proofs.taken_of.Goals as goal

pub returns : goal.returns
returns c = rw (c.select.ensures, c.keep.ensures, c.row_of-taken.ensures)
