-- `csr::table::csr_in` meets its contract: a slot that no arm names is empty.
use mathlib.Core.Path.{sym}
use Rattle.csr.proofs.Slots.{in_empty}
use Rattle.csr.proofs.table.csr_in.Goals as goal

pub returns-in_default : goal.returns-in_default
returns-in_default c = sym (in_empty c.args.slot c.in_default.in_default-own.rest)
