-- `plain::entries::read` meets its contract.
use borrow.Author.Rules.{rules}
use mathlib.Core.Path.{refl}
use Rattle.calls.specs.Calls.{Read}
use Rattle.calls.proofs.Goes.{entry_reads}
use Rattle.plain.proofs.entries.read.Goals as goal

pub returns : goal.returns
returns c =
    let a = c.args in
    entry_reads (Read a.o a.address) a.caps.now a.hart.now refl (search rules) (λ j. search rules) refl (search rules)
