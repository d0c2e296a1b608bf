-- `calls::entries::pending` meets its contract.
use borrow.Author.Rules.{rules}
use mathlib.Core.Path.{refl}
use Rattle.std.specs.Prelude.{Ok}
use Rattle.hart.specs.declared.answer.Effect.TheVariants.{Nothing}
use Rattle.calls.specs.Calls.{Pending}
use Rattle.calls.proofs.Goes.{entry_reads}
use Rattle.calls.proofs.entries.pending.Goals as goal

pub returns : goal.returns
returns c =
    let a = c.args in
    entry_reads Pending a.caps.now a.hart.now refl (search rules) {r = Ok (c.has_pending_interrupt.result, Nothing)} (λ j. search rules) refl (search rules)
