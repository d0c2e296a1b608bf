-- `trap::interrupts::find_pending_interrupt_by_priority` meets its contract: a fold of the order,
-- from its last number on.
use Rattle.std.proofs.Common.{ℕ, ◌%◌, cond, rules, tests}
use Rattle.std.proofs.lemmas.Iterator.Adapters.{YieldsList-from_rev_slice}
use Rattle.std.proofs.lemmas.Iterator.Consumers.{fold_from_yields_List}
use Rattle.bits.specs.Word.{bit}
use Rattle.trap.specs.Interrupts.{order}
use Rattle.trap.proofs.interrupts.find_pending_interrupt_by_priority.Goals as goal

-- n before what was first
abbrev chosen : ℕ → ℕ → ℕ → ℕ
chosen ip first n = cond (bit (n % 64) ip) n first

pub returns : goal.returns
returns c =
    fold_from_yields_List _ (chosen c.args.ip) 0 c.fold.result c.fold.ensures.ran (YieldsList-from_rev_slice order (cc))
    (λ a x b q k. search (rules, tests))
