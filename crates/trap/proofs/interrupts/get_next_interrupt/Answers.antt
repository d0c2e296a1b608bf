-- `trap::interrupts::get_next_interrupt` meets its contract: where no bit is set, the first
-- is 0.
use Rattle.std.proofs.Common.{sym, ap, ◌∙◌}
use Rattle.trap.specs.Inner.{first_set}
use Rattle.trap.proofs.Order.{first_is_next}
use Rattle.trap.proofs.interrupts.get_next_interrupt.Goals as goal

pub returns-then-ip-eq0 : goal.returns-then-ip-eq0
returns-then-ip-eq0 c =
    let a = c.args in
    sym (ap first_set c.if-ip-eq0.true) ∙ first_is_next a.mie a.mip a.mideleg c.ranges.mideleg.fits

pub returns-else-ip-eq0 : goal.returns-else-ip-eq0
returns-else-ip-eq0 c =
    let a = c.args in
    c.find_pending_interrupt_by_priority.ensures ∙ first_is_next a.mie a.mip a.mideleg c.ranges.mideleg.fits
