-- `trap::context::VirtContext::trap` meets its contract: the test picks the case.
use Rattle.std.proofs.Common.{refl, ne_eqb}
use Rattle.hart.proofs.Laws.{is_puts}
use Rattle.trap.specs.Steps.{trap_changes}
use Rattle.trap.proofs.context.VirtContext.trap.Goals as goal

pub returns-then-from-eq-M-clause-value : goal.returns-then-from-eq-M-clause-value
returns-then-from-eq-M-clause-value c =
    let h = c.args.self.hart in
    is_puts h _ (trap_changes h c.args.t) refl (simp (c.enter.ensures, c.target.ensures, c.trap_mip.ensures, c.if-from-eq-M.true))

pub returns-else-from-eq-M-clause-value : goal.returns-else-from-eq-M-clause-value
returns-else-from-eq-M-clause-value c =
    let h = c.args.self.hart in
    is_puts h _ (trap_changes h c.args.t) refl (rw (c.target.ensures, c.trap_mip.ensures, ne_eqb _ _ c.if-from-eq-M.false))
