-- `trap::context::VirtContext::inject` meets its contract.
use Rattle.std.proofs.Common.{refl}
use Rattle.hart.proofs.Laws.{is_puts}
use Rattle.trap.specs.Steps.{inject_changes}
use Rattle.trap.proofs.context.VirtContext.inject.Goals as goal

pub returns-clause-value : goal.returns-clause-value
returns-clause-value c =
    let h = c.args.self.hart in
    rw (c.target.ensures, c.cause.ensures, c.enter.ensures) (is_puts h _ (inject_changes h c.args.n) refl refl)
