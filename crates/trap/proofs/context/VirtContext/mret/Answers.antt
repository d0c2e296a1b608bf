-- `trap::context::VirtContext::mret` meets its contract.
use Rattle.std.proofs.Common.{refl}
use Rattle.hart.proofs.Laws.{is_puts}
use Rattle.trap.specs.Steps.{mret_changes}
use Rattle.trap.proofs.context.VirtContext.mret.Goals as goal

pub returns : goal.returns
returns c =
    let h = c.args.self.hart in
    rw (c.mret.ensures, c.mpp.ensures) (is_puts h _ (mret_changes h) refl refl)
