-- `trap::context::VirtContext::sret` meets its contract.
use Rattle.std.proofs.Common.{refl}
use Rattle.hart.proofs.Laws.{is_puts}
use Rattle.trap.specs.Steps.{sret_changes}
use Rattle.trap.proofs.context.VirtContext.sret.Goals as goal

pub returns : goal.returns
returns c =
    let h = c.args.self.hart in
    rw (c.sret.ensures, c.spp.ensures) (is_puts h _ (sret_changes h) refl refl)
