-- `lent::images::get_x` meets its contract.
use mathlib.Core.Path.{◌∙◌}
use borrow.Author.Tests.{lt-ltb}
use Rattle.lent.proofs.Views.{register_at}
use Rattle.lent.proofs.images.get_x.Goals as goal

pub returns-then-n-lt32 : goal.returns-then-n-lt32
returns-then-n-lt32 c =
    let a = c.args in
    rw (lt-ltb a.n 32 c.if-n-lt32.true) (c.word.ensures ∙ register_at a.s.now a.n c.if-n-lt32.true)
