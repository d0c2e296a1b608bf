-- `lent::fresh::start` meets its contract.
use borrow.Author.Rules.{rules}
use mathlib.Core.Path.{◌≡◌}
use lib.ListN.{length}
use Rattle.lent.specs.Images.{hart_bytes}
use Rattle.lent.proofs.Views.{hart_zeros}
use Rattle.lent.proofs.fresh.start.Goals as goal

pub returns : goal.returns
returns c =
    let sized : length c.args.s.now ≡ hart_bytes = search rules in
    rw (c.put_word-4.ensures, c.put_word-3.ensures, c.put_word-2.ensures, c.legalize_mstatus.ensures, c.put_word.ensures, c.only.ensures, c.has_s.ensures, c.clear.ensures, sized, hart_zeros)
