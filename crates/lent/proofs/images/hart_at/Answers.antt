-- `lent::images::hart_at` meets its contract.
use Rattle.lent.specs.Images.{hart_at}
use Rattle.lent.proofs.images.hart_at.Goals as goal

pub returns : goal.returns
unfolding hart_at
returns c = rw (c.hart_from.ensures, c.load-2.ensures, c.load.ensures)
