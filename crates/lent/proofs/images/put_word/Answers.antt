-- `lent::images::put_word` meets its contract.
use borrow.Author.Rules.{rules}
use mathlib.Core.Path.{ap, ◌∙◌}
use Prim.Native.Nat.{ℕ}
use Rattle.image.specs.Inner.{put_at}
use Rattle.lent.proofs.Views.{hart_put}
use Rattle.lent.specs.Images.{hart_at}
use Rattle.lent.proofs.images.put_word.Goals as goal

pub returns : goal.returns
returns c =
    let a = c.args in
    ap hart_at (c.set_word.ensures ∙ ap (λ (k : ℕ). put_at a.s.now k a.v) c.offset_of.ensures) ∙ hart_put a.s.now a.w a.v (search rules) c.ranges.v.fits
