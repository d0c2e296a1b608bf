-- `lent::images::set_x` meets its contract.
use borrow.Author.Rules.{rules}
use mathlib.Core.Path.{◌≡◌, refl, ap, ◌∙◌}
use mathlib.Core.Bool.{Bool, true, false, cond}
use mathlib.Core.List.{List}
use Prim.Native.Nat.{ℕ, ◌*◌, ◌<◌}
use lib.Dec.{eqb, ltb}
use lib.ListN.{length, set}
use borrow.Author.Tests.{eqb-true, lt-ltb}
use Rattle.bits.specs.Word.{Fits}
use Rattle.image.specs.Inner.{Bytes, put_at}
use Rattle.image.specs.Word.{word_at}
use Rattle.image.proofs.Laws.{put_back}
use Rattle.hart.specs.Words.{with_x, set_x}
use Rattle.lent.proofs.Views.{hart_set}
use Rattle.lent.specs.Images.{hart_bytes, hart_at}
use Rattle.lent.proofs.images.set_x.Goals as goal

-- x0 takes what stands there, any other register v
chosen : (s : List ℕ) (n v : ℕ) → length s ≡ hart_bytes → Bytes s → Fits v → n < 32 → hart_at (put_at s (8 * n) (cond (eqb n 0) (word_at s 0) v)) ≡ set_x n v (hart_at s)
chosen s n v l b f q = go (eqb n 0) refl
  where
    go : (t : Bool) → eqb n 0 ≡ t → hart_at (put_at s (8 * n) (cond t (word_at s 0) v)) ≡ cond t (hart_at s) (cond (ltb n 32) (with_x (set (hart_at s).x n v) (hart_at s)) (hart_at s))
    go true e = ap (λ k. hart_at (put_at s (8 * k) (word_at s 0))) (eqb-true n 0 e) ∙ ap hart_at (put_back s 0 b)
    go false e = rw (lt-ltb n 32 q) (hart_set s n v l f q)

pub returns-then-n-lt32 : goal.returns-then-n-lt32
returns-then-n-lt32 c =
    let a = c.args in
    ap hart_at c.set_word.ensures
    ∙ ap (λ x. hart_at (put_at a.s.now (8 * a.n) x)) (c.select.ensures ∙ ap (λ x. cond (eqb a.n 0) x a.v) c.word-x0.ensures)
    ∙ chosen a.s.now a.n a.v (search rules) (λ j. search rules) c.ranges.v.fits c.if-n-lt32.true
