-- `plain::engine::write` meets its contract.
use borrow.Author.Tests.{eq-eqb, ne_eqb}
use mathlib.Core.Bool.{true, false}
use mathlib.Core.Path.{◌∙◌}
use Rattle.plain.proofs.Answered.{write_some, stepped}
use Rattle.plain.proofs.engine.write.Goals as goal

pub returns-then-s-eq0 : goal.returns-then-s-eq0
returns-then-s-eq0 c =
    let asks = c.asking-q.ensures in
    c.refused-then-s-eq0.ensures ∙ write_some _ _ _ _ _ _ _ c.in-Some.ensures asks.is asks.fits c.gather-s.ensures true (eq-eqb _ 0 c.if-s-eq0.true)

pub returns : goal.returns
returns c =
    let asks = c.asking-q.ensures in
    stepped _ _ c.in-Some.first.now.word _ _ _ c.seip_change.ensures c.put-next.ensures c.stored.ensures
    ∙ write_some _ _ _ _ _ _ _ c.in-Some.ensures asks.is asks.fits c.gather-s.ensures false (ne_eqb _ 0 c.if-s-eq0.false)
