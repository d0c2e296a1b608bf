-- `plain::engine::read` meets its contract.
use borrow.Author.Tests.{eq-eqb, ne_eqb}
use Rattle.std.proofs.Common.{rules, true, false, Some, ◌≡◌, refl, sym, ◌∙◌}
use Rattle.plain.specs.Engine.{first_at}
use Rattle.plain.specs.Table.{table}
use Rattle.plain.proofs.Answered.{read_some}
use Rattle.plain.proofs.engine.read.Goals as goal

pub returns-then-s-eq0 : goal.returns-then-s-eq0
returns-then-s-eq0 c =
    let asks = c.asking.ensures in
    let found : Some c.in_ok-first.first.now ≡ first_at c.args.address table = search rules in
    read_some _ _ _ _ _ _ _ found asks.is asks.fits c.gather-s.ensures true _ (eq-eqb _ 0 c.if-s-eq0.true) refl

pub returns-then-not-is_line : goal.returns-then-not-is_line
returns-then-not-is_line c =
    let asks = c.asking.ensures in
    let found : Some c.in_ok-first.first.now ≡ first_at c.args.address table = search rules in
    read_some _ _ _ _ _ _ _ found asks.is asks.fits c.gather-s.ensures false false (ne_eqb _ 0 c.if-s-eq0.false) (sym c.is_line.ensures ∙ c.if-not-is_line.true)

pub returns : goal.returns
returns c =
    let asks = c.asking.ensures in
    let found : Some c.in_ok-first.first.now ≡ first_at c.args.address table = search rules in
    read_some _ _ _ _ _ _ _ found asks.is asks.fits c.gather-s.ensures false true (ne_eqb _ 0 c.if-s-eq0.false) (sym c.is_line.ensures ∙ c.if-not-is_line.false)
