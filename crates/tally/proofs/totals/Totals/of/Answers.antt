-- `tally::totals::Totals::of` meets its contract.
use borrow.Author.Rules.{rules}
use mathlib.Core.Path.{◌∙◌}
use Rattle.tally.specs.Totals.{totals}
use Rattle.tally.proofs.Counted.{words, all_counted}
use Rattle.tally.proofs.totals.Totals.of.Goals as goal

pub returns : goal.returns
returns c =
    let l = c.args.loss in
    ◌∙◌ {b = totals (words l.bits l.why (search rules))} (search rules) (all_counted l.bits l.why (search rules))
