-- `tally::entry::tally` meets its contract.
use Rattle.std.proofs.Common.{rules, sym, ◌∙◌}
use Rattle.explain.specs.Explain.{found_of}
use Rattle.tally.specs.Totals.{tallied}
use Rattle.tally.proofs.Unlined.{line_unread}
use Rattle.tally.proofs.entry.tally.Goals as goal

pub returns-in_err-totals : goal.returns-in_err-totals
returns-in_err-totals c =
    let a = c.args in
    ◌∙◌ {b = tallied (found_of a.o a.address a.value a.caps.now a.hart.now) a.totals.now} (search rules) (sym (line_unread a.o a.address a.value a.caps.now a.hart.now a.totals.now))

pub returns : goal.returns
returns c =
    let a = c.args in
    ◌∙◌ {b = tallied (found_of a.o a.address a.value a.caps.now a.hart.now) a.totals.now} (search rules) (sym (line_unread a.o a.address a.value a.caps.now a.hart.now a.totals.now))
