-- What the addition asks of its caller. No entry's contract cites it.
use Rattle.std.specs.Prelude.{◌+◌, ◌≤◌}
use Rattle.first.specs.Laws.{Each}
use Rattle.tally.specs.Totals.{counters, total_of, limit}
use Rattle.tally.specs.declared.totals.Totals.{Totals}

-- no sum is past the limit
abbrev pub Within : Totals → Totals → Type 0
Within s t = Each (λ k. total_of s k + total_of t k ≤ limit) counters
