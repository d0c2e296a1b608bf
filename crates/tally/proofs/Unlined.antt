-- What is found of a write is compared with the line down: so the host's line says nothing of it.
use Rattle.std.specs.Prelude.{ℕ, List, ◌≡◌}
use mathlib.Core.Path.{refl}
use Rattle.hart.specs.declared.record.Host.{Host}
use Rattle.explain.specs.Explain.{found_of}
use Rattle.explain.specs.Lost.{lost_of}
use Rattle.tally.specs.Totals.{tallied, tally_of}
use Rattle.tally.specs.declared.totals.Totals.{Totals}

pub line_unread : (o : Host) (a v : ℕ) (c s : List ℕ) (t : Totals) → tally_of o.time o.seed a v c s t ≡ tallied (found_of o a v c s) t
unfolding tally_of found_of lost_of
line_unread o a v c s t = refl
