-- `vectors::statement::Fields::changed` ends: what is left of the fields falls.
use Rattle.std.specs.Str.Iter.{split_parts_left}
use Rattle.vectors.proofs.statement.Fields.changed.Given as goal

abbrev pub decreases-loop-word : goal.decreases-loop-word
decreases-loop-word l = split_parts_left l.self.rest
