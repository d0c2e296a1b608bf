-- The code's own notions of what rows give together: no entry's contract rests on them.
use Rattle.std.specs.Prelude.{ℕ, cond, List, ltb}
use Rattle.std.specs.Int.Bits.{bit_or}
use Rattle.std.specs.List.{fold}
use Rattle.bits.specs.Alg.{plain}
use Rattle.bits.specs.Masks.{only_if}
use Rattle.plain.specs.Row.{is_at, asked, applies_to, shows_of, takes_of}
use Rattle.plain.specs.Engine.{takes_at, with_value, is_view}
use Rattle.plain.specs.declared.row.Row.{Row}
use Rattle.plain.specs.declared.row.Rule.{Rule}
use Rattle.plain.specs.declared.row.Asked as declared
use Rattle.plain.specs.declared.engine.Sum.{Sum}

-- what a write stores, of the first row's rule and what the rows take of the value
abbrev pub stored_by : List Row → declared.Asked → Rule → ℕ → ℕ
stored_by t q rule v =
    cond (is_view rule) (takes_at plain (with_value plain (asked q) (ltb q.highest v) v) 0x300 t) v

-- the sum with a row that is at the address
abbrev pub with_row : declared.Asked → ℕ → Sum → Row → Sum
with_row q a s r =
    cond (is_at r a)
    (record {
      present = bit_or s.present (only_if (applies_to q.has r) 1);
      shows = bit_or s.shows (only_if (applies_to q.has r) (shows_of q r));
      takes = bit_or s.takes (only_if (applies_to q.has r) (takes_of q r));
    })
    s

abbrev pub with_rows : declared.Asked → ℕ → List Row → Sum
with_rows q a t = fold (with_row q a) (record { present = 0; shows = 0; takes = 0 }) t
