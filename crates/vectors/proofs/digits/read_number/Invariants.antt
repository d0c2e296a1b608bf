-- `vectors::digits::read_number`: the digits so far are those of the number so far.
use Rattle.std.proofs.Common.{◌≡◌, ◌<◌, ◌^◌, take}
use Rattle.vectors.specs.Text.{last_digits}
use Rattle.vectors.proofs.digits.read_number.Given as goal

abbrev pub invariant-loop-b : goal.invariant-loop-b
invariant-loop-b l = record {
  fits : l.n < 16 ^ l.b-index;
  spelled : last_digits 16 l.b-index l.n ≡ take l.b-index l.b-items;
}
