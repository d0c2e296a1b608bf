-- The laws of masks: each is one call of `by_bits`, or of a fact of the library's.
use mathlib.Core.List.{[], ◌∷◌}
use native.Mathlib.Omega.{arith}
use lib.Bits.{and_le_l}
use Rattle.bits.specs.Laws.{KeptFits, KeptWithin, RowAgain, MergedFits, MergedWithin, BackChangesNothing, MergedTwice}
use Rattle.bits.proofs.Decide.{var, ◌&◌, ◌∣◌, same, env2, env3, env4, by_bits, by_bits_if, below_64}
use Rattle.bits.proofs.Shown.{shown}
open shown use {merged}

pub kept_fits : KeptFits
kept_fits v m h = let le = and_le_l v m in omega arith

pub kept_within : KeptWithin
kept_within v m hv hm = by_bits (var 0 & var 1 & var 1) (var 0 & var 1) tt (env2 v m hv hm [])

pub row_again : RowAgain
row_again keep force v hk hf hv = by_bits ((var 2 & var 0 ∣ var 1) & var 0 ∣ var 1) (var 2 & var 0 ∣ var 1) tt (env3 keep force v hk hf hv [])

pub merged_fits : MergedFits
merged_fits old v m ho hv hm = below_64 (merged (var 0) (var 1) (var 2)) tt (env3 old v m ho hv hm [])

pub merged_within : MergedWithin
merged_within old v m n ho hv hm hn e f =
    by_bits_if (same (var 0 & var 3) (var 0) ∷ same (var 2 & var 3) (var 2) ∷ []) (merged (var 0) (var 1) (var 2) & var 3) (merged (var 0) (var 1) (var 2)) tt
    (env4 old v m n ho hv hm hn []) (e, (f, tt))

pub back_changes_nothing : BackChangesNothing
back_changes_nothing old v m ho hv hm e =
    by_bits_if (same (var 1 & var 2) (var 0 & var 2) ∷ []) (merged (var 0) (var 1) (var 2)) (var 0) tt (env3 old v m ho hv hm []) (e, tt)

pub merged_twice : MergedTwice
merged_twice old v w m ho hv hw hm =
    by_bits (merged (merged (var 0) (var 1) (var 3)) (var 2) (var 3)) (merged (var 0) (var 2) (var 3)) tt (env4 old v w m ho hv hw hm [])
