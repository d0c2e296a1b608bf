-- What is proved of masks: each fact once, for any mask, and so for any field. The proofs are in
-- proofs/Laws.antt.
use Rattle.std.specs.Prelude.{◌≡◌, ℕ}
use Rattle.std.specs.Int.Bits.{bit_or}
use Rattle.bits.specs.Word.{Fits}
use Rattle.bits.specs.Masks.{kept, merged_word}

-- a masked word has no more bits than the word
abbrev pub KeptFits : Type 0
KeptFits = (v m : ℕ) → Fits v → Fits (kept v m)

-- a masked word stays within its mask
abbrev pub KeptWithin : Type 0
KeptWithin = (v m : ℕ) → Fits v → Fits m → kept (kept v m) m ≡ kept v m

-- a row of kept and forced bits, stored again, is as it is
abbrev pub RowAgain : Type 0
RowAgain = (keep force v : ℕ) → Fits keep → Fits force → Fits v → bit_or (kept (bit_or (kept v keep) force) keep) force ≡ bit_or (kept v keep) force

abbrev pub MergedFits : Type 0
MergedFits = (old v m : ℕ) → Fits old → Fits v → Fits m → Fits (merged_word old v m)

-- what lies within n stays within n, where the mask does
abbrev pub MergedWithin : Type 0
MergedWithin = (old v m n : ℕ) → Fits old → Fits v → Fits m → Fits n → kept old n ≡ old → kept m n ≡ m → kept (merged_word old v m) n ≡ merged_word old v m

-- writing back what is stored under the mask changes nothing
abbrev pub BackChangesNothing : Type 0
BackChangesNothing = (old v m : ℕ) → Fits old → Fits v → Fits m → kept v m ≡ kept old m → merged_word old v m ≡ old

-- merged twice under one mask, the second word alone counts
abbrev pub MergedTwice : Type 0
MergedTwice = (old v w m : ℕ) → Fits old → Fits v → Fits w → Fits m → merged_word (merged_word old v m) w m ≡ merged_word old w m
