-- The code's own steps towards a register's rule: no entry's contract rests on them.
use Rattle.std.specs.Prelude.{Bool, ℕ, ◌/◌, ◌%◌, ◌^◌}
use Rattle.bits.specs.Alg.{Alg, plain}
use Rattle.bits.specs.Masks.{kept}
use Rattle.rules.specs.Status.{legal_mpp, either_dirty}
use Rattle.rules.specs.Addresses.{alignment}

module _ (A : Alg) where
  open A use {Word, Test, num, ◌&◌, ◌≐◌, field, insert, choose}

  -- mstatus (300) with MPP legalized, and all else as it is
  abbrev pub mpp_legalized : Test → Word → Word
  mpp_legalized s v = insert 11 2 (legal_mpp A s v) v

  -- FS or VS of mstatus is dirty
  abbrev pub dirty : Word → Test
  dirty m = either_dirty A (field 13 2 m) (field 9 2 m)

  -- menvcfg (30A) and senvcfg (10A) within a mask: CBIE 2 is reserved and becomes 0
  abbrev pub envcfg : Word → Word → Word
  envcfg mask v = insert 4 2 (choose (field 4 2 v ≐ num 2) (num 0) (field 4 2 v)) v & mask

-- the bits of the filter f of word, from bit o on, taken modulo 64 as a 64-bit machine shifts
abbrev pub field_read : ℕ → ℕ → ℕ → ℕ
field_read o f word = kept word f / 2 ^ (o % 64)

-- S, the word written
unfoldable pub with_legal_mpp : Bool → ℕ → ℕ
with_legal_mpp = mpp_legalized plain

unfoldable pub is_dirty : ℕ → Bool
is_dirty = dirty plain

-- C
abbrev pub alignment_bits : Bool → ℕ
alignment_bits = alignment plain

-- the bits that can be 1, the word written
unfoldable pub legal_envcfg : ℕ → ℕ → ℕ
legal_envcfg = envcfg plain
