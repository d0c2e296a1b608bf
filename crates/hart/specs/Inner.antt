-- The code's own notions of flags: no entry's contract rests on them.
use Rattle.std.specs.Prelude.{ℕ}
use Rattle.bits.specs.Word.{bit}
use Rattle.bits.specs.Alg.{Alg, plain}

module _ (A : Alg) where
  open A use {Word, Test, ◌∣◌, ones, when}

  -- the bits of menvcfg (30A) that can be 1, by Zicbom, Zicboz, Svpbmt and Sstc
  abbrev pub menvcfg_mask : Test → Test → Test → Test → Word
  menvcfg_mask zicbom zicboz svpbmt sstc =
      ones 0 1  -- FIOM
      ∣ when zicbom (ones 4 3)  -- CBIE, CBCFE
      ∣ when zicboz (ones 7 1)  -- CBZE
      ∣ when svpbmt (ones 62 1)  -- PBMTE
      ∣ when sstc (ones 63 1)  -- STCE

-- by the capabilities' flags
unfoldable pub envcfg_bits : ℕ → ℕ
envcfg_bits flags = menvcfg_mask plain (bit 2 flags) (bit 3 flags) (bit 4 flags) (bit 1 flags)
