-- mstatus (300) and sstatus (100), field by field.
-- Source: RISC-V manual 20240411, Volume II, "Machine Status (mstatus and mstatush) Registers" and
-- "Supervisor Status (sstatus) Register"; docs/RULES.md, "Registers".
use Rattle.std.specs.Prelude.{Bool, ℕ}
use Rattle.bits.specs.Alg.{Alg, plain}

module _ (A : Alg) where
  open A use {Word, Test, num, ◌∣◌, ◌&◌, ◌≐◌, field, at, ones, merged, when, choose, both, either, isnt}

  -- a privilege mode is WARL: 2, or 1 without S, becomes 0
  abbrev legal_mode : Test → Word → Word
  legal_mode s mode = choose (either (mode ≐ num 2) (both (mode ≐ num 1) (isnt s))) (num 0) mode

  -- MPP, as it is stored
  abbrev pub legal_mpp : Test → Word → Word
  legal_mpp s v = legal_mode s (field 11 2 v)

  -- FS or VS is dirty, 3
  abbrev pub either_dirty : Word → Word → Test
  either_dirty fs vs = either (fs ≐ num 3) (vs ≐ num 3)

  -- mstatus (300): what a write of v stores, on a hart that has S or not, FS or not, VS or not. All
  -- else is 0: UBE, XS, SBE, MBE, GVA, MPV, bits 0 and 4 (once UIE and UPIE) and the other reserved
  -- bits
  abbrev pub mstatus : Test → Test → Test → Word → Word
  mstatus s fs vs v =
      at 1 (when s (field 1 1 v))  -- SIE
      ∣ at 3 (field 3 1 v)  -- MIE
      ∣ at 5 (when s (field 5 1 v))  -- SPIE
      ∣ at 7 (field 7 1 v)  -- MPIE
      ∣ at 8 (when s (field 8 1 v))  -- SPP
      ∣ at 9 (when vs (field 9 2 v))  -- VS
      ∣ at 11 (legal_mpp s v)  -- MPP
      ∣ at 13 (when fs (field 13 2 v))  -- FS
      ∣ at 17 (field 17 1 v)  -- MPRV
      ∣ at 18 (when s (field 18 1 v))  -- SUM
      ∣ at 19 (when s (field 19 1 v))  -- MXR
      ∣ at 20 (when s (field 20 1 v))  -- TVM
      ∣ at 21 (field 21 1 v)  -- TW
      ∣ at 22 (when s (field 22 1 v))  -- TSR
      ∣ at 32 (num 2)  -- UXL: 64 bits
      ∣ at 34 (when s (num 2))  -- SXL: 64 bits
      ∣ at 63 (when (either_dirty (when fs (field 13 2 v)) (when vs (field 9 2 v))) (num 1))  -- SD

  -- sstatus (100): the fields of mstatus that it is a view of
  abbrev pub sstatus_bits : Word
  sstatus_bits =
      ones 1 1  -- SIE
      ∣ ones 5 1  -- SPIE
      ∣ ones 6 1  -- UBE
      ∣ ones 8 1  -- SPP
      ∣ ones 9 2  -- VS
      ∣ ones 13 2  -- FS
      ∣ ones 15 2  -- XS
      ∣ ones 18 1  -- SUM
      ∣ ones 19 1  -- MXR
      ∣ ones 32 2  -- UXL
      ∣ ones 63 1  -- SD

  -- a read shows those bits of mstatus, m
  abbrev pub sstatus_read : Word → Word
  sstatus_read m = m & sstatus_bits

  -- those bits of v, and the others of m
  abbrev pub sstatus_merged : Word → Word → Word
  sstatus_merged m v = merged m v sstatus_bits

-- what a write of mstatus stores: S, FS, VS, the word written
unfoldable pub legal_mstatus : Bool → Bool → Bool → ℕ → ℕ
legal_mstatus = mstatus plain

-- what sstatus reads, of the stored mstatus
unfoldable pub read_sstatus : ℕ → ℕ
read_sstatus = sstatus_read plain

-- a write of sstatus is one of this to mstatus: those bits replaced, and the others as they are.
-- The stored mstatus, the word written
unfoldable pub merged_sstatus : ℕ → ℕ → ℕ
merged_sstatus = sstatus_merged plain
