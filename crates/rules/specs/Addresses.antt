-- mtvec (305), stvec (105), mepc (341), sepc (141), satp (180).
-- Source: RISC-V manual 20240411, Volume II, "Machine Trap-Vector Base-Address (mtvec) Register",
-- "Supervisor Trap Vector Base Address (stvec) Register", "Machine Exception Program Counter (mepc)
-- Register", "Supervisor Exception Program Counter (sepc) Register", "Supervisor Address
-- Translation and Protection (satp) Register"; docs/RULES.md, "Registers".
use Rattle.std.specs.Prelude.{Bool, ℕ, ltb}
use Rattle.bits.specs.Alg.{Alg, plain}

module _ (A : Alg) where
  open A use {Word, Test, num, ◌∣◌, ◌&◌, compl, ◌≐◌, field, at, ones, when, choose, either, isnt}

  -- MODE is 0 (direct) or 1 (vectored)
  abbrev pub tvec_mode : Word → Test
  tvec_mode v = either (field 0 2 v ≐ num 0) (field 0 2 v ≐ num 1)

  -- mtvec, stvec: a reserved MODE takes the new base and keeps the old mode
  abbrev pub tvec : Word → Word → Word
  tvec old v =
      at 2 (field 2 62 v)  -- BASE
      ∣ choose (tvec_mode v) (field 0 2 v) (field 0 2 old)  -- MODE

  -- the bits of an instruction's address that are 0: IALIGN is 16 with C and 32 without
  abbrev pub alignment : Test → Word
  alignment c = ones 0 1 ∣ when (isnt c) (ones 1 1)

  abbrev pub aligned : Test → Word → Test
  aligned c v = v & alignment c ≐ num 0

  -- mepc, sepc: a value above the highest valid address is ignored, another is stored with the bits
  -- of the alignment 0
  abbrev pub epc : Test → Test → Word → Word → Word
  epc c above old v = choose above old (v & compl (alignment c))

  -- MODE is 0 (Bare) or 8 (Sv39)
  abbrev pub satp_mode : Word → Test
  satp_mode v = either (field 60 4 v ≐ num 0) (field 60 4 v ≐ num 8)

  -- satp: a write with another MODE has no effect
  abbrev pub satp : Word → Word → Word
  satp old v = choose (satp_mode v) v old

unfoldable pub is_tvec_mode : ℕ → Bool
is_tvec_mode = tvec_mode plain

-- the stored word, the word written
unfoldable pub written_tvec : ℕ → ℕ → ℕ
written_tvec = tvec plain

-- C, the word
unfoldable pub is_aligned : Bool → ℕ → Bool
is_aligned = aligned plain

-- the highest valid address, C, the stored word, the word written
unfoldable pub written_epc : ℕ → Bool → ℕ → ℕ → ℕ
written_epc highest c old v = epc plain c (ltb highest v) old v

unfoldable pub is_satp_mode : ℕ → Bool
is_satp_mode = satp_mode plain

-- the stored word, the word written
unfoldable pub written_satp : ℕ → ℕ → ℕ
written_satp = satp plain
