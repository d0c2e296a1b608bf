-- mie (304), sie (104), mip (344), sip (144), mideleg (303), medeleg (302).
-- Source: RISC-V manual 20240411, Volume II, "Machine Interrupt (mip and mie) Registers",
-- "Supervisor Interrupt (sip and sie) Registers", "Machine Trap Delegation (medeleg and mideleg)
-- Registers", "Sstc"; docs/RULES.md, "Registers". When a write asks for an effect is in
-- csr/specs/Access.antt.
use Rattle.std.specs.Prelude.{Bool, ℕ}
use Rattle.bits.specs.Alg.{Alg, plain}

module _ (A : Alg) where
  open A use {Word, Test, num, ◌∣◌, ◌&◌, compl, ◌≐◌, field, ones, merged, when}

  -- SSI, STI, SEI: 0x222
  abbrev pub supervisor : Word
  supervisor = ones 1 1 ∣ ones 5 1 ∣ ones 9 1

  -- MSI, MTI, MEI: 0x888
  abbrev pub machine : Word
  machine = ones 3 1 ∣ ones 7 1 ∣ ones 11 1

  -- mie (304): the enables of the interrupts that this hart has, of both levels (0xAAA)
  abbrev pub mie : Word → Word → Word
  mie ints v = v & (ints & (supervisor ∣ machine))

  -- sie (104) shows of mie, and sip (144) of mip, the delegated interrupts of supervisor level
  abbrev pub delegated : Word → Word → Word
  delegated deleg w = w & (deleg & supervisor)

  -- sie writes those bits only
  abbrev pub sie : Word → Word → Word → Word
  sie deleg old v = merged old v (deleg & supervisor)

  -- menvcfg's STCE: in the manual stimecmp then drives STIP. Here a write of mip can't reach it
  abbrev pub stce : Word → Test
  stce menvcfg = field 63 1 menvcfg ≐ num 1

  -- the bits of mip that a write can reach: SSIP, STIP and SEIP, but not STIP while STCE is set
  abbrev pub mip_writable : Word → Word
  mip_writable menvcfg = supervisor & compl (when (stce menvcfg) (ones 5 1))

  -- mip (344) reads SEIP as 1 if the stored bit is 1, or if the interrupt controller raises it
  abbrev pub mip_shown : Test → Word → Word
  mip_shown up m = m ∣ when up (ones 9 1)

  -- a write reaches those that this hart has, and the others stay
  abbrev pub mip : Word → Word → Word → Word → Word
  mip ints menvcfg old v = merged old v (mip_writable menvcfg & ints)

  -- sip writes SSIP only: a hart with S has it, and a legal mideleg delegates it
  abbrev pub sip : Word → Word → Word
  sip old v = merged old v (ones 1 1)

  -- SEIP: a write that changes it asks for an effect
  abbrev pub seip : Word → Test
  seip m = field 9 1 m ≐ num 1

  -- mideleg (303): what this hart has is delegated as written, but machine level never and
  -- supervisor level always
  abbrev pub mideleg : Word → Word → Word
  mideleg ints v = v & (ints & compl machine) ∣ supervisor

  -- medeleg (302): 0xB3FF
  abbrev pub medeleg : Word → Word
  medeleg v =
      v
      & (ones 0 10  -- misaligned and faulting accesses; illegal; breakpoint; calls from U and S
      ∣ ones 12 2  -- page faults of fetches and loads
      ∣ ones 15 1)  -- page faults of stores

-- interrupts, the word written
unfoldable pub legal_mie : ℕ → ℕ → ℕ
legal_mie = mie plain

-- mideleg, the stored word
unfoldable pub read_delegated : ℕ → ℕ → ℕ
read_delegated = delegated plain

-- mideleg, the stored mie, the word written
unfoldable pub written_sie : ℕ → ℕ → ℕ → ℕ
written_sie = sie plain

-- whether the controller raises SEIP, the stored mip
unfoldable pub read_mip : Bool → ℕ → ℕ
read_mip = mip_shown plain

-- interrupts, menvcfg, the stored mip, the word written
unfoldable pub written_mip : ℕ → ℕ → ℕ → ℕ → ℕ
written_mip = mip plain

-- the stored mip, the word written
unfoldable pub written_sip : ℕ → ℕ → ℕ
written_sip = sip plain

-- whether SEIP is 1 in this mip
unfoldable pub has_seip : ℕ → Bool
has_seip = seip plain

-- interrupts, the word written
unfoldable pub legal_mideleg : ℕ → ℕ → ℕ
legal_mideleg = mideleg plain

unfoldable pub legal_medeleg : ℕ → ℕ
legal_medeleg = medeleg plain
