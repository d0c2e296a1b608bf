-- Which interrupt comes first, which numbers are interrupts, and what becomes of mcause and mip.
-- Source: RISC-V manual 20240411, Volume II, "Machine Interrupt (mip and mie) Registers" and
-- "Machine Cause (mcause) Register"; docs/RULES.md, "The pending question" and "Traps and returns".
use Rattle.std.specs.Prelude.{ℕ, Bool, not, ◌&&◌, List, [], ◌∷◌, nat_lt}
use Rattle.bits.specs.Alg.{Alg, plain}
use Rattle.bits.specs.Word.{bit}
use Rattle.first.specs.First.{first_of}

-- MEI, MSI, MTI, SEI, SSI, STI, LCOFI. On a legal record only the first three can be answered
abbrev pub order : List ℕ
order = 11 ∷ 3 ∷ 7 ∷ 9 ∷ 1 ∷ 5 ∷ 13 ∷ []

-- interrupt n is enabled, pending and not delegated
abbrev pub is_ready : ℕ → ℕ → ℕ → ℕ → Bool
is_ready mie mip mideleg n = bit n mie && bit n mip && not (bit n mideleg)

abbrev pub next_of : ℕ → ℕ → ℕ → ℕ
next_of mie mip mideleg = first_of 0 (λ n. n) (is_ready mie mip mideleg) order

-- false where refusal 8 applies: a number of at most 63 whose bit the hart's interrupts have
abbrev pub is_interrupt : ℕ → ℕ → Bool
is_interrupt interrupts n = nat_lt n 64 && bit n interrupts

module _ (A : Alg) where
  open A use {Word, num, ◌∣◌, field, at, ones, merged}

  -- mcause: the Interrupt bit, and the number
  abbrev pub cause : Word → Word
  cause n = at 63 (num 1) ∣ field 0 63 n

  -- the bits of mip that stay virtual at a trap (0x2A88): MSIP, MTIP, SEIP, MEIP and LCOFIP. SSIP
  -- and STIP are the payload's too, which changes them on the board
  abbrev virtual : Word
  virtual = ones 3 1 ∣ ones 7 1 ∣ ones 9 1 ∣ ones 11 1 ∣ ones 13 1

  -- mip after a trap: where virtual the record's, elsewhere the trap's
  abbrev pub mip_after : Word → Word → Word
  mip_after mip trap = merged trap mip virtual

unfoldable pub cause_of : ℕ → ℕ
cause_of = cause plain

-- the stored mip, the trap's
unfoldable pub trapped_mip : ℕ → ℕ → ℕ
trapped_mip = mip_after plain
