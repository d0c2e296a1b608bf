-- The seven reasons why a bit is lost, each as the word of the bits for which it holds; a register
-- is told by its address. Source: docs/RULES.md, "Lost bits".
use Rattle.std.specs.Prelude.{ℕ, ◌-◌, ◌^◌, Bool, cond, ◌||◌, List, [], ◌∷◌, eqb, ltb, Some, None}
use Rattle.std.specs.Int.Bits.{bit_or, bit_xor}
use Rattle.bits.specs.Alg.{Alg, plain}
use Rattle.first.specs.First.{first_of}
use Rattle.rules.specs.Interrupts.{supervisor, stce}
use Rattle.rules.specs.Addresses.{tvec_mode, satp_mode}
use Rattle.hart.specs.declared.caps.Caps.{Caps}
use Rattle.hart.specs.declared.record.Hart.{Hart}
use Rattle.csr.specs.Address.{address_of, is_present}
use Rattle.csr.specs.Access.{stored_of}
use Rattle.csr.specs.declared.address.Csr.{Csr}
use Rattle.csr.specs.Access.{Change}
use Rattle.explain.specs.Lost.{all}
use Rattle.explain.specs.declared.reasons.Reasons.{Reasons}

-- ---- 1, 2, 4, 5, 6 and 7

-- 1: a write of the register stores nothing
abbrev pub unstored : Change → ℕ
unstored None = all plain
unstored (Some (w, x)) = 0

module _ (A : Alg) where
  open A use {Word, Test, num, ◌∣◌, ◌≐◌, compl, field, ones, when, isnt}

  -- the bits that some hart takes from a value, the fields of 4 among them ..
  abbrev pub taken : List (ℕ × Word)
  taken =
      (0x300, ones 1 1 ∣ ones 3 1 ∣ ones 5 1 ∣ ones 7 8 ∣ ones 17 6) ∷  -- mstatus
      (0x100, ones 1 1 ∣ ones 5 1 ∣ ones 8 3 ∣ ones 13 2 ∣ ones 18 2) ∷  -- sstatus
      (0x304, num 0xAAA) ∷  -- mie
      (0x104, num 0x222) ∷  -- sie
      (0x344, num 0x222) ∷  -- mip
      (0x144, num 0x2) ∷  -- sip
      (0x303, num 0x2000) ∷  -- mideleg
      (0x302, num 0xB3FF) ∷  -- medeleg
      (0x306, num 7) ∷  -- mcounteren
      (0x106, num 7) ∷  -- scounteren
      (0x320, num 5) ∷  -- mcountinhibit
      (0x30A, ones 0 1 ∣ ones 4 4 ∣ ones 62 2) ∷  -- menvcfg
      (0x10A, ones 0 1 ∣ ones 4 4) ∷  -- senvcfg
      (0x341, ones 1 63) ∷  -- mepc
      (0x141, ones 1 63) ∷  -- sepc
      []

  -- .. and all of the registers that aren't listed
  abbrev pub taken_at : ℕ → Word
  taken_at a = first_of (all A) (λ k. k.1) (λ k. eqb a k.0) taken

  -- 4: a reserved value, for that field's bits
  abbrev pub reserved : ℕ → Word → Word
  reserved a v =
      cond (eqb a 0x300) (when (field 11 2 v ≐ num 2) (ones 11 2))  -- mstatus: MPP
      (cond (eqb a 0x30A || eqb a 0x10A) (when (field 4 2 v ≐ num 2) (ones 4 2))  -- menvcfg, senvcfg: CBIE
      (cond (eqb a 0x305 || eqb a 0x105) (when (isnt (tvec_mode A v)) (ones 0 2))  -- mtvec, stvec: MODE
      (num 0)))

  -- 5: a derived or forced field
  abbrev pub forced : ℕ → Word
  forced a =
      cond (eqb a 0x300) (ones 32 2 ∣ ones 34 2 ∣ ones 63 1)  -- mstatus: UXL, SXL, SD
      (cond (eqb a 0x100) (ones 32 2 ∣ ones 63 1)  -- sstatus: UXL, SD
      (cond (eqb a 0x303) (supervisor A)  -- mideleg: SSI, STI, SEI
      (num 0)))

  -- 2: no hart takes the bit from a value, and it isn't in a field of 5
  abbrev pub never : ℕ → Word
  never a = compl (taken_at a ∣ forced a)

  -- 6: the whole write is ignored. Whether v lies above the highest valid address, and v
  abbrev pub ignored : ℕ → Test → Word → Word
  ignored a above v =
      cond (eqb a 0x341 || eqb a 0x141) (when above (all A))  -- mepc, sepc
      (cond (eqb a 0x180) (when (isnt (satp_mode A v)) (all A))  -- satp
      (num 0))

  -- 7: STIP of mip (344), while stimecmp drives it
  abbrev pub driven : ℕ → Word → Word
  driven a menvcfg = cond (eqb a 0x344) (when (stce A menvcfg) (ones 5 1)) (num 0)

-- ---- 3: other extensions or interrupts would store the bit as it is written

-- c with other extensions and interrupts
abbrev pub otherwise : (misa interrupts flags : ℕ) → Caps → Caps
otherwise misa interrupts flags c =
    record {
      misa = misa;
      interrupts = interrupts;
      highest = c.highest;
      flags = flags;
      mhartid = c.mhartid;
      mvendorid = c.mvendorid;
      marchid = c.marchid;
      mimpid = c.mimpid;
      mconfigptr = c.mconfigptr;
    }

-- three capabilities answer for all others (specs/Elsewhere.antt; `three_answer`,
-- proofs/Laws.antt): there are legal ones that would store the bit exactly if one of these does.
-- The first has C, F, S, U and V, all flags but Zfinx, and every interrupt
abbrev pub widest : Caps → Caps
widest = otherwise 0x8000000000340024 0x2AAA 0x1E

-- the next U, and nothing else
abbrev pub barest : Caps → Caps
barest = otherwise 0x8000000000100000 0 0

-- the last S and U, Zfinx, and the interrupts of S
abbrev pub with_zfinx : Caps → Caps
with_zfinx = otherwise 0x8000000000140000 0x222 0x1

-- the bits of v that a change stores
abbrev pub kept_bits : Change → ℕ → ℕ
kept_bits None v = 0
kept_bits (Some (w, x)) v = (2 ^ 64 - 1) - bit_xor v x

-- under these capabilities, where they have the register
abbrev pub kept_under : Caps → Hart → Csr → ℕ → ℕ
kept_under d h r v = cond (is_present d r) (kept_bits (stored_of d h r v) v) 0

unfoldable pub elsewhere : Caps → Hart → Csr → ℕ → ℕ
elsewhere c h r v =
    bit_or (bit_or (kept_under (widest c) h r v) (kept_under (barest c) h r v)) (kept_under (with_zfinx c) h r v)

-- ---- all seven

-- the change, the bits of 3, the address, whether v lies above the highest valid address, v and
-- menvcfg
abbrev pub reasons_by : Change → ℕ → ℕ → Bool → ℕ → ℕ → Reasons
reasons_by k elsewhere a above v menvcfg =
    record {
      unstored = unstored k;
      never = never plain a;
      elsewhere = elsewhere;
      reserved = reserved plain a v;
      forced = forced plain a;
      ignored = ignored plain a above v;
      driven = driven plain a menvcfg;
    }

unfoldable pub reasons_of : Caps → Hart → Csr → ℕ → Reasons
reasons_of c h r v =
    reasons_by (stored_of c h r v) (elsewhere c h r v) (address_of r) (ltb c.highest v) v h.menvcfg
