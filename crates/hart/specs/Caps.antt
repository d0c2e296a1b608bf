-- The capabilities: what they say of the hart, the words legalized under them, and which are legal.
-- Source: RISC-V manual 20240411, Volume II, "Machine ISA (misa) Register" and "Extension Context
-- Status in mstatus Register"; Volume I, "Zfinx"; docs/RULES.md, "Images" and "Legal capabilities".
use Rattle.std.specs.Prelude.{ℕ, ◌/◌, ◌^◌, Bool, not, ◌&&◌, ◌||◌, eqb, ltb}
use Rattle.std.specs.Int.Bits.{bit_and}
use Rattle.bits.specs.Word.{bit}
use Rattle.rules.specs.Status.{legal_mstatus, merged_sstatus}
use Rattle.rules.specs.Addresses.{written_epc}
use Rattle.rules.specs.Config.{legal_menvcfg, legal_senvcfg}
use Rattle.hart.specs.declared.caps.Caps.{Caps}

-- misa (301): a letter is a bit
abbrev pub has_c : Caps → Bool
has_c c = bit 2 c.misa

abbrev pub has_f : Caps → Bool
has_f c = bit 5 c.misa

abbrev pub has_s : Caps → Bool
has_s c = bit 18 c.misa

abbrev pub has_v : Caps → Bool
has_v c = bit 21 c.misa

-- MXL: 2 is 64 bits
abbrev pub is64 : Caps → Bool
is64 c = eqb (c.misa / 2 ^ 62) 2

-- flags
abbrev pub has_zfinx : Caps → Bool
has_zfinx c = bit 0 c.flags

abbrev pub has_sstc : Caps → Bool
has_sstc c = bit 1 c.flags

abbrev pub has_zicbom : Caps → Bool
has_zicbom c = bit 2 c.flags

abbrev pub has_zicboz : Caps → Bool
has_zicboz c = bit 3 c.flags

abbrev pub has_svpbmt : Caps → Bool
has_svpbmt c = bit 4 c.flags

-- the fields of mstatus that tell of a unit. FS, of floating point: with F or S, not with Zfinx
abbrev pub has_fs : Caps → Bool
has_fs c = (has_f c || has_s c) && not (has_zfinx c)

-- VS, of vectors: with V or S
abbrev pub has_vs : Caps → Bool
has_vs c = has_v c || has_s c

-- what a write of each of these registers stores, under the capabilities
unfoldable pub mstatus_of : Caps → ℕ → ℕ
mstatus_of c v = legal_mstatus (has_s c) (has_fs c) (has_vs c) v

abbrev pub sstatus_of : Caps → ℕ → ℕ → ℕ
sstatus_of c m v = mstatus_of c (merged_sstatus m v)

abbrev pub epc_of : Caps → ℕ → ℕ → ℕ
epc_of c old v = written_epc c.highest (has_c c) old v

abbrev pub menvcfg_of : Caps → ℕ → ℕ
menvcfg_of c v = legal_menvcfg (has_zicbom c) (has_zicboz c) (has_svpbmt c) (has_sstc c) v

abbrev pub senvcfg_of : Caps → ℕ → ℕ
senvcfg_of c v = legal_senvcfg (has_zicbom c) (has_zicboz c) v

-- ---- the conditions: one for each word that has one

-- a only with b
abbrev only_with : Bool → Bool → Bool
only_with a b = not a || b

-- misa: 64 bits, with U, without H and N
abbrev pub legal_misa : Caps → Bool
legal_misa c = is64 c && bit 20 c.misa && not (bit 7 c.misa) && not (bit 13 c.misa)

-- interrupts: within 0x2AAA, containing 0x222 with S, none of bits 1, 5, 9, 13 without S
abbrev pub legal_interrupts : Caps → Bool
legal_interrupts c =
    eqb (bit_and c.interrupts 0x2AAA) c.interrupts
    && only_with (has_s c) (eqb (bit_and c.interrupts 0x222) 0x222)
    && (has_s c || eqb (bit_and c.interrupts 0x2222) 0)

-- flags: none above bit 4, Sstc and Svpbmt only with S, Zfinx not with F
abbrev pub legal_flags : Caps → Bool
legal_flags c =
    ltb c.flags 32 && only_with (has_sstc c) (has_s c) && only_with (has_svpbmt c) (has_s c)
    && not (has_zfinx c && has_f c)

abbrev pub legal_mvendorid : Caps → Bool
legal_mvendorid c = ltb c.mvendorid (2 ^ 32)

unfoldable pub legal_caps : Caps → Bool
legal_caps c = legal_misa c && legal_interrupts c && legal_flags c && legal_mvendorid c
