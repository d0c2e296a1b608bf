-- What is proved of the rules, over words. The proofs are in proofs/Laws.antt.
use Rattle.std.specs.Prelude.{◌≡◌, Bool, true, false, ◌&&◌, ◌||◌, ℕ, ◌%◌, eqb}
use Rattle.bits.specs.Alg.{plain}
use Rattle.bits.specs.Word.{Fits, bit}
use Rattle.rules.specs.Status.{legal_mstatus}
use Rattle.rules.specs.Fields.{fields}
use Rattle.rules.specs.Interrupts.{legal_mie, legal_mideleg, legal_medeleg}
use Rattle.rules.specs.Addresses.{is_aligned, written_tvec, written_epc, written_satp}
use Rattle.rules.specs.Config.{legal_counteren, legal_countinhibit, legal_senvcfg, legal_menvcfg}
open fields plain use {MPP, set_sie, set_mie, set_spie, set_mpie, set_spp, set_mpp, set_mprv}

-- legalizing a 64-bit word twice is legalizing it once
abbrev pub Again : (ℕ → ℕ) → Type 0
Again legal = (v : ℕ) → Fits v → legal (legal v) ≡ legal v

-- under any capabilities
pub record Idempotent : Type 0 where
  pub mstatus : (s fs vs : Bool) → Again (legal_mstatus s fs vs)
  pub mie : (interrupts : ℕ) → Fits interrupts → Again (legal_mie interrupts)
  pub mideleg : (interrupts : ℕ) → Fits interrupts → Again (legal_mideleg interrupts)
  pub medeleg : Again legal_medeleg
  pub counteren : Again legal_counteren
  pub countinhibit : Again legal_countinhibit
  pub menvcfg : (zicbom zicboz svpbmt sstc : Bool) → Again (legal_menvcfg zicbom zicboz svpbmt sstc)
  pub senvcfg : (zicbom zicboz : Bool) → Again (legal_senvcfg zicbom zicboz)

-- a legal mstatus of 64 bits
pub record LegalMstatus (s fs vs : Bool) (m : ℕ) : Type 0 where
  pub fits : Fits m
  pub legal : legal_mstatus s fs vs m ≡ m

-- it stays one where this sets a field of it to x
abbrev pub Stays : Bool → Bool → Bool → ℕ → (ℕ → ℕ → ℕ) → Type 0
Stays s fs vs x set = (m : ℕ) → LegalMstatus s fs vs m → LegalMstatus s fs vs (set x m)

-- the fields that traps and returns move are free: any value is legal, in MPP any mode that the
-- hart has
pub record FieldsFree (s fs vs : Bool) : Type 0 where
  pub mie : (x : ℕ) → Fits x → Stays s fs vs x set_mie
  pub mpie : (x : ℕ) → Fits x → Stays s fs vs x set_mpie
  pub mprv : (x : ℕ) → Fits x → Stays s fs vs x set_mprv
  pub mpp_u : Stays s fs vs 0 set_mpp
  pub mpp_s : s ≡ true → Stays s fs vs 1 set_mpp
  pub mpp_m : Stays s fs vs 3 set_mpp
  pub sie : s ≡ true → (x : ℕ) → Fits x → Stays s fs vs x set_sie
  pub spie : s ≡ true → (x : ℕ) → Fits x → Stays s fs vs x set_spie
  pub spp : s ≡ true → (x : ℕ) → Fits x → Stays s fs vs x set_spp

-- MPP of a legalized mstatus is a mode that the hart has: U, S with S alone, or M
abbrev pub MppIsMode : Type 0
MppIsMode = (s fs vs : Bool) (v : ℕ) → Fits v → (eqb (MPP (legal_mstatus s fs vs v)) 0 || (eqb (MPP (legal_mstatus s fs vs v)) 1 && s) || eqb (MPP (legal_mstatus s fs vs v)) 3) ≡ true

-- a legalized mie doesn't enable LCOFI (13), and a legalized mideleg delegates SSI, STI and SEI
pub record Levels (interrupts v : ℕ) : Type 0 where
  pub lcofi : bit 13 (legal_mie interrupts v) ≡ false
  pub ssi : bit 1 (legal_mideleg interrupts v) ≡ true
  pub sti : bit 5 (legal_mideleg interrupts v) ≡ true
  pub sei : bit 9 (legal_mideleg interrupts v) ≡ true

abbrev pub LegalLevels : Type 0
LegalLevels = (interrupts v : ℕ) → Fits interrupts → Fits v → Levels interrupts v

-- a multiple of 4 is aligned, with C and without
abbrev pub FoursAligned : Type 0
FoursAligned = (c : Bool) (v : ℕ) → Fits v → v % 4 ≡ 0 → is_aligned c v ≡ true

-- where "second write alone" isn't claimed the first does show: after it, and without it
pub record FirstShows : Type 0 where
  -- mtvec, stvec: mode 1, then the reserved mode 2
  pub tvec : (written_tvec (written_tvec 0 1) 2 ≡ 1) × (written_tvec 0 2 ≡ 0)
  -- mepc, sepc: 0x10, then a value above the highest address 0x1000
  pub epc : (written_epc 0x1000 true (written_epc 0x1000 true 0 0x10) 0x1002 ≡ 0x10) × (written_epc 0x1000 true 0 0x1002 ≡ 0)
  -- satp: Sv39, then Sv48
  pub satp : (written_satp (written_satp 0 0x8000000000000000) 0x9000000000000000 ≡ 0x8000000000000000) × (written_satp 0 0x9000000000000000 ≡ 0)
