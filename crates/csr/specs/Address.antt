-- The addresses of the CSRs, which of them the hart has, and the CSR that an address gives.
-- Source: RISC-V manual 20240411, Volume II, "CSR Listing"; docs/RULES.md, "Registers", and
-- refusals 3 and 4.
use Rattle.std.specs.Prelude.{ℕ, ◌+◌, ◌-◌, ◌/◌, ◌%◌, ◌^◌, Bool, cond, not, ◌&&◌, ◌||◌, List, [], ◌∷◌, eqb, leb, Option, Some, None, Result, Ok, Err}
use Rattle.hart.specs.Caps.{has_s, has_sstc}
use Rattle.hart.specs.declared.caps.Caps.{Caps}
use Rattle.hart.specs.declared.answer.Refusal.{Refusal}
use Rattle.hart.specs.declared.answer.Refusal.TheVariants.{NoSuchCsr, CsrAbsent}
use Rattle.csr.specs.declared.address.Csr.{Csr}
use Rattle.csr.specs.declared.address.Csr.TheVariants.{Mstatus, Misa, Medeleg, Mideleg, Mie, Mtvec, Mcounteren, Menvcfg, Mcountinhibit, Mscratch, Mepc, Mcause, Mtval, Mip, Sstatus, Sie, Stvec, Scounteren, Senvcfg, Sscratch, Sepc, Scause, Stval, Sip, Stimecmp, Satp, Scontext, Tselect, Mcycle, Minstret, Cycle, Time, Instret, Mvendorid, Marchid, Mimpid, Mhartid, Mconfigptr, Seed, Mhpmcounter, Mhpmevent}

abbrev pub address_of : Csr → ℕ
address_of Mstatus = 0x300
address_of Misa = 0x301
address_of Medeleg = 0x302
address_of Mideleg = 0x303
address_of Mie = 0x304
address_of Mtvec = 0x305
address_of Mcounteren = 0x306
address_of Menvcfg = 0x30A
address_of Mcountinhibit = 0x320
address_of Mscratch = 0x340
address_of Mepc = 0x341
address_of Mcause = 0x342
address_of Mtval = 0x343
address_of Mip = 0x344
address_of Sstatus = 0x100
address_of Sie = 0x104
address_of Stvec = 0x105
address_of Scounteren = 0x106
address_of Senvcfg = 0x10A
address_of Sscratch = 0x140
address_of Sepc = 0x141
address_of Scause = 0x142
address_of Stval = 0x143
address_of Sip = 0x144
address_of Stimecmp = 0x14D
address_of Satp = 0x180
address_of Scontext = 0x5A8
address_of Tselect = 0x7A0
address_of Mcycle = 0xB00
address_of Minstret = 0xB02
address_of Cycle = 0xC00
address_of Time = 0xC01
address_of Instret = 0xC02
address_of Mvendorid = 0xF11
address_of Marchid = 0xF12
address_of Mimpid = 0xF13
address_of Mhartid = 0xF14
address_of Mconfigptr = 0xF15
address_of Seed = 0x015
address_of (Mhpmcounter n) = 0xB00 + n
address_of (Mhpmevent n) = 0x320 + n

-- those that stand alone
abbrev pub csrs : List Csr
csrs =
    Mstatus ∷ Misa ∷ Medeleg ∷ Mideleg ∷ Mie ∷ Mtvec ∷ Mcounteren ∷ Menvcfg ∷ Mcountinhibit ∷
    Mscratch ∷ Mepc ∷ Mcause ∷ Mtval ∷ Mip ∷ Sstatus ∷ Sie ∷ Stvec ∷ Scounteren ∷ Senvcfg ∷
    Sscratch ∷ Sepc ∷ Scause ∷ Stval ∷ Sip ∷ Stimecmp ∷ Satp ∷ Scontext ∷ Tselect ∷ Mcycle ∷
    Minstret ∷ Cycle ∷ Time ∷ Instret ∷ Mvendorid ∷ Marchid ∷ Mimpid ∷ Mhartid ∷ Mconfigptr ∷ Seed ∷
    []

-- the first of rs with this address, or `other`
abbrev pub find : ℕ → List Csr → Option Csr → Option Csr
find a [] other = other
find a (r ∷ rs) other = cond (eqb a (address_of r)) (Some r) (find a rs other)

-- by whether the address lies in first..last
abbrev in_run : ℕ → ℕ → ℕ → Option Csr → Option Csr → Option Csr
in_run a first last inside outside = cond (leb first a && leb a last) inside outside

-- mhpmcounter3..31 and mhpmevent3..31
abbrev pub counter_at : ℕ → Option Csr
counter_at a =
    in_run a 0xB03 0xB1F (Some (Mhpmcounter (a - 0xB00)))
    (in_run a 0x323 0x33F (Some (Mhpmevent (a - 0x320)))
    None)

-- the CSR of an address
unfoldable pub csr_at : ℕ → Option Csr
csr_at a = find a csrs (counter_at a)

-- mideleg, medeleg and the S registers, whose address has 1 in bits 9:8
abbrev pub needs_s : ℕ → Bool
needs_s a = eqb a 0x303 || eqb a 0x302 || eqb (a / 2 ^ 8 % 4) 1

-- stimecmp
abbrev pub needs_sstc : ℕ → Bool
needs_sstc a = eqb a 0x14D

-- false where refusal 4 applies
abbrev pub is_present_with : Bool → Bool → ℕ → Bool
is_present_with s sstc a = (not (needs_s a) || s) && (not (needs_sstc a) || sstc)

abbrev pub is_present_at : Caps → ℕ → Bool
is_present_at c a = is_present_with (has_s c) (has_sstc c) a

abbrev pub is_present : Caps → Csr → Bool
is_present c r = is_present_at c (address_of r)

-- what an address gives: the CSR that stands there and is present, or why there is none
abbrev pub Decoded : Type 0
Decoded = Result Csr Refusal

-- refusal 3 before refusal 4
abbrev pub decode_found : Caps → ℕ → Option Csr → Decoded
decode_found c a None = Err NoSuchCsr
decode_found c a (Some r) = cond (is_present_at c a) (Ok r) (Err CsrAbsent)

abbrev pub decode_of : Caps → ℕ → Decoded
decode_of c a = decode_found c a (csr_at a)
