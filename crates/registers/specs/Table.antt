-- The code's table of the CSRs, and what a read and a write make of a row: no entry's contract
-- rests on it.
use Rattle.std.specs.Prelude.{ℕ, ◌*◌, Bool, true, false, cond, List, eqb, ltb}
use Rattle.bits.specs.Masks.{kept}
use Rattle.image.specs.Word.{word_at}
use Rattle.rules.specs.Interrupts.{read_delegated}
use Rattle.rules.specs.Config.{read_tselect}
use Rattle.hart.specs.Words.{place_of}
use Rattle.hart.specs.declared.record.Host.{Host}
use Rattle.hart.specs.declared.record.Word.TheVariants as words
use Rattle.csr.specs.declared.address.Csr.{Csr}
use Rattle.csr.specs.declared.address.Csr.TheVariants.{Mstatus, Misa, Medeleg, Mideleg, Mie, Mtvec, Mcounteren, Menvcfg, Mcountinhibit, Mscratch, Mepc, Mcause, Mtval, Mip, Sstatus, Sie, Stvec, Scounteren, Senvcfg, Sscratch, Sepc, Scause, Stval, Sip, Stimecmp, Satp, Scontext, Tselect, Mcycle, Minstret, Cycle, Time, Instret, Mvendorid, Marchid, Mimpid, Mhartid, Mconfigptr, Seed, Mhpmcounter, Mhpmevent}
use Rattle.lent.specs.Images.{hart_at}
use Rattle.registers.specs.declared.table.Kind.{Kind}
use Rattle.registers.specs.declared.table.Kind.TheVariants as kinds
use Rattle.registers.specs.declared.table.Row.{Row}

-- the word, the kind, the bits shown, the bits taken
abbrev row : ℕ → Kind → ℕ → ℕ → Row
row word kind shown taken = record { word = word; kind = kind; shown = shown; taken = taken }

abbrev all : ℕ
all = 0xFFFFFFFFFFFFFFFF

abbrev pub row_of : Csr → Row
row_of Mstatus = row (place_of words.Mstatus) kinds.Ruled all 0
row_of Misa = row 0 kinds.Masked all 0
row_of Medeleg = row (place_of words.Medeleg) kinds.Masked all 0xB3FF
row_of Mideleg = row (place_of words.Mideleg) kinds.Ruled all 0
row_of Mie = row (place_of words.Mie) kinds.Ruled all 0
row_of Mtvec = row (place_of words.Mtvec) kinds.Ruled all 0
row_of Mcounteren = row (place_of words.Mcounteren) kinds.Masked all 0x7
row_of Menvcfg = row (place_of words.Menvcfg) kinds.Ruled all 0
row_of Mcountinhibit = row (place_of words.Mcountinhibit) kinds.Masked all 0x5
row_of Mscratch = row (place_of words.Mscratch) kinds.Masked all all
row_of Mepc = row (place_of words.Mepc) kinds.Ruled all 0
row_of Mcause = row (place_of words.Mcause) kinds.Masked all all
row_of Mtval = row (place_of words.Mtval) kinds.Masked all all
row_of Mip = row (place_of words.Mip) kinds.Ruled all 0
row_of Sstatus = row (place_of words.Mstatus) kinds.Ruled 0x80000003000DE762 0
row_of Sie = row (place_of words.Mie) kinds.Delegated all 0
row_of Stvec = row (place_of words.Stvec) kinds.Ruled all 0
row_of Scounteren = row (place_of words.Scounteren) kinds.Masked all 0x7
row_of Senvcfg = row (place_of words.Senvcfg) kinds.Ruled all 0
row_of Sscratch = row (place_of words.Sscratch) kinds.Masked all all
row_of Sepc = row (place_of words.Sepc) kinds.Ruled all 0
row_of Scause = row (place_of words.Scause) kinds.Masked all all
row_of Stval = row (place_of words.Stval) kinds.Masked all all
row_of Sip = row (place_of words.Mip) kinds.Delegated all 0
row_of Stimecmp = row (place_of words.Stimecmp) kinds.Masked all all
row_of Satp = row (place_of words.Satp) kinds.Ruled all 0
row_of Scontext = row 0 kinds.Masked 0 0
row_of Tselect = row (place_of words.Tselect) kinds.Complement all all
row_of Mcycle = row (place_of words.Mcycle) kinds.Masked all all
row_of Minstret = row (place_of words.Minstret) kinds.Masked all all
row_of Cycle = row (place_of words.Mcycle) kinds.Masked all 0
row_of Time = row 0 kinds.Time 0 0
row_of Instret = row (place_of words.Minstret) kinds.Masked all 0
row_of Mvendorid = row 5 kinds.Masked all 0
row_of Marchid = row 6 kinds.Masked all 0
row_of Mimpid = row 7 kinds.Masked all 0
row_of Mhartid = row 4 kinds.Masked all 0
row_of Mconfigptr = row 8 kinds.Masked all 0
row_of Seed = row 0 kinds.Seed 0 0
row_of (Mhpmcounter n) = row 0 kinds.Masked 0 0
row_of (Mhpmevent n) = row 0 kinds.Masked 0 0

-- where the word of a CSR stands
abbrev pub place_at : Csr → ℕ
place_at r = 8 * (row_of r).word

-- whether writes have a rule of their own
abbrev is_ruled : Kind → Bool
is_ruled kinds.Masked = false
is_ruled kinds.Complement = false
is_ruled kinds.Time = false
is_ruled kinds.Seed = false
is_ruled kinds.Ruled = true
is_ruled kinds.Delegated = true

abbrev pub ruled : Csr → Bool
ruled r = is_ruled (row_of r).kind

-- the number of a word of the capabilities, or of the record behind x0 to x31
abbrev pub is_word : ℕ → Bool
is_word n = cond (ltb n 32) (ltb n 9) (ltb n 60)

-- the word of that number
abbrev pub word_in : List ℕ → List ℕ → ℕ → ℕ
word_in caps hart n = cond (ltb n 32) (word_at caps (8 * n)) (word_at hart (8 * n))

-- what a CSR shows, by its kind and what the mask leaves of its word
abbrev pub shown_by : List ℕ → Host → Kind → ℕ → ℕ
shown_by hart o kinds.Masked w = w
shown_by hart o kinds.Complement w = read_tselect w
shown_by hart o kinds.Time w = o.time
shown_by hart o kinds.Seed w = o.seed
shown_by hart o kinds.Ruled w = w
shown_by hart o kinds.Delegated w = read_delegated (hart_at hart).mideleg w

-- what a write leaves of the old word and the value, by the bits taken
abbrev pub left_in : ℕ → ℕ → ℕ → ℕ
left_in old v taken = cond (eqb taken 0) old (kept v taken)
