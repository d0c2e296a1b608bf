-- What each CSR reads, and what a write to it stores and asks of the host.
-- Source: docs/RULES.md, "Registers" and "Effects".
use Rattle.std.specs.Prelude.{ℕ, cond, Option, Some, None, Ok, Err}
use Rattle.rules.specs.Status.{read_sstatus}
use Rattle.rules.specs.Interrupts.{legal_mie, read_delegated, read_mip, written_sie, written_mip, written_sip, has_seip, legal_mideleg, legal_medeleg}
use Rattle.rules.specs.Addresses.{written_tvec, written_satp}
use Rattle.rules.specs.Config.{legal_counteren, legal_countinhibit, read_tselect}
use Rattle.hart.specs.Words.{put}
use Rattle.hart.specs.Caps.{mstatus_of, sstatus_of, menvcfg_of, senvcfg_of, epc_of}
use Rattle.hart.specs.Answers.{refused}
use Rattle.hart.specs.declared.caps.Caps.{Caps}
use Rattle.hart.specs.declared.record.Hart.{Hart}
use Rattle.hart.specs.declared.record.Host.{Host}
use Rattle.hart.specs.declared.record.Word.{Word}
use Rattle.hart.specs.declared.record.Word.TheVariants as words
use Rattle.hart.specs.declared.answer.Effect.{Effect}
use Rattle.hart.specs.declared.answer.Effect.TheVariants.{Nothing, SetSeip, ClearSeip}
use Rattle.hart.specs.Answers.{Answer}
use Rattle.hart.specs.declared.answer.Step.{Step}
use Rattle.csr.specs.Address.{Decoded, decode_of}
use Rattle.csr.specs.Line.{raises_seip, line_to}
use Rattle.csr.specs.declared.address.Csr.{Csr}
use Rattle.csr.specs.declared.address.Csr.TheVariants.{Mstatus, Misa, Medeleg, Mideleg, Mie, Mtvec, Mcounteren, Menvcfg, Mcountinhibit, Mscratch, Mepc, Mcause, Mtval, Mip, Sstatus, Sie, Stvec, Scounteren, Senvcfg, Sscratch, Sepc, Scause, Stval, Sip, Stimecmp, Satp, Scontext, Tselect, Mcycle, Minstret, Cycle, Time, Instret, Mvendorid, Marchid, Mimpid, Mhartid, Mconfigptr, Seed, Mhpmcounter, Mhpmevent}

-- what a CSR reads: the capabilities, the record, what the host hands in (time, seed, line), and
-- the CSR
unfoldable pub read_of : Caps → Hart → Host → Csr → ℕ
read_of c h o Mstatus = h.mstatus
read_of c h o Misa = c.misa
read_of c h o Medeleg = h.medeleg
read_of c h o Mideleg = h.mideleg
read_of c h o Mie = h.mie
read_of c h o Mtvec = h.mtvec
read_of c h o Mcounteren = h.mcounteren
read_of c h o Menvcfg = h.menvcfg
read_of c h o Mcountinhibit = h.mcountinhibit
read_of c h o Mscratch = h.mscratch
read_of c h o Mepc = h.mepc
read_of c h o Mcause = h.mcause
read_of c h o Mtval = h.mtval
read_of c h o Mip = read_mip (raises_seip c o) h.mip
read_of c h o Sstatus = read_sstatus h.mstatus
read_of c h o Sie = read_delegated h.mideleg h.mie
read_of c h o Stvec = h.stvec
read_of c h o Scounteren = h.scounteren
read_of c h o Senvcfg = h.senvcfg
read_of c h o Sscratch = h.sscratch
read_of c h o Sepc = h.sepc
read_of c h o Scause = h.scause
read_of c h o Stval = h.stval
read_of c h o Sip = read_delegated h.mideleg (read_mip (raises_seip c o) h.mip)
read_of c h o Stimecmp = h.stimecmp
read_of c h o Satp = h.satp
read_of c h o Scontext = 0
read_of c h o Tselect = read_tselect h.tselect
read_of c h o Mcycle = h.mcycle
read_of c h o Minstret = h.minstret
read_of c h o Cycle = h.mcycle
read_of c h o Time = o.time
read_of c h o Instret = h.minstret
read_of c h o Mvendorid = c.mvendorid
read_of c h o Marchid = c.marchid
read_of c h o Mimpid = c.mimpid
read_of c h o Mhartid = c.mhartid
read_of c h o Mconfigptr = c.mconfigptr
read_of c h o Seed = o.seed
read_of c h o (Mhpmcounter n) = 0
read_of c h o (Mhpmevent n) = 0

-- a write puts one word of the record, or is ignored
abbrev pub Change : Type 0
Change = Option (Word × ℕ)

-- what a write of v stores: the capabilities, the record, the CSR, v
unfoldable pub stored_of : Caps → Hart → Csr → ℕ → Change
stored_of c h Mstatus v = Some (words.Mstatus, mstatus_of c v)
stored_of c h Misa v = None
stored_of c h Medeleg v = Some (words.Medeleg, legal_medeleg v)
stored_of c h Mideleg v = Some (words.Mideleg, legal_mideleg c.interrupts v)
stored_of c h Mie v = Some (words.Mie, legal_mie c.interrupts v)
stored_of c h Mtvec v = Some (words.Mtvec, written_tvec h.mtvec v)
stored_of c h Mcounteren v = Some (words.Mcounteren, legal_counteren v)
stored_of c h Menvcfg v = Some (words.Menvcfg, menvcfg_of c v)
stored_of c h Mcountinhibit v = Some (words.Mcountinhibit, legal_countinhibit v)
stored_of c h Mscratch v = Some (words.Mscratch, v)
stored_of c h Mepc v = Some (words.Mepc, epc_of c h.mepc v)
stored_of c h Mcause v = Some (words.Mcause, v)
stored_of c h Mtval v = Some (words.Mtval, v)
stored_of c h Mip v = Some (words.Mip, written_mip c.interrupts h.menvcfg h.mip v)
stored_of c h Sstatus v = Some (words.Mstatus, sstatus_of c h.mstatus v)
stored_of c h Sie v = Some (words.Mie, written_sie h.mideleg h.mie v)
stored_of c h Stvec v = Some (words.Stvec, written_tvec h.stvec v)
stored_of c h Scounteren v = Some (words.Scounteren, legal_counteren v)
stored_of c h Senvcfg v = Some (words.Senvcfg, senvcfg_of c v)
stored_of c h Sscratch v = Some (words.Sscratch, v)
stored_of c h Sepc v = Some (words.Sepc, epc_of c h.sepc v)
stored_of c h Scause v = Some (words.Scause, v)
stored_of c h Stval v = Some (words.Stval, v)
stored_of c h Sip v = Some (words.Mip, written_sip h.mip v)
stored_of c h Stimecmp v = Some (words.Stimecmp, v)
stored_of c h Satp v = Some (words.Satp, written_satp h.satp v)
stored_of c h Scontext v = None
stored_of c h Tselect v = Some (words.Tselect, v)
stored_of c h Mcycle v = Some (words.Mcycle, v)
stored_of c h Minstret v = Some (words.Minstret, v)
stored_of c h Cycle v = None
stored_of c h Time v = None
stored_of c h Instret v = None
stored_of c h Mvendorid v = None
stored_of c h Marchid v = None
stored_of c h Mimpid v = None
stored_of c h Mhartid v = None
stored_of c h Mconfigptr v = None
stored_of c h Seed v = None
stored_of c h (Mhpmcounter n) v = None
stored_of c h (Mhpmevent n) v = None

abbrev pub apply : Change → Hart → Hart
apply None h = h
apply (Some (w, x)) h = put w x h

-- the word that a change puts; x where it is ignored
abbrev pub left_by : Change → ℕ → ℕ
left_by None x = x
left_by (Some (w, y)) x = y

abbrev pub hart_after : Caps → Hart → Csr → ℕ → Hart
hart_after c h r v = apply (stored_of c h r v) h

-- the physical SEIP follows the stored one, whatever the controller does: what is asked for where
-- mip changes from old to new
unfoldable pub seip_change : ℕ → ℕ → Effect
seip_change old new =
    cond (has_seip new) (cond (has_seip old) Nothing SetSeip)
    (cond (has_seip old) ClearSeip Nothing)

abbrev pub effect_after : Hart → Hart → Effect
effect_after h next = seip_change h.mip next.mip

-- a read by address
abbrev pub read_to : Caps → Hart → Host → Decoded → Answer
read_to c h o (Ok r) = Ok (read_of c h o r, Nothing)
read_to c h o (Err why) = Err why

abbrev pub read_at : Caps → Hart → Host → ℕ → Answer
read_at c h o a = read_to c h o (line_to o.line (decode_of c a))

-- a write by address
abbrev pub step_to : Hart → Hart → Step
step_to h next = record { hart = next; answer = Ok (0, effect_after h next) }

abbrev pub write_to : Caps → Hart → ℕ → Decoded → Step
write_to c h v (Ok r) = step_to h (hart_after c h r v)
write_to c h v (Err why) = refused h why

abbrev pub write_at : Caps → Hart → ℕ → ℕ → Step
write_at c h a v = write_to c h v (decode_of c a)
