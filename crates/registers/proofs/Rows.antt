-- What each CSR shows of its word, and leaves of it, by its row of the table: the definition.
use mathlib.Core.Bool.{Bool, false, cond}
use mathlib.Core.Path.{◌≡◌, refl, sym, ap, ◌∙◌, subst}
use mathlib.Core.List.{List, []}
use Prim.Native.Nat.{ℕ}
use lib.Dec.{T}
use lib.Bits.{and_zero_r}
use Rattle.bits.specs.Word.{Fits}
use Rattle.bits.specs.Masks.{kept}
use Rattle.bits.proofs.Decide.{var, lit, ◌&◌, env1, by_bits}
use Rattle.rules.specs.Status.{read_sstatus}
use Rattle.rules.specs.Interrupts.{legal_medeleg, read_delegated}
use Rattle.rules.specs.Config.{read_tselect, legal_counteren, legal_countinhibit}
use Rattle.rules.proofs.InterruptLaws.{mip_down}
use Rattle.image.specs.Word.{word_at}
use Rattle.hart.specs.declared.caps.Caps.{Caps}
use Rattle.hart.specs.declared.record.Hart.{Hart}
use Rattle.hart.specs.declared.record.Host.{Host}
use Rattle.csr.specs.Line.{line_down}
use Rattle.csr.specs.Access.{read_of, stored_of, left_by}
use Rattle.csr.specs.declared.address.Csr.{Csr}
use Rattle.csr.specs.declared.address.Csr.TheVariants.{Mstatus, Misa, Medeleg, Mideleg, Mie, Mtvec, Mcounteren, Menvcfg, Mcountinhibit, Mscratch, Mepc, Mcause, Mtval, Mip, Sstatus, Sie, Stvec, Scounteren, Senvcfg, Sscratch, Sepc, Scause, Stval, Sip, Stimecmp, Satp, Scontext, Tselect, Mcycle, Minstret, Cycle, Time, Instret, Mvendorid, Marchid, Mimpid, Mhartid, Mconfigptr, Seed, Mhpmcounter, Mhpmevent}
use Rattle.lent.specs.Images.{caps_at, hart_at}
use Rattle.registers.specs.declared.table.Kind.{Kind}
use Rattle.registers.specs.declared.table.Kind.TheVariants as kinds
use Rattle.registers.specs.contracts.table.Kind.{the_type}
use denote.Enum.Bare.{sameb}
use Rattle.registers.specs.Table.{row_of, ruled, word_in, shown_by, left_in}

-- all bits of a word are the word
all : (v : ℕ) → Fits v → kept v 0xFFFFFFFFFFFFFFFF ≡ v
all v f = by_bits (var 0 & lit 0xFFFFFFFFFFFFFFFF) (var 0) tt (env1 v f [])

-- what is shown, chosen by tests of the kind
abbrev pub is : Kind → Kind → Bool
is = sameb the_type

abbrev pub turned : Host → Kind → ℕ → ℕ
turned o k w =
    let seeded = cond (is k kinds.Seed) o.seed (cond (is k kinds.Time) o.time w) in
    cond (is k kinds.Complement) (read_tselect seeded) seeded

pub by_tests : (hart : List ℕ) (o : Host) (k : Kind) (w : ℕ)
    → cond (is k kinds.Delegated) (read_delegated (hart_at hart).mideleg (turned o k w)) (turned o k w) ≡ shown_by hart o k w
by_tests hart o kinds.Masked w = refl
by_tests hart o kinds.Complement w = refl
by_tests hart o kinds.Time w = refl
by_tests hart o kinds.Seed w = refl
by_tests hart o kinds.Ruled w = refl
by_tests hart o kinds.Delegated w = refl

module _ (caps hart : List ℕ) (o : Host) (fits : (n : ℕ) → Fits (word_in caps hart n)) where
  pub value_is : (r : Csr) → shown_by hart o (row_of r).kind (kept (word_in caps hart (row_of r).word) (row_of r).shown) ≡ read_of (caps_at caps) (hart_at hart) (line_down o) r
  unfolding read_of hart_at read_sstatus
  value_is Mstatus = all _ (fits (row_of Mstatus).word)
  value_is Misa = all _ (fits (row_of Misa).word)
  value_is Medeleg = all _ (fits (row_of Medeleg).word)
  value_is Mideleg = all _ (fits (row_of Mideleg).word)
  value_is Mie = all _ (fits (row_of Mie).word)
  value_is Mtvec = all _ (fits (row_of Mtvec).word)
  value_is Mcounteren = all _ (fits (row_of Mcounteren).word)
  value_is Menvcfg = all _ (fits (row_of Menvcfg).word)
  value_is Mcountinhibit = all _ (fits (row_of Mcountinhibit).word)
  value_is Mscratch = all _ (fits (row_of Mscratch).word)
  value_is Mepc = all _ (fits (row_of Mepc).word)
  value_is Mcause = all _ (fits (row_of Mcause).word)
  value_is Mtval = all _ (fits (row_of Mtval).word)
  value_is Mip = all _ (fits (row_of Mip).word) ∙ sym (mip_down _)
  value_is Sstatus = refl
  value_is Sie = ap (read_delegated (hart_at hart).mideleg) (all _ (fits (row_of Sie).word))
  value_is Stvec = all _ (fits (row_of Stvec).word)
  value_is Scounteren = all _ (fits (row_of Scounteren).word)
  value_is Senvcfg = all _ (fits (row_of Senvcfg).word)
  value_is Sscratch = all _ (fits (row_of Sscratch).word)
  value_is Sepc = all _ (fits (row_of Sepc).word)
  value_is Scause = all _ (fits (row_of Scause).word)
  value_is Stval = all _ (fits (row_of Stval).word)
  value_is Sip = ap (read_delegated (hart_at hart).mideleg) (all _ (fits (row_of Sip).word) ∙ sym (mip_down _))
  value_is Stimecmp = all _ (fits (row_of Stimecmp).word)
  value_is Satp = all _ (fits (row_of Satp).word)
  value_is Scontext = and_zero_r (word_at caps 0)
  value_is Tselect = ap read_tselect (all _ (fits (row_of Tselect).word))
  value_is Mcycle = all _ (fits (row_of Mcycle).word)
  value_is Minstret = all _ (fits (row_of Minstret).word)
  value_is Cycle = all _ (fits (row_of Cycle).word)
  value_is Time = refl
  value_is Instret = all _ (fits (row_of Instret).word)
  value_is Mvendorid = all _ (fits (row_of Mvendorid).word)
  value_is Marchid = all _ (fits (row_of Marchid).word)
  value_is Mimpid = all _ (fits (row_of Mimpid).word)
  value_is Mhartid = all _ (fits (row_of Mhartid).word)
  value_is Mconfigptr = all _ (fits (row_of Mconfigptr).word)
  value_is Seed = refl
  value_is (Mhpmcounter n) = and_zero_r (word_at caps 0)
  value_is (Mhpmevent n) = and_zero_r (word_at caps 0)

module _ (c : Caps) (h : Hart) (old v : ℕ) (f : Fits v) where
  pub taken_is : (r : Csr) → ruled r ≡ false → left_in old v (row_of r).taken ≡ left_by (stored_of c h r v) old
  unfolding stored_of legal_medeleg legal_counteren legal_countinhibit
  taken_is Mstatus e = absurd (subst T e tt)
  taken_is Misa e = refl
  taken_is Medeleg e = refl
  taken_is Mideleg e = absurd (subst T e tt)
  taken_is Mie e = absurd (subst T e tt)
  taken_is Mtvec e = absurd (subst T e tt)
  taken_is Mcounteren e = refl
  taken_is Menvcfg e = absurd (subst T e tt)
  taken_is Mcountinhibit e = refl
  taken_is Mscratch e = all v f
  taken_is Mepc e = absurd (subst T e tt)
  taken_is Mcause e = all v f
  taken_is Mtval e = all v f
  taken_is Mip e = absurd (subst T e tt)
  taken_is Sstatus e = absurd (subst T e tt)
  taken_is Sie e = absurd (subst T e tt)
  taken_is Stvec e = absurd (subst T e tt)
  taken_is Scounteren e = refl
  taken_is Senvcfg e = absurd (subst T e tt)
  taken_is Sscratch e = all v f
  taken_is Sepc e = absurd (subst T e tt)
  taken_is Scause e = all v f
  taken_is Stval e = all v f
  taken_is Sip e = absurd (subst T e tt)
  taken_is Stimecmp e = all v f
  taken_is Satp e = absurd (subst T e tt)
  taken_is Scontext e = refl
  taken_is Tselect e = all v f
  taken_is Mcycle e = all v f
  taken_is Minstret e = all v f
  taken_is Cycle e = refl
  taken_is Time e = refl
  taken_is Instret e = refl
  taken_is Mvendorid e = refl
  taken_is Marchid e = refl
  taken_is Mimpid e = refl
  taken_is Mhartid e = refl
  taken_is Mconfigptr e = refl
  taken_is Seed e = refl
  taken_is (Mhpmcounter n) e = refl
  taken_is (Mhpmevent n) e = refl
