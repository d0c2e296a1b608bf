-- What a write to each CSR stores, over any `Alg`: as numbers it is the definition, and as an
-- expression it can be decided bit by bit.
use Prim.Native.Nat.{ℕ}
use mathlib.Core.Bool.{Bool, true, false, beq}
use mathlib.Core.Path.{◌≡◌, refl, ap}
use lib.Dec.{ltb}
use Rattle.std.specs.Prelude.{Some, None}
use Rattle.bits.specs.Alg.{Alg, plain}
use Rattle.bits.specs.Word.{Fits}
use Rattle.bits.proofs.Bools.{beq→≡}
use Rattle.bits.proofs.Decide.{Env, eval, test}
use Rattle.bits.proofs.Shown.{shown}
use Rattle.rules.specs.Status as status
use Rattle.rules.specs.Interrupts as interrupts
use Rattle.rules.specs.Addresses as addresses
use Rattle.rules.specs.Config as config
use Rattle.hart.specs.Words.{get}
use Rattle.hart.specs.Fresh.{zeros}
use Rattle.hart.specs.Laws.{FitsHart}
use Rattle.hart.specs.Caps.{has_c, has_f, has_s, has_v, has_zfinx, has_sstc, has_zicbom, has_zicboz, has_svpbmt, mstatus_of}
use Rattle.hart.specs.declared.caps.Caps.{Caps}
use Rattle.hart.specs.declared.record.Hart.{Hart}
use Rattle.csr.specs.Address.{address_of, csr_at}
use Rattle.csr.specs.Access.{stored_of, left_by}
use Rattle.csr.specs.declared.address.Csr.{Csr}
use Rattle.csr.specs.declared.address.Csr.TheVariants.{Mstatus, Misa, Medeleg, Mideleg, Mie, Mtvec, Mcounteren, Menvcfg, Mcountinhibit, Mscratch, Mepc, Mcause, Mtval, Mip, Sstatus, Sie, Stvec, Scounteren, Senvcfg, Sscratch, Sepc, Scause, Stval, Sip, Stimecmp, Satp, Scontext, Tselect, Mcycle, Minstret, Cycle, Time, Instret, Mvendorid, Marchid, Mimpid, Mhartid, Mconfigptr, Seed, Mhpmcounter, Mhpmevent}
use Rattle.csr.specs.Access.{Change}
use Rattle.csr.proofs.Found.{each_found, every_found}

-- what a rule looks at: the extensions, whether the value lies above the highest address, words of
-- the capabilities and of the record, the register's own word, and the value
pub record Asked (A : Alg) : Type 0 where
  pub s : A.Test
  pub c : A.Test
  pub f : A.Test
  pub v : A.Test
  pub zfinx : A.Test
  pub sstc : A.Test
  pub zicbom : A.Test
  pub zicboz : A.Test
  pub svpbmt : A.Test
  pub above : A.Test
  pub interrupts : A.Word
  pub mideleg : A.Word
  pub menvcfg : A.Word
  pub old : A.Word
  pub value : A.Word

module _ (A : Alg) (q : Asked A) where
  open A use {Word, both, either, isnt}

  -- mstatus, with FS and VS by the extensions
  abbrev legalized : Word → Word
  legalized = status.mstatus A q.s (both (either q.f q.s) (isnt q.zfinx)) (either q.v q.s)

  -- the word that a write leaves where the register's is
  abbrev pub stores : Csr → Word
  stores Mstatus = legalized q.value
  stores Misa = q.old
  stores Medeleg = interrupts.medeleg A q.value
  stores Mideleg = interrupts.mideleg A q.interrupts q.value
  stores Mie = interrupts.mie A q.interrupts q.value
  stores Mtvec = addresses.tvec A q.old q.value
  stores Mcounteren = config.counteren A q.value
  stores Menvcfg = config.menvcfg A q.zicbom q.zicboz q.svpbmt q.sstc q.value
  stores Mcountinhibit = config.countinhibit A q.value
  stores Mscratch = q.value
  stores Mepc = addresses.epc A q.c q.above q.old q.value
  stores Mcause = q.value
  stores Mtval = q.value
  stores Mip = interrupts.mip A q.interrupts q.menvcfg q.old q.value
  stores Sstatus = legalized (status.sstatus_merged A q.old q.value)
  stores Sie = interrupts.sie A q.mideleg q.old q.value
  stores Stvec = addresses.tvec A q.old q.value
  stores Scounteren = config.counteren A q.value
  stores Senvcfg = config.senvcfg A q.zicbom q.zicboz q.value
  stores Sscratch = q.value
  stores Sepc = addresses.epc A q.c q.above q.old q.value
  stores Scause = q.value
  stores Stval = q.value
  stores Sip = interrupts.sip A q.old q.value
  stores Stimecmp = q.value
  stores Satp = addresses.satp A q.old q.value
  stores Scontext = q.old
  stores Tselect = q.value
  stores Mcycle = q.value
  stores Minstret = q.value
  stores Cycle = q.old
  stores Time = q.old
  stores Instret = q.old
  stores Mvendorid = q.old
  stores Marchid = q.old
  stores Mimpid = q.old
  stores Mhartid = q.old
  stores Mconfigptr = q.old
  stores Seed = q.old
  stores (Mhpmcounter n) = q.old
  stores (Mhpmevent n) = q.old

-- an expression's question, evaluated
abbrev pub evaluated : Env → Asked shown → Asked plain
evaluated ρ q =
    record {
      s = test q.s ρ;
      c = test q.c ρ;
      f = test q.f ρ;
      v = test q.v ρ;
      zfinx = test q.zfinx ρ;
      sstc = test q.sstc ρ;
      zicbom = test q.zicbom ρ;
      zicboz = test q.zicboz ρ;
      svpbmt = test q.svpbmt ρ;
      above = test q.above ρ;
      interrupts = eval q.interrupts ρ;
      mideleg = eval q.mideleg ρ;
      menvcfg = eval q.menvcfg ρ;
      old = eval q.old ρ;
      value = eval q.value ρ;
    }

-- the question of a write of v, of a register whose own word is old
abbrev pub asked_of : Caps → Hart → ℕ → ℕ → Asked plain
asked_of c h old v =
    record {
      s = has_s c;
      c = has_c c;
      f = has_f c;
      v = has_v c;
      zfinx = has_zfinx c;
      sstc = has_sstc c;
      zicbom = has_zicbom c;
      zicboz = has_zicboz c;
      svpbmt = has_svpbmt c;
      above = ltb c.highest v;
      interrupts = c.interrupts;
      mideleg = h.mideleg;
      menvcfg = h.menvcfg;
      old = old;
      value = v;
    }

-- where a write to a register goes, which no capabilities, record or value change
abbrev no_caps : Caps
no_caps = record { misa = 0; interrupts = 0; highest = 0; flags = 0; mhartid = 0; mvendorid = 0; marchid = 0; mimpid = 0; mconfigptr = 0 }

unfoldable pub place : Csr → Change
place r = stored_of no_caps zeros r 0

abbrev pub is_ignored : Change → Bool
is_ignored None = true
is_ignored (Some (w, y)) = false

abbrev pub ignores : Csr → Bool
ignores r = is_ignored (place r)

-- the word of the record that stands there; x where there is none
abbrev old_in : Hart → Change → ℕ → ℕ
old_in h None x = x
old_in h (Some (w, y)) x = get w h

abbrev pub old_of : Hart → Csr → ℕ → ℕ
old_of h r x = old_in h (place r) x

pub old_fits : (h : Hart) (r : Csr) (x : ℕ) → FitsHart h → Fits x → Fits (old_of h r x)
old_fits h r x f g = go (place r)
  where
    go : (k : Change) → Fits (old_in h k x)
    go None = g
    go (Some (w, y)) = f.words w

-- a register that ignores writes ignores each
pub ignores_is : (c : Caps) (h : Hart) (v : ℕ) (r : Csr) → csr_at (address_of r) ≡ Some r → is_ignored (stored_of c h r v) ≡ ignores r
unfolding stored_of place
ignores_is c h v r e = beq→≡ _ _ (every_found alike passes (address_of r) r e)
  where
    alike : Csr → Bool
    alike s = beq (is_ignored (stored_of c h s v)) (ignores s)

    passes : each_found alike ≡ true
    passes = refl

-- x is what a register shows whose writes are ignored
module _ (c : Caps) (h : Hart) (v x : ℕ) (ρ : Env) (q : Asked shown) where
  pub stores_is : (r : Csr) → evaluated ρ q ≡ asked_of c h (old_of h r x) v → eval (stores shown q r) ρ ≡ left_by (stored_of c h r v) x
  unfolding stored_of place mstatus_of status.legal_mstatus status.merged_sstatus interrupts.legal_mie interrupts.written_sie interrupts.written_mip interrupts.written_sip interrupts.legal_mideleg interrupts.legal_medeleg addresses.written_tvec addresses.written_epc addresses.written_satp config.legal_counteren config.legal_countinhibit config.legal_senvcfg config.legal_menvcfg
  stores_is Mstatus e = ap (λ (k : Asked plain). stores plain k Mstatus) e
  stores_is Misa e = ap (λ (k : Asked plain). stores plain k Misa) e
  stores_is Medeleg e = ap (λ (k : Asked plain). stores plain k Medeleg) e
  stores_is Mideleg e = ap (λ (k : Asked plain). stores plain k Mideleg) e
  stores_is Mie e = ap (λ (k : Asked plain). stores plain k Mie) e
  stores_is Mtvec e = ap (λ (k : Asked plain). stores plain k Mtvec) e
  stores_is Mcounteren e = ap (λ (k : Asked plain). stores plain k Mcounteren) e
  stores_is Menvcfg e = ap (λ (k : Asked plain). stores plain k Menvcfg) e
  stores_is Mcountinhibit e = ap (λ (k : Asked plain). stores plain k Mcountinhibit) e
  stores_is Mscratch e = ap (λ (k : Asked plain). stores plain k Mscratch) e
  stores_is Mepc e = ap (λ (k : Asked plain). stores plain k Mepc) e
  stores_is Mcause e = ap (λ (k : Asked plain). stores plain k Mcause) e
  stores_is Mtval e = ap (λ (k : Asked plain). stores plain k Mtval) e
  stores_is Mip e = ap (λ (k : Asked plain). stores plain k Mip) e
  stores_is Sstatus e = ap (λ (k : Asked plain). stores plain k Sstatus) e
  stores_is Sie e = ap (λ (k : Asked plain). stores plain k Sie) e
  stores_is Stvec e = ap (λ (k : Asked plain). stores plain k Stvec) e
  stores_is Scounteren e = ap (λ (k : Asked plain). stores plain k Scounteren) e
  stores_is Senvcfg e = ap (λ (k : Asked plain). stores plain k Senvcfg) e
  stores_is Sscratch e = ap (λ (k : Asked plain). stores plain k Sscratch) e
  stores_is Sepc e = ap (λ (k : Asked plain). stores plain k Sepc) e
  stores_is Scause e = ap (λ (k : Asked plain). stores plain k Scause) e
  stores_is Stval e = ap (λ (k : Asked plain). stores plain k Stval) e
  stores_is Sip e = ap (λ (k : Asked plain). stores plain k Sip) e
  stores_is Stimecmp e = ap (λ (k : Asked plain). stores plain k Stimecmp) e
  stores_is Satp e = ap (λ (k : Asked plain). stores plain k Satp) e
  stores_is Scontext e = ap (λ (k : Asked plain). stores plain k Scontext) e
  stores_is Tselect e = ap (λ (k : Asked plain). stores plain k Tselect) e
  stores_is Mcycle e = ap (λ (k : Asked plain). stores plain k Mcycle) e
  stores_is Minstret e = ap (λ (k : Asked plain). stores plain k Minstret) e
  stores_is Cycle e = ap (λ (k : Asked plain). stores plain k Cycle) e
  stores_is Time e = ap (λ (k : Asked plain). stores plain k Time) e
  stores_is Instret e = ap (λ (k : Asked plain). stores plain k Instret) e
  stores_is Mvendorid e = ap (λ (k : Asked plain). stores plain k Mvendorid) e
  stores_is Marchid e = ap (λ (k : Asked plain). stores plain k Marchid) e
  stores_is Mimpid e = ap (λ (k : Asked plain). stores plain k Mimpid) e
  stores_is Mhartid e = ap (λ (k : Asked plain). stores plain k Mhartid) e
  stores_is Mconfigptr e = ap (λ (k : Asked plain). stores plain k Mconfigptr) e
  stores_is Seed e = ap (λ (k : Asked plain). stores plain k Seed) e
  stores_is (Mhpmcounter n) e = ap (λ (k : Asked plain). stores plain k (Mhpmcounter n)) e
  stores_is (Mhpmevent n) e = ap (λ (k : Asked plain). stores plain k (Mhpmevent n)) e
