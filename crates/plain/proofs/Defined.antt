-- The definition of each register as an expression: its word, what it reads, and what a write
-- stores. That they are the definitions is proved by computation, register by register.
use Prim.Native.Nat.{ℕ}
use mathlib.Core.Bool.{Bool, true, false, cond, not, ◌&&◌, ◌||◌}
use mathlib.Core.List.{[], ◌∷◌}
use mathlib.Core.Path.{◌≡◌, refl}
use lib.Dec.{ltb}
use Rattle.bits.proofs.Decide.{W, B, Env, var, lit, ite, flag, eval, env}
use Rattle.bits.proofs.Shown.{shown}
use Rattle.rules.specs.Status as status
use Rattle.rules.specs.Interrupts as interrupts
use Rattle.rules.specs.Addresses as addresses
use Rattle.rules.specs.Config as config
use Rattle.hart.specs.Words.{put}
use Rattle.hart.specs.Caps.{has_c, has_f, has_s, has_v, has_zfinx, has_sstc, has_zicbom, has_zicboz, has_svpbmt, mstatus_of}
use Rattle.hart.specs.declared.caps.Caps.{Caps}
use Rattle.hart.specs.declared.record.Hart.{Hart}
use Rattle.hart.specs.declared.record.Host.{Host}
use Rattle.hart.specs.declared.record.Word.{Word}
use Rattle.hart.specs.declared.record.Word.TheVariants as word
use Rattle.csr.specs.Address.{address_of, needs_s, needs_sstc, is_present}
use Rattle.csr.specs.Line.{raises_seip}
use Rattle.csr.specs.Access.{read_of, stored_of, hart_after}
use Rattle.csr.proofs.Expressed as rules
use Rattle.csr.specs.declared.address.Csr.{Csr}
use Rattle.csr.specs.declared.address.Csr.TheVariants.{Mstatus, Misa, Medeleg, Mideleg, Mie, Mtvec, Mcounteren, Menvcfg, Mcountinhibit, Mscratch, Mepc, Mcause, Mtval, Mip, Sstatus, Sie, Stvec, Scounteren, Senvcfg, Sscratch, Sepc, Scause, Stval, Sip, Stimecmp, Satp, Scontext, Tselect, Mcycle, Minstret, Cycle, Time, Instret, Mvendorid, Marchid, Mimpid, Mhartid, Mconfigptr, Seed, Mhpmcounter, Mhpmevent}
use Rattle.plain.specs.Row.{Asked}
use Rattle.plain.specs.Words.{word_of, put_word}
use Rattle.plain.specs.Engine.{extensions, asked_of}
use Rattle.plain.specs.Laws.{FitsAsked}
use Rattle.plain.specs.declared.words.Source.{Source}
use Rattle.plain.specs.declared.words.Source.TheVariants as source
open shown use {when}

-- the variables: the value, the register's word, interrupts, mideleg, menvcfg
abbrev value : W
value = var 0

abbrev old : W
old = var 1

-- the flags: the extensions from S to Svpbmt; the value lies above the highest address; the
-- controller raises SEIP; and, of a view, that what mstatus is asked to take lies above
abbrev above : B
above = flag 9

abbrev up : B
up = flag 10

abbrev pub above_again : B
above_again = flag 11

abbrev pub question : Asked shown
question =
    record {
      has = extensions shown (flag 0) (flag 1) (flag 2) (flag 3) (flag 4) (flag 5) (flag 6) (flag 7) (flag 8);
      raised = when up (lit 0x200);
      above = above;
      interrupts = var 2;
      mideleg = var 3;
      menvcfg = var 4;
      old = old;
      value = value;
    }

-- the same for the rules of the registers
abbrev asked : rules.Asked shown
asked =
    record {
      s = flag 0;
      c = flag 1;
      f = flag 2;
      v = flag 3;
      zfinx = flag 4;
      sstc = flag 5;
      zicbom = flag 6;
      zicboz = flag 7;
      svpbmt = flag 8;
      above = above;
      interrupts = var 2;
      mideleg = var 3;
      menvcfg = var 4;
      old = old;
      value = value;
    }

-- a register: its word, and what it reads
pub record Definition : Type 0 where
  pub word : Source
  pub reads : W

-- of a word of the record
abbrev defined : Word → W → Definition
defined w reads = record { word = source.Record w; reads = reads }

-- one that reads its word
abbrev whole : Word → Definition
whole w = defined w old

-- one that reads another
abbrev other : Source → Definition
other x = record { word = x; reads = old }

abbrev pub definition : Csr → Definition
definition Mstatus = whole word.Mstatus
definition Misa = other source.Misa
definition Medeleg = whole word.Medeleg
definition Mideleg = whole word.Mideleg
definition Mie = whole word.Mie
definition Mtvec = whole word.Mtvec
definition Mcounteren = whole word.Mcounteren
definition Menvcfg = whole word.Menvcfg
definition Mcountinhibit = whole word.Mcountinhibit
definition Mscratch = whole word.Mscratch
definition Mepc = whole word.Mepc
definition Mcause = whole word.Mcause
definition Mtval = whole word.Mtval
definition Mip = defined word.Mip (interrupts.mip_shown shown up old)
definition Sstatus = defined word.Mstatus (status.sstatus_read shown old)
definition Sie = defined word.Mie (interrupts.delegated shown (var 3) old)
definition Stvec = whole word.Stvec
definition Scounteren = whole word.Scounteren
definition Senvcfg = whole word.Senvcfg
definition Sscratch = whole word.Sscratch
definition Sepc = whole word.Sepc
definition Scause = whole word.Scause
definition Stval = whole word.Stval
definition Sip = defined word.Mip (interrupts.delegated shown (var 3) (interrupts.mip_shown shown up old))
definition Stimecmp = whole word.Stimecmp
definition Satp = whole word.Satp
definition Scontext = other source.Zero
definition Tselect = defined word.Tselect (config.tselect_read shown old)
definition Mcycle = whole word.Mcycle
definition Minstret = whole word.Minstret
definition Cycle = whole word.Mcycle
definition Time = other source.Time
definition Instret = whole word.Minstret
definition Mvendorid = other source.Mvendorid
definition Marchid = other source.Marchid
definition Mimpid = other source.Mimpid
definition Mhartid = other source.Mhartid
definition Mconfigptr = other source.Mconfigptr
definition Seed = other source.Seed
definition (Mhpmcounter n) = other source.Zero
definition (Mhpmevent n) = other source.Zero

-- what a write stores
abbrev pub stores : Csr → W
stores = rules.stores shown asked

-- 1 if the hart has it, else 0
abbrev need : Bool → B → W → W
need b t w = cond b (ite t w (lit 0)) w

abbrev pub present_w : Csr → W
present_w r = need (needs_s (address_of r)) (flag 0) (need (needs_sstc (address_of r)) (flag 5) (lit 1))

-- ---- they are the definitions

module _ (c : Caps) (h : Hart) (o : Host) (w : Source) (v : ℕ) (again : Bool) (f : FitsAsked (asked_of c h o w v)) where
  -- what the variables and flags are
  abbrev pub values : Env
  values =
      env (v ∷ word_of c h o w ∷ c.interrupts ∷ h.mideleg ∷ h.menvcfg ∷ [])
      (has_s c ∷ has_c c ∷ has_f c ∷ has_v c ∷ has_zfinx c ∷ has_sstc c ∷ has_zicbom c ∷ has_zicboz c ∷ has_svpbmt c ∷ ltb c.highest v ∷ raises_seip c o ∷ again ∷ [])
      (f.value, (f.old, (f.interrupts, (f.mideleg, (f.menvcfg, tt)))))

  pub present_is : (r : Csr) → eval (present_w r) values ≡ cond (is_present c r) 1 0
  present_is r = go (needs_s (address_of r)) (needs_sstc (address_of r))
    where
      two : (s t : Bool) → ◌≡◌ {A = ℕ} (cond s (cond t 1 0) 0) (cond (s && t) 1 0)
      two true t = refl
      two false t = refl

      one : (s : Bool) → ◌≡◌ {A = ℕ} (cond s 1 0) (cond (s && true) 1 0)
      one true = refl
      one false = refl

      go : (a b : Bool) → eval (need a (flag 0) (need b (flag 5) (lit 1))) values ≡ cond ((not a || has_s c) && (not b || has_sstc c)) 1 0
      go true true = two (has_s c) (has_sstc c)
      go true false = one (has_s c)
      go false true = refl
      go false false = refl

module _ (c : Caps) (h : Hart) (o : Host) (v : ℕ) (again : Bool) where
  -- a register's own words
  abbrev Fitting : Csr → Type 0
  Fitting r = FitsAsked (asked_of c h o (definition r).word v)

  abbrev pub values_of : (r : Csr) → Fitting r → Env
  values_of r f = values c h o (definition r).word v again f

  pub reads_is : (r : Csr) (f : Fitting r) → eval (definition r).reads (values_of r f) ≡ read_of c h o r
  unfolding read_of status.read_sstatus interrupts.read_delegated interrupts.read_mip
  reads_is Mstatus f = refl
  reads_is _ f = refl

  pub stores_is : (r : Csr) (f : Fitting r) → put_word (definition r).word (eval (stores r) (values_of r f)) h ≡ hart_after c h r v
  unfolding stored_of put mstatus_of status.legal_mstatus status.merged_sstatus interrupts.legal_mie interrupts.written_sie interrupts.written_mip interrupts.written_sip interrupts.legal_mideleg interrupts.legal_medeleg addresses.written_tvec addresses.written_epc addresses.written_satp config.legal_counteren config.legal_countinhibit config.legal_senvcfg config.legal_menvcfg
  stores_is Mstatus f = refl
  stores_is _ f = refl
