-- Every step of the trap part keeps a legal record legal: from the promises of the register part
-- and its own definitions.
use Rattle.std.proofs.Common.{◌≡◌, ℕ, ◌+◌, ◌*◌, ◌%◌, ◌^◌, Bool, true, false, cond, ◌&&◌, ◌||◌, eqb, [], ◌∷◌, sym, refl, subst, mod-lt, arith, lit<, pow_pos, eqb-true}
use lib.Bits.{bit_and}
use Rattle.bits.specs.Word.{Fits, bit}
use Rattle.bits.proofs.Bools.{left, right}
use Rattle.bits.proofs.Decide.{var, ◌&◌, same, env1, env2, env3, by_bits_if, below_64}
use Rattle.bits.proofs.Shown.{shown}
use Rattle.rules.specs.Addresses.{is_aligned}
use Rattle.rules.specs.Laws.{LegalMstatus}
use Rattle.rules.proofs.Laws.{fours_aligned}
use Rattle.hart.specs.Words.{get}
use Rattle.hart.specs.Modes.{mode_m, is_mode}
use Rattle.hart.specs.Caps.{has_c, has_s, has_fs, has_vs, mstatus_of}
use Rattle.hart.specs.Legal.{legal_word}
use Rattle.hart.specs.Answers.{done, refused}
use Rattle.hart.specs.Laws.{Legal}
use Rattle.hart.proofs.Legal.{legal_word_lem}
use Rattle.hart.proofs.Laws.{has_modes, conditions}
use Rattle.hart.proofs.Chain.{LegalChange, change, chain_keeps_legal}
use Rattle.hart.specs.declared.caps.Caps.{Caps}
use Rattle.hart.specs.declared.record.Hart.{Hart}
use Rattle.hart.specs.declared.record.Word.{Word}
use Rattle.hart.specs.declared.record.Word.TheVariants.{Pc, Mode, Mstatus, Mip, Mtvec, Mepc, Sepc, Mcause, Mtval}
use Rattle.hart.specs.declared.answer.Refusal.{Refusal}
use Rattle.hart.specs.declared.answer.Refusal.TheVariants.{NotMachine, NoSupervisor, BadInterrupt, NotException, BadTrap}
use Rattle.hart.specs.declared.answer.Step.{Step}
use Rattle.trap.specs.Status.{mpp_of, spp_of, entered_status, mret_status, sret_status}
use Rattle.trap.specs.Interrupts.{cause, mip_after, is_interrupt, cause_of, trapped_mip}
use Rattle.trap.specs.Target.{base, base_of, target_of}
use Rattle.trap.specs.Steps.{injected, trapped_status, trapped, is_interrupt_cause, is_m, is_mepc, is_mip, is_status, is_trap, mret_of, sret_of}
use Rattle.trap.specs.Laws.{InjectKeepsLegal, FitsTrap, TrapKeepsLegal, MretKeepsLegal, SretKeepsLegal}
use Rattle.trap.proofs.StatusLaws.{mpp_fits, mpp_mode, spp_fits, spp_mode, entered_legal, mret_legal, sret_legal}
use Rattle.trap.specs.declared.context.TrapInfo.{TrapInfo}

-- ---- a step is done or refused

-- a refused step leaves the record
done_or_refused : (c : Caps) (h : Hart) (t : Bool) (s : Step) (why : Refusal) → Legal c h → (t ≡ true → Legal c s.hart) → Legal c (cond t s (refused h why)).hart
done_or_refused c h t s why l kept = go t refl
  where
    go : (b : Bool) → t ≡ b → Legal c (cond b s (refused h why)).hart
    go true e = kept e
    go false e = l

-- ---- where a trap goes

base_fits : (m : ℕ) → Fits m → Fits (base_of m)
unfolding base_of
base_fits m h = below_64 (base shown (var 0)) tt (env1 m h [])

base_four : (m : ℕ) → base_of m % 4 ≡ 0
unfolding base_of
base_four m = omega arith

target_fits : (m cause : ℕ) → Fits m → Fits (target_of m cause)
target_fits m cause h = go (eqb (m % 4) 1 && bit 63 cause)
  where
    go : (b : Bool) → Fits (cond b ((base_of m + 4 * (cause % 2 ^ 63)) % 2 ^ 64) (base_of m))
    go true = mod-lt (base_of m + 4 * (cause % 2 ^ 63)) (pow_pos 64)
    go false = base_fits m h

target_four : (m cause : ℕ) → target_of m cause % 4 ≡ 0
target_four m cause = go (eqb (m % 4) 1 && bit 63 cause) (base_four m)
  where
    go : (b : Bool) → base_of m % 4 ≡ 0 → cond b ((base_of m + 4 * (cause % 2 ^ 63)) % 2 ^ 64) (base_of m) % 4 ≡ 0
    go true e = omega arith
    go false e = e

-- ---- legal kept

module _ (c : Caps) (h : Hart) (l : Legal c h) where
  -- the record's own words
  own : (w : Word) → legal_word c w (get w h) ≡ true
  own = legal_word_lem c h l.hart

  status_legal : LegalMstatus (has_s c) (has_fs c) (has_vs c) h.mstatus
  status_legal = ((conditions c).mstatus h.mstatus (l.hart_fits.words Mstatus)).0 (own Mstatus)

  mode_legal : is_mode (has_s c) h.mode ≡ true
  mode_legal = ((conditions c).mode h.mode).0 (own Mode)

  -- a legal word for mstatus
  abbrev to_status : (v : ℕ) → LegalMstatus (has_s c) (has_fs c) (has_vs c) v → LegalChange c
  to_status v m = change Mstatus v m.fits (((conditions c).mstatus v m.fits).1 m)

  -- for the mode
  abbrev to_mode : (v : ℕ) → Fits v → is_mode (has_s c) v ≡ true → LegalChange c
  to_mode v f e = change Mode v f (((conditions c).mode v).1 e)

  abbrev to_machine : LegalChange c
  to_machine = to_mode mode_m (lit< tt) (has_modes (has_s c)).machine

  -- and for pc, with where a trap goes
  abbrev to_pc : (v : ℕ) → Fits v → is_aligned (has_c c) v ≡ true → LegalChange c
  to_pc v f e = change Pc v f (((conditions c).pc v).1 e)

  abbrev to_target : ℕ → LegalChange c
  to_target cause =
      let fits = target_fits h.mtvec cause (l.hart_fits.words Mtvec) in
      to_pc (target_of h.mtvec cause) fits (fours_aligned (has_c c) _ fits (target_four h.mtvec cause))

  inject_done : (n : ℕ) → Fits n → Legal c (injected h n)
  unfolding cause_of
  inject_done n q =
      chain_keeps_legal c h
      (to_status (entered_status h.mode h.mstatus) (entered_legal (has_s c) (has_fs c) (has_vs c) h.mstatus status_legal h.mode mode_legal) ∷
      change Mcause (cause_of n) (below_64 (cause shown (var 0)) tt (env1 n q [])) ((conditions c).mcause (cause_of n)) ∷
      change Mepc h.pc (l.hart_fits.words Pc) (((conditions c).mepc h.pc).1 (((conditions c).pc h.pc).0 (own Pc))) ∷
      change Mtval 0 (lit< tt) ((conditions c).mtval 0) ∷
      to_machine ∷
      to_target (cause_of n) ∷
      [])
      l

  -- what stays virtual is within interrupts, and so is what comes from the trap
  mip_within : (i m t : ℕ) → Fits i → Fits m → Fits t → bit_and m i ≡ m → bit_and t i ≡ t → bit_and (trapped_mip m t) i ≡ trapped_mip m t
  unfolding trapped_mip
  mip_within i m t hi hm ht e f =
      by_bits_if (same (var 1 & var 0) (var 1) ∷ same (var 2 & var 0) (var 2) ∷ []) (mip_after shown (var 1) (var 2) & var 0) (mip_after shown (var 1) (var 2)) tt
      (env3 i m t hi hm ht []) (e, (f, tt))

  mip_fits : (m t : ℕ) → Fits m → Fits t → Fits (trapped_mip m t)
  unfolding trapped_mip
  mip_fits m t hm ht = below_64 (mip_after shown (var 0) (var 1)) tt (env2 m t hm ht [])

  -- from M the record's mstatus is entered; from another mode the trap's is legal
  trap_status : (t : TrapInfo) → FitsTrap t → is_status c h t ≡ true → LegalMstatus (has_s c) (has_fs c) (has_vs c) (trapped_status h t)
  trap_status t f e = go (is_m h) e
    where
      go : (b : Bool) → (b || (eqb (mstatus_of c t.mstatus) t.mstatus && eqb (mpp_of t.mstatus) h.mode)) ≡ true
          → LegalMstatus (has_s c) (has_fs c) (has_vs c) (cond b (entered_status mode_m h.mstatus) t.mstatus)
      go true q = entered_legal (has_s c) (has_fs c) (has_vs c) h.mstatus status_legal mode_m (has_modes (has_s c)).machine
      go false q = ((conditions c).mstatus t.mstatus f.mstatus).0 (((conditions c).legalized t.mstatus).1 (eqb-true _ _ (left _ _ q)))

  trap_done : (t : TrapInfo) → FitsTrap t → is_trap c h t ≡ true → Legal c (trapped h t)
  trap_done t f e =
      chain_keeps_legal c h
      (change Mcause t.mcause f.mcause ((conditions c).mcause t.mcause) ∷
      change Mtval t.mtval f.mtval ((conditions c).mtval t.mtval) ∷
      change Mepc t.mepc f.mepc (((conditions c).mepc t.mepc).1 (left (is_mepc c t) (is_mip c t) parts)) ∷
      change Mip (trapped_mip h.mip t.mip) (mip_fits h.mip t.mip (l.hart_fits.words Mip) f.mip)
      (((conditions c).mip (trapped_mip h.mip t.mip)).1
      (mip_within c.interrupts h.mip t.mip l.caps_fit.interrupts (l.hart_fits.words Mip) f.mip
      (((conditions c).mip h.mip).0 (own Mip)) (eqb-true _ _ (right (is_mepc c t) (is_mip c t) parts)))) ∷
      to_status (trapped_status h t) (trap_status t f (right (is_mepc c t && is_mip c t) (is_status c h t) e)) ∷
      to_machine ∷
      to_target t.mcause ∷
      [])
      l
    where
      parts : (is_mepc c t && is_mip c t) ≡ true
      parts = left (is_mepc c t && is_mip c t) (is_status c h t) e

  mret_done : Legal c (mret_of h)
  mret_done =
      chain_keeps_legal c h
      (to_mode (mpp_of h.mstatus) (mpp_fits h.mstatus) (mpp_mode (has_s c) (has_fs c) (has_vs c) h.mstatus status_legal) ∷
      to_status (mret_status h.mstatus) (mret_legal (has_s c) (has_fs c) (has_vs c) h.mstatus status_legal) ∷
      to_pc h.mepc (l.hart_fits.words Mepc) (((conditions c).mepc h.mepc).0 (own Mepc)) ∷
      [])
      l

  sret_done : has_s c ≡ true → Legal c (sret_of h)
  sret_done p =
      chain_keeps_legal c h
      (to_mode (spp_of h.mstatus) (spp_fits h.mstatus) (subst (λ (s : Bool). is_mode s (spp_of h.mstatus) ≡ true) (sym p) (spp_mode h.mstatus)) ∷
      to_status (sret_status h.mstatus) (sret_legal (has_s c) (has_fs c) (has_vs c) h.mstatus status_legal p) ∷
      to_pc h.sepc (l.hart_fits.words Sepc) (((conditions c).sepc p h.sepc).0 (own Sepc)) ∷
      [])
      l

pub inject_keeps_legal : InjectKeepsLegal
inject_keeps_legal c h n l q = done_or_refused c h (is_interrupt c.interrupts n) (done (injected h n)) BadInterrupt l (λ e. inject_done c h l n q)

pub trap_keeps_legal : TrapKeepsLegal
trap_keeps_legal c h t l f = go (is_interrupt_cause t)
  where
    go : (b : Bool) → Legal c (cond b (refused h NotException) (cond (is_trap c h t) (done (trapped h t)) (refused h BadTrap))).hart
    go true = l
    go false = done_or_refused c h (is_trap c h t) (done (trapped h t)) BadTrap l (λ e. trap_done c h l t f e)

pub mret_keeps_legal : MretKeepsLegal
mret_keeps_legal c h l = done_or_refused c h (eqb h.mode mode_m) (done (mret_of h)) NotMachine l (λ e. mret_done c h l)

pub sret_keeps_legal : SretKeepsLegal
sret_keeps_legal c h l =
    done_or_refused c h (eqb h.mode mode_m) (cond (has_s c) (done (sret_of h)) (refused h NoSupervisor)) NotMachine l
    (λ e. done_or_refused c h (has_s c) (done (sret_of h)) NoSupervisor l (sret_done c h l))
