-- Each word of a fresh record is legal, and has 64 bits: 0 is, in every word but mstatus and
-- mideleg.
use mathlib.Core.Path.{◌≡◌, refl, sym, ap, ◌∙◌, subst}
use mathlib.Core.Bool.{Bool, true, false, not, cond, ◌&&◌, ◌||◌, or-true}
use mathlib.Core.List.{[], ◌∷◌}
use Prim.Native.Nat.{ℕ, zero, suc}
use lib.Bits.{and_zero_l}
use lib.Dec.{eqb, lit<}
use lib.ListN.{get_or, replicate}
use borrow.Author.Tests.{eq-eqb}
use Rattle.bits.specs.Word.{Fits}
use Rattle.bits.specs.Masks.{only_if}
use Rattle.bits.proofs.Bools.{pair}
use Rattle.bits.proofs.Decide.{W, var, lit, flag, ite, ◌≐◌, both, either, isnt, env0, env1, by_test}
use Rattle.bits.proofs.Shown.{shown}
use Rattle.rules.specs.Interrupts.{mie, mideleg, legal_mie, legal_mideleg, legal_medeleg}
use Rattle.rules.specs.Addresses.{aligned, is_aligned, is_tvec_mode, is_satp_mode}
use Rattle.rules.specs.Config.{senvcfg, menvcfg, legal_countinhibit, legal_senvcfg, legal_menvcfg}
use Rattle.rules.proofs.StatusLaws.{mstatus_again, mstatus_fits}
use Rattle.hart.specs.Words.{get}
use Rattle.hart.specs.Laws.{word_after, FitsHart, FitsCaps, FreshFits}
use Rattle.hart.specs.Modes.{mode_m, is_mode}
use Rattle.hart.specs.Caps.{mstatus_of, has_s, has_c, has_fs, has_vs, has_sstc, has_zicbom, has_zicboz, has_svpbmt}
use Rattle.hart.specs.Legal.{legal_word}
use Rattle.hart.specs.Fresh.{zeros, fresh_changes, fresh_of}
use Rattle.hart.specs.declared.caps.Caps.{Caps}
use Rattle.hart.specs.declared.record.Word.{Word}
use Rattle.hart.specs.declared.record.Word.TheVariants.{Pc, Mode, Waiting, Mstatus, Mie, Mip, Mideleg, Medeleg, Mtvec, Mcounteren, Mcountinhibit, Menvcfg, Mscratch, Mepc, Mcause, Mtval, Mcycle, Minstret, Tselect, Stvec, Scounteren, Senvcfg, Sscratch, Sepc, Scause, Stval, Satp, Stimecmp}
use Rattle.hart.proofs.Put.{get_of, get_puts, fits_puts}

zero64 : Fits 0
zero64 = lit< tt

zero_mie : (i : ℕ) → Fits i → eqb (legal_mie i 0) 0 ≡ true
unfolding legal_mie
zero_mie i h = by_test (mie shown (var 0) (lit 0) ≐ lit 0) tt (env1 i h [])

abbrev first : W
first = ite (flag 0) (lit 0x222) (lit 0)

first_mideleg : (i : ℕ) → Fits i → (s : Bool)
    → ((not s || eqb (legal_mideleg i (cond s 0x222 0)) (cond s 0x222 0)) && (s || eqb (cond s 0x222 0) 0)) ≡ true
unfolding legal_mideleg
first_mideleg i h s =
    by_test (both (either (isnt (flag 0)) (mideleg shown (var 0) first ≐ first)) (either (flag 0) (first ≐ lit 0))) tt (env1 i h (s ∷ []))

zero_menvcfg : (b z p t : Bool) → eqb (legal_menvcfg b z p t 0) 0 ≡ true
unfolding legal_menvcfg
zero_menvcfg b z p t = by_test (menvcfg shown (flag 0) (flag 1) (flag 2) (flag 3) (lit 0) ≐ lit 0) tt (env0 (b ∷ z ∷ p ∷ t ∷ []))

pub zero_senvcfg : (b z : Bool) → eqb (legal_senvcfg b z 0) 0 ≡ true
unfolding legal_senvcfg
zero_senvcfg b z = by_test (senvcfg shown (flag 0) (flag 1) (lit 0) ≐ lit 0) tt (env0 (b ∷ z ∷ []))

pub zero_aligned : (b : Bool) → is_aligned b 0 ≡ true
unfolding is_aligned
zero_aligned b = by_test (aligned shown (flag 0) (lit 0)) tt (env0 (b ∷ []))

module _ (c : Caps) (pc : ℕ) (f : FitsCaps c) (a : is_aligned (has_c c) pc ≡ true) where
  -- 0 is legal without S too
  ifs : (has_s c || true) ≡ true
  ifs = or-true (has_s c)

  fresh_word : (w : Word) → legal_word c w (word_after (fresh_changes c mode_m pc) w (get w zeros)) ≡ true
  unfolding legal_word is_mode mstatus_of legal_medeleg is_tvec_mode is_satp_mode legal_countinhibit
  fresh_word Pc = a
  fresh_word Mode = refl
  fresh_word Waiting = refl
  fresh_word Mstatus = eq-eqb _ _ (mstatus_again (has_s c) (has_fs c) (has_vs c) 0 zero64)
  fresh_word Mie = zero_mie c.interrupts f.interrupts
  fresh_word Mip = eq-eqb _ _ (and_zero_l c.interrupts)
  fresh_word Mideleg = first_mideleg c.interrupts f.interrupts (has_s c)
  fresh_word Medeleg = ifs
  fresh_word Mtvec = refl
  fresh_word Mcounteren = refl
  fresh_word Mcountinhibit = refl
  fresh_word Menvcfg = zero_menvcfg (has_zicbom c) (has_zicboz c) (has_svpbmt c) (has_sstc c)
  fresh_word Mscratch = refl
  fresh_word Mepc = zero_aligned (has_c c)
  fresh_word Mcause = refl
  fresh_word Mtval = refl
  fresh_word Mcycle = refl
  fresh_word Minstret = refl
  fresh_word Tselect = refl
  fresh_word Stvec = ifs
  fresh_word Scounteren = ifs
  fresh_word Senvcfg = pair _ _ (zero_senvcfg (has_zicbom c) (has_zicboz c)) ifs
  fresh_word Sscratch = ifs
  fresh_word Sepc = pair _ _ (zero_aligned (has_c c)) ifs
  fresh_word Scause = ifs
  fresh_word Stval = ifs
  fresh_word Satp = ifs
  fresh_word Stimecmp = pair _ _ ifs (or-true (has_sstc c))

  pub fresh_legal_word : (w : Word) → legal_word c w (get w (fresh_of c mode_m pc)) ≡ true
  fresh_legal_word w = ap (legal_word c w) (get_puts (fresh_changes c mode_m pc) w zeros) ∙ fresh_word w

zero_registers : (n i : ℕ) → Fits (get_or (replicate n 0) i 0)
zero_registers zero i = zero64
zero_registers (suc n) zero = zero64
zero_registers (suc n) (suc i) = zero_registers n i

zeros_fit : FitsHart zeros
zeros_fit = record {
  words = λ w. subst Fits (sym (get_of w (replicate 32 0) (λ u. 0))) zero64;
  registers = zero_registers 32;
}

pub fresh_fits : FreshFits
unfolding mstatus_of
fresh_fits c pc q =
    fits_puts (fresh_changes c mode_m pc) zeros
    (q, (lit< tt, (mstatus_fits (has_s c) (has_fs c) (has_vs c) 0 zero64, (delegated (has_s c), tt))))
    zeros_fit
  where
    delegated : (b : Bool) → Fits (only_if b 0x222)
    delegated true = lit< tt
    delegated false = lit< tt
