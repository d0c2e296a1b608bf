-- The laws of the record, of the modes and of legality, the first two from files of their own.
use mathlib.Core.Path.{◌≡◌, refl, sym, ap, ◌∙◌, subst}
use mathlib.Core.Bool.{Bool, true, false, not}
use mathlib.Core.Logic.{◌↔◌}
use mathlib.Core.List.{List}
use Prim.Native.Nat.{ℕ}
use lib.Dec.{eqb}
use lib.ListN.{get_or, set}
use lib.Seq.{get_or-set_other}
use borrow.Author.Tests.{eqb-true, eq-eqb}
use lib.Bits.{bit_and}
use Rattle.bits.proofs.Bools.{≡→T, left, pair, or_left, or_right, implied}
use Rattle.rules.specs.Interrupts.{legal_mie}
use Rattle.hart.specs.Words.{put, with_x}
use Rattle.hart.specs.Modes.{mode_m}
use Rattle.hart.specs.Caps.{has_s, mstatus_of}
use Rattle.hart.specs.Legal.{legal_word, legal_hart}
use Rattle.hart.specs.Fresh.{zeros, fresh_changes, fresh_of}
use Rattle.hart.specs.Laws.{LegalIsWords, Conditions, LegalPut, PutKeepsLegal, SetKeepsLegal, FreshLegal}
use Rattle.hart.proofs.Put.{get_put, put_x, get_x, get_same, by_place, by_register, fits_put, fits_set_x}
use Rattle.hart.proofs.Legal.{x0_zero_lem, legal_word_lem, legal_all}
use Rattle.hart.proofs.Fresh.{fresh_legal_word}
pub use Rattle.hart.proofs.Fresh.{fresh_fits}
pub use Rattle.hart.proofs.HasModes.{by_mode, has_modes}
pub use Rattle.hart.proofs.Put.{get_puts, puts_x, is_puts, same_puts, put_get, put_put, set_set}
use Rattle.hart.specs.declared.caps.Caps.{Caps}
use Rattle.hart.specs.declared.record.Hart.{Hart}
use Rattle.hart.specs.declared.record.Word.{Word}

pub legal_is_words : LegalIsWords
legal_is_words c h = (λ e. (x0_zero_lem c h e, legal_word_lem c h e), λ l. legal_all c h l.0 l.1)

-- a test of an equation says the equation, both ways
tells : (a b : ℕ) → (eqb a b ≡ true) ↔ (a ≡ b)
tells a b = (eqb-true a b, eq-eqb a b)

pub conditions : (c : Caps) → Conditions c
unfolding legal_word mstatus_of
conditions c = record {
  pc = λ v. (λ e. e, λ e. e);
  mode = λ v. (λ e. e, λ e. e);
  mstatus = λ v q. (λ e. record { fits = q; legal = eqb-true _ _ e }, λ l. eq-eqb _ _ l.legal);
  legalized = λ v. tells (mstatus_of c v) v;
  mie = λ v. tells (legal_mie c.interrupts v) v;
  mip = λ v. tells (bit_and v c.interrupts) v;
  mideleg = λ s v. (λ e. eqb-true _ _ (implied (has_s c) _ (left _ _ e) s), λ e. pair _ _ (or_right (not (has_s c)) _ (eq-eqb _ _ e)) (or_left (has_s c) _ s));
  mepc = λ v. (λ e. e, λ e. e);
  sepc = λ s v. (λ e. left _ _ e, λ e. pair _ _ e (or_left (has_s c) _ s));
  mcause = λ v. refl;
  mtval = λ v. refl;
}

pub legal_put : LegalPut
legal_put c h w v e = go (legal_word c w v) refl
  where
    next : Hart
    next = put w v h

    kept : legal_word c w v ≡ true → legal_hart c next ≡ true
    kept q =
        legal_all c next (ap (λ (xs : List ℕ). eqb (get_or xs 0 0) 0) (put_x w v h) ∙ x0_zero_lem c h e)
        (λ u. subst (λ (n : ℕ). legal_word c u n ≡ true) (sym (get_put u w v h))
        (by_place (λ (n : ℕ). legal_word c u n ≡ true) w u (λ r. subst (λ (x : Word). legal_word c x v ≡ true) r q) (legal_word_lem c h e u)))

    told : legal_hart c next ≡ true → legal_word c w v ≡ true
    told q = subst (λ (n : ℕ). legal_word c w n ≡ true) (get_same w v h) (legal_word_lem c next q w)

    go : (b : Bool) → legal_word c w v ≡ b → legal_hart c next ≡ b
    go true q = kept q
    go false q = not-true (legal_hart c next) (λ r. absurd (≡→T false (sym q ∙ told r)))
      where
        not-true : (b : Bool) → (b ≡ true → ⊥) → b ≡ false
        not-true true n = absurd (n refl)
        not-true false n = refl

pub put_keeps_legal : PutKeepsLegal
put_keeps_legal c h w v l q p = record {
  caps = l.caps;
  hart = legal_put c h w v l.hart ∙ p;
  caps_fit = l.caps_fit;
  hart_fits = fits_put w v h l.hart_fits q;
}

pub set_keeps_legal : SetKeepsLegal
set_keeps_legal c h n v l q = record {
  caps = l.caps;
  hart = by_register (λ (next : Hart). legal_hart c next ≡ true) n v h l.hart kept;
  caps_fit = l.caps_fit;
  hart_fits = fits_set_x n v h l.hart_fits q;
}
  where
    next : Hart
    next = with_x (set h.x n v) h

    kept : eqb n 0 ≡ false → legal_hart c next ≡ true
    kept e =
        legal_all c next (ap (λ (x : ℕ). eqb x 0) (get_or-set_other h.x n 0 v 0 (λ z. absurd (≡→T false (sym e ∙ eq-eqb n 0 (sym z))))) ∙ x0_zero_lem c h l.hart)
        (λ w. ap (legal_word c w) (get_x w (set h.x n v) h) ∙ legal_word_lem c h l.hart w)

pub fresh_legal : FreshLegal
fresh_legal c pc f a =
    legal_all c (fresh_of c mode_m pc) (ap (λ (xs : List ℕ). eqb (get_or xs 0 0) 0) (puts_x (fresh_changes c mode_m pc) zeros)) (fresh_legal_word c pc f a)
