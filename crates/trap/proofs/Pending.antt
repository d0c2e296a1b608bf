-- The pending answer is the first interrupt that may be taken, can be injected, and on a legal
-- record is of machine level, whatever the interrupt controller does.
use Rattle.std.proofs.Common.{◌≡◌, ℕ, ◌<◌, Bool, true, false, cond, not, ◌&&◌, ◌||◌, ltb, ◌↔◌, [], ◌∷◌, sym, refl, ap, ◌∙◌, subst, lt-ltb}
use lib.Bits.{bit_and}
use Rattle.bits.specs.Word.{Fits, bit}
use Rattle.bits.proofs.Bools.{left, right, pair, or_left, or_right}
use Rattle.bits.proofs.WordBits.{bit_bit_and}
use Rattle.rules.specs.Interrupts.{legal_mideleg, read_mip}
use Rattle.rules.specs.Laws.{Levels}
use Rattle.rules.proofs.Laws.{legal_levels}
use Rattle.rules.proofs.InterruptLaws.{mip_read_fits, mip_read_within, mip_read_machine, mip_down}
use Rattle.hart.specs.Words.{get, put}
use Rattle.hart.specs.Caps.{has_s}
use Rattle.hart.specs.Legal.{legal_word}
use Rattle.hart.specs.Answers.{done, refused}
use Rattle.hart.specs.Laws.{word_after, Legal}
use Rattle.hart.proofs.Legal.{legal_word_lem}
use Rattle.hart.proofs.Laws.{get_puts, put_get, conditions, put_keeps_legal}
use Rattle.hart.proofs.Capable.{caps_222, caps_2222}
use Rattle.hart.specs.declared.caps.Caps.{Caps}
use Rattle.hart.specs.declared.record.Hart.{Hart}
use Rattle.hart.specs.declared.record.Word.{Word}
use Rattle.hart.specs.declared.record.Word.TheVariants.{Mode, Waiting, Mstatus, Mie, Mip, Mideleg}
use Rattle.hart.specs.declared.answer.Refusal.TheVariants.{BadInterrupt}
use Rattle.first.specs.Laws.{Each, First}
use Rattle.first.specs.First.{first_of}
use Rattle.first.proofs.First.{first_none, first_is, first_has}
use Rattle.trap.specs.Interrupts.{order, is_ready}
use Rattle.trap.specs.Steps.{is_held, pending_of, injected}
use Rattle.trap.specs.Laws.{may_be_taken, PendingNone, PendingFirst, PendingIsInjected, PendingIsMachine, PendingWithoutLine}
use Rattle.trap.proofs.Order.{order_below, order_positive}

-- the answer is the first that may be taken: where interrupts are held back, none may
pending_is : (h : Hart) → pending_of h ≡ first_of 0 (λ n. n) (may_be_taken h) order
pending_is h = go (is_held h)
  where
    ready : ℕ → Bool
    ready = is_ready h.mie h.mip h.mideleg

    go : (b : Bool) → cond b 0 (first_of 0 (λ n. n) ready order) ≡ first_of 0 (λ n. n) (λ n. not b && ready n) order
    go true = refl
    go false = refl

pub pending_none : PendingNone
pending_none h = subst (λ (n : ℕ). (n ≡ 0) ↔ Each (λ n. may_be_taken h n ≡ false) order) (sym (pending_is h)) (first_none 0 (λ n. n) (may_be_taken h) order order_positive)

pub pending_first : PendingFirst
pending_first h n z = subst (λ (m : ℕ). (m ≡ n) ↔ First (λ m. m) (may_be_taken h) n order) (sym (pending_is h)) (first_is 0 (λ m. m) (may_be_taken h) n z order)

-- a bit of a word within a mask is in the mask
within : (n v m : ℕ) → bit_and v m ≡ v → bit n v ≡ true → bit n m ≡ true
within n v m e b = right (bit n v) (bit n m) (sym (bit_bit_and n v m) ∙ ap (bit n) e ∙ b)

pub pending_is_injected : PendingIsInjected
pending_is_injected c h l z =
    ap (λ (b : Bool). cond b (done (injected h n)) (refused h BadInterrupt))
    (pair (ltb n 64) (bit n c.interrupts) (lt-ltb n 64 taken.1) (within n h.mip c.interrupts (((conditions c).mip h.mip).0 (legal_word_lem c h l.hart Mip)) pending))
  where
    n : ℕ
    n = pending_of h

    taken : (may_be_taken h n ≡ true) × (n < 64)
    taken =
        let (m, e, passes, below) = first_has (λ m. m) (may_be_taken h) (λ m. m < 64) order n ((pending_first h n z).0 refl) order_below in
        subst (λ (i : ℕ). (may_be_taken h i ≡ true) × (i < 64)) e (passes, below)

    pending : bit n h.mip ≡ true
    pending =
        right (bit n h.mie) (bit n h.mip)
        (left (bit n h.mie && bit n h.mip) (not (bit n h.mideleg))
        (right (not (is_held h)) (is_ready h.mie h.mip h.mideleg n) taken.0))

-- what isn't enabled, isn't pending or is delegated may not be taken
not_taken : (held e p d : Bool) → (not e || not p || d) ≡ true → (not held && (e && p && not d)) ≡ false
not_taken true e p d q = refl
not_taken false true true true q = refl
not_taken false true true false q = sym q
not_taken false true false d q = refl
not_taken false false p d q = refl

module _ (c : Caps) (h : Hart) (l : Legal c h) where
  abbrev enabled : ℕ → Bool
  enabled n = bit n h.mie

  abbrev pending : ℕ → Bool
  pending n = bit n h.mip

  abbrev delegated : ℕ → Bool
  delegated n = bit n h.mideleg

  -- without S nothing of supervisor level is pending
  not_pending : (n : ℕ) → bit n 0x2222 ≡ true → bit n 0 ≡ false → has_s c ≡ false → pending n ≡ false
  not_pending n has none s = go (pending n) refl
    where
      go : (b : Bool) → pending n ≡ b → b ≡ false
      go false e = refl
      go true e =
          sym (bit_bit_and n c.interrupts 0x2222 ∙ pair (bit n c.interrupts) (bit n 0x2222) (within n h.mip c.interrupts (((conditions c).mip h.mip).0 (legal_word_lem c h l.hart Mip)) e) has)
          ∙ ap (bit n) (caps_2222 c l.caps s)
          ∙ none

  levels : (v : ℕ) → Fits v → Levels c.interrupts v
  levels v = legal_levels c.interrupts v l.caps_fit.interrupts

  -- with S it is delegated
  is_delegated : (n : ℕ) → bit n (legal_mideleg c.interrupts h.mideleg) ≡ true → has_s c ≡ true → delegated n ≡ true
  is_delegated n e s = subst (λ (v : ℕ). bit n v ≡ true) (((conditions c).mideleg s h.mideleg).0 (legal_word_lem c h l.hart Mideleg)) e

  -- so it isn't taken, either way
  supervisor : (n : ℕ) → bit n 0x2222 ≡ true → bit n 0 ≡ false → bit n (legal_mideleg c.interrupts h.mideleg) ≡ true → may_be_taken h n ≡ false
  supervisor n has none e = not_taken (is_held h) (enabled n) (pending n) (delegated n) (go (has_s c) refl)
    where
      go : (s : Bool) → has_s c ≡ s → (not (enabled n) || not (pending n) || delegated n) ≡ true
      go true s = or_right (not (enabled n) || not (pending n)) (delegated n) (is_delegated n e s)
      go false s = or_left (not (enabled n) || not (pending n)) (delegated n) (or_right (not (enabled n)) (not (pending n)) (ap not (not_pending n has none s)))

  lcofi : may_be_taken h 13 ≡ false
  lcofi =
      not_taken (is_held h) (enabled 13) (pending 13) (delegated 13)
      (or_left (not (enabled 13) || not (pending 13)) (delegated 13) (or_left (not (enabled 13)) (not (pending 13))
      (ap not (subst (λ (v : ℕ). bit 13 v ≡ false) (((conditions c).mie h.mie).0 (legal_word_lem c h l.hart Mie)) (levels h.mie (l.hart_fits.words Mie)).lcofi))))

pub pending_is_machine : PendingIsMachine
pending_is_machine c h l =
    pending_is h
    ∙ ap (λ (n : ℕ). cond (may_be_taken h 11) 11 (cond (may_be_taken h 3) 3 (cond (may_be_taken h 7) 7 n)))
    ((first_none 0 (λ n. n) (may_be_taken h) (9 ∷ 1 ∷ 5 ∷ 13 ∷ []) order_positive.1.1.1).1
    (supervisor c h l 9 refl refl legal.sei, (supervisor c h l 1 refl refl legal.ssi, (supervisor c h l 5 refl refl legal.sti, (lcofi c h l, tt)))))
  where
    legal : Levels c.interrupts h.mideleg
    legal = levels c h l h.mideleg (l.hart_fits.words Mideleg)

-- with S; without it nothing is shown but the stored word
pub pending_without_line : PendingWithoutLine
pending_without_line c h up l = go up (has_s c) refl refl
  where
    m : ℕ
    m = h.mip

    fits : Fits m
    fits = l.hart_fits.words Mip

    shown : ℕ
    shown = read_mip up m

    legal : has_s c ≡ true → legal_word c Mip shown ≡ true
    legal s = ((conditions c).mip shown).1 (mip_read_within up m fits c.interrupts l.caps_fit.interrupts (caps_222 c l.caps s) (((conditions c).mip m).0 (legal_word_lem c h l.hart Mip)))

    -- no other word changes
    after : (u : Word) → get u (put Mip shown h) ≡ word_after ((Mip, shown) ∷ []) u (get u h)
    after u = get_puts ((Mip, shown) ∷ []) u h

    bits : (bit 11 shown ≡ bit 11 m) × ((bit 3 shown ≡ bit 3 m) × (bit 7 shown ≡ bit 7 m))
    bits = mip_read_machine up m fits

    with_s : has_s c ≡ true → pending_of (put Mip shown h) ≡ pending_of h
    with_s s =
        pending_is_machine c (put Mip shown h) (put_keeps_legal c h Mip shown l (mip_read_fits up m fits) (legal s))
        ∙ rw (after Mode, after Mstatus, after Waiting, after Mie, after Mip, after Mideleg, bits.0, bits.1.0, bits.1.1)
        (sym (pending_is_machine c h l))

    down : pending_of (put Mip (read_mip false m) h) ≡ pending_of h
    down = ap (λ (v : ℕ). pending_of (put Mip v h)) (mip_down m) ∙ ap pending_of (put_get Mip h)

    go : (u s : Bool) → up ≡ u → has_s c ≡ s → pending_of (put Mip (read_mip (u && s) m) h) ≡ pending_of h
    go true true e s = ap (λ (b : Bool). pending_of (put Mip (read_mip b m) h)) (sym e) ∙ with_s s
    go true false e s = down
    go false b e s = down
