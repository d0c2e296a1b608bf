-- The laws of lost bits and their reasons.
use Prim.Native.Nat.{ℕ, ◌<◌}
use mathlib.Core.Bool.{Bool, true, false, not, ◌&&◌, ◌||◌, beq}
use mathlib.Core.List.{[], ◌∷◌}
use mathlib.Core.Logic.{◌↔◌, ⊎_elim}
use mathlib.Core.Path.{◌≡◌, refl, sym, ap, ◌∙◌, subst}
use lib.Bits.{bit_and, bit_or, bit_xor}
use lib.Dec.{eqb, lit<, T}
use borrow.Author.Tests.{eqb-true}
use Rattle.std.specs.Prelude.{Some}
use Rattle.bits.specs.Alg.{plain}
use Rattle.bits.specs.Word.{Fits, bit}
use Rattle.bits.proofs.WordBits.{bit_bit_and, bit_bit_or, bit_bit_xor}
use Rattle.bits.proofs.Bools.{left, right}
use Rattle.bits.proofs.Decide.{var, lit, flag, ◌&◌, holds, env1, by_bits_if}
use Rattle.bits.proofs.Shown.{shown}
use Rattle.rules.specs.Addresses.{aligned, is_aligned}
use Rattle.hart.specs.Caps.{has_c, has_s, legal_misa, legal_interrupts, legal_flags, legal_mvendorid, legal_caps}
use Rattle.hart.specs.Words.{get}
use Rattle.hart.specs.Laws.{FitsCaps, Legal}
use Rattle.hart.specs.Legal.{legal_word}
use Rattle.hart.specs.declared.caps.Caps.{Caps}
use Rattle.hart.specs.declared.record.Hart.{Hart}
use Rattle.hart.specs.declared.record.Word.{Word}
use Rattle.hart.specs.declared.record.Word.TheVariants as hartWords
use Rattle.hart.proofs.Capable.{caps_2_aaa}
use Rattle.hart.proofs.Laws.{legal_is_words, conditions}
use Rattle.hart.proofs.Put.{get_same}
use Rattle.csr.specs.Access.{read_of, stored_of, left_by, apply}
use Rattle.csr.specs.Address.{address_of, csr_at, is_present}
use Rattle.csr.specs.Line.{line_down}
use Rattle.csr.specs.declared.address.Csr.{Csr}
use Rattle.csr.specs.declared.address.Csr.TheVariants.{Mepc, Sepc}
use Rattle.csr.specs.Access.{Change}
use Rattle.csr.proofs.Expressed.{place, old_of, old_fits}
use Rattle.csr.proofs.Laws.{read_fits}
use Rattle.explain.specs.Lost.{compared_word, compared_bits, lost_of}
use Rattle.explain.specs.Reasons as words
use Rattle.explain.specs.Elsewhere.{Other, keeps_bit}
use Rattle.explain.specs.Elsewhere as there
use Rattle.explain.specs.Reasons.{otherwise}
use Rattle.explain.specs.Reason.{word_of}
use Rattle.explain.specs.declared.reasons.Reason.{Reason}
use Rattle.explain.specs.declared.reasons.Reason.TheVariants.{Unstored, Never, Elsewhere, Reserved, Forced, Ignored, Driven}
use Rattle.explain.specs.Laws.{Accepted, LostIsDifferent, ListedIsBit, ListedAscends, CountIsLength, ComparedIsAfter, Holds, ThreeAnswer, LowestGiven, EveryLostHasReason, NeverTaken}
use Rattle.explain.proofs.Listed.{listed_to, listed_from, ascends, count}
use Rattle.explain.proofs.Answered.{Sized, within, same_within, one_answers, of_three_one, any_reason, lost_within, never_same}
use Rattle.explain.proofs.Given.{given_or_none, given_is}

-- ---- which bits are lost

pub lost_is_different : LostIsDifferent
unfolding lost_of
lost_is_different c h o r v i =
    let word = compared_word c h o r v in
    let mask = compared_bits plain (address_of r) h.mideleg in
    let split = bit_bit_and i (bit_xor v word) mask ∙ ap (λ (b : Bool). b && bit i mask) (bit_bit_xor i v word) in
    (λ e. to (bit i v) (bit i word) (bit i mask) (sym split ∙ e), λ p. split ∙ from (bit i v) (bit i word) (bit i mask) p.0 p.1)
  where
    to : (a b m : Bool) → (not (beq a b) && m) ≡ true → (m ≡ true) × (a ≡ b → ⊥)
    to true true m e = absurd (subst T (sym e) tt)
    to true false m e = (e, λ q. subst T q tt)
    to false true m e = (e, λ q. subst T (sym q) tt)
    to false false m e = absurd (subst T (sym e) tt)

    from : (a b m : Bool) → m ≡ true → (a ≡ b → ⊥) → (not (beq a b) && m) ≡ true
    from true true m e q = absurd (q refl)
    from true false m e q = e
    from false true m e q = e
    from false false m e q = absurd (q refl)

pub listed_is_bit : ListedIsBit
listed_is_bit w n i = (listed_to w n i, λ p. listed_from w n i p.0 p.1)

pub listed_ascends : ListedAscends
listed_ascends = ascends

pub count_is_length : CountIsLength
count_is_length = count

pub compared_is_after : ComparedIsAfter
compared_is_after c h o r v =
    record {
      stored = λ w x e.
          ap (λ (k : Change). left_by k (read_of c h (line_down o) r)) e ∙ sym (get_same w x h) ∙ ap (λ (k : Change). get w (apply k h)) (sym e);
      ignored = λ e. ap (λ (k : Change). apply k h) e;
    }

-- ---- other capabilities

-- each of the three is legal where c is
module _ (c : Caps) (h : Hart) (l : Legal c h) where
  vendor : legal_mvendorid c ≡ true
  unfolding legal_caps
  vendor = right (legal_misa c && legal_interrupts c && legal_flags c) (legal_mvendorid c) l.caps

  fits : (misa interrupts flags : ℕ) → Fits misa → Fits interrupts → Fits flags → FitsCaps (otherwise misa interrupts flags c)
  fits misa interrupts flags m i f =
      let g = l.caps_fit in
      record {
        misa = m;
        interrupts = i;
        highest = g.highest;
        flags = f;
        mhartid = g.mhartid;
        mvendorid = g.mvendorid;
        marchid = g.marchid;
        mimpid = g.mimpid;
        mconfigptr = g.mconfigptr;
      }

  is_other : (misa interrupts flags : ℕ) → Fits misa → Fits interrupts → Fits flags → legal_caps (otherwise misa interrupts flags c) ≡ true → Other c (otherwise misa interrupts flags c)
  is_other misa interrupts flags m i f e =
      record {
        legal = e;
        fits = fits misa interrupts flags m i f;
        same = refl;
      }

  widest_other : Other c (words.widest c)
  unfolding legal_caps
  widest_other = is_other _ _ _ (lit< tt) (lit< tt) (lit< tt) vendor

  barest_other : Other c (words.barest c)
  unfolding legal_caps
  barest_other = is_other _ _ _ (lit< tt) (lit< tt) (lit< tt) vendor

  zfinx_other : Other c (words.with_zfinx c)
  unfolding legal_caps
  zfinx_other = is_other _ _ _ (lit< tt) (lit< tt) (lit< tt) vendor

-- ---- why

module _ (c : Caps) (h : Hart) (r : Csr) (v : ℕ) (ok : Accepted c h r v) where
  -- the words that are looked at have 64 bits
  sized : (misa interrupts flags w x : ℕ) → Fits interrupts → Fits w → Fits x → Sized c misa interrupts flags h r v w x
  sized misa interrupts flags w x i j k =
      let f = ok.legal.hart_fits in
      record {
        value = ok.value;
        old = old_fits h r x f k;
        mine = ok.legal.caps_fit.interrupts;
        mideleg = f.words hartWords.Mideleg;
        menvcfg = f.words hartWords.Menvcfg;
        others = i;
        again = j;
      }

  module _ (i : ℕ) (below : i < 64) where
    answer_to : bit i (words.elsewhere c h r v) ≡ true → there.Elsewhere c h r v i
    answer_to =
        of_three_one c 0 0 0 h r v 0 0 (sized 0 0 0 0 0 (lit< tt) (lit< tt) (lit< tt)) ok.found i (there.Elsewhere c h r v i) below
        (λ e o p k. record { caps = e; other = o; present = p; keeps = k })
        (widest_other c h ok.legal) (barest_other c h ok.legal) (zfinx_other c h ok.legal)

    answer_from : there.Elsewhere c h r v i → bit i (words.elsewhere c h r v) ≡ true
    answer_from there =
        let d = (there).caps in
        let o = (there).other in
        let is = o.same in
        let ints = o.fits.interrupts in
        one_answers c d.misa d.interrupts d.flags h r v 0 0 (sized d.misa d.interrupts d.flags 0 0 ints (lit< tt) (lit< tt)) ok.found i below
        (caps_2_aaa d o.legal)
        (subst (λ (e : Caps). is_present e r ≡ true) is (there).present)
        (subst (λ (e : Caps). keeps_bit (stored_of e h r v) v i ≡ true) is (there).keeps)

    -- a reason holds where its word has the bit, both ways
    holds_is : (k : Reason) → (bit i (word_of (words.reasons_of c h r v) k) ≡ true) ↔ Holds c h r v i k
    unfolding words.reasons_of
    holds_is Unstored = (λ e. e, λ e. e)
    holds_is Never = (λ e. e, λ e. e)
    holds_is Elsewhere = (answer_to, answer_from)
    holds_is Reserved = (λ e. e, λ e. e)
    holds_is Forced = (λ e. e, λ e. e)
    holds_is Ignored = (λ e. e, λ e. e)
    holds_is Driven = (λ e. e, λ e. e)

pub three_answer : ThreeAnswer
three_answer c h r v i ok below = (answer_to c h r v ok i below, answer_from c h r v ok i below)

pub lowest_given : LowestGiven
lowest_given c h r v i k ok below =
    let given = given_is (λ m. bit i (word_of (words.reasons_of c h r v) m)) k in
    let holds = holds_is c h r v ok i below in
    (λ e. let p = given.0 e in ((holds k).0 p.0, λ m less q. p.1 m less ((holds m).1 q)), λ p. given.1 ((holds k).1 p.0, λ m less q. p.1 m less ((holds m).0 q)))

-- a bit that neither of two words has
neither : (i a b : ℕ) → bit i a ≡ false → bit i b ≡ false → bit i (bit_or a b) ≡ false
neither i a b p q = bit_bit_or i a b ∙ rw (p, q)

pub every_lost_has_reason : EveryLostHasReason
unfolding lost_of words.reasons_of
every_lost_has_reason c h o r v i ok fo below lost =
    let x = read_of c h (line_down o) r in
    let fx = read_fits c h (line_down o) r ok.legal.caps_fit ok.legal.hart_fits (record { time = fo.time; seed = fo.seed }) in
    let s = sized c h r v ok 0 0 0 0 x (lit< tt) (lit< tt) fx in
    let some = within i _ (any_reason c 0 0 0 h r v 0 x s ok.found) (lost_within c 0 0 0 h r v 0 x s ok.found) lost in
    let why = words.reasons_of c h r v in
    ⊎_elim (λ g. g)
    (λ none.
    let two = neither i why.unstored why.never (none Unstored) (none Never) in
    let three = neither i _ why.elsewhere two (none Elsewhere) in
    let four = neither i _ why.reserved three (none Reserved) in
    let five = neither i _ why.forced four (none Forced) in
    let six = neither i _ why.ignored five (none Ignored) in
    absurd (subst T (sym some ∙ neither i _ why.driven six (none Driven)) tt))
    (given_or_none (λ k. bit i (word_of why k)))

-- ---- what no hart takes from a value

-- mepc and sepc of a legal record are even
even_word : (c : Bool) (v : ℕ) → Fits v → is_aligned c v ≡ true → bit_and v 1 ≡ 0
unfolding is_aligned
even_word c v f e = by_bits_if (holds (aligned shown (flag 0) (var 0)) ∷ []) (var 0 & lit 1) (lit 0) tt (env1 v f (c ∷ [])) (e, tt)

module _ (c : Caps) (h : Hart) (r : Csr) (v x : ℕ) (ok : Accepted c h r v) where
  legal : (w : Word) → legal_word c w (get w h) ≡ true
  legal = ((legal_is_words c h).0 ok.legal.hart).1

  -- the register of an address
  is : (a : ℕ) (s : Csr) → csr_at a ≡ Some s → eqb (address_of r) a ≡ true → r ≡ s
  is a s at e =
      let there : csr_at a ≡ Some r = subst (λ (n : ℕ). csr_at n ≡ Some r) (eqb-true (address_of r) a e) ok.found in
      cc

  even : (eqb (address_of r) 0x341 || eqb (address_of r) 0x141) ≡ true → bit_and (old_of h r x) 1 ≡ 0
  unfolding csr_at stored_of place
  even = go (eqb (address_of r) 0x341) (eqb (address_of r) 0x141) refl refl
    where
      go : (p q : Bool) → eqb (address_of r) 0x341 ≡ p → eqb (address_of r) 0x141 ≡ q → (p || q) ≡ true → bit_and (old_of h r x) 1 ≡ 0
      go true q e f t =
          subst (λ (s : Csr). bit_and (old_of h s x) 1 ≡ 0) (sym (is 0x341 Mepc refl e))
          (even_word (has_c c) h.mepc (ok.legal.hart_fits.words hartWords.Mepc) (((conditions c).mepc h.mepc).0 (legal hartWords.Mepc)))
      go false true e f t =
          let there = is 0x141 Sepc refl f in
          let s : has_s c ≡ true = left (has_s c) _ (subst (λ (s : Csr). is_present c s ≡ true) there ok.present) in
          subst (λ (s : Csr). bit_and (old_of h s x) 1 ≡ 0) (sym there)
          (even_word (has_c c) h.sepc (ok.legal.hart_fits.words hartWords.Sepc) (((conditions c).sepc s h.sepc).0 (legal hartWords.Sepc)))
      go false false e f t = absurd (subst T (sym t) tt)

pub never_taken : NeverTaken
never_taken c h r v w x i ok fw fx t =
    same_within i _ _ (words.never plain (address_of r))
    (never_same c 0 0 0 h r v w x (sized c h r v ok 0 0 0 w x (lit< tt) fw fx) ok.found (caps_2_aaa c ok.legal.caps) (even c h r v x ok)) t
