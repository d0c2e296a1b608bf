-- The list of a word's bits, as a loop over them makes it: entries are put one behind the other,
-- and where the rest of the word is 0 there are no more.
use Prim.Native.Nat.{ℕ, zero, suc, ◌+◌, ◌-◌, ◌/◌, ◌%◌, ◌^◌, ◌≤◌, ◌<◌}
use mathlib.Core.Bool.{Bool, true, false, cond}
use mathlib.Core.List.{List, [], ◌∷◌, ◌++◌, map, map-append, Memᴰ}
use mathlib.Core.Logic.{⊎_elim}
use mathlib.Core.Path.{◌≡◌, refl, sym, ap, ap₂, ◌∙◌, subst}
use native.Mathlib.Decide.{le_ind}
use native.Mathlib.Nat.{mod-lt, mod-eq_of_lt, add_comm, zero-add}
use native.Mathlib.Numerals.{add-one}
use native.Mathlib.Omega.{arith}
use lib.Count.{ones, ones_in, ones_cat}
use lib.Arith.{lt-one}
use lib.Dec.{eqb, T}
use lib.ListN.{length, set, replicate, length-append, length-map}
use lib.Pow.{pow_pos, mod-pow-add}
use borrow.Author.Tests.{eqb-true, eqb-false}
use Rattle.std.specs.Int.{leading_zeros}
use Rattle.std.proofs.lemmas.Nat.{leading_length}
use mir.Syntax.{w64}
use Rattle.bits.specs.Word.{Fits, bit}
use Rattle.bits.proofs.WordBits.{bit_high}
use Rattle.first.specs.Laws.{Each, Ascending}
use Rattle.explain.specs.Lost.{bits_below}
use Rattle.explain.specs.Reason.{reason_at}
use Rattle.explain.specs.Explain.{padded, listed}
use Rattle.explain.specs.declared.reasons.Reasons.{Reasons}

-- ---- entries

put_on : (l : List ℕ) (k x : ℕ) → set (l ++ replicate (suc k) 0) (length l) x ≡ (l ++ (x ∷ [])) ++ replicate k 0
put_on [] k x = refl
put_on (y ∷ l) k x = ap {B = List ℕ} (λ t. y ∷ t) (put_on l k x)

-- one entry more, behind those that there are
pub padded_more : (l : List ℕ) (x : ℕ) → length l < 64 → set (padded l) (length l) x ≡ padded (l ++ (x ∷ []))
padded_more l x h =
    let longer : length (l ++ (x ∷ [])) ≡ length l + 1 = length-append l (x ∷ []) in
    let room : 64 - length l ≡ suc (63 - length l) = omega arith in
    let less : 63 - length l ≡ 64 - length (l ++ (x ∷ [])) = omega arith in
    ap (λ (k : ℕ). set (l ++ replicate k 0) (length l) x) room ∙ put_on l (63 - length l) x ∙ ap (λ (k : ℕ). (l ++ (x ∷ [])) ++ replicate k 0) less

-- ---- the bits of a word

module _ (w : ℕ) where
  -- what is so of the list with the next bit, and without it, is so by that bit
  by_bit : (P : List ℕ → Type 0) (n : ℕ) → (bit n w ≡ true → P (bits_below w n ++ (n ∷ []))) → (bit n w ≡ false → P (bits_below w n)) → P (bits_below w (suc n))
  by_bit P n one none = go (bit n w) refl
    where
      go : (b : Bool) → bit n w ≡ b → P (cond b (bits_below w n ++ (n ∷ [])) (bits_below w n))
      go true e = one e
      go false e = none e

  pub bits_le : (n : ℕ) → length (bits_below w n) ≤ n
  bits_le zero = omega arith
  bits_le (suc n) =
      let le = bits_le n in
      by_bit (λ l. length l ≤ suc n) n (λ e. omega (arith, length-append (bits_below w n) (n ∷ []))) (λ e. omega arith)

  -- the bits below the next place
  pub next : (i : ℕ) (b : Bool) → bit i w ≡ b → bits_below w (i + 1) ≡ cond b (bits_below w i ++ (i ∷ [])) (bits_below w i)
  next i b e = ap (bits_below w) (add-one i) ∙ ap (λ (t : Bool). cond t (bits_below w i ++ (i ∷ [])) (bits_below w i)) e

-- ---- the loop

-- what is so before each turn: the entries are the bits below i, with what f says of each
pub record Turn (w : ℕ) (f : ℕ → ℕ) (bits reasons : List ℕ) (i n : ℕ) : Type 0 where
  pub count : n ≡ length (bits_below w i)
  pub listed : bits ≡ padded (bits_below w i)
  pub said : reasons ≡ padded (map f (bits_below w i))

module _ {w : ℕ} {f : ℕ → ℕ} {bits reasons : List ℕ} {i n : ℕ} (so : Turn w f bits reasons i n) where
  pub room : i < 64 → n < 64
  room h = omega (arith, so.count, bits_le w i)

  -- a bit that is 1 has an entry more
  pub turn_more : (x : ℕ) → x ≡ f i → i < 64 → bit i w ≡ true → Turn w f (set bits n i) (set reasons n x) (i + 1) (n + 1)
  turn_more x e h one =
      let l = bits_below w i in
      let more : bits_below w (i + 1) ≡ l ++ (i ∷ []) = next w i true one in
      let small : length l < 64 = omega (arith, room h, so.count) in
      let small' : length (map f l) < 64 = omega (arith, small, length-map l f) in
      record {
        count = ap (λ (k : ℕ). k + 1) so.count ∙ sym (ap length more ∙ length-append l (i ∷ []));
        listed =
            ap₂ (λ (b : List ℕ) (k : ℕ). set b k i) so.listed so.count ∙ padded_more l i small ∙ sym (ap padded more);
        said =
            ap₂ (λ (b : List ℕ) (k : ℕ). set b k x) so.said (so.count ∙ sym (length-map l f))
            ∙ ap (set (padded (map f l)) (length (map f l))) e
            ∙ padded_more (map f l) (f i) small'
            ∙ sym (ap (λ (m : List ℕ). padded (map f m)) more ∙ ap padded (map-append f l (i ∷ [])));
      }

  -- another has none
  pub turn_same : bit i w ≡ false → Turn w f bits reasons (i + 1) n
  turn_same none =
      let same : bits_below w (i + 1) ≡ bits_below w i = next w i false none in
      record {
        count = so.count ∙ sym (ap length same);
        listed = so.listed ∙ sym (ap padded same);
        said = so.said ∙ sym (ap (λ (m : List ℕ). padded (map f m)) same);
      }

-- ---- the list

-- what is so of each, of a list with one behind it
each_behind : (P : ℕ → Type 0) (l : List ℕ) (n : ℕ) → Each P l → P n → Each P (l ++ (n ∷ []))
each_behind P [] n e p = (p, tt)
each_behind P (x ∷ l) n e p = (e.0, each_behind P l n e.1 p)

each_wider : (l : List ℕ) (n : ℕ) → Each (λ i. i < n) l → Each (λ i. i < suc n) l
each_wider [] n e = tt
each_wider (x ∷ l) n e = (omega (arith, e.0), each_wider l n e.1)

-- a number above all goes behind
ascends_behind : (n : ℕ) (l : List ℕ) → Ascending (λ i. i) l → Each (λ i. i < n) l → Ascending (λ i. i) (l ++ (n ∷ []))
ascends_behind n [] a e = (tt, tt)
ascends_behind n (x ∷ l) a e = (each_behind (λ i. x < i) l n a.0 e.0, ascends_behind n l a.1 e.1)

-- what is in a list is in it with one behind it, and so is that one
mem_before : {i : ℕ} (l : List ℕ) (n : ℕ) → Memᴰ i l → Memᴰ i (l ++ (n ∷ []))
mem_before [] n m = absurd (mathlib.Core.List.Memᴰ.not-nil m)
mem_before (x ∷ l) n m = ⊎_elim mathlib.Core.List.Memᴰ.head (λ k. mathlib.Core.List.Memᴰ.tail (mem_before l n k)) (mathlib.Core.List.Memᴰ.cases_cons m)

mem_behind : {i : ℕ} (l : List ℕ) (n : ℕ) → i ≡ n → Memᴰ i (l ++ (n ∷ []))
mem_behind [] n e = mathlib.Core.List.Memᴰ.head e
mem_behind (x ∷ l) n e = mathlib.Core.List.Memᴰ.tail (mem_behind l n e)

module _ (w : ℕ) where
  -- each bit that is 1 is in it, and no other
  pub listed_to : (n i : ℕ) → Memᴰ i (bits_below w n) → (i < n) × (bit i w ≡ true)
  listed_to zero i m = absurd (mathlib.Core.List.Memᴰ.not-nil m)
  listed_to (suc n) i m =
      let lower : Memᴰ i (bits_below w n) → (i < suc n) × (bit i w ≡ true) = λ k. (omega (arith, (listed_to n i k).0), (listed_to n i k).1) in
      by_bit w (λ l. Memᴰ i l → (i < suc n) × (bit i w ≡ true)) n
      (λ e k. ⊎_elim lower (λ s. let is : i ≡ n = mathlib.Core.List.Memᴰ.eq_of_singleton s in (omega arith, ap (λ (j : ℕ). bit j w) is ∙ e)) (mathlib.Core.List.Memᴰ.append_cases (bits_below w n) k))
      (λ e k. lower k) m

  pub listed_from : (n i : ℕ) → i < n → bit i w ≡ true → Memᴰ i (bits_below w n)
  listed_from zero i h t = absurd (omega arith)
  listed_from (suc n) i h t = here (eqb i n) refl (λ k. listed_from n i k t)
    where
      here : (d : Bool) → eqb i n ≡ d → (i < n → Memᴰ i (bits_below w n)) → Memᴰ i (bits_below w (suc n))
      here true q lower =
          let is : i ≡ n = eqb-true i n q in
          by_bit w (Memᴰ i) n (λ e. mem_behind (bits_below w n) n is) (λ e. absurd (subst T (sym t ∙ ap (λ (j : ℕ). bit j w) is ∙ e) tt))
      here false q lower =
          let apart = eqb-false i n q in
          let m = lower (omega arith) in
          by_bit w (Memᴰ i) n (λ e. mem_before (bits_below w n) n m) (λ e. m)

  all_below : (n : ℕ) → Each (λ i. i < n) (bits_below w n)
  all_below zero = tt
  all_below (suc n) =
      let lower = each_wider (bits_below w n) n (all_below n) in
      by_bit w (Each (λ i. i < suc n)) n (λ e. each_behind (λ i. i < suc n) (bits_below w n) n lower (omega arith)) (λ e. lower)

  pub ascends : (n : ℕ) → Ascending (λ i. i) (bits_below w n)
  ascends zero = tt
  ascends (suc n) =
      let lower = ascends n in
      by_bit w (Ascending (λ i. i)) n (λ e. ascends_behind n (bits_below w n) lower (all_below n)) (λ e. lower)

  -- as many as the ones of the n lowest bits
  counted : (n : ℕ) → ones (w % 2 ^ n) ≡ length (bits_below w n)
  unfolding ones ones_in
  counted zero = ap ones (lt-one (mod-lt w (pow_pos 0)))
  counted (suc n) =
      ap (λ (k : ℕ). ones (w % 2 ^ k)) (sym (add_comm 1 n ∙ add-one n))
      ∙ ap ones (mod-pow-add w 1 n)
      ∙ ones_cat n (w / 2 ^ n % 2 ^ 1) (w % 2 ^ n) (mod-lt w (pow_pos n))
      ∙ digit (w / 2 ^ n % 2) (mod-lt (w / 2 ^ n) (pow_pos 1)) (counted n)
    where
      digit : (b : ℕ) → b < 2 → ones (w % 2 ^ n) ≡ length (bits_below w n) → ones b + ones (w % 2 ^ n) ≡ length (cond (eqb b 1) (bits_below w n ++ (n ∷ [])) (bits_below w n))
      digit zero h rest = zero-add (ones (w % 2 ^ n)) ∙ rest
      digit (suc zero) h rest = omega (arith, length-append (bits_below w n) (n ∷ []))
      digit (suc (suc b)) h rest = absurd (omega arith)

  pub count : Fits w → ones w ≡ length (bits_below w 64)
  count h = ap ones (sym (mod-eq_of_lt h)) ∙ counted 64

-- ---- the listing

-- from the highest bit on there are no more
above : (w i : ℕ) → w < 2 ^ i → i ≤ 64 → bits_below w 64 ≡ bits_below w i
above w i h = le_ind (λ (m : ℕ). bits_below w m ≡ bits_below w i) refl more 64
  where
    more : (m : ℕ) → i ≤ m → bits_below w m ≡ bits_below w i → bits_below w (suc m) ≡ bits_below w i
    more m k f = ap (λ (b : Bool). cond b (bits_below w m ++ (m ∷ [])) (bits_below w m)) (bit_high m i w h k) ∙ f

-- with all bits below the end looked at, it is whole
pub whole : (w : ℕ) (why : Reasons) {bits reasons : List ℕ} {i n : ℕ} → Fits w → Turn w (reason_at why) bits reasons i n → i ≡ 64 - leading_zeros w64 w
    → record { refusal = 0; count = ones w; bits = bits; reasons = reasons } ≡ listed w why
unfolding listed
whole w why {i = i} h so at =
    let top = leading_length 64 w h in
    let is : top.0 ≡ i = omega (arith, top.1) in
    let all : bits_below w i ≡ bits_below w 64 = sym (above w i (subst (λ (k : ℕ). w < 2 ^ k) is top.2) (omega arith)) in
    let b = so.listed ∙ ap padded all in
    let r = so.said ∙ ap (λ (l : List ℕ). padded (map (reason_at why) l)) all in
    rw (b, r)
