-- The bits that the code counts for a reason are as many as the listing has entries with it.
use Prim.Native.Nat.{ℕ, zero, suc, ◌+◌, ◌-◌, ◌<◌, ◌^◌}
use mathlib.Core.Bool.{Bool, true, false, cond, not, ◌&&◌}
use mathlib.Core.List.{List, [], ◌∷◌, ◌++◌, map, map-append}
use mathlib.Core.Path.{◌≡◌, refl, sym, ap, ap₂, ◌∙◌}
use native.Mathlib.Nat.{add-zero, lt_of_le_of_lt}
use native.Mathlib.Omega.{arith}
use mir.Val.{bool_byte}
use lib.Bits.{bit_and, and_le_r}
use lib.Count.{ones}
use lib.Dec.{eqb}
use lib.ListN.{length, length-append, replicate}
use borrow.Author.Tests.{eqb-true, eqb-false}
use Rattle.std.proofs.lemmas.Nat.{zero_from_ones}
use Rattle.bits.specs.Word.{Fits, bit}
use Rattle.bits.proofs.WordBits.{bit_bit_and, bit_not}
use Rattle.first.specs.Laws.{Each}
use Rattle.explain.specs.Lost.{bits_below}
use Rattle.explain.specs.Explain.{padded, listed}
use Rattle.explain.specs.Reason.{reason_number, reason_at, reasons, word_of}
use Rattle.explain.specs.declared.reasons.Reason.{Reason}
use Rattle.explain.specs.declared.reasons.Reason.TheVariants.{Unstored, Never, Elsewhere, Reserved, Forced, Ignored, Driven}
use Rattle.explain.specs.declared.reasons.Reasons.{Reasons}
use Rattle.explain.proofs.Given.{each_reason}
use Rattle.explain.proofs.Laws.{count_is_length}
use Rattle.tally.specs.Totals.{Counter, For, Writes, Lossless, totals, times, adds}
use Rattle.tally.proofs.Sums.{total_of_lem, same_totals}

-- ---- entries of a listing

times_append : (n : ℕ) (l m : List ℕ) → times n (l ++ m) ≡ times n l + times n m
times_append n [] m = omega arith
times_append n (x ∷ l) m = let rest = times_append n l m in omega arith

none_of_zeros : (n k : ℕ) → eqb 0 n ≡ false → times n (replicate k 0) ≡ 0
none_of_zeros n zero e = refl
none_of_zeros n (suc k) e = ap₂ (λ (b : Bool) (m : ℕ). cond b 1 0 + m) e (none_of_zeros n k e)

pub times_padded : (n : ℕ) → eqb 0 n ≡ false → (l : List ℕ) → times n (padded l) ≡ times n l
times_padded n e l = times_append n l (replicate (64 - length l) 0) ∙ ap (λ (m : ℕ). times n l + m) (none_of_zeros n (64 - length l) e) ∙ add-zero (times n l)

module _ (w : ℕ) (f : ℕ → ℕ) (n u : ℕ) where
  -- u has the bits of w of which f says n
  entries : (m : ℕ) → ((i : ℕ) → i < m → bit i u ≡ (bit i w && eqb (f i) n)) → times n (map f (bits_below w m)) ≡ length (bits_below u m)
  entries zero h = refl
  entries (suc m) h = go (bit m w) (eqb (f m) n) refl (h m (omega arith)) (entries m (λ i lt. h i (omega arith)))
    where
      more : (e : Bool) → eqb (f m) n ≡ e → times n (map f (bits_below w m)) ≡ length (bits_below u m)
          → times n (map f (bits_below w m ++ (m ∷ []))) ≡ length (cond e (bits_below u m ++ (m ∷ [])) (bits_below u m))
      more e is so =
          ap (times n) (map-append f (bits_below w m) (m ∷ []))
          ∙ times_append n (map f (bits_below w m)) (f m ∷ [])
          ∙ ap₂ (λ (x : ℕ) (b : Bool). x + (cond b 1 0 + 0)) so is
          ∙ one e
        where
          one : (b : Bool) → length (bits_below u m) + (cond b 1 0 + 0) ≡ length (cond b (bits_below u m ++ (m ∷ [])) (bits_below u m))
          one true = omega (arith, length-append (bits_below u m) (m ∷ []))
          one false = omega arith

      go : (b e : Bool) → eqb (f m) n ≡ e → bit m u ≡ (b && e) → times n (map f (bits_below w m)) ≡ length (bits_below u m)
          → times n (map f (cond b (bits_below w m ++ (m ∷ [])) (bits_below w m))) ≡ length (cond (bit m u) (bits_below u m ++ (m ∷ [])) (bits_below u m))
      go true e is it so = more e is so ∙ ap (λ (b : Bool). length (cond b (bits_below u m ++ (m ∷ [])) (bits_below u m))) (sym it)
      go false e is it so = so ∙ ap (λ (b : Bool). length (cond b (bits_below u m ++ (m ∷ [])) (bits_below u m))) (sym it)

pub no_reason_is_zero : (k : Reason) → eqb 0 (reason_number k) ≡ false
no_reason_is_zero Unstored = refl
no_reason_is_zero Never = refl
no_reason_is_zero Elsewhere = refl
no_reason_is_zero Reserved = refl
no_reason_is_zero Forced = refl
no_reason_is_zero Ignored = refl
no_reason_is_zero Driven = refl

-- a word that has the lost bits of a reason
counted : (w : ℕ) (why : Reasons) (k : Reason) (u : ℕ) → Fits u → ((i : ℕ) → i < 64 → bit i u ≡ (bit i w && eqb (reason_at why i) (reason_number k)))
    → ones u ≡ times (reason_number k) (listed w why).reasons
unfolding listed
counted w why k u fits h =
    count_is_length u fits
    ∙ sym (entries w (reason_at why) (reason_number k) u 64 h)
    ∙ sym (times_padded (reason_number k) (no_reason_is_zero k) (map (reason_at why) (bits_below w 64)))

-- ---- the first reason that holds

-- whether the code counts a bit for a reason: by whether it is lost, and whether each reason holds
abbrev counts : (l a b c d e f g : Bool) → Reason → Bool
counts l a b c d e f g Unstored = l && a
counts l a b c d e f g Never = (l && not a) && b
counts l a b c d e f g Elsewhere = ((l && not a) && not b) && c
counts l a b c d e f g Reserved = (((l && not a) && not b) && not c) && d
counts l a b c d e f g Forced = ((((l && not a) && not b) && not c) && not d) && e
counts l a b c d e f g Ignored = (((((l && not a) && not b) && not c) && not d) && not e) && f
counts l a b c d e f g Driven = ((((((l && not a) && not b) && not c) && not d) && not e) && not f) && g

-- the reasons that come before it
abbrev below : Reason → List Reason
below Unstored = []
below Never = Unstored ∷ []
below Elsewhere = Unstored ∷ Never ∷ []
below Reserved = Unstored ∷ Never ∷ Elsewhere ∷ []
below Forced = Unstored ∷ Never ∷ Elsewhere ∷ Reserved ∷ []
below Ignored = Unstored ∷ Never ∷ Elsewhere ∷ Reserved ∷ Forced ∷ []
below Driven = Unstored ∷ Never ∷ Elsewhere ∷ Reserved ∷ Forced ∷ Ignored ∷ []

abbrev given : (a b c d e f g : Bool) → ℕ
given a b c d e f g = cond a 1 (cond b 2 (cond c 3 (cond d 4 (cond e 5 (cond f 6 (cond g 7 0))))))

-- that is the reason which is given
first_counts : (l a b c d e f g : Bool) → Each (λ k. counts l a b c d e f g k ≡ (l && eqb (given a b c d e f g) (reason_number k))) reasons
first_counts false a b c d e f g = (refl, (refl, (refl, (refl, (refl, (refl, (refl, tt)))))))
first_counts true true b c d e f g = (refl, (refl, (refl, (refl, (refl, (refl, (refl, tt)))))))
first_counts true false true c d e f g = (refl, (refl, (refl, (refl, (refl, (refl, (refl, tt)))))))
first_counts true false false true d e f g = (refl, (refl, (refl, (refl, (refl, (refl, (refl, tt)))))))
first_counts true false false false true e f g = (refl, (refl, (refl, (refl, (refl, (refl, (refl, tt)))))))
first_counts true false false false false true f g = (refl, (refl, (refl, (refl, (refl, (refl, (refl, tt)))))))
first_counts true false false false false false true g = (refl, (refl, (refl, (refl, (refl, (refl, (refl, tt)))))))
first_counts true false false false false false false true = (refl, (refl, (refl, (refl, (refl, (refl, (refl, tt)))))))
first_counts true false false false false false false false = (refl, (refl, (refl, (refl, (refl, (refl, (refl, tt)))))))

-- ---- the words that the code counts

byte : (b : Bool) → bool_byte b ≡ cond b 1 0
byte true = refl
byte false = refl

-- a word without ones is 0
no_bits : (w : ℕ) → eqb w 0 ≡ eqb (ones w) 0
unfolding ones
no_bits w = go (eqb w 0) (eqb (ones w) 0) refl refl
  where
    go : (p q : Bool) → eqb w 0 ≡ p → eqb (ones w) 0 ≡ q → p ≡ q
    go true true e f = refl
    go false false e f = refl
    go true false e f = absurd (eqb-false (ones w) 0 f (ap ones (eqb-true w 0 e)))
    go false true e f = absurd (eqb-false w 0 e (zero_from_ones w (eqb-true (ones w) 0 f)))

module _ (w : ℕ) (why : Reasons) (all_fit : Each (λ k. Fits (word_of why k)) reasons) where
  fits : (k : Reason) → Fits (word_of why k)
  fits = each_reason (λ k. Fits (word_of why k)) all_fit

  -- the bits of a word for which none of some reasons holds
  abbrev rest : ℕ → List Reason → ℕ
  rest r [] = r
  rest r (k ∷ ks) = rest (bit_and r ((2 ^ 64 - 1) - word_of why k)) ks

  abbrev rest_bit : ℕ → Bool → List Reason → Bool
  rest_bit i b [] = b
  rest_bit i b (k ∷ ks) = rest_bit i (b && not (bit i (word_of why k))) ks

  rest_bit_lem : (i : ℕ) → i < 64 → (r : ℕ) (ks : List Reason) (b : Bool) → bit i r ≡ b → bit i (rest r ks) ≡ rest_bit i b ks
  rest_bit_lem i lt r [] b e = e
  rest_bit_lem i lt r (k ∷ ks) b e =
      rest_bit_lem i lt (bit_and r ((2 ^ 64 - 1) - word_of why k)) ks (b && not (bit i (word_of why k)))
      (bit_bit_and i r ((2 ^ 64 - 1) - word_of why k) ∙ ap₂ (λ (p q : Bool). p && q) e (bit_not i (word_of why k) (fits k) lt))

  -- for a reason, behind the lower ones
  one : (lower : List Reason) (k : Reason)
      → ((i : ℕ) → (rest_bit i (bit i w) lower && bit i (word_of why k)) ≡ (bit i w && eqb (reason_at why i) (reason_number k)))
      → ones (bit_and (rest w lower) (word_of why k)) ≡ times (reason_number k) (listed w why).reasons
  one lower k so =
      counted w why k (bit_and (rest w lower) (word_of why k))
      (lt_of_le_of_lt (and_le_r (rest w lower) (word_of why k)) (fits k))
      (λ i lt. bit_bit_and i (rest w lower) (word_of why k) ∙ ap (λ (b : Bool). b && bit i (word_of why k)) (rest_bit_lem i lt w lower (bit i w) refl) ∙ so i)

  -- at each bit, of the first that holds
  at_bit : (i : ℕ) (k : Reason) → (rest_bit i (bit i w) (below k) && bit i (word_of why k)) ≡ (bit i w && eqb (reason_at why i) (reason_number k))
  at_bit i =
      each_reason (λ k. (rest_bit i (bit i w) (below k) && bit i (word_of why k)) ≡ (bit i w && eqb (reason_at why i) (reason_number k)))
      (first_counts (bit i w) (bit i why.unstored) (bit i why.never) (bit i why.elsewhere) (bit i why.reserved) (bit i why.forced) (bit i why.ignored) (bit i why.driven))

  count_of : (listed w why).count ≡ ones w
  unfolding listed
  count_of = refl

  -- what the code gives
  abbrev pub words : Counter → ℕ
  words (For k) = ones (bit_and (rest w (below k)) (word_of why k))
  words Writes = 1
  words Lossless = bool_byte (eqb w 0)

  all_words : (k : Counter) → words k ≡ adds (listed w why) k
  all_words (For k) = one (below k) k (λ i. at_bit i k)
  all_words Writes = refl
  all_words Lossless = byte (eqb w 0) ∙ ap (λ (b : Bool). cond b 1 0) (no_bits w) ∙ ap (λ (n : ℕ). cond (eqb n 0) 1 0) (sym count_of)

  pub all_counted : totals words ≡ totals (adds (listed w why))
  all_counted = same_totals (totals words) (totals (adds (listed w why))) (λ k. total_of_lem words k ∙ all_words k ∙ sym (total_of_lem (adds (listed w why)) k))
