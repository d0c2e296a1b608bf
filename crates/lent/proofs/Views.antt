-- The laws of the two images: what a stored word changes in the record, and that a record and its
-- image say the same.
use mathlib.Core.Path.{◌≡◌, refl, sym, ap, ap₂, ◌∙◌, subst}
use mathlib.Core.Logic.{◌⊎◌, inl, inr}
use mathlib.Core.Bool.{Bool, true, false, cond}
use mathlib.Core.List.{List, [], ◌∷◌, ◌++◌, map}
use Prim.Native.Nat.{ℕ, zero, suc, ◌+◌, ◌-◌, ◌*◌, ◌^◌, ◌≤◌, ◌<◌}
use native.Mathlib.Nat.{zero-add}
use native.Mathlib.Omega.{arith}
use lib.Dec.{eqb, ltb, lit<}
use lib.ListN.{length, get_or, set, take, drop, length-append, get_or-append}
use lib.Seq.{get_or-append-add, take_at, drop_at}
use borrow.Author.Tests.{eqb-true, eqb-false, ltb-true, ltb-false}
use Rattle.bits.specs.Word.{Fits}
use Rattle.bits.proofs.Bools.{left}
use Rattle.hart.specs.Caps.{legal_caps}
use Rattle.image.specs.Inner.{Bytes, zeros, put_at, put_run}
use Rattle.image.specs.Word.{word_at, words_from, image_of}
use Rattle.image.proofs.Words.{run_before}
use Rattle.image.proofs.Laws.{word_same, word_other, run_word, run_apart, run_changed, image_words_lem, words_image, word_zeros, run_zeros}
use Rattle.hart.specs.Words.{words, image_words, place_of, get, hart_of, put, words_of, with_x}
use Rattle.hart.specs.Laws.{FitsHart}
use Rattle.hart.specs.declared.record.Hart.{Hart}
use Rattle.hart.specs.declared.record.Word.{Word}
use Rattle.hart.proofs.Put.{place_from, place_below, get_of, get_put, put_x, get_x, same_words}
use Rattle.lent.specs.Images.{caps_bytes, hart_bytes, caps_at, at_of, hart_at, bytes_of, is_caps}
use Rattle.lent.specs.Inner.{hart_from}

-- legal capabilities have their length
pub caps_sized : (c : List ℕ) → is_caps c ≡ true → length c ≡ caps_bytes
unfolding is_caps
caps_sized c e = eqb-true (length c) caps_bytes (left (eqb (length c) caps_bytes) (legal_caps (caps_at c)) e)

-- what is read of the image's record
pub get_at : (u : Word) (s : List ℕ) → get u (hart_at s) ≡ word_at s (at_of u)
unfolding hart_at
get_at u s = get_of u (words_from s 0 32) (λ w. word_at s (at_of w))

-- two words with other places don't meet
apart : (a b : ℕ) → (a ≡ b → ⊥) → (8 * b + 8 ≤ 8 * a) ⊎ (8 * a + 8 ≤ 8 * b)
apart a b n = go (ltb b a) refl
  where
    go : (t : Bool) → ltb b a ≡ t → (8 * b + 8 ≤ 8 * a) ⊎ (8 * a + 8 ≤ 8 * b)
    go true e = let l : b < a = ltb-true b a e in inl (omega arith)
    go false e = let l : a ≤ b = ltb-false b a e in inr (omega (arith, n))

-- a word stored at its place
pub hart_put : (s : List ℕ) (w : Word) (v : ℕ) → length s ≡ hart_bytes → Fits v → hart_at (put_at s (at_of w) v) ≡ put w v (hart_at s)
unfolding hart_at
hart_put s w v l f =
    let p = place_from w in
    same_words (hart_at (put_at s (at_of w) v)) (put w v (hart_at s)) (run_apart s (at_of w) v 0 32 (inl (omega arith)) ∙ sym (put_x w v (hart_at s)))
    (λ u. get_at u (put_at s (at_of w) v) ∙ go u (eqb (place_of w) (place_of u)) refl ∙ sym (get_put u w v (hart_at s)))
  where
    go : (u : Word) (t : Bool) → eqb (place_of w) (place_of u) ≡ t → word_at (put_at s (at_of w) v) (at_of u) ≡ cond t v (get u (hart_at s))
    go u true e =
        let b = place_below w in
        let q : place_of w ≡ place_of u = eqb-true (place_of w) (place_of u) e in
        ap (λ (n : ℕ). word_at (put_at s (at_of w) v) (8 * n)) (sym q) ∙ word_same s (at_of w) v (omega arith) f
    go u false e = word_other s (at_of w) v (at_of u) (apart (place_of w) (place_of u) (eqb-false (place_of w) (place_of u) e)) ∙ sym (get_at u s)

-- a general register stored at its place
pub hart_set : (s : List ℕ) (n v : ℕ) → length s ≡ hart_bytes → Fits v → n < 32 → hart_at (put_at s (8 * n) v) ≡ with_x (set (hart_at s).x n v) (hart_at s)
unfolding hart_at
hart_set s n v l f q =
    same_words (hart_at (put_at s (8 * n) v)) (with_x (set (hart_at s).x n v) (hart_at s)) (ap (λ (k : ℕ). words_from (put_at s k v) 0 32) (sym (zero-add (8 * n))) ∙ run_changed s 0 32 n v q (omega arith) f)
    (λ u. get_at u (put_at s (8 * n) v) ∙ word_other s (8 * n) v (at_of u) (inr (behind u)) ∙ sym (get_at u s) ∙ sym (get_x u (set (hart_at s).x n v) (hart_at s)))
  where
    behind : (u : Word) → 8 * n + 8 ≤ at_of u
    behind u = let p = place_from u in omega arith

-- a general register where it stands
pub register_at : (s : List ℕ) (n : ℕ) → n < 32 → word_at s (8 * n) ≡ get_or (hart_at s).x n 0
unfolding hart_at
register_at s n q = ap (word_at s) (sym (zero-add (8 * n))) ∙ sym (run_word s 0 32 n q)

-- the image of the record that an image holds
pub bytes_hart : (s : List ℕ) → length s ≡ hart_bytes → Bytes s → bytes_of (hart_at s) ≡ s
unfolding hart_at bytes_of
bytes_hart s l b = image_words_lem s image_words (sym l) b

-- images that hold the same record are the same
pub same_image : (s l : List ℕ) → length s ≡ hart_bytes → Bytes s → length l ≡ hart_bytes → Bytes l → hart_at l ≡ hart_at s → l ≡ s
same_image s l m b n d e = sym (bytes_hart l n d) ∙ ap bytes_of e ∙ bytes_hart s m b

-- the words behind x0 to x31 stored, where the general registers are the record's
pub hart_stored : (s l : List ℕ) (h : Hart) (ws : List ℕ) → (hart_at s).x ≡ h.x → ws ≡ words_of h → l ≡ put_run s 256 ws → words_from l 256 (length ws) ≡ ws → hart_at l ≡ h
unfolding hart_at
hart_stored s l h ws e same stored read =
    ap₂ hart_from (ap (λ (x : List ℕ). words_from x 0 32) stored ∙ run_before ws s 256 0 32 (omega arith) ∙ e) (ap (words_from l 256) (sym (ap length same)) ∙ read ∙ same)

-- zeros hold the record of zeros
pub hart_zeros : hart_at (zeros hart_bytes) ≡ hart_of (zeros 32) (λ w. 0)
unfolding hart_at
hart_zeros = ap₂ hart_of (run_zeros hart_bytes 0 32) (λ i w. word_zeros hart_bytes (at_of w) i)

-- the words of a record have 64 bits, in the image's order too
fits_all : (h : Hart) → FitsHart h → length h.x ≡ 32 → (i : ℕ) → get_or (h.x ++ words_of h) i 0 < 2 ^ 64
fits_all h f r i = go (ltb i 32) refl
  where
    others : (ws : List Word) (j : ℕ) → Fits (get_or (map (λ w. get w h) ws) j 0)
    others [] j = lit< tt
    others (w ∷ ws) zero = f.words w
    others (w ∷ ws) (suc j) = others ws j

    go : (b : Bool) → ltb i 32 ≡ b → get_or (h.x ++ words_of h) i 0 < 2 ^ 64
    go true e =
        let l : i < 32 = ltb-true i 32 e in
        subst Fits (sym (get_or-append h.x (words_of h) 0 i (omega arith))) (f.registers i)
    go false e =
        let l : 32 ≤ i = ltb-false i 32 e in
        let q : length h.x + (i - 32) ≡ i = omega arith in
        subst (λ (k : ℕ). Fits (get_or (h.x ++ words_of h) k 0)) q (subst Fits (sym (get_or-append-add h.x (words_of h) (i - 32) 0)) (others words (i - 32)))

-- the record that the image of a record holds
pub hart_bytes_lem : (h : Hart) → FitsHart h → length h.x ≡ 32 → hart_at (bytes_of h) ≡ h
unfolding hart_at bytes_of
hart_bytes_lem h f r = ap₂ hart_from (registers ∙ take_at h.x (words_of h) 32 r) (others ∙ drop_at h.x (words_of h) 32 r)
  where
    ws : List ℕ
    ws = h.x ++ words_of h

    n : length ws ≡ image_words
    n = length-append h.x (words_of h) ∙ ap (λ (k : ℕ). k + length words) r

    back : words_from (image_of ws) 0 image_words ≡ ws
    back = ap (words_from (image_of ws) 0) (sym n) ∙ words_image ws (fits_all h f r)

    registers : words_from (image_of ws) 0 32 ≡ take 32 ws
    registers = ap (take 32) back

    others : words_from (image_of ws) (8 * 32) (length words) ≡ drop 32 ws
    others = ap (drop 32) back
