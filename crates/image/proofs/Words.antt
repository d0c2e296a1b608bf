-- Words and runs of words in bytes, as the code reads and stores them, each fact for every offset.
use mathlib.Core.Path.{◌≡◌, refl, sym, ap, ap₂, ◌∙◌}
use mathlib.Core.Logic.{inl, inr, ⊎_elim}
use mathlib.Core.List.{List, [], ◌∷◌, ◌++◌}
use Prim.Native.Nat.{ℕ, zero, suc, ◌+◌, ◌*◌, ◌^◌, ◌≤◌, ◌<◌}
use native.Mathlib.Numerals.{add-one}
use native.Mathlib.Omega.{arith}
use lib.ListN.{length, get_or, set, take, drop}
use lib.Seq.{take-suc-set, take_all, sets, length-sets}
use mir.Syntax.{w64}
use Rattle.std.specs.Int.{from_le_bytes}
use Rattle.image.specs.Inner.{zeros, put_at, put_run}
use Rattle.image.specs.Word.{le, bytes, from, word_at, words_from, image_of}
use Rattle.image.specs.Laws.{WordFits, WordSame, WordOther, PutBack, RunChanged, RunApart}
use Rattle.image.proofs.Bytes.{le_of, le_bytes, bytes_le, length_from, length_bytes, from_part, from_front, from_behind, sets_append, sets_from, from_sets_other, from_sets_same}

-- ---- words

-- eight bytes of s, as a list of their own, are the word there
pub word_part : (s : List ℕ) (at n : ℕ) → at + 8 ≤ length s → n ≡ 8 → word_at (take n (drop at s)) 0 ≡ word_at s at
unfolding word_at
word_part s at n h k =
    let p : List ℕ = take n (drop at s) in
    let e : p ≡ take 8 (drop at s) = ap (λ (m : ℕ). take m (drop at s)) k in
    let q : from s at 8 ≡ p = from_part s at 8 h ∙ sym e in
    let l : length p ≡ 8 = ap length (sym q) ∙ length_from s at 8 in
    ap le (from_part p 0 8 (omega arith) ∙ take_all 8 p (omega arith) ∙ sym q)

-- the library's word for the word at the start
pub word_of : (bs : List ℕ) → from_le_bytes w64 bs ≡ word_at bs 0
unfolding word_at
word_of = le_of

-- a word in the first of two lists ..
pub word_front : (l m : List ℕ) (at : ℕ) → at + 8 ≤ length l → word_at (l ++ m) at ≡ word_at l at
unfolding word_at
word_front l m at h = ap le (from_front l m at 8 h)

-- .. and in the second
pub word_behind : (l m : List ℕ) (at : ℕ) → word_at (l ++ m) (length l + at) ≡ word_at m at
unfolding word_at
word_behind l m at = ap le (from_behind l m at 8)

pub word_fits : WordFits
unfolding word_at
word_fits s at b = omega arith

pub length_put : (s : List ℕ) (at v : ℕ) → length (put_at s at v) ≡ length s
unfolding put_at
length_put s at v = length-sets s at (bytes 8 v)

pub word_same : WordSame
unfolding word_at put_at
word_same s at v h f = ap le (from_sets_same (bytes 8 v) s at h) ∙ le_bytes v f

pub word_other : WordOther
unfolding word_at put_at
word_other s at v i h = ap le (from_sets_other (bytes 8 v) s at i 8 h)

pub put_back : PutBack
unfolding word_at put_at
put_back s at b = ap (λ (l : List ℕ). sets s at l) (bytes_le s at b) ∙ sets_from s at 8

-- ---- runs of words

pub length_words : (s : List ℕ) (at n : ℕ) → length (words_from s at n) ≡ n
length_words s at zero = refl
length_words s at (suc n) = ap suc (length_words s (at + 8) n)

-- one word more, at the end
pub words_more : (s : List ℕ) (at n : ℕ) → words_from s at (suc n) ≡ words_from s at n ++ (word_at s (at + 8 * n) ∷ [])
words_more s at zero =
    let e : at + 8 * 0 ≡ at = omega arith in
    rw e
words_more s at (suc n) =
    let e : at + 8 * suc n ≡ at + 8 + 8 * n = omega arith in
    rw e (ap (λ (l : List ℕ). word_at s at ∷ l) (words_more s (at + 8) n))

-- a turn of the loop that reads words
pub load_turn : (s : List ℕ) (at : ℕ) (out : List ℕ) (i : ℕ) → i < length out → take i out ≡ words_from s at i
    → take (i + 1) (set out i (word_at s (at + 8 * i))) ≡ words_from s at (i + 1)
load_turn s at out i h e = rw (add-one i, take-suc-set out i, words_more s at i, e)

-- the word i of a run
pub run_word : (s : List ℕ) (at n i : ℕ) → i < n → get_or (words_from s at n) i 0 ≡ word_at s (at + 8 * i)
run_word s at zero i h = absurd (omega arith)
run_word s at (suc n) zero h =
    let e : at + 8 * 0 ≡ at = omega arith in
    ap (word_at s) (sym e)
run_word s at (suc n) (suc i) h =
    let e : at + 8 * suc i ≡ at + 8 + 8 * i = omega arith in
    run_word s (at + 8) n i (omega arith) ∙ ap (word_at s) (sym e)

pub run_apart : RunApart
run_apart s at v i zero h = refl
run_apart s at v i (suc n) h =
    let e : word_at (put_at s at v) i ≡ word_at s i = word_other s at v i (⊎_elim (λ w. inl (omega arith)) (λ w. inr (omega arith)) h) in
    let r : words_from (put_at s at v) (i + 8) n ≡ words_from s (i + 8) n = run_apart s at v (i + 8) n (⊎_elim (λ w. inl (omega arith)) (λ w. inr (omega arith)) h) in
    rw (e, r)

pub run_changed : RunChanged
run_changed s at zero i v h l f = absurd (omega arith)
run_changed s at (suc n) zero v h l f =
    let e : at + 8 * 0 ≡ at = omega arith in
    ap (λ (k : ℕ). words_from (put_at s k v) at (suc n)) e ∙ rw (word_same s at v (omega arith) f, run_apart s at v (at + 8) n (inr (omega arith)))
run_changed s at (suc n) (suc i) v h l f =
    let e : at + 8 * suc i ≡ at + 8 + 8 * i = omega arith in
    ap (λ (k : ℕ). words_from (put_at s k v) at (suc n)) e
    ∙ ap₂ ◌∷◌ (word_other s (at + 8 + 8 * i) v at (inl (omega arith))) (run_changed s (at + 8) n i v (omega arith) (omega arith) f)

-- ---- a run of words that is stored

-- what stands before a stored run is as it was ..
pub run_before : (ws s : List ℕ) (at i n : ℕ) → i + 8 * n ≤ at → words_from (put_run s at ws) i n ≡ words_from s i n
run_before [] s at i n h = refl
run_before (v ∷ vs) s at i n h = run_before vs (put_at s at v) (at + 8) i n (omega arith) ∙ run_apart s at v i n (inl h)

-- .. and the words of the run stand there
pub run_stored : (ws s : List ℕ) (at : ℕ) → at + 8 * length ws ≤ length s → ((k : ℕ) → get_or ws k 0 < 2 ^ 64) → words_from (put_run s at ws) at (length ws) ≡ ws
run_stored [] s at h f = refl
run_stored (v ∷ vs) s at h f =
    let l : length (put_at s at v) ≡ length s = length_put s at v in
    let one : words_from (put_run (put_at s at v) (at + 8) vs) at 1 ≡ words_from (put_at s at v) at 1 = run_before vs (put_at s at v) (at + 8) at 1 (omega arith) in
    ap₂ (λ (x : ℕ) (xs : List ℕ). x ∷ xs) (ap (λ (xs : List ℕ). get_or xs 0 0) one ∙ word_same s at v (omega arith) (f 0))
    (run_stored vs (put_at s at v) (at + 8) (omega arith) (λ k. f (suc k)))

-- ---- zeros

-- zeros hold the word 0, wherever it stands
pub word_zeros : (n at : ℕ) → word_at (zeros n) at ≡ 0
unfolding word_at
word_zeros n at = le_zeros 8 at
  where
    get_d_zeros : (m i : ℕ) → get_or (zeros m) i 0 ≡ 0
    get_d_zeros zero i = refl
    get_d_zeros (suc m) zero = refl
    get_d_zeros (suc m) (suc i) = get_d_zeros m i

    le_zeros : (k i : ℕ) → le (from (zeros n) i k) ≡ 0
    le_zeros zero i = refl
    le_zeros (suc k) i = rw (get_d_zeros n i, le_zeros k (suc i))

-- and so the words of a run
pub run_zeros : (n at k : ℕ) → words_from (zeros n) at k ≡ zeros k
run_zeros n at zero = refl
run_zeros n at (suc k) = rw (word_zeros n at, run_zeros n (at + 8) k)

-- words stored one behind the other are their image, stored
pub run_image : (ws l : List ℕ) (at : ℕ) → put_run l at ws ≡ sets l at (image_of ws)
unfolding put_at
run_image [] l at = refl
run_image (v ∷ vs) l at =
    run_image vs (sets l at (bytes 8 v)) (at + 8) ∙ ap (λ (k : ℕ). sets (sets l at (bytes 8 v)) (at + k) (image_of vs)) (sym (length_bytes 8 v)) ∙ sets_append (bytes 8 v) (image_of vs) l at
