-- The laws of words in bytes: those of images here, those of single words and runs where they are
-- proved.
use mathlib.Core.Path.{◌≡◌, refl, sym, ap, ap₂, ◌∙◌}
use mathlib.Core.List.{List, [], ◌∷◌, ◌++◌, append_assoc}
use Prim.Native.Nat.{ℕ, zero, suc, ◌+◌, ◌*◌, ◌/◌, ◌^◌, ◌<◌}
use native.Mathlib.Nat.{mod-lt}
use native.Mathlib.Omega.{arith}
use lib.Dec.{lit<}
use lib.ListN.{length, get_or, take, length-append}
use lib.Seq.{drop-append_seam, take_all}
use Rattle.image.specs.Inner.{Bytes}
use Rattle.image.specs.Word.{le, bytes, from, word_at, words_from, image_of}
use Rattle.image.specs.Laws.{ImageWords, WordsImage}
use Rattle.image.proofs.Bytes.{le_bytes, bytes_le, from_part, from_more}
pub use Rattle.image.proofs.Words.{word_fits, word_same, word_other, put_back, run_word, run_changed, run_apart, length_put, length_words, word_zeros, run_zeros}

-- the words of a run of bytes give the bytes
image_run : (s : List ℕ) (at n : ℕ) → Bytes s → image_of (words_from s at n) ≡ from s at (8 * n)
unfolding word_at
image_run s at zero b = refl
image_run s at (suc n) b =
    let e : 8 * suc n ≡ 8 + 8 * n = omega arith in
    ap₂ ◌++◌ (bytes_le s at b) (image_run s (at + 8) n b)
    ∙ rw e (sym (from_more s at 8 (8 * n)))

pub image_words_lem : ImageWords
image_words_lem s n h b = image_run s 0 n b ∙ from_part s 0 (8 * n) (omega arith) ∙ take_all (8 * n) s (omega arith)

-- the words of an image, after any prefix
words_after : (p ws : List ℕ) → ((i : ℕ) → get_or ws i 0 < 2 ^ 64) → words_from (p ++ image_of ws) (length p) (length ws) ≡ ws
unfolding word_at
words_after p [] f = refl
words_after p (v ∷ vs) f =
    let q : List ℕ = bytes 8 v ++ image_of vs in
    let l : length (p ++ q) ≡ length p + length q = length-append p q in
    let w : le (from (p ++ q) (length p) 8) ≡ v =
    ap le (from_part (p ++ q) (length p) 8 (omega arith) ∙ ap (λ (s : List ℕ). take 8 s) (drop-append_seam p q)) ∙ le_bytes v (f 0) in
    let g : length (p ++ bytes 8 v) ≡ length p + 8 = length-append p (bytes 8 v) in
    let r : words_from ((p ++ bytes 8 v) ++ image_of vs) (length (p ++ bytes 8 v)) (length vs) ≡ vs = words_after (p ++ bytes 8 v) vs (λ i. f (suc i)) in
    let r' : words_from (p ++ q) (length p + 8) (length vs) ≡ vs = rw (← g, ← append_assoc p (bytes 8 v) (image_of vs)) r in
    ap (λ (x : ℕ). x ∷ words_from (p ++ q) (length p + 8) (length vs)) w ∙ ap (λ (x : List ℕ). v ∷ x) r'

pub words_image : WordsImage
words_image ws f = words_after [] ws f

-- an image is of bytes, eight to a word
pub length_image : (ws : List ℕ) → length (image_of ws) ≡ 8 * length ws
length_image [] = refl
length_image (v ∷ vs) = omega (arith, length_image vs)

-- the image of two lists of words is their two images
pub image_append : (v w : List ℕ) → image_of (v ++ w) ≡ image_of v ++ image_of w
image_append [] w = refl
image_append (x ∷ v) w = ap (λ (l : List ℕ). bytes 8 x ++ l) (image_append v w) ∙ sym (append_assoc (bytes 8 x) (image_of v) (image_of w))

pub bytes_image : (ws : List ℕ) → Bytes (image_of ws)
bytes_image [] i = lit< tt
bytes_image (v ∷ vs) i = before 8 v (image_of vs) (bytes_image vs) i
  where
    before : (n v : ℕ) (s : List ℕ) → Bytes s → Bytes (bytes n v ++ s)
    before zero v s b i = b i
    before (suc n) v s b zero = mod-lt v (lit< tt)
    before (suc n) v s b (suc i) = before n (v / 256) s b i
