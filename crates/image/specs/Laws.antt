-- What is proved of words in bytes, each law for every offset. The proofs are in proofs/Laws.antt.
use Rattle.std.specs.Prelude.{◌≡◌, ◌⊎◌, List, ℕ, ◌+◌, ◌*◌, ◌^◌, ◌≤◌, ◌<◌, length, get_or, set}
use Rattle.image.specs.Inner.{Bytes, put_at}
use Rattle.image.specs.Word.{word_at, words_from, image_of}

-- a word of bytes has 64 bits
abbrev pub WordFits : Type 0
WordFits = (s : List ℕ) (at : ℕ) → Bytes s → word_at s at < 2 ^ 64

-- the word that was stored is read back ..
abbrev pub WordSame : Type 0
WordSame = (s : List ℕ) (at v : ℕ) → at + 8 ≤ length s → v < 2 ^ 64 → word_at (put_at s at v) at ≡ v

-- .. and one that the store does not reach is as it was
abbrev pub WordOther : Type 0
WordOther = (s : List ℕ) (at v i : ℕ) → (i + 8 ≤ at) ⊎ (at + 8 ≤ i) → word_at (put_at s at v) i ≡ word_at s i

-- storing the word that stands there changes nothing
abbrev pub PutBack : Type 0
PutBack = (s : List ℕ) (at : ℕ) → Bytes s → put_at s at (word_at s at) ≡ s

-- a store changes one word of a run that has its place ..
abbrev pub RunChanged : Type 0
RunChanged = (s : List ℕ) (at n i v : ℕ) → i < n → at + 8 * n ≤ length s → v < 2 ^ 64 → words_from (put_at s (at + 8 * i) v) at n ≡ set (words_from s at n) i v

-- .. and none of a run that it does not reach
abbrev pub RunApart : Type 0
RunApart = (s : List ℕ) (at v i n : ℕ) → (i + 8 * n ≤ at) ⊎ (at + 8 ≤ i) → words_from (put_at s at v) i n ≡ words_from s i n

-- the words of bytes give the bytes ..
abbrev pub ImageWords : Type 0
ImageWords = (s : List ℕ) (n : ℕ) → 8 * n ≡ length s → Bytes s → image_of (words_from s 0 n) ≡ s

-- .. and the image of words gives the words
abbrev pub WordsImage : Type 0
WordsImage = (ws : List ℕ) → ((i : ℕ) → get_or ws i 0 < 2 ^ 64) → words_from (image_of ws) 0 (length ws) ≡ ws
