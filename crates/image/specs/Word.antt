-- Bytes in a list, and the little-endian 64-bit words that they are: one, a run of them, and an
-- image that is nothing else. Source: docs/RULES.md, "Images".
use Rattle.std.specs.Prelude.{ℕ, zero, suc, ◌+◌, ◌*◌, ◌/◌, ◌%◌, Bool, true, false, ◌&&◌, List, [], ◌∷◌, ◌++◌, eqb, get_or}

-- the number whose bytes, the lowest first, are the list's
abbrev pub le : List ℕ → ℕ
le [] = 0
le (b ∷ bs) = b + 256 * le bs

-- the n lowest bytes of a number, the lowest first
abbrev pub bytes : ℕ → ℕ → List ℕ
bytes zero v = []
bytes (suc n) v = v % 256 ∷ bytes n (v / 256)

-- the n bytes of s from `at` on
abbrev pub from : List ℕ → ℕ → ℕ → List ℕ
from s at zero = []
from s at (suc n) = get_or s at 0 ∷ from s (suc at) n

-- whether two lists hold the same bytes
abbrev pub same : List ℕ → List ℕ → Bool
same [] [] = true
same [] (y ∷ ys) = false
same (x ∷ xs) [] = false
same (x ∷ xs) (y ∷ ys) = eqb x y && same xs ys

-- the word whose lowest byte stands at `at`
unfoldable pub word_at : List ℕ → ℕ → ℕ
word_at s at = le (from s at 8)

-- the n words of s from `at` on
abbrev pub words_from : List ℕ → ℕ → ℕ → List ℕ
words_from s at zero = []
words_from s at (suc n) = word_at s at ∷ words_from s (at + 8) n

-- the bytes of a list of words: an image
abbrev pub image_of : List ℕ → List ℕ
image_of [] = []
image_of (v ∷ vs) = bytes 8 v ++ image_of vs
