-- What the code stores, and which lists are bytes: notions of the inner contracts and of the laws.
use Rattle.std.specs.Prelude.{ℕ, ◌+◌, ◌<◌, List, [], ◌∷◌, get_or, replicate}
use Rattle.std.proofs.lemmas.List.Edits.{sets}
use Rattle.image.specs.Word.{bytes}

-- each element is a byte
abbrev pub Bytes : List ℕ → Type 0
Bytes s = (i : ℕ) → get_or s i 0 < 256

-- n zeros
abbrev pub zeros : ℕ → List ℕ
zeros n = replicate n 0

-- s with the word v at `at`
unfoldable pub put_at : List ℕ → ℕ → ℕ → List ℕ
put_at s at v = sets s at (bytes 8 v)

-- s with these words from `at` on
abbrev pub put_run : List ℕ → ℕ → List ℕ → List ℕ
put_run s at [] = s
put_run s at (v ∷ vs) = put_run (put_at s at v) (at + 8) vs
