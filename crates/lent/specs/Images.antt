-- The two images: the capabilities and the record that bytes hold, and the bytes that hold a
-- record. Source: docs/RULES.md, "Images", and refusals 1 and 2.
use Rattle.std.specs.Prelude.{ℕ, ◌*◌, Bool, ◌&&◌, List, ◌++◌, eqb, length}
use Rattle.image.specs.Word.{word_at, words_from, image_of}
use Rattle.hart.specs.Words.{place_of, image_words, hart_of, words_of}
use Rattle.hart.specs.Caps.{legal_caps}
use Rattle.hart.specs.Legal.{legal_hart}
use Rattle.hart.specs.declared.caps.Caps.{Caps}
use Rattle.hart.specs.declared.record.Hart.{Hart}
use Rattle.hart.specs.declared.record.Word.{Word}

-- how many words the capability image has
abbrev pub caps_words : ℕ
caps_words = 9

abbrev pub caps_bytes : ℕ
caps_bytes = 8 * caps_words

-- x0 to x31, and the words after them
abbrev pub hart_bytes : ℕ
hart_bytes = 8 * image_words

-- the capabilities that an image holds
abbrev pub caps_at : List ℕ → Caps
caps_at s = record {
  misa = word_at s 0;
  interrupts = word_at s 8;
  highest = word_at s 16;
  flags = word_at s 24;
  mhartid = word_at s 32;
  mvendorid = word_at s 40;
  marchid = word_at s 48;
  mimpid = word_at s 56;
  mconfigptr = word_at s 64;
}

-- where a word of the record stands in its image
abbrev pub at_of : Word → ℕ
at_of w = 8 * place_of w

-- the record that an image holds: x0 to x31, and each word at its place
unfoldable pub hart_at : List ℕ → Hart
hart_at s = hart_of (words_from s 0 32) (λ w. word_at s (at_of w))

-- the image that holds a record
unfoldable pub bytes_of : Hart → List ℕ
bytes_of h = image_of (h.x ++ words_of h)

-- false where refusal 1 applies
unfoldable pub is_caps : List ℕ → Bool
is_caps s = eqb (length s) caps_bytes && legal_caps (caps_at s)

-- false where refusal 2 applies
unfoldable pub is_hart : Caps → List ℕ → Bool
is_hart c s = eqb (length s) hart_bytes && legal_hart c (hart_at s)
