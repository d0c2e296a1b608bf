-- The laws of settings files: what is written is read back, and what is accepted was written.
use mathlib.Core.Path.{◌≡◌, sym, ap, ◌∙◌}
use mathlib.Core.Bool.{true}
use mathlib.Core.List.{List}
use Prim.Native.Nat.{ℕ, ◌+◌}
use native.Mathlib.Omega.{arith}
use lib.ListN.{length}
use lib.Seq.{get_or-drop}
use Rattle.image.specs.Word.{words_from, image_of}
use Rattle.image.proofs.Laws.{image_words_lem}
use Rattle.lent.specs.Images.{caps_words, is_caps}
use Rattle.lent.proofs.Views.{caps_sized}
use Rattle.settings.specs.Settings.{head_bytes, file_bytes, file_of, image_in, settings_of, settings_read}
use Rattle.settings.specs.Laws.{WrittenIsRead, Made, AcceptedIsMade, ReadIsWritten}
use Rattle.settings.proofs.File.{written, headed}

-- ---- a file that is accepted

-- what reading it has seen
record Seen (f : List ℕ) : Type 0 where
  sized : length f ≡ file_bytes
  legal : is_caps (image_in f) ≡ true
  words : (settings_read f).words ≡ words_from (image_in f) 0 caps_words
  file : file_of (image_in f) ≡ f

seen : (f : List ℕ) → (settings_read f).refusal ≡ 0 → Seen f
unfolding settings_read
seen f e = record {
  sized = grind arith;
  legal = grind arith;
  words = grind arith;
  file = headed f (grind arith) (grind arith) (grind arith);
}

-- ---- the laws

-- a file of a legal image
read_of : (c : List ℕ) → is_caps c ≡ true → settings_read (file_of c) ≡ settings_of 0 (words_from c 0 caps_words)
unfolding settings_read
read_of c e = rw (caps_sized c e, e)

pub written_is_read : WrittenIsRead
written_is_read c f e l = rw (written c f e l) (read_of c e)

pub accepted_is_made : AcceptedIsMade
accepted_is_made f = (there, back)
  where
    there : (settings_read f).refusal ≡ 0 → Made f
    there e =
        let s = seen f e in
        record { image = image_in f; buffer = f; legal = s.legal; sized = s.sized; made = rw (written (image_in f) f s.legal s.sized) s.file }

    back : Made f → (settings_read f).refusal ≡ 0
    back m = rw (sym m.made, written_is_read m.image m.buffer m.legal m.sized)

pub read_is_written : ReadIsWritten
read_is_written f b e =
    let s = seen f e in
    let same : image_of (settings_read f).words ≡ image_in f =
    ap image_of s.words ∙ image_words_lem (image_in f) caps_words (sym (caps_sized (image_in f) s.legal)) (λ i. rw (get_or-drop head_bytes f i 0) (b (head_bytes + i))) in
    record {
      legal = rw same s.legal;
      made = λ b l. rw (same, written (image_in f) b s.legal l) s.file;
    }
