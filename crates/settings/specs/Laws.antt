-- What is proved of settings files, over the definitions alone. The proofs are in proofs/Laws.antt.
use Rattle.std.specs.Prelude.{ℕ, true, List, ◌↔◌, ◌≡◌, length}
use Rattle.image.specs.Inner.{Bytes}
use Rattle.image.specs.Word.{words_from, image_of}
use Rattle.lent.specs.Images.{caps_words, is_caps}
use Rattle.settings.specs.Settings.{file_bytes, settings_of, settings_read, settings_write}

-- a file that the writer made of a legal image is read as the words of that image
abbrev pub WrittenIsRead : Type 0
WrittenIsRead =
    (c f : List ℕ) → is_caps c ≡ true → length f ≡ file_bytes
    → settings_read (settings_write c f).1 ≡ settings_of 0 (words_from c 0 caps_words)

-- f is what the writer makes of some legal image, in some buffer
pub record Made (f : List ℕ) : Type 0 where
  pub image : List ℕ
  pub buffer : List ℕ
  pub legal : is_caps image ≡ true
  pub sized : length buffer ≡ file_bytes
  pub made : (settings_write image buffer).1 ≡ f

-- a file is accepted exactly if it is that
abbrev pub AcceptedIsMade : Type 0
AcceptedIsMade = (f : List ℕ) → ((settings_read f).refusal ≡ 0) ↔ Made f

-- the words that are read of f are a legal image, of which the writer makes f, in any buffer
pub record Again (f : List ℕ) : Type 0 where
  pub legal : is_caps (image_of (settings_read f).words) ≡ true
  pub made : (buffer : List ℕ) → length buffer ≡ file_bytes → (settings_write (image_of (settings_read f).words) buffer).1 ≡ f

-- so it is with every file that is accepted
abbrev pub ReadIsWritten : Type 0
ReadIsWritten = (f : List ℕ) → Bytes f → (settings_read f).refusal ≡ 0 → Again f
