-- What the head of a file says of it; what the code stores is the file of the image; a file whose
-- head is right is that of what stands behind the head; and what reading gives, by its tests.
use mathlib.Core.Path.{◌≡◌, sym, ap, ◌∙◌}
use mathlib.Core.Bool.{Bool, true, cond}
use mathlib.Core.List.{List, ◌++◌}
use Prim.Native.Nat.{ℕ, ◌≤◌}
use native.Mathlib.Omega.{arith}
use lib.ListN.{length, take, take-append-drop}
use lib.Seq.{sets}
use Rattle.std.proofs.lemmas.List.{get_or-take}
use borrow.Author.Tests.{eq-eqb}
use Rattle.std.specs.Prelude.{Ok}
use Rattle.image.specs.Word.{from, words_from}
use Rattle.image.proofs.Bytes.{from_part, sets_all}
use Rattle.hart.specs.declared.answer.Refusal.TheVariants.{BadCaps, BadLength, BadMark, UnknownVersion}
use Rattle.hart.specs.declared.answer.Effect.TheVariants.{Nothing}
use Rattle.lent.specs.Images.{caps_words, is_caps}
use Rattle.lent.specs.Outcome.{outcome_of}
use Rattle.lent.proofs.Views.{caps_sized}
use Rattle.settings.specs.Settings.{version, head, head_bytes, file_bytes, file_of, is_marked, version_of, image_in, settings_of, not_read, settings_write}
use Rattle.settings.specs.declared.Settings.{Settings}

-- what is read of the head, cut off
pub marked_head : (f : List ℕ) → is_marked (take head_bytes f) ≡ is_marked f
marked_head f = grind (arith, get_or-take {A = ℕ})

pub version_head : (f : List ℕ) → version_of (take head_bytes f) ≡ version_of f
version_head f = grind (arith, get_or-take {A = ℕ})

-- head and image stored one after the other
pub stored : (c f : List ℕ) → is_caps c ≡ true → length f ≡ file_bytes → sets (sets f 0 head) head_bytes c ≡ file_of c
stored c f e l = sets_all (file_of c) f (omega (arith, caps_sized c e))

-- a write that is done
pub written : (c f : List ℕ) → is_caps c ≡ true → length f ≡ file_bytes → settings_write c f ≡ (outcome_of (Ok (0, Nothing)), file_of c)
unfolding settings_write
written c f e l = rw (e, eq-eqb (length f) file_bytes l)

-- a head that is right
pub headed : (f : List ℕ) → head_bytes ≤ length f → is_marked f ≡ true → version_of f ≡ version → file_of (image_in f) ≡ f
headed f l m e =
    let right : from f 0 head_bytes ≡ head = grind arith in
    ap (λ (h : List ℕ). h ++ image_in f) (sym right ∙ from_part f 0 head_bytes l) ∙ take-append-drop head_bytes f

-- what reading f gives, by its five tests
abbrev pub read_by : List ℕ → Bool → Bool → Bool → Bool → Bool → Settings
read_by f s m v l i =
    cond s (not_read BadLength)
    (cond m (not_read BadMark)
    (cond v (not_read UnknownVersion)
    (cond l (not_read BadLength)
    (cond i (not_read BadCaps)
    (settings_of 0 (words_from (image_in f) 0 caps_words))))))
