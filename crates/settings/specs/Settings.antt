-- The settings file of a board: what stands in it, and what reading and writing one gives for any
-- bytes. Source: docs/RULES.md, "The settings file".
use Rattle.std.specs.Prelude.{ℕ, ◌+◌, Bool, not, cond, ◌&&◌, List, [], ◌∷◌, ◌++◌, eqb, ltb, length, get_or, drop, replicate, Result, Ok, Err}
use Rattle.image.specs.Word.{le, bytes, from, same, words_from}
use Rattle.hart.specs.Answers.{refusal_number}
use Rattle.hart.specs.declared.answer.Refusal.{Refusal}
use Rattle.hart.specs.declared.answer.Refusal.TheVariants.{BadCaps, BadLength, BadMark, UnknownVersion}
use Rattle.hart.specs.declared.answer.Effect.TheVariants.{Nothing}
use Rattle.lent.specs.Images.{caps_words, caps_bytes, is_caps}
use Rattle.lent.specs.Outcome.{outcome_of, refused_by}
use Rattle.lent.specs.declared.outcome.Outcome.{Outcome}
use Rattle.settings.specs.declared.Settings.{Settings}

-- ---- the format

-- 'V', 'H', 'R'
abbrev pub mark : List ℕ
mark = 86 ∷ 72 ∷ 82 ∷ []

-- the version that is written, and the only one that is read
abbrev pub version : ℕ
version = 1

-- the mark, the version in two bytes, and one zero byte
abbrev pub head : List ℕ
head = mark ++ (bytes 2 version ++ (0 ∷ []))

abbrev pub head_bytes : ℕ
head_bytes = 6

abbrev pub file_bytes : ℕ
file_bytes = head_bytes + caps_bytes

-- the file of a capability image
abbrev pub file_of : List ℕ → List ℕ
file_of c = head ++ c

-- ---- what a file says

abbrev pub is_marked : List ℕ → Bool
is_marked f = same (from f 0 3) mark && eqb (get_or f 5 0) 0

abbrev pub version_of : List ℕ → ℕ
version_of f = le (from f 3 2)

-- what stands behind the head
abbrev pub image_in : List ℕ → List ℕ
image_in f = drop head_bytes f

-- ---- the two calls

abbrev pub settings_of : ℕ → List ℕ → Settings
settings_of refusal words = record { refusal = refusal; words = words }

-- refused: every word is 0
abbrev pub not_read : Refusal → Settings
not_read why = settings_of (refusal_number why) (replicate caps_words 0)

-- what is handed back of what was read
abbrev pub given : Result (List ℕ) Refusal → Settings
given (Ok words) = settings_of 0 words
given (Err why) = not_read why

-- reading: a length that has no head, the mark, the version, the length, the image
unfoldable pub settings_read : List ℕ → Settings
settings_read f =
    cond (ltb (length f) head_bytes) (not_read BadLength)
    (cond (not (is_marked f)) (not_read BadMark)
    (cond (not (eqb (version_of f) version)) (not_read UnknownVersion)
    (cond (not (eqb (length f) file_bytes)) (not_read BadLength)
    (cond (not (is_caps (image_in f))) (not_read BadCaps)
    (settings_of 0 (words_from (image_in f) 0 caps_words))))))

-- writing the image c into the buffer f: the outcome, and the bytes of the buffer at exit
unfoldable pub settings_write : List ℕ → List ℕ → Outcome × List ℕ
settings_write c f =
    cond (not (is_caps c)) (refused_by BadCaps f)
    (cond (not (eqb (length f) file_bytes)) (refused_by BadLength f)
    (outcome_of (Ok (0, Nothing)), file_of c))
