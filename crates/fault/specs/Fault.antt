-- What a check gives: the lowest word of an image whose condition isn't met. Source: docs/RULES.md,
-- "Checks".
use Rattle.std.specs.Prelude.{ℕ, Bool, not, cond, List, [], ◌∷◌, map, eqb, length, get_or}
use Rattle.first.specs.First.{first_of}
use Rattle.hart.specs.Words.{words, place_of, get, image_words}
use Rattle.hart.specs.Caps.{legal_misa, legal_interrupts, legal_flags, legal_mvendorid}
use Rattle.hart.specs.Legal.{x0_zero, legal_word}
use Rattle.hart.specs.Answers.{refusal_number}
use Rattle.hart.specs.declared.answer.Refusal.{Refusal}
use Rattle.hart.specs.declared.answer.Refusal.TheVariants.{BadCaps, BadHart}
use Rattle.hart.specs.declared.caps.Caps.{Caps}
use Rattle.hart.specs.declared.record.Hart.{Hart}
use Rattle.hart.specs.declared.record.Word.{Word}
use Rattle.lent.specs.Images.{caps_bytes, caps_words, hart_bytes, caps_at, hart_at, is_caps}
use Rattle.fault.specs.declared.fault.Fault.{Fault}

-- a word of an image: its number, what it holds, and whether its condition is met
pub record Tested : Type 0 where
  pub word : ℕ
  pub value : ℕ
  pub legal : Bool

abbrev tested : ℕ → ℕ → Bool → Tested
tested word value legal = record { word = word; value = value; legal = legal }

abbrev pub fault_of : ℕ → ℕ → ℕ → Fault
fault_of refusal word value = record { refusal = refusal; word = word; value = value }

abbrev pub no_fault : Fault
no_fault = fault_of 0 0 0

abbrev pub fault_at : Refusal → Tested → Fault
fault_at why t = fault_of (refusal_number why) t.word t.value

abbrev pub is_at_fault : Tested → Bool
is_at_fault t = not t.legal

-- the first that is at fault
abbrev pub first_fault : Refusal → List Tested → Fault
first_fault why = first_of no_fault (fault_at why) is_at_fault

-- the words of the capabilities that have a condition
abbrev pub caps_tested : Caps → List Tested
caps_tested c =
    tested 0 c.misa (legal_misa c) ∷
    tested 1 c.interrupts (legal_interrupts c) ∷
    tested 3 c.flags (legal_flags c) ∷
    tested 5 c.mvendorid (legal_mvendorid c) ∷
    []

abbrev pub word_tested : Caps → Hart → Word → Tested
word_tested c h w = tested (place_of w) (get w h) (legal_word c w (get w h))

-- x0, and the words after x31
abbrev pub hart_tested : Caps → Hart → List Tested
hart_tested c h = tested 0 (get_or h.x 0 0) (x0_zero h) ∷ map (word_tested c h) words

abbrev pub caps_fault : Caps → Fault
caps_fault c = first_fault BadCaps (caps_tested c)

unfoldable pub hart_fault : Caps → Hart → Fault
hart_fault c h = first_fault BadHart (hart_tested c h)

-- of a capability image; where its length is wrong, the word after its last
unfoldable pub checked_caps : List ℕ → Fault
checked_caps c = cond (eqb (length c) caps_bytes) (caps_fault (caps_at c)) (fault_of (refusal_number BadCaps) caps_words 0)

-- of both images: the capabilities come first
unfoldable pub checked_hart : List ℕ → List ℕ → Fault
checked_hart c s =
    cond (is_caps c)
    (cond (eqb (length s) hart_bytes) (hart_fault (caps_at c) (hart_at s)) (fault_of (refusal_number BadHart) image_words 0))
    (checked_caps c)
