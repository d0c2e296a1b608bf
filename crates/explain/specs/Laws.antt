-- What is proved of lost bits and their reasons, over the definitions alone. The proofs are in
-- proofs/Laws.antt.
use Rattle.std.specs.Prelude.{ℕ, ◌<◌, true, ◌↔◌, ◌≡◌, ltb, length, Some, None}
use mathlib.Core.List.{Memᴰ}
use Rattle.std.specs.Int.Count.{ones}
use Rattle.bits.specs.Alg.{plain}
use Rattle.bits.specs.Word.{Fits, bit}
use Rattle.first.specs.Laws.{Ascending}
use Rattle.hart.specs.Words.{get}
use Rattle.hart.specs.Laws.{FitsHost, Legal}
use Rattle.hart.specs.declared.caps.Caps.{Caps}
use Rattle.hart.specs.declared.record.Hart.{Hart}
use Rattle.hart.specs.declared.record.Host.{Host}
use Rattle.hart.specs.declared.record.Word.{Word}
use Rattle.csr.specs.Address.{address_of, csr_at, is_present}
use Rattle.csr.specs.Access.{stored_of, left_by, hart_after}
use Rattle.csr.specs.declared.address.Csr.{Csr}
use Rattle.explain.specs.Lost.{compared_word, compared_bits, lost_of, bits_below}
use Rattle.explain.specs.Elsewhere as there
use Rattle.explain.specs.Reasons as words
use Rattle.explain.specs.Reason.{reason_number, reason_at}
use Rattle.explain.specs.declared.reasons.Reason.{Reason}
use Rattle.explain.specs.declared.reasons.Reason.TheVariants.{Unstored, Never, Elsewhere, Reserved, Forced, Ignored, Driven}

-- an accepted write of v to the register r
pub record Accepted (c : Caps) (h : Hart) (r : Csr) (v : ℕ) : Type 0 where
  pub legal : Legal c h
  pub value : Fits v
  pub found : csr_at (address_of r) ≡ Some r
  pub present : is_present c r ≡ true

-- ---- which bits are lost

-- the compared bits in which value and word differ: those that aren't listed are equal
abbrev pub LostIsDifferent : Type 0
LostIsDifferent =
    (c : Caps) (h : Hart) (o : Host) (r : Csr) (v i : ℕ)
    → (bit i (lost_of c h o r v) ≡ true) ↔ ((bit i (compared_bits plain (address_of r) h.mideleg) ≡ true) × (bit i v ≡ bit i (compared_word c h o r v) → ⊥))

-- each bit of a word is listed, and no other
abbrev pub ListedIsBit : Type 0
ListedIsBit = (w n i : ℕ) → Memᴰ i (bits_below w n) ↔ ((i < n) × (bit i w ≡ true))

-- lowest first
abbrev pub ListedAscends : Type 0
ListedAscends = (w n : ℕ) → Ascending (λ i. i) (bits_below w n)

-- the ones of a word are as many as the listed bits
abbrev pub CountIsLength : Type 0
CountIsLength = (w : ℕ) → Fits w → ones w ≡ length (bits_below w 64)

-- what is compared is what the write leaves: the word that it stores, in the record after it; where
-- it stores none, the record is as it was
pub record WordAfter (c : Caps) (h : Hart) (o : Host) (r : Csr) (v : ℕ) : Type 0 where
  pub stored : (w : Word) (x : ℕ) → stored_of c h r v ≡ Some (w, x) → compared_word c h o r v ≡ get w (hart_after c h r v)
  pub ignored : stored_of c h r v ≡ None → hart_after c h r v ≡ h

abbrev pub ComparedIsAfter : Type 0
ComparedIsAfter = (c : Caps) (h : Hart) (o : Host) (r : Csr) (v : ℕ) → WordAfter c h o r v

-- ---- why

-- a reason holds for bit i: 3 if there are such capabilities, and the others by their words
abbrev pub Holds : Caps → Hart → Csr → ℕ → ℕ → Reason → Type 0
Holds c h r v i Unstored = bit i (words.unstored (stored_of c h r v)) ≡ true
Holds c h r v i Never = bit i (words.never plain (address_of r)) ≡ true
Holds c h r v i Elsewhere = there.Elsewhere c h r v i
Holds c h r v i Reserved = bit i (words.reserved plain (address_of r) v) ≡ true
Holds c h r v i Forced = bit i (words.forced plain (address_of r)) ≡ true
Holds c h r v i Ignored = bit i (words.ignored plain (address_of r) (ltb c.highest v) v) ≡ true
Holds c h r v i Driven = bit i (words.driven plain (address_of r) h.menvcfg) ≡ true

-- three capabilities answer for all others, both ways
abbrev pub ThreeAnswer : Type 0
ThreeAnswer =
    (c : Caps) (h : Hart) (r : Csr) (v i : ℕ) → Accepted c h r v → i < 64
    → (bit i (words.elsewhere c h r v) ≡ true) ↔ there.Elsewhere c h r v i

-- the reason that is given holds, and no lower one does; and the other way round
abbrev pub LowestGiven : Type 0
LowestGiven =
    (c : Caps) (h : Hart) (r : Csr) (v i : ℕ) (k : Reason) → Accepted c h r v → i < 64
    → (reason_at (words.reasons_of c h r v) i ≡ reason_number k)
    ↔ (Holds c h r v i k × ((m : Reason) → reason_number m < reason_number k → Holds c h r v i m → ⊥))

-- every lost bit has a reason
abbrev pub EveryLostHasReason : Type 0
EveryLostHasReason =
    (c : Caps) (h : Hart) (o : Host) (r : Csr) (v i : ℕ) → Accepted c h r v → FitsHost o → i < 64 → bit i (lost_of c h o r v) ≡ true
    → (k : Reason) × (reason_at (words.reasons_of c h r v) i ≡ reason_number k)

-- 2: whatever is written, a bit that no hart takes from a value is stored the same
abbrev pub NeverTaken : Type 0
NeverTaken =
    (c : Caps) (h : Hart) (r : Csr) (v w x i : ℕ) → Accepted c h r v → Fits w → Fits x → bit i (words.never plain (address_of r)) ≡ true
    → bit i (left_by (stored_of c h r v) x) ≡ bit i (left_by (stored_of c h r w) x)
