-- What is proved of the entries, over the definitions alone. The proofs are in proofs/Laws.antt;
-- that a contract allows one outcome, which is said of the contract itself, is in the crate
-- `vhart`.
use Rattle.std.specs.Prelude.{ℕ, ◌≤◌, true, false, List, [], ◌∷◌, ◌↔◌, ◌≡◌, length, replicate}
use Rattle.bits.specs.Word.{Fits}
use Rattle.first.specs.Laws.{Each, First, Ascending}
use Rattle.rules.specs.Addresses.{is_aligned}
use Rattle.image.specs.Inner.{Bytes}
use Rattle.hart.specs.Laws.{FitsHost, FitsCaps, Legal}
use Rattle.hart.specs.Caps.{has_c, legal_caps}
use Rattle.hart.specs.Fresh.{fresh_of}
use Rattle.hart.specs.Modes.{mode_m}
use Rattle.hart.specs.declared.caps.Caps.{Caps}
use Rattle.hart.specs.declared.record.Hart.{Hart}
use Rattle.hart.specs.declared.record.Host.{Host}
use Rattle.csr.specs.Access.{hart_after}
use Rattle.csr.specs.declared.address.Csr.{Csr}
use Rattle.trap.specs.Laws.{FitsTrap}
use Rattle.lent.specs.Images.{caps_words, hart_bytes, caps_at, hart_at, bytes_of, is_caps, is_hart}
use Rattle.lent.specs.declared.outcome.Outcome.{Outcome}
use Rattle.fault.specs.Fault.{checked_hart}
use Rattle.settings.specs.Settings.{settings_read, settings_write}
use Rattle.calls.specs.Calls.{Call, Fresh, Read, Write, Instruction, Pending, Take, step_of, is_start}
use Rattle.calls.specs.Entries.{entry_of}
use Rattle.calls.specs.declared.steps.Taken.{Taken}
use Rattle.calls.specs.declared.steps.Taken.TheVariants.{Inject, Trap, Mret, Sret}
use Rattle.explain.specs.Lost.{lost_of}
use Rattle.explain.specs.Reasons.{reasons_of}
use Rattle.explain.specs.Explain.{listed, explain_of}
use Rattle.explain.specs.Laws.{Accepted}
use Rattle.explain.specs.declared.listing.Listing.{Listing}
use Rattle.laws.specs.Refusals.{Row, number_of, applies, refusals, of_settings_read, of_settings_write}
use Rattle.laws.specs.Examples.{Holds, examples}
use Rattle.laws.specs.LostExamples as lost

-- ---- the refusal given is the first that applies

-- the refusal n is given in this order: none exactly if none applies, and another number exactly if
-- it is that of the first that applies
pub record InOrder (n : ℕ) (rs : List Row) : Type 0 where
  pub none : (n ≡ 0) ↔ Each (λ r. applies r ≡ false) rs
  pub first : (m : ℕ) → (m ≡ 0 → ⊥) → (n ≡ m) ↔ First number_of applies m rs

-- of a call on a record ..
abbrev pub RefusedInOrder : Type 0
RefusedInOrder = (call : Call) (c s : List ℕ) → InOrder (entry_of call c s).0.refusal (refusals call c s)

-- .. and of the two on a settings file
abbrev pub SettingsReadInOrder : Type 0
SettingsReadInOrder = (f : List ℕ) → InOrder (settings_read f).refusal (of_settings_read f)

abbrev pub SettingsWriteInOrder : Type 0
SettingsWriteInOrder = (c f : List ℕ) → InOrder (settings_write c f).0.refusal (of_settings_write c f)

-- the order of the calls on a record, and of writing a file, is that of the numbers
abbrev pub OrderIsNumbers : Type 0
OrderIsNumbers = (call : Call) (c s : List ℕ) → Ascending number_of (refusals call c s)

abbrev pub WriteOrderIsNumbers : Type 0
WriteOrderIsNumbers = (c f : List ℕ) → Ascending number_of (of_settings_write c f)

-- so the number that they give is the lowest that applies
abbrev pub IsLowest : ℕ → List Row → Type 0
IsLowest n rs = (n ≡ 0 → ⊥) → Each (λ r. applies r ≡ true → n ≤ number_of r) rs

abbrev pub LowestRefused : Type 0
LowestRefused = (call : Call) (c s : List ℕ) → IsLowest (entry_of call c s).0.refusal (refusals call c s)

abbrev pub WriteLowestRefused : Type 0
WriteLowestRefused = (c f : List ℕ) → IsLowest (settings_write c f).0.refusal (of_settings_write c f)

-- what a check finds is what every call gives that looks at the record
abbrev pub CheckAsCalls : Type 0
CheckAsCalls =
    (call : Call) (c s : List ℕ) → is_start call ≡ false → ((checked_hart c s).refusal ≡ 0 → ⊥)
    → (entry_of call c s).0.refusal ≡ (checked_hart c s).refusal

-- what is refused answers 0, asks for nothing and leaves every byte
pub record Untouched (o : Outcome × List ℕ) (s : List ℕ) : Type 0 where
  pub answer : o.0.answer ≡ 0
  pub effect : o.0.effect ≡ 0
  pub bytes : o.1 ≡ s

abbrev pub RefusalTouchesNothing : Type 0
RefusalTouchesNothing = (call : Call) (c s : List ℕ) → ((entry_of call c s).0.refusal ≡ 0 → ⊥) → Untouched (entry_of call c s) s

abbrev pub RefusedFileStays : Type 0
RefusedFileStays = (c f : List ℕ) → ((settings_write c f).0.refusal ≡ 0 → ⊥) → Untouched (settings_write c f) f

-- of a settings file that is refused every word is 0
abbrev pub RefusedWordsAreZero : Type 0
RefusedWordsAreZero = (f : List ℕ) → ((settings_read f).refusal ≡ 0 → ⊥) → (settings_read f).words ≡ replicate caps_words 0

-- ---- legal kept

-- a call's numbers have 64 bits
abbrev pub FitsTaken : Taken → Type 0
FitsTaken (Inject n) = Fits n
FitsTaken (Trap t) = FitsTrap t
FitsTaken Mret = Unit {0}
FitsTaken Sret = Unit {0}

abbrev pub FitsCall : Call → Type 0
FitsCall (Fresh pc) = Fits pc
FitsCall (Read o a) = Unit {0}
FitsCall (Write a v) = Fits v
FitsCall (Instruction form op o a rd field) = FitsHost o × Fits field
FitsCall Pending = Unit {0}
FitsCall (Take t) = FitsTaken t

-- the record after these calls, one after the other
abbrev pub run_of : Caps → Hart → List Call → Hart
run_of c h [] = h
run_of c h (call ∷ calls) = run_of c (step_of c h call).hart calls

-- a legal record stays legal, whatever the calls, done or refused ..
abbrev pub CallsKeepLegal : Type 0
CallsKeepLegal = (c : Caps) (ks : List Call) (h : Hart) → Legal c h → Each FitsCall ks → Legal c (run_of c h ks)

-- .. and so every list of calls leaves a legal record from a fresh one on
abbrev pub FreshStaysLegal : Type 0
FreshStaysLegal =
    (c : Caps) (pc : ℕ) (ks : List Call) → legal_caps c ≡ true → FitsCaps c → Fits pc → is_aligned (has_c c) pc ≡ true → Each FitsCall ks
    → Legal c (run_of c (fresh_of c mode_m pc) ks)

-- the same of the bytes: the hart image after these calls under the same capabilities
abbrev pub image_after : List ℕ → List ℕ → List Call → List ℕ
image_after c s [] = s
image_after c s (call ∷ calls) = image_after c (entry_of call c s).1 calls

-- an image that a call accepts is accepted after any calls ..
abbrev pub ImageStaysLegal : Type 0
ImageStaysLegal =
    (c : List ℕ) (ks : List Call) (s : List ℕ) → Bytes c → Bytes s → is_caps c ≡ true → is_hart (caps_at c) s ≡ true → Each FitsCall ks
    → is_hart (caps_at c) (image_after c s ks) ≡ true

-- .. and so is a buffer of the right size, whatever it held, from a fresh record on
abbrev pub FreshImageStaysLegal : Type 0
FreshImageStaysLegal =
    (c : List ℕ) (pc : ℕ) (ks : List Call) (s : List ℕ) → Bytes c → Bytes s → is_caps c ≡ true → length s ≡ hart_bytes → Fits pc → is_aligned (has_c (caps_at c)) pc ≡ true → Each FitsCall ks
    → is_hart (caps_at c) (image_after c s (Fresh pc ∷ ks)) ≡ true

-- ---- lost bits

-- an explanation is refused as the write is: in its order, with the lowest that applies
abbrev pub RefusedAsWrite : Type 0
RefusedAsWrite = (o : Host) (a v : ℕ) (c s : List ℕ) → (explain_of o a v c s).refusal ≡ (entry_of (Write a v) c s).0.refusal

abbrev pub ExplainInOrder : Type 0
ExplainInOrder = (o : Host) (a v : ℕ) (c s : List ℕ) → InOrder (explain_of o a v c s).refusal (refusals (Write a v) c s)

abbrev pub ExplainLowestRefused : Type 0
ExplainLowestRefused = (o : Host) (a v : ℕ) (c s : List ℕ) → IsLowest (explain_of o a v c s).refusal (refusals (Write a v) c s)

-- what is refused lists nothing
pub record ListsNothing (l : Listing) : Type 0 where
  pub count : l.count ≡ 0
  pub bits : l.bits ≡ replicate 64 0
  pub reasons : l.reasons ≡ replicate 64 0

abbrev pub RefusedListsNothing : Type 0
RefusedListsNothing = (o : Host) (a v : ℕ) (c s : List ℕ) → ((explain_of o a v c s).refusal ≡ 0 → ⊥) → ListsNothing (explain_of o a v c s)

-- what is explained is the write that the entry of the write does: of the register that the address
-- gives, whose word after it is compared (`compared_is_after`, explain/proofs/Laws.antt)
pub record OfWrite (o : Host) (a v : ℕ) (c s : List ℕ) : Type 0 where
  pub csr : Csr
  pub accepted : Accepted (caps_at c) (hart_at s) csr v
  pub listing : explain_of o a v c s ≡ listed (lost_of (caps_at c) (hart_at s) o csr v) (reasons_of (caps_at c) (hart_at s) csr v)
  pub written : (entry_of (Write a v) c s).1 ≡ bytes_of (hart_after (caps_at c) (hart_at s) csr v)

abbrev pub ExplainedIsWritten : Type 0
ExplainedIsWritten = (o : Host) (a v : ℕ) (c s : List ℕ) → Bytes c → Bytes s → Fits v → (explain_of o a v c s).refusal ≡ 0 → OfWrite o a v c s

-- ---- the examples

abbrev pub ExamplesHold : Type 0
ExamplesHold = Each Holds examples

-- of lost bits too
abbrev pub LostExamplesHold : Type 0
LostExamplesHold = Each lost.Holds lost.examples
