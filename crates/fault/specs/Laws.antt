-- What is proved of the checks, over the definitions alone. The proofs are in proofs/Laws.antt.
use Rattle.std.specs.Prelude.{ℕ, ◌≤◌, true, cond, List, ◌↔◌, ◌≡◌, length}
use Rattle.first.specs.Laws.{Each, First}
use Rattle.hart.specs.Answers.{refusal_number}
use Rattle.hart.specs.declared.answer.Refusal.{Refusal}
use Rattle.hart.specs.declared.answer.Refusal.TheVariants.{BadCaps, BadHart}
use Rattle.lent.specs.Images.{caps_bytes, hart_bytes, caps_at, hart_at, is_caps, is_hart}
use Rattle.fault.specs.Fault.{Tested, no_fault, fault_at, is_at_fault, caps_tested, hart_tested, checked_caps, checked_hart}
use Rattle.fault.specs.declared.fault.Fault.{Fault}

-- nothing is found exactly where the capability image is legal ..
abbrev pub CapsChecked : Type 0
CapsChecked = (c : List ℕ) → (checked_caps c ≡ no_fault) ↔ (is_caps c ≡ true)

-- .. and, of two images, exactly where both are
abbrev pub HartChecked : Type 0
HartChecked = (c s : List ℕ) → (checked_hart c s ≡ no_fault) ↔ ((is_caps c ≡ true) × (is_hart (caps_at c) s ≡ true))

-- the refusal is 1, then 2, as the images alone decide
abbrev pub CapsRefusal : Type 0
CapsRefusal = (c : List ℕ) → (checked_caps c).refusal ≡ cond (is_caps c) 0 (refusal_number BadCaps)

abbrev pub HartRefusal : Type 0
HartRefusal =
    (c s : List ℕ)
    → (checked_hart c s).refusal ≡ cond (is_caps c) (cond (is_hart (caps_at c) s) 0 (refusal_number BadHart)) (refusal_number BadCaps)

-- what is found in a list of words is said of the first at fault, and none at fault has a lower
-- number
pub record Lowest (why : Refusal) (f : Fault) (ts : List Tested) : Type 0 where
  pub first : First (fault_at why) is_at_fault f ts
  pub lowest : Each (λ t. is_at_fault t ≡ true → f.word ≤ t.word) ts

abbrev pub CapsLowest : Type 0
CapsLowest = (c : List ℕ) → length c ≡ caps_bytes → (checked_caps c ≡ no_fault → ⊥) → Lowest BadCaps (checked_caps c) (caps_tested (caps_at c))

abbrev pub HartLowest : Type 0
HartLowest =
    (c s : List ℕ) → is_caps c ≡ true → length s ≡ hart_bytes → (checked_hart c s ≡ no_fault → ⊥)
    → Lowest BadHart (checked_hart c s) (hart_tested (caps_at c) (hart_at s))
