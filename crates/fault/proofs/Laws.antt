-- The laws of the checks: what is found is nothing exactly where the images are legal, has the
-- number that the images decide, and is the lowest word at fault.
use mathlib.Core.Path.{◌≡◌, refl, ap, ◌∙◌}
use mathlib.Core.Bool.{Bool, true, false, cond, ◌&&◌}
use mathlib.Core.List.{List, [], ◌∷◌, map}
use native.Mathlib.Omega.{arith}
use lib.ListN.{length}
use borrow.Author.Tests.{eq-eqb}
use Rattle.std.specs.Prelude.{ℕ, Ok, Err}
use Rattle.bits.proofs.Bools.{every}
use Rattle.first.specs.Laws.{Ascending}
use Rattle.first.proofs.First.{first_is, ascending, lowest}
use Rattle.hart.specs.Words.{words, get}
use Rattle.hart.specs.Caps.{legal_caps}
use Rattle.hart.specs.Legal.{x0_zero, legal_word, each_legal, legal_hart}
use Rattle.hart.specs.Answers.{refusal_number}
use Rattle.hart.specs.declared.answer.Refusal.{Refusal}
use Rattle.hart.specs.declared.answer.Refusal.TheVariants.{BadCaps, BadHart}
use Rattle.hart.specs.declared.caps.Caps.{Caps}
use Rattle.hart.specs.declared.record.Hart.{Hart}
use Rattle.hart.specs.declared.record.Word.{Word}
use Rattle.lent.specs.Images.{caps_bytes, hart_bytes, caps_at, hart_at, is_caps, is_hart}
use Rattle.lent.specs.Inner.{judged}
use Rattle.lent.proofs.Judged.{is_bad, is_good}
use Rattle.fault.specs.Fault.{Tested, no_fault, fault_at, is_at_fault, first_fault, caps_tested, word_tested, hart_tested, caps_fault, hart_fault, checked_caps, checked_hart}
use Rattle.fault.specs.Laws.{CapsChecked, HartChecked, CapsRefusal, HartRefusal, Lowest, CapsLowest, HartLowest}
use Rattle.fault.specs.declared.fault.Fault.{Fault}

-- ---- a list of words

abbrev all_legal : List Tested → Bool
all_legal = every (λ t. t.legal)

refusal_of : (why : Refusal) (ts : List Tested) → (first_fault why ts).refusal ≡ cond (all_legal ts) 0 (refusal_number why)
refusal_of why [] = refl
refusal_of why (t ∷ ts) = let r = refusal_of why ts in grind arith

none_of : (why : Refusal) (ts : List Tested) → all_legal ts ≡ true → first_fault why ts ≡ no_fault
none_of why [] e = refl
none_of why (t ∷ ts) e = let r = none_of why ts in grind arith

found : (why : Refusal) (ts : List Tested) → Ascending (λ t. t.word) ts → (first_fault why ts ≡ no_fault → ⊥) → Lowest why (first_fault why ts) ts
found why ts a z =
    let f = (first_is no_fault (fault_at why) is_at_fault (first_fault why ts) z ts).0 refl in
    record { first = f; lowest = lowest (fault_at why) is_at_fault (λ f. f.word) ts (first_fault why ts) a f }

-- ---- the two images

caps_all : (c : Caps) → all_legal (caps_tested c) ≡ legal_caps c
unfolding legal_caps
caps_all c = grind arith

hart_all : (c : Caps) (h : Hart) → all_legal (hart_tested c h) ≡ legal_hart c h
unfolding legal_hart
hart_all c h = go (x0_zero h) words
  where
    go : (t : Bool) (ws : List Word) → (t && all_legal (map (word_tested c h) ws)) ≡ each_legal c h t ws
    go t [] = grind arith
    go t (w ∷ ws) = let r = go (t && legal_word c w (get w h)) ws in grind arith

caps_ascend : (c : Caps) → Ascending (λ t. t.word) (caps_tested c)
caps_ascend c = ascending (λ t. t.word) (caps_tested c) refl

hart_ascend : (c : Caps) (h : Hart) → Ascending (λ t. t.word) (hart_tested c h)
hart_ascend c h = ascending (λ t. t.word) (hart_tested c h) refl

-- ---- the laws

pub caps_refusal : CapsRefusal
unfolding checked_caps is_caps
caps_refusal c =
    let r = refusal_of BadCaps (caps_tested (caps_at c)) in
    let a = caps_all (caps_at c) in
    grind arith

pub hart_refusal : HartRefusal
unfolding checked_hart hart_fault is_hart
hart_refusal c s =
    let r = refusal_of BadHart (hart_tested (caps_at c) (hart_at s)) in
    let a = hart_all (caps_at c) (hart_at s) in
    let q = caps_refusal c in
    grind arith

pub caps_checked : CapsChecked
unfolding checked_caps is_caps
caps_checked c =
    let q = caps_refusal c in
    let n = none_of BadCaps (caps_tested (caps_at c)) in
    let a = caps_all (caps_at c) in
    (λ e. let z = ap (λ (f : Fault). f.refusal) e in grind arith, λ e. grind arith)

pub hart_checked : HartChecked
unfolding checked_hart hart_fault is_hart
hart_checked c s =
    let q = hart_refusal c s in
    let n = none_of BadHart (hart_tested (caps_at c) (hart_at s)) in
    let a = hart_all (caps_at c) (hart_at s) in
    (λ e. let z = ap (λ (f : Fault). f.refusal) e in grind arith, λ e. grind arith)

-- ---- what the judge says of it

both : (a b : Bool) → cond a (cond b true false) false ≡ true → (a ≡ true) × (b ≡ true)
both a b e = (grind arith, grind arith)

pub nothing_where_judged : (c s : List ℕ) → judged c s ≡ Ok tt → checked_hart c s ≡ no_fault
nothing_where_judged c s e = (hart_checked c s).1 (both (is_caps c) (is_hart (caps_at c) s) (is_good c s (λ why. false) true e))

not_first : (a b : Bool) → ◌≡◌ {A = ℕ} (cond a (cond b 0 2) 1) 1 → a ≡ false
not_first a b e = grind arith

pub caps_where_judged : (c s : List ℕ) → judged c s ≡ Err BadCaps → checked_hart c s ≡ checked_caps c
unfolding checked_hart
caps_where_judged c s e = let n : is_caps c ≡ false = not_first (is_caps c) (is_hart (caps_at c) s) (is_bad c s refusal_number 0 e) in rw n

pub caps_lowest : CapsLowest
unfolding checked_caps
caps_lowest c l z =
    let is : checked_caps c ≡ caps_fault (caps_at c) = rw (eq-eqb (length c) caps_bytes l) in
    rw is (found BadCaps (caps_tested (caps_at c)) (caps_ascend (caps_at c)) (λ e. z (is ∙ e)))

pub hart_lowest : HartLowest
unfolding checked_hart hart_fault
hart_lowest c s e l z =
    let is : checked_hart c s ≡ hart_fault (caps_at c) (hart_at s) = rw (e, eq-eqb (length s) hart_bytes l) in
    rw is (found BadHart (hart_tested (caps_at c) (hart_at s)) (hart_ascend (caps_at c) (hart_at s)) (λ q. z (is ∙ q)))
