-- Sums of totals, counter by counter: whether one is past the limit, and what two totals are the
-- same by.
use Prim.Native.Nat.{ℕ, ◌+◌, ◌≤◌}
use mathlib.Core.Bool.{Bool, true, false, true≢false, cond, ◌||◌}
use mathlib.Core.List.{List, [], ◌∷◌}
use mathlib.Core.Logic.{◌↔◌}
use mathlib.Core.Path.{◌≡◌, refl, ap, ◌∙◌}
use lib.Dec.{ltb}
use borrow.Author.Tests.{ltb-false, le-ltb}
use Rattle.std.specs.Prelude.{Some, None, Ok, Err}
use Rattle.first.specs.Laws.{Each}
use Rattle.hart.specs.declared.answer.Refusal.TheVariants.{TotalFull}
use Rattle.explain.specs.declared.reasons.Reason.TheVariants.{Unstored, Never, Elsewhere, Reserved, Forced, Ignored, Driven}
use Rattle.tally.specs.Totals.{Counter, For, Writes, Lossless, counters, total_of, totals, limit, any, sums, sums_within, passes, added}
use Rattle.tally.specs.Inner.{Within}
use Rattle.tally.specs.declared.totals.Totals.{Totals}

-- ---- nine counters

-- what is so of each of the list is so of every counter
each_counter : (P : Counter → Type 0) → Each P counters → (k : Counter) → P k
each_counter P e (For Unstored) = e.0
each_counter P e (For Never) = e.1.0
each_counter P e (For Elsewhere) = e.1.1.0
each_counter P e (For Reserved) = e.1.1.1.0
each_counter P e (For Forced) = e.1.1.1.1.0
each_counter P e (For Ignored) = e.1.1.1.1.1.0
each_counter P e (For Driven) = e.1.1.1.1.1.1.0
each_counter P e Writes = e.1.1.1.1.1.1.1.0
each_counter P e Lossless = e.1.1.1.1.1.1.1.1.0

pub total_of_lem : (n : Counter → ℕ) (k : Counter) → total_of (totals n) k ≡ n k
total_of_lem n = each_counter (λ k. total_of (totals n) k ≡ n k) (refl, (refl, (refl, (refl, (refl, (refl, (refl, (refl, (refl, tt)))))))))

pub same_totals : (s t : Totals) → ((k : Counter) → total_of s k ≡ total_of t k) → s ≡ t
same_totals s t e =
    rw (
      e (For Unstored),
      e (For Never),
      e (For Elsewhere),
      e (For Reserved),
      e (For Forced),
      e (For Ignored),
      e (For Driven),
      e Writes,
      e Lossless,
    )

-- ---- the limit

module _ (s t : Totals) where
  abbrev is_past : Counter → Bool
  is_past k = ltb limit (total_of s k + total_of t k)

  none_past : (l : List Counter) → any is_past l ≡ false → Each (λ k. total_of s k + total_of t k ≤ limit) l
  none_past [] e = tt
  none_past (k ∷ l) e = go (is_past k) refl e (none_past l)
    where
      go : (b : Bool) → is_past k ≡ b → (b || any is_past l) ≡ false → (any is_past l ≡ false → Each (λ j. total_of s j + total_of t j ≤ limit) l) → Each (λ j. total_of s j + total_of t j ≤ limit) (k ∷ l)
      go true is z rest = absurd (true≢false z)
      go false is z rest = (ltb-false limit _ is, rest z)

  all_within : (l : List Counter) → ((k : Counter) → total_of s k + total_of t k ≤ limit) → any is_past l ≡ false
  all_within [] h = refl
  all_within (k ∷ l) h = ap (λ (b : Bool). b || any is_past l) (le-ltb limit _ (h k)) ∙ all_within l h

  pub within_exactly : (passes s t ≡ false) ↔ ((k : Counter) → total_of s k + total_of t k ≤ limit)
  within_exactly = (λ e. each_counter (λ k. total_of s k + total_of t k ≤ limit) (none_past counters e), all_within counters)

  pub sums_if_within : Within s t → sums_within s t ≡ Some (sums s t)
  sums_if_within h = ap (λ (b : Bool). cond b None (Some (sums s t))) (all_within counters (each_counter (λ k. total_of s k + total_of t k ≤ limit) h))

-- what is given by the test
module _ (more t : Totals) where
  by_test : (b : Bool) → passes t more ≡ b → added more t ≡ cond b (Err TotalFull) (Ok (sums t more))
  by_test b e = ap (λ (x : Bool). cond x (Err TotalFull) (Ok (sums t more))) e

  pub is_past_lem : passes t more ≡ true → added more t ≡ Err TotalFull
  is_past_lem = by_test true

  pub is_within : passes t more ≡ false → added more t ≡ Ok (sums t more)
  is_within = by_test false
