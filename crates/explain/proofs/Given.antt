-- The reason that is given of a bit is the lowest that holds: for any seven tests.
use Prim.Native.Nat.{ℕ, ◌-◌, ◌≤◌, ◌<◌}
use mathlib.Core.Bool.{Bool, true, false, true≢false, cond}
use mathlib.Core.List.{List, [], ◌∷◌}
use mathlib.Core.Logic.{◌↔◌, ◌⊎◌, inl, inr, ⊎_elim}
use mathlib.Core.Path.{◌≡◌, refl, sym, ap, ◌∙◌, subst}
use native.Mathlib.Omega.{arith}
use lib.Dec.{eqb, ltb}
use lib.ListN.{get_or}
use borrow.Author.Tests.{eqb-true, eqb-false, ltb-true, ltb-false}
use Rattle.std.specs.Prelude.{Some, None}
use Rattle.first.specs.First.{first_of}
use Rattle.first.specs.Laws.{Each}
use Rattle.first.proofs.First.{first_none, first_is, first_has, ascending, lowest}
use Rattle.explain.specs.Reason.{reason_number, number_of, reasons}
use Rattle.explain.specs.declared.reasons.Reason.{Reason}
use Rattle.explain.specs.declared.reasons.Reason.TheVariants.{Unstored, Never, Elsewhere, Reserved, Forced, Ignored, Driven}

-- what is so of each of the list is so of every reason
pub each_reason : (P : Reason → Type 0) → Each P reasons → (k : Reason) → P k
each_reason P e Unstored = e.0
each_reason P e Never = e.1.0
each_reason P e Elsewhere = e.1.1.0
each_reason P e Reserved = e.1.1.1.0
each_reason P e Forced = e.1.1.1.1.0
each_reason P e Ignored = e.1.1.1.1.1.0
each_reason P e Driven = e.1.1.1.1.1.1.0

every_reason : (P : Reason → Type 0) → ((k : Reason) → P k) → Each P reasons
every_reason P f = (f Unstored, (f Never, (f Elsewhere, (f Reserved, (f Forced, (f Ignored, (f Driven, tt)))))))

-- the reason of a number
numbered : ℕ → Reason
numbered n = get_or reasons (n - 1) Unstored

number_back : (k : Reason) → numbered (reason_number k) ≡ k
unfolding numbered
number_back Unstored = refl
number_back Never = refl
number_back Elsewhere = refl
number_back Reserved = refl
number_back Forced = refl
number_back Ignored = refl
number_back Driven = refl

same_reason : (k m : Reason) → reason_number k ≡ reason_number m → k ≡ m
same_reason k m e = sym (number_back k) ∙ ap numbered e ∙ number_back m

some : (k : Reason) → reason_number k ≡ 0 → ⊥
some = each_reason (λ k. reason_number k ≡ 0 → ⊥) ((λ e. omega arith), ((λ e. omega arith), ((λ e. omega arith), ((λ e. omega arith), ((λ e. omega arith), ((λ e. omega arith), ((λ e. omega arith), tt)))))))

-- the number of the first that holds
pub number_first : (t : Reason → Bool) (l : List Reason) → number_of (first_of None Some t l) ≡ first_of 0 reason_number t l
number_first t [] = refl
number_first t (k ∷ l) = go (t k) (number_first t l)
  where
    go : (b : Bool) → number_of (first_of None Some t l) ≡ first_of 0 reason_number t l → number_of (cond b (Some k) (first_of None Some t l)) ≡ cond b (reason_number k) (first_of 0 reason_number t l)
    go true e = refl
    go false e = e

module _ (t : Reason → Bool) where
  abbrev given : ℕ
  given = first_of 0 reason_number t reasons

  -- one is given, or none holds
  pub given_or_none : ((k : Reason) × (given ≡ reason_number k)) ⊎ ((k : Reason) → t k ≡ false)
  given_or_none = go (eqb given 0) refl
    where
      go : (b : Bool) → eqb given 0 ≡ b → ((k : Reason) × (given ≡ reason_number k)) ⊎ ((k : Reason) → t k ≡ false)
      go true e = inr (each_reason (λ k. t k ≡ false) ((first_none 0 reason_number t reasons (every_reason (λ k. reason_number k ≡ 0 → ⊥) some)).0 (eqb-true given 0 e)))
      go false e =
          let found = first_has reason_number t (λ k. Unit {0}) reasons given ((first_is 0 reason_number t given (eqb-false given 0 e) reasons).0 refl) (every_reason (λ k. Unit {0}) (λ k. tt)) in
          inl (found.0, sym found.1)

  -- it holds, and each that holds has no lower number
  holds_lowest : (k : Reason) → given ≡ reason_number k → (t k ≡ true) × ((m : Reason) → t m ≡ true → reason_number k ≤ reason_number m)
  holds_lowest k e =
      let first = (first_is 0 reason_number t (reason_number k) (some k) reasons).0 e in
      let found = first_has reason_number t (λ m. Unit {0}) reasons (reason_number k) first (every_reason (λ m. Unit {0}) (λ m. tt)) in
      (subst (λ (m : Reason). t m ≡ true) (same_reason found.0 k found.1) found.2, each_reason (λ m. t m ≡ true → reason_number k ≤ reason_number m) (lowest reason_number t (λ n. n) reasons (reason_number k) (ascending reason_number reasons refl) first))

  pub given_is : (k : Reason) → (given ≡ reason_number k) ↔ ((t k ≡ true) × ((m : Reason) → reason_number m < reason_number k → t m ≡ true → ⊥))
  given_is k = (to, from)
    where
      to : given ≡ reason_number k → (t k ≡ true) × ((m : Reason) → reason_number m < reason_number k → t m ≡ true → ⊥)
      to e = let h = holds_lowest k e in (h.0, λ m less u. omega (arith, h.1 m u))

      from : (t k ≡ true) × ((m : Reason) → reason_number m < reason_number k → t m ≡ true → ⊥) → given ≡ reason_number k
      from h = ⊎_elim
          (λ g. let l = holds_lowest g.0 g.1 in same (reason_number g.0) g.1 (l.1 k h.0) (λ less. h.1 g.0 less l.0))
          (λ none. absurd (true≢false (sym h.0 ∙ none k)))
          given_or_none
        where
          same : (n : ℕ) → given ≡ n → n ≤ reason_number k → (n < reason_number k → ⊥) → given ≡ reason_number k
          same n e le not-less = go (ltb n (reason_number k)) refl
            where
              go : (b : Bool) → ltb n (reason_number k) ≡ b → given ≡ reason_number k
              go true q = absurd (not-less (ltb-true n (reason_number k) q))
              go false q = omega (arith, ltb-false n (reason_number k) q)
