-- What is proved of month totals, over every list of calls: each total is the sum of what the
-- single explanations say, and the totals of two months add up. The proofs are in
-- proofs/Months.antt.
use Rattle.std.specs.Prelude.{ℕ, ◌+◌, ◌≤◌, cond, List, [], ◌∷◌, ◌++◌, ◌↔◌, ◌≡◌, eqb}
use Rattle.bits.specs.Word.{Fits}
use Rattle.image.specs.Inner.{Bytes}
use Rattle.lent.specs.declared.outcome.Outcome.{Outcome}
use Rattle.calls.specs.Calls.{host_of}
use Rattle.explain.specs.Explain.{explain_of}
use Rattle.explain.specs.Reason.{reasons}
use Rattle.explain.specs.declared.listing.Listing.{Listing}
use Rattle.tally.specs.Totals.{Counter, For, total_of, totals, adds, sums, limit, tally_of}
use Rattle.tally.specs.declared.totals.Totals.{Totals}
use Rattle.laws.specs.Refusals.{Row, of_tally}
use Rattle.laws.specs.Laws.{InOrder, IsLowest}

-- ---- one call

-- a write that is explained, and the images
pub record Entry : Type 0 where
  pub time : ℕ
  pub seed : ℕ
  pub address : ℕ
  pub value : ℕ
  pub caps : List ℕ
  pub hart : List ℕ

-- its single explanation, as the entry gives it that explains
abbrev pub explanation : Entry → Listing
explanation e = explain_of (host_of e.time e.seed 0) e.address e.value e.caps e.hart

-- what it does with totals
abbrev pub tallying : Entry → Totals → Outcome × Totals
tallying e t = tally_of e.time e.seed e.address e.value e.caps e.hart t

-- it is accepted exactly if the write is explained, and no total would pass the limit
abbrev pub TallyAccepted : Type 0
TallyAccepted =
    (e : Entry) (t : Totals)
    → ((tallying e t).0.refusal ≡ 0) ↔ (((explanation e).refusal ≡ 0) × ((k : Counter) → total_of t k + adds (explanation e) k ≤ limit))

-- then each total grows by what the explanation says
abbrev pub TallyAdds : Type 0
TallyAdds =
    (e : Entry) (t : Totals) (k : Counter) → (tallying e t).0.refusal ≡ 0 → total_of (tallying e t).1 k ≡ total_of t k + adds (explanation e) k

-- and else none changes
abbrev pub TallyRefusedKeeps : Type 0
TallyRefusedKeeps = (e : Entry) (t : Totals) → ((tallying e t).0.refusal ≡ 0 → ⊥) → (tallying e t).1 ≡ t

-- its refusals, in the order tested: the first that applies is given, which is the lowest
abbrev pub rows_of : Entry → Totals → List Row
rows_of e t = of_tally e.time e.seed e.address e.value e.caps e.hart t

abbrev pub TallyInOrder : Type 0
TallyInOrder = (e : Entry) (t : Totals) → InOrder (tallying e t).0.refusal (rows_of e t)

abbrev pub TallyLowestRefused : Type 0
TallyLowestRefused = (e : Entry) (t : Totals) → IsLowest (tallying e t).0.refusal (rows_of e t)

-- nothing is answered, and nothing asked of the host
abbrev pub TallyAnswersNothing : Type 0
TallyAnswersNothing = (e : Entry) (t : Totals) → ((tallying e t).0.answer ≡ 0) × ((tallying e t).0.effect ≡ 0)

-- ---- lists of calls

abbrev pub sum_of : {A : Type 0} → (A → ℕ) → List A → ℕ
sum_of f [] = 0
sum_of f (x ∷ l) = f x + sum_of f l

-- the totals after the calls
abbrev pub after : Totals → List Entry → Totals
after t [] = t
after t (e ∷ l) = after (tallying e t).1 l

-- those of them that are accepted
abbrev pub accepted : Totals → List Entry → List Entry
accepted t [] = []
accepted t (e ∷ l) = cond (eqb (tallying e t).0.refusal 0) (e ∷ accepted (tallying e t).1 l) (accepted (tallying e t).1 l)

abbrev pub zeros : Totals
zeros = totals (λ k. 0)

-- from zero, each total is the sum over the accepted entries' single explanations
abbrev pub TotalsAreSums : Type 0
TotalsAreSums = (l : List Entry) (k : Counter) → total_of (after zeros l) k ≡ sum_of (λ e. adds (explanation e) k) (accepted zeros l)

-- the totals of two months, added, are those of both, if no sum passes the limit
abbrev pub MonthsAdd : Type 0
MonthsAdd =
    (l m : List Entry) → ((k : Counter) → total_of (after zeros l) k + total_of (after zeros m) k ≤ limit)
    → after zeros (l ++ m) ≡ sums (after zeros l) (after zeros m)

-- ---- lost bits

-- every lost bit is counted, and once: for the seven reasons together as many as are listed
abbrev pub EachBitCounted : Type 0
EachBitCounted =
    (e : Entry) → Fits e.time → Fits e.seed → Fits e.value → Bytes e.caps → Bytes e.hart → (explanation e).refusal ≡ 0
    → sum_of (λ k. adds (explanation e) (For k)) reasons ≡ (explanation e).count
