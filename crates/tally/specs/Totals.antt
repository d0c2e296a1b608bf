-- Month totals: nine counters, what an explained write adds to each, and what the entry gives for
-- any bytes, any numbers and any totals. Source: docs/RULES.md, "Month totals" and "Refusals".
use Rattle.std.specs.Prelude.{ℕ, ◌+◌, ◌-◌, ◌^◌, Bool, false, cond, ◌||◌, List, [], ◌∷◌, eqb, ltb, Option, Some, None, Result, Ok, Err}
use Rattle.hart.specs.declared.answer.Effect.TheVariants.{Nothing}
use Rattle.hart.specs.declared.answer.Refusal.{Refusal}
use Rattle.hart.specs.declared.answer.Refusal.TheVariants.{TotalFull}
use Rattle.lent.specs.Outcome.{outcome_of}
use Rattle.lent.specs.declared.outcome.Outcome.{Outcome}
use Rattle.calls.specs.Calls.{host_of}
use Rattle.explain.specs.Explain.{Explanation, listed, found_of}
use Rattle.explain.specs.Reason.{reason_number}
use Rattle.explain.specs.declared.reasons.Reason.{Reason}
use Rattle.explain.specs.declared.reasons.Reason.TheVariants.{Unstored, Never, Elsewhere, Reserved, Forced, Ignored, Driven}
use Rattle.explain.specs.declared.listing.Listing.{Listing}
use Rattle.tally.specs.declared.totals.Totals.{Totals}

-- ---- nine counters

pub data Counter : Type 0 where
  For : Reason → Counter  -- the bits that were lost for a reason
  Writes : Counter  -- the writes that were explained
  Lossless : Counter  -- those of them that lost no bit

abbrev pub counters : List Counter
counters =
    For Unstored ∷ For Never ∷ For Elsewhere ∷ For Reserved ∷ For Forced ∷ For Ignored ∷ For Driven ∷ Writes ∷ Lossless ∷ []

-- a counter's total
abbrev pub total_of : Totals → Counter → ℕ
total_of t (For Unstored) = t.unstored
total_of t (For Never) = t.never
total_of t (For Elsewhere) = t.elsewhere
total_of t (For Reserved) = t.reserved
total_of t (For Forced) = t.forced
total_of t (For Ignored) = t.ignored
total_of t (For Driven) = t.driven
total_of t Writes = t.writes
total_of t Lossless = t.lossless

-- the totals that a number for each counter makes
abbrev pub totals : (Counter → ℕ) → Totals
totals n =
    record {
      unstored = n (For Unstored);
      never = n (For Never);
      elsewhere = n (For Elsewhere);
      reserved = n (For Reserved);
      forced = n (For Forced);
      ignored = n (For Ignored);
      driven = n (For Driven);
      writes = n Writes;
      lossless = n Lossless;
    }

-- ---- what a write adds

-- how often n stands in a list
abbrev pub times : ℕ → List ℕ → ℕ
times n [] = 0
times n (x ∷ l) = cond (eqb x n) 1 0 + times n l

-- by its listing
abbrev pub adds : Listing → Counter → ℕ
adds l (For k) = times (reason_number k) l.reasons
adds l Writes = 1
adds l Lossless = cond (eqb l.count 0) 1 0

-- ---- sums

abbrev pub sums : Totals → Totals → Totals
sums s t = totals (λ k. total_of s k + total_of t k)

abbrev pub limit : ℕ
limit = 2 ^ 32 - 1

-- it is so of one of the list
abbrev pub any : {A : Type 0} → (A → Bool) → List A → Bool
any p [] = false
any p (x ∷ l) = p x || any p l

-- a sum is past the limit
abbrev pub passes : Totals → Totals → Bool
passes s t = any (λ k. ltb limit (total_of s k + total_of t k)) counters

-- the sums, if none is
abbrev pub sums_within : Totals → Totals → Option Totals
sums_within s t = cond (passes s t) None (Some (sums s t))

-- ---- the entry

-- with what the write adds, if no sum is past the limit
abbrev pub added : Totals → Totals → Result Totals Refusal
added more t = cond (passes t more) (Err TotalFull) (Ok (sums t more))

-- by what is found of the write, whose own refusals come first
abbrev pub summed : Explanation → Totals → Result Totals Refusal
summed (Ok l) t = added (totals (adds (listed l.bits l.why))) t
summed (Err why) t = Err why

-- what is handed back, and the totals: what is refused leaves them as they were
abbrev pub handed : Result Totals Refusal → Totals → Outcome × Totals
handed (Ok s) t = (outcome_of (Ok (0, Nothing)), s)
handed (Err why) t = (outcome_of (Err why), t)

abbrev pub tallied : Explanation → Totals → Outcome × Totals
tallied x t = handed (summed x t) t

-- on any bytes and any totals
unfoldable pub tally_of : (time seed address value : ℕ) → List ℕ → List ℕ → Totals → Outcome × Totals
tally_of time seed a v c s t = tallied (found_of (host_of time seed 0) a v c s) t
