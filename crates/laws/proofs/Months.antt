-- Month totals: when a call is accepted and what it adds, the sums after any list of calls, and two
-- months added.
use Prim.Native.Nat.{ℕ, suc, ◌+◌, ◌≤◌, ◌<◌}
use mathlib.Core.Bool.{Bool, true, false, true≢false, cond, ◌||◌}
use mathlib.Core.List.{List, [], ◌∷◌, ◌++◌, map, Memᴰ}
use mathlib.Core.Logic.{◌↔◌}
use mathlib.Core.Path.{◌≡◌, refl, sym, ap, ap₂, ◌∙◌, subst}
use native.Mathlib.Nat.{add-zero, zero-add, lt_of_le_of_lt}
use native.Mathlib.Omega.{arith}
use lib.Bits.{bit_and, bit_xor, and_le_r}
use lib.Dec.{eqb, lit<}
use lib.ListN.{length, length-map}
use borrow.Author.Tests.{eqb-false, eq-eqb, ne_eqb}
use Rattle.std.specs.Prelude.{Result, Ok, Err}
use Rattle.bits.specs.Alg.{plain}
use Rattle.bits.specs.Word.{Fits, bit}
use Rattle.first.specs.First.{first_of}
use Rattle.first.specs.Laws.{Each}
use Rattle.first.proofs.First.{ascending}
use Rattle.rules.specs.Status.{sstatus_bits}
use Rattle.rules.specs.Interrupts.{supervisor}
use Rattle.hart.specs.Laws.{FitsHost}
use Rattle.hart.specs.declared.caps.Caps.{Caps}
use Rattle.hart.specs.declared.record.Hart.{Hart}
use Rattle.hart.specs.declared.record.Host.{Host}
use Rattle.hart.specs.declared.answer.Refusal.{Refusal}
use Rattle.hart.specs.declared.answer.Refusal.TheVariants.{TotalFull}
use Rattle.csr.specs.Address.{address_of}
use Rattle.csr.specs.declared.address.Csr.{Csr}
use Rattle.lent.specs.Images.{caps_at, hart_at}
use Rattle.calls.specs.Calls.{Write, host_of}
use Rattle.explain.specs.Lost.{all, compared_word, compared_bits, lost_of, bits_below}
use Rattle.explain.specs.Reason.{reason_number, reason_at, reasons}
use Rattle.explain.specs.declared.reasons.Reason.{Reason}
use Rattle.explain.specs.declared.reasons.Reason.TheVariants.{Unstored, Never, Elsewhere, Reserved, Forced, Ignored, Driven}
use Rattle.explain.specs.Reasons.{reasons_of}
use Rattle.explain.specs.Explain.{Explanation, padded, listed, listing, found_of, explain_of}
use Rattle.explain.specs.declared.explanation.Loss.{Loss}
use Rattle.explain.specs.declared.listing.Listing.{Listing}
use Rattle.explain.specs.declared.reasons.Reasons.{Reasons}
use Rattle.explain.proofs.Laws.{listed_is_bit, count_is_length, every_lost_has_reason}
use Rattle.tally.specs.Totals.{Counter, For, total_of, totals, times, adds, sums, limit, passes, added, handed, tallied, tally_of}
use Rattle.tally.specs.declared.totals.Totals.{Totals}
use Rattle.tally.proofs.Counted.{times_padded, no_reason_is_zero}
use Rattle.tally.proofs.Sums.{total_of_lem, same_totals, within_exactly, is_past_lem, is_within}
use Rattle.laws.specs.Refusals.{Row, ◌when◌, number_of, applies, refusals}
use Rattle.laws.specs.Months.{Entry, explanation, tallying, rows_of, TallyAccepted, TallyAdds, TallyRefusedKeeps, TallyInOrder, TallyLowestRefused, TallyAnswersNothing, sum_of, after, accepted, zeros, TotalsAreSums, MonthsAdd, EachBitCounted}
use Rattle.laws.proofs.InOrder.{positive, refusal_is, each_numbered, in_order, is_lowest}
use Rattle.laws.proofs.Explained.{refused_as_write, explained_is_written}

-- ---- what is found of a write

abbrev found : Entry → Explanation
found e = found_of (host_of e.time e.seed 0) e.address e.value e.caps e.hart

listed_done : (l : Loss) → (listed l.bits l.why).refusal ≡ 0
unfolding listed
listed_done l = refl

-- what an explained write adds
abbrev more : Loss → Totals
more l = totals (adds (listed l.bits l.why))

-- ---- one call

module _ (l : Loss) (t : Totals) where
  within_adds : (passes t (more l) ≡ false) ↔ ((k : Counter) → total_of t k + adds (listed l.bits l.why) k ≤ limit)
  within_adds = (
    λ e k. subst (λ (n : ℕ). total_of t k + n ≤ limit) (total_of_lem (adds (listed l.bits l.why)) k) ((within_exactly t (more l)).0 e k),
    λ h. (within_exactly t (more l)).1 (λ k. subst (λ (n : ℕ). total_of t k + n ≤ limit) (sym (total_of_lem (adds (listed l.bits l.why)) k)) (h k)),
  )

  given : (b : Bool) → passes t (more l) ≡ b → ((handed (added (more l) t) t).0.refusal ≡ 0) ↔ ((k : Counter) → total_of t k + adds (listed l.bits l.why) k ≤ limit)
  given true e = (
    λ r. absurd (true≢false (ap (λ (n : ℕ). eqb n 0) (sym r ∙ ap (λ (x : Result Totals Refusal). (handed x t).0.refusal) (is_past_lem (more l) t e)))),
    λ h. absurd (true≢false (sym e ∙ within_adds.1 h)),
  )
  given false e = (λ r. within_adds.0 e, λ h. ap (λ (x : Result Totals Refusal). (handed x t).0.refusal) (is_within (more l) t e))

accepted_by : (x : Explanation) (t : Totals)
    → ((tallied x t).0.refusal ≡ 0) ↔ (((listing x).refusal ≡ 0) × ((k : Counter) → total_of t k + adds (listing x) k ≤ limit))
accepted_by (Err why) t = (λ e. absurd (eqb-false _ 0 (positive why) e), λ p. absurd (eqb-false _ 0 (positive why) p.0))
accepted_by (Ok l) t = let so = given l t (passes t (more l)) refl in (λ e. (listed_done l, so.0 e), λ p. so.1 p.1)

pub tally_accepted : TallyAccepted
unfolding tally_of explain_of
tally_accepted e t = accepted_by (found e) t

-- what a call adds to a total
abbrev Grows : Loss → Totals → Counter → Result Totals Refusal → Type 0
Grows l t k r = total_of (handed r t).1 k ≡ total_of t k + cond (eqb (handed r t).0.refusal 0) (adds (listed l.bits l.why) k) 0

grows_by : (x : Explanation) (t : Totals) (k : Counter) → total_of (tallied x t).1 k ≡ total_of t k + cond (eqb (tallied x t).0.refusal 0) (adds (listing x) k) 0
grows_by (Err why) t k = sym (ap (λ (b : Bool). total_of t k + cond b (adds (listing (Err why)) k) 0) (positive why) ∙ add-zero (total_of t k))
grows_by (Ok l) t k = go (passes t (more l)) refl
  where
    go : (b : Bool) → passes t (more l) ≡ b → Grows l t k (added (more l) t)
    go true e = subst (Grows l t k) (sym (is_past_lem (more l) t e)) (sym (add-zero (total_of t k)))
    go false e = subst (Grows l t k) (sym (is_within (more l) t e)) (total_of_lem (λ j. total_of t j + total_of (more l) j) k ∙ ap (λ (n : ℕ). total_of t k + n) (total_of_lem (adds (listed l.bits l.why)) k))

grows : (e : Entry) (t : Totals) (k : Counter) → total_of (tallying e t).1 k ≡ total_of t k + cond (eqb (tallying e t).0.refusal 0) (adds (explanation e) k) 0
unfolding tally_of explain_of
grows e t k = grows_by (found e) t k

pub tally_adds : TallyAdds
tally_adds e t k z = grows e t k ∙ ap (λ (b : Bool). total_of t k + cond b (adds (explanation e) k) 0) (eq-eqb _ 0 z)

pub tally_refused_keeps : TallyRefusedKeeps
tally_refused_keeps e t z = same_totals _ _ (λ k. grows e t k ∙ ap (λ (b : Bool). total_of t k + cond b (adds (explanation e) k) 0) (ne_eqb _ 0 z) ∙ add-zero (total_of t k))

pub tally_answers_nothing : TallyAnswersNothing
unfolding tally_of
tally_answers_nothing e t = go (found e)
  where
    go : (x : Explanation) → ((tallied x t).0.answer ≡ 0) × ((tallied x t).0.effect ≡ 0)
    go (Err why) = (refl, refl)
    go (Ok l) = by (passes t (more l))
      where
        by : (b : Bool) → ((handed (cond b (Err TotalFull) (Ok (sums t (more l)))) t).0.answer ≡ 0) × ((handed (cond b (Err TotalFull) (Ok (sums t (more l)))) t).0.effect ≡ 0)
        by true = (refl, refl)
        by false = (refl, refl)

-- ---- lists of calls

sums_from : (l : List Entry) (t : Totals) (k : Counter) → total_of (after t l) k ≡ total_of t k + sum_of (λ e. adds (explanation e) k) (accepted t l)
sums_from [] t k = sym (add-zero (total_of t k))
sums_from (e ∷ l) t k =
    let t' = (tallying e t).1 in
    let b = eqb (tallying e t).0.refusal 0 in
    sums_from l t' k
    ∙ ap (λ (n : ℕ). n + sum_of (λ x. adds (explanation x) k) (accepted t' l)) (grows e t k)
    ∙ by b (accepted t' l)
  where
    by : (b : Bool) (rest : List Entry)
        → (total_of t k + cond b (adds (explanation e) k) 0) + sum_of (λ x. adds (explanation x) k) rest
        ≡ total_of t k + sum_of (λ x. adds (explanation x) k) (cond b (e ∷ rest) rest)
    by true rest = omega arith
    by false rest = omega arith

zero_total : (k : Counter) → total_of zeros k ≡ 0
zero_total k = total_of_lem (λ j. 0) k

pub totals_are_sums : TotalsAreSums
totals_are_sums l k = sums_from l zeros k ∙ ap (λ (n : ℕ). n + sum_of (λ e. adds (explanation e) k) (accepted zeros l)) (zero_total k) ∙ zero-add _

-- no total falls
never_less : (l : List Entry) (t : Totals) (k : Counter) → total_of t k ≤ total_of (after t l) k
never_less l t k = let so = sums_from l t k in omega arith

-- ---- two months

sum_total : (s t : Totals) (k : Counter) → total_of (sums s t) k ≡ total_of s k + total_of t k
sum_total s t = total_of_lem (λ k. total_of s k + total_of t k)

sums_assoc : (a b c : Totals) → sums (sums a b) c ≡ sums a (sums b c)
sums_assoc a b c = same_totals _ _ (λ k. let p = sum_total (sums a b) c k in let q = sum_total a b k in let r = sum_total a (sums b c) k in let s = sum_total b c k in omega arith)

-- what passes the limit passes it with more, and what doesn't with more doesn't with less
still_past : (a b m : Totals) → passes b m ≡ true → passes (sums a b) m ≡ true
still_past a b m e = go (passes (sums a b) m) refl
  where
    go : (p : Bool) → passes (sums a b) m ≡ p → passes (sums a b) m ≡ true
    go true f = f
    go false f = absurd (true≢false (sym e ∙ (within_exactly b m).1 (λ k. let q = (within_exactly (sums a b) m).0 f k in let s = sum_total a b k in omega arith)))

still_within : (a b m : Totals) → ((k : Counter) → total_of a k + total_of (sums b m) k ≤ limit) → passes (sums a b) m ≡ false
still_within a b m h = (within_exactly (sums a b) m).1 (λ k. let p = h k in let s = sum_total a b k in let r = sum_total b m k in omega arith)

-- a call on totals to which others are added, where it would be accepted on these too
call_adds : (a b : Totals) (x : Explanation) → ((k : Counter) → total_of a k + total_of (tallied x b).1 k ≤ limit) → (tallied x (sums a b)).1 ≡ sums a (tallied x b).1
call_adds a b (Err why) h = refl
call_adds a b (Ok l) h = go (passes b (more l)) refl h
  where
    -- 16 for these alone is 16 for the sums
    go : (p : Bool) → passes b (more l) ≡ p → ((k : Counter) → total_of a k + total_of (handed (added (more l) b) b).1 k ≤ limit)
        → (handed (added (more l) (sums a b)) (sums a b)).1 ≡ sums a (handed (added (more l) b) b).1
    go true e h =
        ap (λ (r : Result Totals Refusal). (handed r (sums a b)).1) (is_past_lem (more l) (sums a b) (still_past a b (more l) e))
        ∙ ap (λ (r : Result Totals Refusal). sums a (handed r b).1) (sym (is_past_lem (more l) b e))
    go false e h =
        let fits = subst (λ (r : Result Totals Refusal). (k : Counter) → total_of a k + total_of (handed r b).1 k ≤ limit) (is_within (more l) b e) h in
        ap (λ (r : Result Totals Refusal). (handed r (sums a b)).1) (is_within (more l) (sums a b) (still_within a b (more l) fits))
        ∙ sums_assoc a b (more l)
        ∙ ap (λ (r : Result Totals Refusal). sums a (handed r b).1) (sym (is_within (more l) b e))

joined : (l m : List Entry) (t : Totals) → after t (l ++ m) ≡ after (after t l) m
joined [] m t = refl
joined (e ∷ l) m t = joined l m (tallying e t).1

one_more : (e : Entry) (a b : Totals) → ((k : Counter) → total_of a k + total_of (tallying e b).1 k ≤ limit) → (tallying e (sums a b)).1 ≡ sums a (tallying e b).1
unfolding tally_of
one_more e a b = call_adds a b (found e)

month : (m : List Entry) (a b : Totals) → ((k : Counter) → total_of a k + total_of (after b m) k ≤ limit) → after (sums a b) m ≡ sums a (after b m)
month [] a b h = refl
month (e ∷ m) a b h =
    let b' = (tallying e b).1 in
    ap (λ (t : Totals). after t m) (one_more e a b (λ k. omega (arith, never_less m b' k, h k))) ∙ month m a b' h

pub months_add : MonthsAdd
months_add l m h =
    joined l m zeros
    ∙ ap (λ (t : Totals). after t m) (same_totals _ _ (λ k. sym (sum_total (after zeros l) zeros k ∙ ap (λ (n : ℕ). total_of (after zeros l) k + n) (zero_total k) ∙ add-zero _)))
    ∙ month m (after zeros l) zeros h

-- ---- lost bits

sum_plus : {A : Type 0} (f g : A → ℕ) (l : List A) → sum_of (λ x. f x + g x) l ≡ sum_of f l + sum_of g l
sum_plus f g [] = refl
sum_plus f g (x ∷ l) = let rest = sum_plus f g l in omega arith

sum_same : {A : Type 0} (f g : A → ℕ) (l : List A) → ((x : A) → f x ≡ g x) → sum_of f l ≡ sum_of g l
sum_same f g [] e = refl
sum_same f g (x ∷ l) e = ap₂ (λ (m n : ℕ). m + n) (e x) (sum_same f g l e)

-- it has a reason's number
abbrev IsReason : ℕ → Type 0
IsReason n = (k : Reason) × (n ≡ reason_number k)

-- each number stands for one reason
one_reason : (k : Reason) → sum_of (λ j. cond (eqb (reason_number k) (reason_number j)) 1 0) reasons ≡ 1
one_reason Unstored = refl
one_reason Never = refl
one_reason Elsewhere = refl
one_reason Reserved = refl
one_reason Forced = refl
one_reason Ignored = refl
one_reason Driven = refl

one_longer : (n : ℕ) → 1 + n ≡ suc n
one_longer n = omega arith

all_times : (l : List ℕ) → Each IsReason l → sum_of (λ k. times (reason_number k) l) reasons ≡ length l
all_times [] e = refl
all_times (n ∷ l) e =
    sum_plus (λ k. cond (eqb n (reason_number k)) 1 0) (λ k. times (reason_number k) l) reasons
    ∙ ap₂ (λ (a b : ℕ). a + b) (ap (λ (m : ℕ). sum_of (λ k. cond (eqb m (reason_number k)) 1 0) reasons) e.0.1 ∙ one_reason e.0.0) (all_times l e.1)
    ∙ one_longer (length l)

-- what is so of each bit's reason
each_said : (P : ℕ → Type 0) (f : ℕ → ℕ) (l : List ℕ) → ((i : ℕ) → Memᴰ i l → P (f i)) → Each P (map f l)
each_said P f [] h = tt
each_said P f (x ∷ l) h = (h x (Memᴰ.head refl), each_said P f l (λ i m. h i (Memᴰ.tail m)))

each_bit : (w : ℕ) (why : Reasons) → Fits w → ((i : ℕ) → i < 64 → bit i w ≡ true → IsReason (reason_at why i)) → sum_of (λ k. adds (listed w why) (For k)) reasons ≡ (listed w why).count
unfolding listed
each_bit w why fits h =
    sum_same (λ k. times (reason_number k) (padded (map (reason_at why) (bits_below w 64)))) (λ k. times (reason_number k) (map (reason_at why) (bits_below w 64))) reasons (λ k. times_padded (reason_number k) (no_reason_is_zero k) (map (reason_at why) (bits_below w 64)))
    ∙ all_times (map (reason_at why) (bits_below w 64)) (each_said IsReason (reason_at why) (bits_below w 64) (λ i m. let b = (listed_is_bit w 64 i).0 m in h i b.0 b.1))
    ∙ length-map (bits_below w 64) (reason_at why)
    ∙ sym (count_is_length w fits)

lost_fits : (c : Caps) (h : Hart) (o : Host) (r : Csr) (v : ℕ) → Fits (lost_of c h o r v)
unfolding lost_of
lost_fits c h o r v = lt_of_le_of_lt (and_le_r (bit_xor v (compared_word c h o r v)) (compared_bits plain (address_of r) h.mideleg)) (go (eqb (address_of r) 0x100) (eqb (address_of r) 0x104 || eqb (address_of r) 0x144))
  where
    go : (p q : Bool) → Fits (cond p (sstatus_bits plain) (cond q (bit_and h.mideleg (supervisor plain)) (all plain)))
    go true q = lit< tt
    go false true = lt_of_le_of_lt (and_le_r h.mideleg (supervisor plain)) (lit< tt)
    go false false = lit< tt

pub each_bit_counted : EachBitCounted
each_bit_counted e ft fs fv bc bs z =
    let o = host_of e.time e.seed 0 in
    let is = explained_is_written o e.address e.value e.caps e.hart bc bs fv z in
    let c = caps_at e.caps in
    let h = hart_at e.hart in
    let r = is.csr in
    let host : FitsHost o = record { time = ft; seed = fs } in
    subst (λ (l : Listing). sum_of (λ k. adds l (For k)) reasons ≡ l.count) (sym is.listing)
    (each_bit (lost_of c h o r e.value) (reasons_of c h r e.value) (lost_fits c h o r e.value) (λ i lt b. every_lost_has_reason c h o r e.value i is.accepted host lt b))

-- ---- the order of refusals

-- the first of two lists is the first of one with the first of the other for none
first_append : (rs qs : List Row) → first_of 0 number_of applies (rs ++ qs) ≡ first_of (first_of 0 number_of applies qs) number_of applies rs
first_append [] qs = refl
first_append (r ∷ rs) qs = ap (λ (n : ℕ). cond (applies r) (number_of r) n) (first_append rs qs)

-- where one is given, none behind it is looked at
first_stays : (rs : List Row) (n d : ℕ) → (n ≡ 0 → ⊥) → first_of 0 number_of applies rs ≡ n → first_of d number_of applies rs ≡ n
first_stays [] n d z e = absurd (z (sym e))
first_stays (r ∷ rs) n d z e = go (applies r) e (first_stays rs n d z)
  where
    go : (b : Bool) → cond b (number_of r) (first_of 0 number_of applies rs) ≡ n → (first_of 0 number_of applies rs ≡ n → first_of d number_of applies rs ≡ n) → cond b (number_of r) (first_of d number_of applies rs) ≡ n
    go true f rest = f
    go false f rest = rest f

-- and where none is, they are
first_moves : (rs : List Row) (d : ℕ) → first_of 0 number_of applies rs ≡ 0 → first_of d number_of applies rs ≡ d
first_moves [] d e = refl
first_moves (r ∷ rs) d e = go (applies r) refl e (first_moves rs d)
  where
    go : (b : Bool) → applies r ≡ b → cond b (number_of r) (first_of 0 number_of applies rs) ≡ 0 → (first_of 0 number_of applies rs ≡ 0 → first_of d number_of applies rs ≡ d) → cond b (number_of r) (first_of d number_of applies rs) ≡ d
    go true q f rest = absurd ((each_numbered (r ∷ [])).0 f)
    go false q f rest = rest f

refusal_by : (x : Explanation) (t : Totals) (rs : List Row) → first_of 0 number_of applies rs ≡ (listing x).refusal
    → (tallied x t).0.refusal ≡ first_of 0 number_of applies (rs ++ (TotalFull when passes t (totals (adds (listing x))) ∷ []))
refusal_by (Err why) t rs e = sym (first_append rs _ ∙ first_stays rs _ _ (eqb-false _ 0 (positive why)) e)
refusal_by (Ok l) t rs e = go (passes t (more l)) ∙ sym (first_append rs _ ∙ first_moves rs _ (e ∙ listed_done l))
  where
    go : (b : Bool) → (handed (cond b (Err TotalFull) (Ok (sums t (more l)))) t).0.refusal ≡ first_of 0 number_of applies (TotalFull when b ∷ [])
    go true = refl
    go false = refl

tally_refusal : (e : Entry) (t : Totals) → (tallying e t).0.refusal ≡ first_of 0 number_of applies (rows_of e t)
unfolding tally_of explain_of
tally_refusal e t =
    refusal_by (found e) t (refusals (Write e.address e.value) e.caps e.hart)
    (sym (refused_as_write (host_of e.time e.seed 0) e.address e.value e.caps e.hart ∙ refusal_is (Write e.address e.value) e.caps e.hart))

pub tally_in_order : TallyInOrder
tally_in_order e t = in_order (tallying e t).0.refusal (rows_of e t) (tally_refusal e t)

pub tally_lowest_refused : TallyLowestRefused
tally_lowest_refused e t = is_lowest (tallying e t).0.refusal (rows_of e t) (tally_in_order e t) (ascending number_of (rows_of e t) refl)
