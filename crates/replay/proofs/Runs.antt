-- Entries made one after the other: a turn of the loop, and what it leaves in the buffer.
use mathlib.Core.Path.{◌≡◌, refl, sym, ap, ◌∙◌}
use mathlib.Core.List.{List, [], ◌∷◌, ◌++◌}
use Prim.Native.Nat.{ℕ, zero, suc, ◌+◌, ◌-◌, ◌*◌, ◌≤◌, ◌<◌}
use native.Mathlib.Omega.{arith}
use lib.ListN.{length, drop}
use lib.Seq.{sets-eq}
use Rattle.image.specs.Inner.{put_run}
use Rattle.image.specs.Word.{image_of}
use Rattle.image.proofs.Words.{run_image}
use Rattle.image.proofs.Laws.{length_image}
use Rattle.hart.specs.declared.caps.Caps.{Caps}
use Rattle.hart.specs.declared.record.Hart.{Hart}
use Rattle.replay.specs.Log.{entry_bytes, entry_at, entries_from}
use Rattle.lent.specs.Outcome.{outcome_of}
use Rattle.replay.specs.Replay.{entry_step, result_words, hart_after, results_of}
use Rattle.replay.specs.Inner.{made, ran}
use Rattle.replay.specs.declared.log.Entry.{Entry}

module _ (c : Caps) (l : List ℕ) where
  -- the entries from the one numbered i on
  abbrev pub onward : ℕ → ℕ → Hart × List ℕ → Hart × List ℕ
  onward n i p = ran c (entries_from l (entry_bytes * i) (n - i)) (entry_bytes * i) p

  pub begins : (n : ℕ) (p : Hart × List ℕ) → onward n 0 p ≡ ran c (entries_from l 0 n) 0 p
  begins n p =
      let all : n - 0 ≡ n = omega arith in
      rw all

  pub turn : (n i : ℕ) (p : Hart × List ℕ) → i < n → onward n (i + 1) (made c (entry_at l (entry_bytes * i)) (entry_bytes * i) p) ≡ onward n i p
  turn n i p h =
      let more : n - i ≡ suc (n - (i + 1)) = omega arith in
      let next : entry_bytes * (i + 1) ≡ entry_bytes * i + entry_bytes = omega arith in
      rw (more, next)

  pub ends : (n i : ℕ) (p : Hart × List ℕ) → n - i ≡ 0 → onward n i p ≡ p
  ends n i p e = ap (λ (k : ℕ). ran c (entries_from l (entry_bytes * i) k) (entry_bytes * i) p) e

-- ---- what entries leave

pub length_entries : (l : List ℕ) (at n : ℕ) → length (entries_from l at n) ≡ n
length_entries l at zero = refl
length_entries l at (suc n) = ap suc (length_entries l (at + entry_bytes) n)

pub length_results : (c : Caps) (h : Hart) (es : List Entry) → length (results_of c h es) ≡ 3 * length es
length_results c h [] = refl
length_results c h (e ∷ es) = omega (arith, length_results c (entry_step c h e).hart es)

-- the last record, and the words one behind the other
ran_is : (c : Caps) (es : List Entry) (at : ℕ) (h : Hart) (out : List ℕ) → ran c es at (h, out) ≡ (hart_after c h es, put_run out at (results_of c h es))
ran_is c [] at h out = refl
ran_is c (e ∷ es) at h out =
    let next : at + 8 + 8 + 8 ≡ at + entry_bytes = omega arith in
    let t = entry_step c h e in
    ran_is c es (at + entry_bytes) t.hart (put_run out at (result_words (outcome_of t.answer)))
    ∙ ap (λ (k : ℕ). (hart_after c t.hart es, put_run (put_run out at (result_words (outcome_of t.answer))) k (results_of c t.hart es))) (sym next)

-- so the buffer has the words of the entries, and behind them what it had
pub results_put : (c : Caps) (l : List ℕ) (n : ℕ) (h : Hart) (out : List ℕ) → entry_bytes * n ≤ length out
    → ran c (entries_from l 0 n) 0 (h, out) ≡ (hart_after c h (entries_from l 0 n), image_of (results_of c h (entries_from l 0 n)) ++ drop (entry_bytes * n) out)
results_put c l n h out f =
    let es = entries_from l 0 n in
    let ws = results_of c h es in
    let size : length (image_of ws) ≡ entry_bytes * n = omega (arith, length_image ws, length_results c h es, length_entries l 0 n) in
    let at : 0 + length (image_of ws) ≡ entry_bytes * n = omega arith in
    ran_is c es 0 h out ∙ ap (λ (o : List ℕ). (hart_after c h es, o)) (run_image ws out 0 ∙ sets-eq (image_of ws) out 0 (omega arith) ∙ ap (λ (k : ℕ). image_of ws ++ drop k out) at)
