-- The waiting bytes and a fragment are one log: where its entries stand, and what is left of it.
use mathlib.Core.Path.{◌≡◌, sym, ap, ◌∙◌}
use mathlib.Core.List.{List, [], ◌∷◌, ◌++◌, append_assoc, append-nil}
use Prim.Native.Nat.{ℕ, suc, ◌+◌, ◌-◌, ◌*◌, ◌/◌, ◌≤◌, ◌<◌}
use native.Mathlib.Nat.{zero-add}
use native.Mathlib.Omega.{arith}
use lib.ListN.{length, take, drop, set, replicate, length-append, length-replicate, length-drop, take-append-drop, drop_of_length-le}
use lib.Seq.{sets, sets-eq, length-sets, length-take-le, take_at, drop-append-add}
use borrow.Rule.Slice.PartMut.{put_mid}
use Rattle.image.specs.Word.{from}
use Rattle.image.proofs.Bytes.{length_from, from_part, sets_append, sets_all}
use Rattle.image.proofs.Words.{word_front, word_behind}
use Rattle.replay.specs.Log.{entry_bytes, entry_at, whole_in, rest_of}
use Rattle.replay.specs.Replay.{held_in, waiting, wait_of, log_of}

-- ---- entries of two lists, one behind the other

pub entry_front : (l m : List ℕ) (at : ℕ) → at + entry_bytes ≤ length l → entry_at (l ++ m) at ≡ entry_at l at
entry_front l m at h = rw (word_front l m at (omega arith), word_front l m (at + 8) (omega arith), word_front l m (at + 16) (omega arith))

pub entry_behind : (l m : List ℕ) (at : ℕ) → entry_at (l ++ m) (length l + at) ≡ entry_at m at
entry_behind l m at =
    let e : (k : ℕ) → length l + at + k ≡ length l + (at + k) = λ k. omega arith in
    rw (e 8, e 16, word_behind l m at, word_behind l m (at + 8), word_behind l m (at + 16))

-- two lists stored one behind the other, where they fill what was there
filled : (a b l : List ℕ) → length l ≡ length a + length b → sets (sets l 0 a) (length a) b ≡ a ++ b
filled a b l n =
    ap (λ (k : ℕ). sets (sets l 0 a) k b) (sym (zero-add (length a))) ∙ sets_append a b l 0 ∙ sets_all (a ++ b) l (length-append a b ∙ sym n)

-- ---- what is left waits

pub length_wait : (r : List ℕ) → length r < entry_bytes → length (wait_of r) ≡ entry_bytes
length_wait r h = omega (arith, length-append r (replicate (entry_bytes - (1 + length r)) 0), length-replicate {A = ℕ} (entry_bytes - (1 + length r)) 0)

-- bytes stored behind the count and the n that wait, zeros behind them, and then the count
module _ (rest : List ℕ) (n : ℕ) (h : n + length rest < entry_bytes) where
  abbrev all : ℕ
  all = n + length rest

  pub kept : (w l ys : List ℕ) → length w ≡ entry_bytes → l ≡ sets w (1 + n) rest → ys ≡ replicate (length (take (entry_bytes - (1 + all)) (drop (1 + all) l))) 0
      → set (put_mid (1 + all) (entry_bytes - (1 + all)) l ys) 0 all ≡ wait_of (from w 1 n ++ rest)
  kept [] l ys m e z = absurd (omega arith)
  kept (b ∷ ws) l ys m e z =
      let w : List ℕ = b ∷ ws in
      let tail : List ℕ = take n ws ++ rest in
      let front : List ℕ = take (1 + n) w ++ rest in
      let one : 1 + n ≡ suc n = omega arith in
      let front-is : front ≡ b ∷ tail = ap (λ (k : ℕ). take k w ++ rest) one in
      let size : length (take (1 + n) w) ≡ 1 + n = length-take-le (1 + n) w (omega arith) in
      let whole : length l ≡ entry_bytes = ap length e ∙ length-sets w (1 + n) rest ∙ m in
      let stored : l ≡ front ++ drop (1 + n + length rest) w = e ∙ sets-eq rest w (1 + n) (omega arith) in
      let fits : length front ≡ 1 + all = omega (arith, length-append (take (1 + n) w) rest) in
      let before : take (1 + all) l ≡ b ∷ tail = ap (take (1 + all)) stored ∙ take_at front (drop (1 + n + length rest) w) (1 + all) fits ∙ front-is in
      let lent : length (drop (1 + all) l) ≡ length l - (1 + all) = length-drop (1 + all) l in
      let left : length (take (entry_bytes - (1 + all)) (drop (1 + all) l)) ≡ entry_bytes - (1 + all) =
      length-take-le (entry_bytes - (1 + all)) (drop (1 + all) l) (omega (arith, lent, whole)) in
      let behind : drop (entry_bytes - (1 + all)) (drop (1 + all) l) ≡ [] = drop_of_length-le (drop (1 + all) l) {i = entry_bytes - (1 + all)} (omega (arith, lent, whole)) in
      let zeros : ys ++ drop (entry_bytes - (1 + all)) (drop (1 + all) l) ≡ replicate (entry_bytes - (1 + all)) 0 =
      ap (λ (t : List ℕ). ys ++ t) behind ∙ append-nil ys ∙ z ∙ ap (λ (k : ℕ). replicate k 0) left in
      let waits : from w 1 n ≡ take n ws = from_part w 1 n (omega arith) in
      let count : length tail ≡ all = omega (arith, length-append (take n ws) rest, length-take-le n ws (omega arith)) in
      ap (λ (t : List ℕ). set (t ++ (ys ++ drop (entry_bytes - (1 + all)) (drop (1 + all) l))) 0 all) before
      ∙ ap (λ (t : List ℕ). all ∷ (tail ++ t)) zeros
      ∙ ap (λ (k : ℕ). k ∷ (tail ++ replicate (entry_bytes - (1 + k)) 0)) (sym count)
      ∙ sym (ap (λ (t : List ℕ). wait_of (t ++ rest)) waits)

-- ---- where the log's entries stand

-- the first one, put together
pub first_joined : (w f l : List ℕ) → length w ≡ entry_bytes → held_in w < entry_bytes → entry_bytes ≤ held_in w + length f
    → l ≡ sets (sets (replicate entry_bytes 0) 0 (take (held_in w) (drop 1 w))) (held_in w) (take (entry_bytes - held_in w) f)
    → entry_at l 0 ≡ entry_at (log_of w f) 0
first_joined w f l m h g e =
    let n = held_in w in
    let a = waiting w in
    let b : List ℕ = take (entry_bytes - n) f in
    let waits : a ≡ take n (drop 1 w) = from_part w 1 n (omega arith) in
    let size : length a ≡ n = length_from w 1 n in
    let more : length b ≡ entry_bytes - n = length-take-le (entry_bytes - n) f (omega arith) in
    let zeros : length (replicate {A = ℕ} entry_bytes 0) ≡ entry_bytes = length-replicate {A = ℕ} entry_bytes 0 in
    let joined : l ≡ a ++ b =
    e ∙ ap (λ (t : List ℕ). sets (sets (replicate entry_bytes 0) 0 t) n b) (sym waits) ∙ ap (λ (k : ℕ). sets (sets (replicate entry_bytes 0) 0 a) k b) (sym size) ∙ filled a b (replicate entry_bytes 0) (omega arith) in
    let split : log_of w f ≡ (a ++ b) ++ drop (entry_bytes - n) f =
    ap (λ (t : List ℕ). a ++ t) (sym (take-append-drop (entry_bytes - n) f)) ∙ sym (append_assoc a b (drop (entry_bytes - n) f)) in
    ap (λ (t : List ℕ). entry_at t 0) joined ∙ sym (entry_front (a ++ b) (drop (entry_bytes - n) f) 0 (omega (arith, length-append a b))) ∙ ap (λ (t : List ℕ). entry_at t 0) (sym split)

-- the others, which the fragment has whole
pub later_whole : (w f : List ℕ) (at : ℕ) → held_in w ≤ at → entry_at f (at - held_in w) ≡ entry_at (log_of w f) at
later_whole w f at h =
    let e : length (waiting w) + (at - held_in w) ≡ at = omega (arith, length_from w 1 (held_in w)) in
    sym (entry_behind (waiting w) f (at - held_in w)) ∙ ap (entry_at (log_of w f)) e

-- ---- what is left of the log

module _ (w f : List ℕ) where
  pub length_log : length (log_of w f) ≡ held_in w + length f
  length_log = length-append (waiting w) f ∙ ap (λ (n : ℕ). n + length f) (length_from w 1 (held_in w))

  -- of which the code has counted n whole entries
  module _ (n : ℕ) (e : n ≡ (held_in w + length f) / entry_bytes) where
    pub whole_counted : n ≡ whole_in (log_of w f)
    whole_counted = e ∙ ap (λ (k : ℕ). k / entry_bytes) (sym length_log)

    pub all_left : n ≡ 0 → log_of w f ≡ rest_of (log_of w f)
    all_left z = ap (λ (k : ℕ). drop (entry_bytes * k) (log_of w f)) (sym z ∙ whole_counted)

    pub some_left : held_in w ≤ entry_bytes * n → drop (entry_bytes * n - held_in w) f ≡ rest_of (log_of w f)
    some_left h =
        let at : length (waiting w) + (entry_bytes * n - held_in w) ≡ entry_bytes * n = omega (arith, length_from w 1 (held_in w)) in
        sym (drop-append-add (waiting w) f (entry_bytes * n - held_in w)) ∙ ap (λ (k : ℕ). drop k (log_of w f)) at ∙ ap (λ (k : ℕ). drop (entry_bytes * k) (log_of w f)) whole_counted
