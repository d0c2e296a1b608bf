-- A call log gives what its entries give one by one, wherever it is cut into fragments; what is
-- legal stays so, and what is refused is refused in its order.
use mathlib.Core.Path.{◌≡◌, refl, sym, ap, ap₂, ◌∙◌, subst}
use mathlib.Core.Bool.{Bool, true, false, not, cond, ◌&&◌}
use mathlib.Core.List.{List, [], ◌∷◌, ◌++◌, append_assoc, append-nil}
use mathlib.Core.Logic.{◌↔◌}
use Prim.Native.Nat.{ℕ, zero, suc, ◌+◌, ◌-◌, ◌*◌, ◌%◌, ◌≤◌, ◌<◌}
use native.Mathlib.Nat.{zero-add}
use native.Mathlib.Omega.{arith}
use lib.Dec.{eqb, ltb, leb}
use lib.ListN.{length, take, drop, length-append, length-drop, take-append-drop}
use lib.Seq.{length-take-le, take-length, drop-append-add, get_or-drop, take_at}
use borrow.Author.Tests.{eqb-true, eqb-false, leb-true, leb-false, eq-eqb, lt-ltb, le-ltb, le-leb}
use Rattle.std.specs.Prelude.{Ok, Err, Option, Some, None}
use Rattle.bits.specs.Word.{Fits}
use Rattle.bits.proofs.Bools.{left, right, pair}
use Rattle.first.specs.Laws.{Each}
use Rattle.first.specs.First.{first_of}
use Rattle.first.proofs.First.{ascending}
use Rattle.image.specs.Inner.{Bytes, zeros}
use Rattle.image.specs.Word.{word_at, image_of}
use Rattle.image.proofs.Bytes.{bytes_from, from_part, from_front, from_behind}
use Rattle.image.proofs.Laws.{word_fits, length_image, image_append}
use Rattle.hart.specs.Laws.{Legal}
use Rattle.hart.specs.Caps.{legal_caps}
use Rattle.hart.specs.Legal.{legal_hart}
use Rattle.hart.specs.Answers.{refusal_number}
use Rattle.hart.specs.declared.caps.Caps.{Caps}
use Rattle.hart.specs.declared.record.Hart.{Hart}
use Rattle.hart.specs.declared.answer.Refusal.{Refusal}
use Rattle.hart.specs.declared.answer.Refusal.TheVariants.{BadCaps, BadHart, EntryWaits, ShortBuffer}
use Rattle.hart.specs.declared.answer.Effect.TheVariants.{Nothing}
use Rattle.lent.specs.Images.{caps_bytes, hart_bytes, caps_at, hart_at, bytes_of, is_caps, is_hart}
use Rattle.lent.specs.Outcome.{outcome_of}
use Rattle.lent.specs.Inner.{judged_under, judged}
use Rattle.lent.specs.declared.outcome.Outcome.{Outcome}
use Rattle.lent.proofs.Views.{bytes_hart, hart_bytes_lem}
use Rattle.registers.specs.Inner.{told}
use Rattle.calls.specs.Calls.{Call, Read, Write, Take, host_of, step_of, is_start}
use Rattle.calls.specs.declared.steps.Taken.TheVariants.{Inject, Mret, Sret}
use Rattle.calls.proofs.Goes.{entry_goes}
use Rattle.replay.specs.Log.{entry_bytes, call_of, entry_at, entries_from, whole_in, entries_of, rest_of}
use Rattle.replay.specs.Replay.{call_step, entry_step, hart_after, result_words, results_of, held_in, waiting, is_wait, wait_of, log_of, Given, replayed, replay_of, end_of}
use Rattle.replay.specs.declared.log.Entry.{Entry}
use Rattle.replay.proofs.Runs.{length_entries, length_results}
use Rattle.replay.proofs.Waits.{entry_front, entry_behind, length_wait}
use Rattle.laws.specs.Refusals.{◌when◌, number_of, applies, of_replay, of_end}
use Rattle.laws.specs.Laws.{FitsCall}
use Rattle.laws.specs.Logs.{ReplayInOrder, ReplayLowestRefused, EndInOrder, EndLowestRefused, Stays, RefusedFragmentStays, ReplayKeepsLegal, ReplayKeepsWait, alone, image_alone, words_alone, AsAlone, EachIsItsCall, Fragment, ByteFragments, joined, Accepted, left_by, completed_by, put_out, put_out_by, CutAnywhere, StartHoldsNothing, end_after, EndOfWholeLog, LogExamplesHold}
use Rattle.laws.specs.Logs as logs
use Rattle.laws.proofs.InOrder.{refused_not, in_order, is_lowest}
use Rattle.laws.proofs.CallsKeepLegal.{Has32, step_keeps_legal, step_has_32, hart_has_32, image_bytes, image_sized, image_good, record_legal}

-- ---- two lists of bytes, one behind the other

-- two lists of bytes are bytes ..
bytes_append : (l m : List ℕ) → Bytes l → Bytes m → Bytes (l ++ m)
bytes_append [] m b d i = d i
bytes_append (x ∷ l) m b d zero = b 0
bytes_append (x ∷ l) m b d (suc i) = bytes_append l m (λ j. b (suc j)) d i

-- .. and so is what stands behind some of them ..
bytes_drop : (n : ℕ) (l : List ℕ) → Bytes l → Bytes (drop n l)
bytes_drop n l b i = subst (λ (k : ℕ). k < 256) (sym (get_or-drop n l i 0)) (b (n + i))

-- .. and a log of fragments of bytes
joined_bytes : (xs : List Fragment) → ByteFragments xs → Bytes (joined xs)
joined_bytes [] b i = omega arith
joined_bytes (x ∷ xs) b i = bytes_append x.bytes (joined xs) b.0 (joined_bytes xs b.1) i

-- ---- the entries of a log

-- m + n entries are m, and n behind them
entries_more : (l : List ℕ) (at m n : ℕ) → entries_from l at (m + n) ≡ entries_from l at m ++ entries_from l (at + entry_bytes * m) n
entries_more l at zero n =
    let e : at + entry_bytes * 0 ≡ at = omega arith in
    rw (e, zero-add n)
entries_more l at (suc m) n =
    let e : at + entry_bytes * suc m ≡ at + entry_bytes + entry_bytes * m = omega arith in
    let z : suc m + n ≡ suc (m + n) = omega arith in
    rw (e, z) (ap (λ (es : List Entry). entry_at l at ∷ es) (entries_more l (at + entry_bytes) m n))

-- the entries in the first of two lists ..
entries_front : (l m : List ℕ) (at n : ℕ) → at + entry_bytes * n ≤ length l → entries_from (l ++ m) at n ≡ entries_from l at n
entries_front l m at zero h = refl
entries_front l m at (suc n) h =
    rw (entry_front l m at (omega arith), entries_front l m (at + entry_bytes) n (omega arith))

-- .. and in the second
entries_behind : (l m : List ℕ) (at n : ℕ) → entries_from (l ++ m) (length l + at) n ≡ entries_from m at n
entries_behind l m at zero = refl
entries_behind l m at (suc n) =
    let e : length l + at + entry_bytes ≡ length l + (at + entry_bytes) = omega arith in
    rw (e, entry_behind l m at, entries_behind l m (at + entry_bytes) n)

-- a log that begins with n whole entries, p: how many it has, which, and what is left
module _ (p q : List ℕ) (n : ℕ) (h : length p ≡ entry_bytes * n) where
  whole_split : whole_in (p ++ q) ≡ n + whole_in q
  whole_split = omega (arith, length-append p q)

  entries_split : entries_of (p ++ q) ≡ entries_from p 0 n ++ entries_of q
  entries_split =
      let e : 0 + entry_bytes * n ≡ length p + 0 = omega arith in
      ap (entries_from (p ++ q) 0) whole_split
      ∙ entries_more (p ++ q) 0 n (whole_in q)
      ∙ ap₂ ◌++◌ (entries_front p q 0 n (omega arith)) (ap (λ (k : ℕ). entries_from (p ++ q) k (whole_in q)) e ∙ entries_behind p q 0 (whole_in q))

  rest_split : rest_of (p ++ q) ≡ rest_of q
  rest_split =
      let e : entry_bytes * (n + whole_in q) ≡ length p + entry_bytes * whole_in q = omega arith in
      ap (λ (k : ℕ). drop (entry_bytes * k) (p ++ q)) whole_split ∙ ap (λ (k : ℕ). drop k (p ++ q)) e ∙ drop-append-add p q (entry_bytes * whole_in q)

-- how much is left ..
rest_length : (l : List ℕ) → length (rest_of l) ≡ length l % entry_bytes
rest_length l = omega (arith, length-drop (entry_bytes * whole_in l) l)

-- .. which is less than an entry
rest_short : (l : List ℕ) → length (rest_of l) < entry_bytes
rest_short l = omega (arith, rest_length l)

-- a log l that goes on with m
module _ (l m : List ℕ) where
  -- the bytes of its whole entries
  abbrev wholes : List ℕ
  wholes = take (entry_bytes * whole_in l) l

  whole_length : length wholes ≡ entry_bytes * whole_in l
  whole_length = length-take-le (entry_bytes * whole_in l) l (omega arith)

  -- they and what is left are the log
  parted : wholes ++ rest_of l ≡ l
  parted = take-append-drop (entry_bytes * whole_in l) l

  regrouped : l ++ m ≡ wholes ++ (rest_of l ++ m)
  regrouped = ap (λ (k : List ℕ). k ++ m) (sym parted) ∙ append_assoc wholes (rest_of l) m

  -- l and m have the entries of l, and then those of what l leaves with m
  whole_cut : whole_in (l ++ m) ≡ whole_in l + whole_in (rest_of l ++ m)
  whole_cut = ap whole_in regrouped ∙ whole_split wholes (rest_of l ++ m) (whole_in l) whole_length

  entries_cut : entries_of (l ++ m) ≡ entries_of l ++ entries_of (rest_of l ++ m)
  entries_cut =
      ap entries_of regrouped
      ∙ entries_split wholes (rest_of l ++ m) (whole_in l) whole_length
      ∙ ap (λ (es : List Entry). es ++ entries_of (rest_of l ++ m)) (sym (entries_front wholes (rest_of l) 0 (whole_in l) (omega (arith, whole_length))) ∙ ap (λ (k : List ℕ). entries_from k 0 (whole_in l)) parted)

  -- and leave what these leave
  rest_cut : rest_of (l ++ m) ≡ rest_of (rest_of l ++ m)
  rest_cut = ap rest_of regrouped ∙ rest_split wholes (rest_of l ++ m) (whole_in l) whole_length

-- ---- entries on a record

-- a legal record with all its general registers
record Sound (c : Caps) (h : Hart) : Type 0 where
  legal : Legal c h
  registers : Has32 h

-- the words that an entry hands to its call have 64 bits
abbrev FitsEntry : Entry → Type 0
FitsEntry e = Fits e.first × Fits e.second

-- as those in bytes have
entries_fit : (l : List ℕ) (at n : ℕ) → Bytes l → Each FitsEntry (entries_from l at n)
entries_fit l at zero b = tt
entries_fit l at (suc n) b = ((word_fits l (at + 8) b, word_fits l (at + 16) b), entries_fit l (at + entry_bytes) n b)

-- a call, if there is one, has words of 64 bits and is no start
abbrev Made : Option Call → Type 0
Made None = Unit {0}
Made (Some call) = FitsCall call × (is_start call ≡ false)

-- so it is of an entry's call
made : (e : Entry) → FitsEntry e → Made (call_of e)
unfolding call_of
made e f =
    go (eqb e.kind 0 && eqb e.second 0) (eqb e.kind 1) (eqb e.kind 2 && eqb e.second 0)
    (eqb e.kind 3 && (eqb e.first 0 && eqb e.second 0)) (eqb e.kind 4 && (eqb e.first 0 && eqb e.second 0))
  where
    go : (r w i m s : Bool)
        → Made (cond r (Some (Read (host_of 0 0 0) e.first)) (cond w (Some (Write e.first e.second)) (cond i (Some (Take (Inject e.first))) (cond m (Some (Take Mret)) (cond s (Some (Take Sret)) None)))))
    go true w i m s = (tt, refl)
    go false true i m s = (f.1, refl)
    go false false true m s = (f.0, refl)
    go false false false true s = (tt, refl)
    go false false false false true = (tt, refl)
    go false false false false false = tt

-- a sound record stays sound, by one call ..
step_sound : (c : Caps) (h : Hart) (k : Option Call) → Made k → Sound c h → Sound c (call_step c h k).hart
step_sound c h None m g = g
step_sound c h (Some call) m g = record { legal = step_keeps_legal c h call g.legal m.0; registers = step_has_32 c h call g.registers }

-- .. and by all entries
entries_sound : (c : Caps) (h : Hart) (es : List Entry) → Each FitsEntry es → Sound c h → Sound c (hart_after c h es)
entries_sound c h [] f g = g
entries_sound c h (e ∷ es) f g = entries_sound c (entry_step c h e).hart es f.1 (step_sound c h (call_of e) (made e f.0) g)

-- the record after two lists of entries ..
after_append : (c : Caps) (h : Hart) (es fs : List Entry) → hart_after c h (es ++ fs) ≡ hart_after c (hart_after c h es) fs
after_append c h [] fs = refl
after_append c h (e ∷ es) fs = after_append c (entry_step c h e).hart es fs

-- .. and what they put out
results_append : (c : Caps) (h : Hart) (es fs : List Entry) → results_of c h (es ++ fs) ≡ results_of c h es ++ results_of c (hart_after c h es) fs
results_append c h [] fs = refl
results_append c h (e ∷ es) fs = ap (λ (l : List ℕ). result_words (outcome_of (entry_step c h e).answer) ++ l) (results_append c (entry_step c h e).hart es fs)

-- ---- entries on the two images

-- a legal hart image holds a sound record ..
image_sound : (c s : List ℕ) → Bytes c → Bytes s → is_caps c ≡ true → is_hart (caps_at c) s ≡ true → Sound (caps_at c) (hart_at s)
image_sound c s bc bs ok l = record { legal = record_legal c bc ok s (record { bytes = bs; legal = l }); registers = hart_has_32 s }

-- .. of which it is the image
image_back : (c s : List ℕ) → Bytes s → is_hart (caps_at c) s ≡ true → bytes_of (hart_at s) ≡ s
unfolding is_hart
image_back c s bs l = bytes_hart s (eqb-true (length s) hart_bytes (left (eqb (length s) hart_bytes) (legal_hart (caps_at c) (hart_at s)) l)) bs

-- the image of a sound record holds that record ..
record_back : (c : Caps) (h : Hart) → Sound c h → hart_at (bytes_of h) ≡ h
record_back c h g = hart_bytes_lem h g.legal.hart_fits g.registers

-- .. and is legal
image_legal : (c : List ℕ) (h : Hart) → Sound (caps_at c) h → is_hart (caps_at c) (bytes_of h) ≡ true
image_legal c h g = (image_good c h g.legal g.registers).legal

-- legal images aren't refused
none_judged : (c s : List ℕ) → is_caps c ≡ true → is_hart (caps_at c) s ≡ true → judged c s ≡ Ok tt
unfolding is_caps judged judged_under
none_judged c s ok l = rw (left (eqb (length c) caps_bytes) (legal_caps (caps_at c)) ok, right (eqb (length c) caps_bytes) (legal_caps (caps_at c)) ok, l)

module _ (c : List ℕ) (ok : is_caps c ≡ true) where
  -- a call made alone gives what the step gives
  alone_is : (h : Hart) (k : Option Call) → Made k → Sound (caps_at c) h
      → alone c (bytes_of h) k ≡ (outcome_of (call_step (caps_at c) h k).answer, bytes_of (call_step (caps_at c) h k).hart)
  unfolding told
  alone_is h None m g = refl
  alone_is h (Some call) m g =
      let s = bytes_of h in
      let t = step_of (caps_at c) h call in
      let k = step_sound (caps_at c) h (Some call) m g in
      sym (entry_goes call c s m.1 (none_judged c s ok (image_legal c h g)) (bytes_of t.hart) (image_sized t.hart k.registers) (image_bytes h) (image_bytes t.hart)
      (ap (λ (x : Hart). (t.answer, x)) (record_back (caps_at c) t.hart k) ∙ ap (λ (x : Hart). told (step_of (caps_at c) x call)) (sym (record_back (caps_at c) h g))))

  -- entries made one by one leave the image of the record that they leave ..
  images_alone : (h : Hart) (es : List Entry) → Each FitsEntry es → Sound (caps_at c) h → image_alone c (bytes_of h) es ≡ bytes_of (hart_after (caps_at c) h es)
  images_alone h [] f g = refl
  images_alone h (e ∷ es) f g =
      let m = made e f.0 in
      ap (λ (r : Outcome × List ℕ). image_alone c r.1 es) (alone_is h (call_of e) m g) ∙ images_alone (entry_step (caps_at c) h e).hart es f.1 (step_sound (caps_at c) h (call_of e) m g)

  -- .. and give what they put out
  words_alone_lem : (h : Hart) (es : List Entry) → Each FitsEntry es → Sound (caps_at c) h → words_alone c (bytes_of h) es ≡ results_of (caps_at c) h es
  words_alone_lem h [] f g = refl
  words_alone_lem h (e ∷ es) f g =
      let m = made e f.0 in
      let is = alone_is h (call_of e) m g in
      ap (λ (r : Outcome × List ℕ). result_words r.0 ++ words_alone c r.1 es) is
      ∙ ap (λ (l : List ℕ). result_words (outcome_of (entry_step (caps_at c) h e).answer) ++ l) (words_alone_lem (entry_step (caps_at c) h e).hart es f.1 (step_sound (caps_at c) h (call_of e) m g))

-- ---- the bytes that wait

-- less than an entry may wait
waits : (r : List ℕ) → length r < entry_bytes → is_wait (wait_of r) ≡ true
unfolding is_wait
waits r h =
    pair (eqb (length (wait_of r)) entry_bytes) (ltb (length r) entry_bytes) (eq-eqb (length (wait_of r)) entry_bytes (length_wait r h)) (lt-ltb (length r) entry_bytes h)

-- and so what a log leaves
rest_waits : (l : List ℕ) → is_wait (wait_of (rest_of l)) ≡ true
rest_waits l = waits (rest_of l) (rest_short l)

-- what waits is what was let wait
waiting_wait : (r : List ℕ) → waiting (wait_of r) ≡ r
waiting_wait r =
    let z = zeros (entry_bytes - (1 + length r)) in
    from_behind (length r ∷ []) (r ++ z) 0 (length r) ∙ from_front r z 0 (length r) (omega arith) ∙ from_part r 0 (length r) (omega arith) ∙ take-length r

-- what waits in bytes is bytes
waiting_bytes : (w : List ℕ) → Bytes w → Bytes (waiting w)
waiting_bytes w b = bytes_from w 1 (held_in w) b

-- ---- a fragment, by its three tests

-- two images and waiting bytes that are accepted
record Lent (c s w : List ℕ) : Type 0 where
  caps : is_caps c ≡ true
  hart : is_hart (caps_at c) s ≡ true
  wait : is_wait w ≡ true

module _ (c s w f out : List ℕ) where
  -- refused, with all bytes as they were
  abbrev refusing : Refusal → Given
  refusing why = (outcome_of (Err why), s, w, out)

  -- by the tests of the capability image, of the hart image and what waits, and of the buffer
  abbrev replay_by : Bool → Bool → Bool → Given
  replay_by a b t = cond a (cond b (cond t (replayed (caps_at c) (hart_at s) (log_of w f) out) (refusing ShortBuffer)) (refusing BadHart)) (refusing BadCaps)

  -- the last of them: the buffer is as long as what is put out
  abbrev asked : ℕ
  asked = entry_bytes * whole_in (log_of w f)

  abbrev is_room : Bool
  is_room = leb asked (length out)

  -- a fragment gives what its tests say
  by_tests : replay_of c s w f out ≡ replay_by (is_caps c) (is_hart (caps_at c) s && is_wait w) is_room
  unfolding replay_of
  by_tests = refl

  -- its refusal is the first of the order
  replay_refusal : (replay_of c s w f out).0.refusal ≡ first_of 0 number_of applies (of_replay c s w f out)
  replay_refusal = ap (λ (r : Given). r.0.refusal) by_tests ∙ go (is_caps c) (is_hart (caps_at c) s && is_wait w) is_room refl
    where
      go : (a b t : Bool) → is_room ≡ t
          → (replay_by a b t).0.refusal ≡ first_of 0 number_of applies (BadCaps when not a ∷ BadHart when not b ∷ ShortBuffer when ltb (length out) asked ∷ [])
      go false b t e = refl
      go true false t e = refl
      go true true true e = rw (le-ltb (length out) asked (leb-true asked (length out) e))
      go true true false e = rw (lt-ltb (length out) asked (leb-false asked (length out) e))

  -- what is so where it is refused, and where it is done, is so of what it gives
  by_outcome : (P : Given → Type 0) → ((why : Refusal) → P (refusing why)) → P (replayed (caps_at c) (hart_at s) (log_of w f) out) → P (replay_of c s w f out)
  by_outcome P p q = subst P (sym by_tests) (go (is_caps c) (is_hart (caps_at c) s && is_wait w) is_room)
    where
      go : (a b t : Bool) → P (replay_by a b t)
      go false b t = p BadCaps
      go true false t = p BadHart
      go true true false = p ShortBuffer
      go true true true = q

  -- what is accepted is lent as it should be, with room for what is put out ..
  accepted_lent : (replay_of c s w f out).0.refusal ≡ 0 → Lent c s w × (asked ≤ length out)
  accepted_lent z = go (is_caps c) (is_hart (caps_at c) s && is_wait w) is_room refl refl refl (ap (λ (r : Given). r.0.refusal) (sym by_tests) ∙ z)
    where
      go : (a b t : Bool) → is_caps c ≡ a → (is_hart (caps_at c) s && is_wait w) ≡ b → is_room ≡ t → (replay_by a b t).0.refusal ≡ 0 → Lent c s w × (asked ≤ length out)
      go false b t i j k z = refused_not BadCaps z
      go true false t i j k z = refused_not BadHart z
      go true true false i j k z = refused_not ShortBuffer z
      go true true true i j k z = (record { caps = i; hart = left (is_hart (caps_at c) s) (is_wait w) j; wait = right (is_hart (caps_at c) s) (is_wait w) j }, leb-true asked (length out) k)

  -- .. and what is lent so is done
  replay_done : Lent c s w → asked ≤ length out → replay_of c s w f out ≡ replayed (caps_at c) (hart_at s) (log_of w f) out
  replay_done l room =
      by_tests
      ∙ ap (λ (a : Bool). replay_by a (is_hart (caps_at c) s && is_wait w) is_room) l.caps
      ∙ ap₂ (λ (b t : Bool). replay_by true b t) (pair (is_hart (caps_at c) s) (is_wait w) l.hart l.wait) (le-leb asked (length out) room)

pub replay_in_order : ReplayInOrder
replay_in_order c s w f out = in_order (replay_of c s w f out).0.refusal (of_replay c s w f out) (replay_refusal c s w f out)

pub replay_lowest_refused : ReplayLowestRefused
replay_lowest_refused c s w f out = is_lowest (replay_of c s w f out).0.refusal (of_replay c s w f out) (replay_in_order c s w f out) (ascending number_of (of_replay c s w f out) refl)

pub refused_fragment_stays : RefusedFragmentStays
refused_fragment_stays c s w f out =
    by_outcome c s w f out (λ (r : Given). (r.0.refusal ≡ 0 → ⊥) → Stays r s w out)
    (λ why z. record { answer = refl; effect = refl; hart = refl; wait = refl; out = refl })
    (λ z. absurd (z refl))

pub replay_keeps_wait : ReplayKeepsWait
replay_keeps_wait c s w f out h = by_outcome c s w f out (λ (r : Given). is_wait r.2 ≡ true) (λ why. h) (rest_waits (log_of w f))

-- ---- a fragment on bytes

module _ (c s w f : List ℕ) (bc : Bytes c) (bs : Bytes s) (bw : Bytes (waiting w)) (bf : Bytes f) (ok : is_caps c ≡ true) (l : is_hart (caps_at c) s ≡ true) where
  -- the words of its entries have 64 bits
  log_fits : Each FitsEntry (entries_of (log_of w f))
  log_fits = entries_fit (log_of w f) 0 (whole_in (log_of w f)) (bytes_append (waiting w) f bw bf)

  -- it leaves a sound record
  after_sound : Sound (caps_at c) (hart_after (caps_at c) (hart_at s) (entries_of (log_of w f)))
  after_sound = entries_sound (caps_at c) (hart_at s) (entries_of (log_of w f)) log_fits (image_sound c s bc bs ok l)

  -- it gives what its entries give that are made one by one
  done_alone : (out : List ℕ) → AsAlone (replayed (caps_at c) (hart_at s) (log_of w f) out) c s (entries_of (log_of w f)) out
  done_alone out =
      let es = entries_of (log_of w f) in
      let n = length_entries (log_of w f) 0 (whole_in (log_of w f)) in
      let g = image_sound c s bc bs ok l in
      let back = image_back c s bs l in
      record {
        answer = sym n;
        hart = sym (images_alone c ok (hart_at s) es log_fits g) ∙ ap (λ (k : List ℕ). image_alone c k es) back;
        out = ap₂ (λ (ws : List ℕ) (k : ℕ). image_of ws ++ drop (entry_bytes * k) out) (sym (words_alone_lem c ok (hart_at s) es log_fits g) ∙ ap (λ (k : List ℕ). words_alone c k es) back) (sym n);
      }

pub replay_keeps_legal : ReplayKeepsLegal
replay_keeps_legal c s w f out bc bs bw bf ok l =
    by_outcome c s w f out (λ (r : Given). is_hart (caps_at c) r.1 ≡ true) (λ why. l)
    (image_legal c (hart_after (caps_at c) (hart_at s) (entries_of (log_of w f))) (after_sound c s w f bc bs (waiting_bytes w bw) bf ok l))

pub each_is_its_call : EachIsItsCall
each_is_its_call c s w f out bc bs bw bf z =
    let a = accepted_lent c s w f out z in
    subst (λ (r : Given). AsAlone r c s (entries_of (log_of w f)) out) (sym (replay_done c s w f out a.0 a.1))
    (done_alone c s w f bc bs (waiting_bytes w bw) bf a.0.caps a.0.hart out)

-- ---- cuts

-- what is left, how many entries are completed and what is put out are those of a log, on a record
record Whole (c : Caps) (h : Hart) (log : List ℕ) (p : List ℕ × List ℕ) (n : ℕ) (out : List ℕ) : Type 0 where
  left : p ≡ (bytes_of (hart_after c h (entries_of log)), wait_of (rest_of log))
  completed : n ≡ whole_in log
  put_out : out ≡ image_of (results_of c h (entries_of log))

-- what is done puts out what its entries do
put_done : (c : Caps) (h : Hart) (l out : List ℕ) → put_out (replayed c h l out) ≡ image_of (results_of c h (entries_of l))
put_done c h l out =
    let ws = results_of c h (entries_of l) in
    take_at (image_of ws) (drop (entry_bytes * whole_in l) out) (entry_bytes * whole_in l) (omega (arith, length_image ws, length_results c h (entries_of l), length_entries l 0 (whole_in l)))

-- what l gives, and then what it leaves with m, is what the two give as one log
done_more : (c : Caps) (h : Hart) (l m out : List ℕ) {p : List ℕ × List ℕ} {n : ℕ} {put : List ℕ}
    → Whole c (hart_after c h (entries_of l)) (rest_of l ++ m) p n put → Whole c h (l ++ m) p (whole_in l + n) (put_out (replayed c h l out) ++ put)
done_more c h l m out more =
    let es = entries_of l in
    let fs = entries_of (rest_of l ++ m) in
    record {
      left = more.left ∙ sym (ap₂ (λ (g : Hart) (k : List ℕ). (bytes_of g, wait_of k)) (ap (hart_after c h) (entries_cut l m) ∙ after_append c h es fs) (rest_cut l m));
      completed = ap (λ (k : ℕ). whole_in l + k) more.completed ∙ sym (whole_cut l m);
      put_out = ap₂ ◌++◌ (put_done c h l out) more.put_out ∙ sym (ap (λ (k : List Entry). image_of (results_of c h k)) (entries_cut l m) ∙ ap image_of (results_append c h es fs) ∙ image_append (results_of c h es) (results_of c (hart_after c h es) fs));
    }

-- where less than an entry waits, nothing is whole
none_whole : (c : Caps) (h : Hart) (r : List ℕ) → length r < entry_bytes → Whole c h r (bytes_of h, wait_of r) 0 []
none_whole c h r k =
    let z : whole_in r ≡ 0 = omega arith in
    record {
      left = sym (ap (λ (n : ℕ). (bytes_of (hart_after c h (entries_from r 0 n)), wait_of (drop (entry_bytes * n) r))) z);
      completed = sym z;
      put_out = sym (ap (λ (n : ℕ). image_of (results_of c h (entries_from r 0 n))) z);
    }

module _ (c : List ℕ) (bc : Bytes c) where
  -- what fragments give, on a hart image and waiting bytes, is that of a log
  abbrev WholeBy : List ℕ → List ℕ → List ℕ → List Fragment → Type 0
  WholeBy log s w xs = Whole (caps_at c) (hart_at s) log (left_by c (s, w) xs) (completed_by c (s, w) xs) (put_out_by c (s, w) xs)

  -- so it is on a legal image and what a fragment may leave
  abbrev Follow : List Fragment → Type 0
  Follow xs =
      (s r : List ℕ) → Bytes s → Bytes r → is_hart (caps_at c) s ≡ true → length r < entry_bytes → ByteFragments xs → Accepted c (s, wait_of r) xs
      → WholeBy (r ++ joined xs) s (wait_of r) xs

  -- one fragment before others, for which it is so
  one_more : (s w : List ℕ) (x : Fragment) (xs : List Fragment) → Follow xs → Bytes s → Bytes (waiting w) → ByteFragments (x ∷ xs) → Accepted c (s, w) (x ∷ xs)
      → WholeBy (log_of w (joined (x ∷ xs))) s w (x ∷ xs)
  one_more s w x xs next bs bw bx a =
      let f = x.bytes in
      let l = log_of w f in
      let k = accepted_lent c s w f x.out a.0 in
      let e = replay_done c s w f x.out k.0 k.1 in
      let h = hart_after (caps_at c) (hart_at s) (entries_of l) in
      let g = after_sound c s w f bc bs bw bx.0 k.0.caps k.0.hart in
      let b = bytes_drop (entry_bytes * whole_in l) l (bytes_append (waiting w) f bw bx.0) in
      let p : List ℕ × List ℕ = (bytes_of h, wait_of (rest_of l)) in
      let more : Accepted c p xs = subst (λ (r : Given). Accepted c (logs.left r) xs) e a.1 in
      let rest : Whole (caps_at c) h (rest_of l ++ joined xs) (left_by c p xs) (completed_by c p xs) (put_out_by c p xs) =
      rw (record_back (caps_at c) h g) at (next (bytes_of h) (rest_of l) (image_bytes h) b (image_legal c h g) (rest_short l) bx.1 more) in
      subst (λ (r : Given). Whole (caps_at c) (hart_at s) (log_of w (joined (x ∷ xs))) (left_by c (logs.left r) xs) (r.0.answer + completed_by c (logs.left r) xs) (put_out r ++ put_out_by c (logs.left r) xs)) (sym e)
      (rw (append_assoc (waiting w) f (joined xs)) at (done_more (caps_at c) (hart_at s) l (joined xs) x.out rest))

  -- it is so of all fragments ..
  follow : (xs : List Fragment) → Follow xs
  follow [] s r bs br l k bx a =
      let none : Whole (caps_at c) (hart_at s) r (s, wait_of r) 0 [] = rw (image_back c s bs l) at (none_whole (caps_at c) (hart_at s) r k) in
      rw (append-nil r) none
  follow (x ∷ xs) s r bs br l k bx a =
      subst (λ (q : List ℕ). WholeBy (q ++ joined (x ∷ xs)) s (wait_of r) (x ∷ xs)) (waiting_wait r)
      (one_more s (wait_of r) x xs (follow xs) bs (subst Bytes (sym (waiting_wait r)) br) bx a)

  -- .. and of at least one on any waiting bytes
  whole_by : (s w : List ℕ) (x : Fragment) (xs : List Fragment) → Bytes s → Bytes w → ByteFragments (x ∷ xs) → Accepted c (s, w) (x ∷ xs)
      → WholeBy (log_of w (joined (x ∷ xs))) s w (x ∷ xs)
  whole_by s w x xs bs bw bx a = one_more s w x xs (follow xs) bs (waiting_bytes w bw) bx a

pub cut_anywhere : CutAnywhere
cut_anywhere c s w x xs out bc bs bw bx a room =
    let log = log_of w (joined (x ∷ xs)) in
    let all = whole_by c bc s w x xs bs bw bx a in
    let e = replay_done c s w (joined (x ∷ xs)) out (accepted_lent c s w x.bytes x.out a.0).0 room in
    record {
      accepted = ap (λ (r : Given). r.0.refusal) e;
      left = all.left ∙ sym (ap logs.left e);
      completed = all.completed ∙ sym (ap (λ (r : Given). r.0.answer) e);
      put_out = all.put_out ∙ sym (ap put_out e ∙ put_done (caps_at c) (hart_at s) log out);
    }

-- ---- the end

module _ (c s w : List ℕ) where
  -- by the tests of the capability image, of the hart image and what waits, and of how much waits
  abbrev end_by : Bool → Bool → Bool → Outcome
  end_by a b t = cond a (cond b (cond t (outcome_of (Ok (0, Nothing))) (outcome_of (Err EntryWaits))) (outcome_of (Err BadHart))) (outcome_of (Err BadCaps))

  -- its refusal is the first of the order
  end_refusal : (end_of c s w).refusal ≡ first_of 0 number_of applies (of_end c s w)
  unfolding end_of
  end_refusal = go (is_caps c) (is_hart (caps_at c) s && is_wait w) (eqb (held_in w) 0)
    where
      go : (a b t : Bool) → (end_by a b t).refusal ≡ first_of 0 number_of applies (BadCaps when not a ∷ BadHart when not b ∷ EntryWaits when not t ∷ [])
      go false b t = refl
      go true false t = refl
      go true true false = refl
      go true true true = refl

  -- the end is accepted exactly if nothing waits
  end_by_lem : Lent c s w → ((end_of c s w).refusal ≡ 0) ↔ (held_in w ≡ 0)
  unfolding end_of
  end_by_lem l = rw (l.caps, l.hart, l.wait) (go (eqb (held_in w) 0) refl)
    where
      go : (t : Bool) → eqb (held_in w) 0 ≡ t → ((cond t (outcome_of (Ok (0, Nothing))) (outcome_of (Err EntryWaits))).refusal ≡ 0) ↔ (held_in w ≡ 0)
      go true e = (λ z. eqb-true (held_in w) 0 e, λ z. refl)
      go false e = (λ z. refused_not EntryWaits z, λ z. absurd (eqb-false (held_in w) 0 e z))

pub end_in_order : EndInOrder
end_in_order c s w = in_order (end_of c s w).refusal (of_end c s w) (end_refusal c s w)

pub end_lowest_refused : EndLowestRefused
end_lowest_refused c s w = is_lowest (end_of c s w).refusal (of_end c s w) (end_in_order c s w) (ascending number_of (of_end c s w) refl)

pub start_holds_nothing : StartHoldsNothing
start_holds_nothing f = refl

pub end_of_whole_log : EndOfWholeLog
end_of_whole_log c s w x xs bc bs bw bx a =
    let log = log_of w (joined (x ∷ xs)) in
    let k = (accepted_lent c s w x.bytes x.out a.0).0 in
    let g = after_sound c s w (joined (x ∷ xs)) bc bs (waiting_bytes w bw) (joined_bytes (x ∷ xs) bx) k.caps k.hart in
    let h = hart_after (caps_at c) (hart_at s) (entries_of log) in
    let so = end_by_lem c (bytes_of h) (wait_of (rest_of log)) (record { caps = k.caps; hart = image_legal c h g; wait = rest_waits log }) in
    subst (λ (p : List ℕ × List ℕ). ((end_after c p).refusal ≡ 0) ↔ (length log % entry_bytes ≡ 0)) (sym (whole_by c bc s w x xs bs bw bx a).left)
    (subst (λ (n : ℕ). ((end_of c (bytes_of h) (wait_of (rest_of log))).refusal ≡ 0) ↔ (n ≡ 0)) (rest_length log) so)

-- ---- the examples

pub log_examples_hold : LogExamplesHold
unfolding word_at call_of is_wait
log_examples_hold = (refl, (refl, (refl, (refl, (refl, (refl, (refl, (refl, (refl, (refl, (refl, (refl, (refl, (refl, (refl, (refl, (refl, (refl, (refl, (refl, (refl, (refl, (refl, (refl, (refl, ((refl, refl), ((refl, refl), ((refl, refl), ((refl, refl), (refl, (refl, tt)))))))))))))))))))))))))))))))
