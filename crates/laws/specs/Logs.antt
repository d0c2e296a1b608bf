-- What is proved of call logs, over every log and every way to cut it into fragments. The proofs
-- are in proofs/Logs.antt.
use Rattle.std.specs.Prelude.{ℕ, ◌+◌, ◌*◌, ◌%◌, ◌≤◌, true, List, [], ◌∷◌, ◌++◌, ◌↔◌, ◌≡◌, length, take, drop, replicate, Option, Some, None}
use Rattle.first.specs.Laws.{Each}
use Rattle.image.specs.Inner.{Bytes}
use Rattle.image.specs.Word.{image_of}
use Rattle.hart.specs.declared.answer.Refusal.TheVariants.{BadEntry}
use Rattle.lent.specs.Images.{caps_at, is_caps, is_hart}
use Rattle.lent.specs.Outcome.{refused_by}
use Rattle.lent.specs.declared.outcome.Outcome.{Outcome}
use Rattle.calls.specs.Calls.{Call}
use Rattle.calls.specs.Entries.{entry_of}
use Rattle.replay.specs.Log.{entry_bytes, call_of, whole_in, entries_of}
use Rattle.replay.specs.Replay.{result_words, is_wait, log_of, Given, replay_of, end_of}
use Rattle.replay.specs.declared.log.Entry.{Entry}
use Rattle.laws.specs.Refusals.{of_replay, of_end}
use Rattle.laws.specs.Laws.{InOrder, IsLowest}
use Rattle.laws.specs.LogExamples.{Holds, examples}

-- ---- one call

-- the refusals, in the order tested: the first that applies is given, which is the lowest
abbrev pub ReplayInOrder : Type 0
ReplayInOrder = (c s w f out : List ℕ) → InOrder (replay_of c s w f out).0.refusal (of_replay c s w f out)

abbrev pub ReplayLowestRefused : Type 0
ReplayLowestRefused = (c s w f out : List ℕ) → IsLowest (replay_of c s w f out).0.refusal (of_replay c s w f out)

abbrev pub EndInOrder : Type 0
EndInOrder = (c s w : List ℕ) → InOrder (end_of c s w).refusal (of_end c s w)

abbrev pub EndLowestRefused : Type 0
EndLowestRefused = (c s w : List ℕ) → IsLowest (end_of c s w).refusal (of_end c s w)

-- a refused fragment answers 0, asks for nothing and leaves every byte
pub record Stays (r : Given) (s w buffer : List ℕ) : Type 0 where
  pub answer : r.0.answer ≡ 0
  pub effect : r.0.effect ≡ 0
  pub hart : r.1 ≡ s
  pub wait : r.2 ≡ w
  pub out : r.3 ≡ buffer

abbrev pub RefusedFragmentStays : Type 0
RefusedFragmentStays = (c s w f out : List ℕ) → ((replay_of c s w f out).0.refusal ≡ 0 → ⊥) → Stays (replay_of c s w f out) s w out

-- done or refused, legal images stay legal, and so do waiting bytes
abbrev pub ReplayKeepsLegal : Type 0
ReplayKeepsLegal =
    (c s w f out : List ℕ) → Bytes c → Bytes s → Bytes w → Bytes f → is_caps c ≡ true → is_hart (caps_at c) s ≡ true
    → is_hart (caps_at c) (replay_of c s w f out).1 ≡ true

abbrev pub ReplayKeepsWait : Type 0
ReplayKeepsWait = (c s w f out : List ℕ) → is_wait w ≡ true → is_wait (replay_of c s w f out).2 ≡ true

-- ---- entries, and the calls that they are

-- an entry made alone, on the two images: by the C entry of its call
abbrev pub alone : List ℕ → List ℕ → Option Call → Outcome × List ℕ
alone c s None = refused_by BadEntry s
alone c s (Some call) = entry_of call c s

-- the hart image after entries that are made one by one ..
abbrev pub image_alone : List ℕ → List ℕ → List Entry → List ℕ
image_alone c s [] = s
image_alone c s (e ∷ es) = image_alone c (alone c s (call_of e)).1 es

-- .. and the words of what each gave on the image at that point
abbrev pub words_alone : List ℕ → List ℕ → List Entry → List ℕ
words_alone c s [] = []
words_alone c s (e ∷ es) = result_words (alone c s (call_of e)).0 ++ words_alone c (alone c s (call_of e)).1 es

-- a fragment gives what its entries give that are made one by one
pub record AsAlone (r : Given) (c s : List ℕ) (es : List Entry) (buffer : List ℕ) : Type 0 where
  pub answer : r.0.answer ≡ length es
  pub hart : r.1 ≡ image_alone c s es
  pub out : r.3 ≡ image_of (words_alone c s es) ++ drop (entry_bytes * length es) buffer

abbrev pub EachIsItsCall : Type 0
EachIsItsCall =
    (c s w f out : List ℕ) → Bytes c → Bytes s → Bytes w → Bytes f → (replay_of c s w f out).0.refusal ≡ 0
    → AsAlone (replay_of c s w f out) c s (entries_of (log_of w f)) out

-- ---- cuts

-- a fragment, and the buffer that is lent with it
pub record Fragment : Type 0 where
  pub bytes : List ℕ
  pub out : List ℕ

abbrev pub ByteFragments : List Fragment → Type 0
ByteFragments = Each (λ x. Bytes x.bytes)

-- the log that fragments are
abbrev pub joined : List Fragment → List ℕ
joined [] = []
joined (x ∷ xs) = x.bytes ++ joined xs

-- what a fragment gives on a hart image and waiting bytes, and what it leaves of these
abbrev pub replaying : List ℕ → List ℕ × List ℕ → Fragment → Given
replaying c p x = replay_of c p.0 p.1 x.bytes x.out

abbrev pub left : Given → List ℕ × List ℕ
left r = (r.1, r.2)

-- fragments, each replayed on what the one before it left: all are accepted; what the last one
-- leaves; how many entries they complete; and what these put out, one behind the other
abbrev pub Accepted : List ℕ → List ℕ × List ℕ → List Fragment → Type 0
Accepted c p [] = Unit {0}
Accepted c p (x ∷ xs) = ((replaying c p x).0.refusal ≡ 0) × Accepted c (left (replaying c p x)) xs

abbrev pub left_by : List ℕ → List ℕ × List ℕ → List Fragment → List ℕ × List ℕ
left_by c p [] = p
left_by c p (x ∷ xs) = left_by c (left (replaying c p x)) xs

abbrev pub completed_by : List ℕ → List ℕ × List ℕ → List Fragment → ℕ
completed_by c p [] = 0
completed_by c p (x ∷ xs) = (replaying c p x).0.answer + completed_by c (left (replaying c p x)) xs

abbrev pub put_out : Given → List ℕ
put_out r = take (entry_bytes * r.0.answer) r.3

abbrev pub put_out_by : List ℕ → List ℕ × List ℕ → List Fragment → List ℕ
put_out_by c p [] = []
put_out_by c p (x ∷ xs) = put_out (replaying c p x) ++ put_out_by c (left (replaying c p x)) xs

-- they give what the uncut log gives, which is accepted too
pub record AsUncut (c : List ℕ) (p : List ℕ × List ℕ) (xs : List Fragment) (uncut : Fragment) : Type 0 where
  pub accepted : (replaying c p uncut).0.refusal ≡ 0
  pub left : left_by c p xs ≡ left (replaying c p uncut)
  pub completed : completed_by c p xs ≡ (replaying c p uncut).0.answer
  pub put_out : put_out_by c p xs ≡ put_out (replaying c p uncut)

-- the uncut log, with a buffer
abbrev pub uncut_of : List Fragment → List ℕ → Fragment
uncut_of xs out = record { bytes = joined xs; out = out }

-- wherever a log is cut, for every buffer that is long enough for the uncut one
abbrev pub CutAnywhere : Type 0
CutAnywhere =
    (c s w : List ℕ) (x : Fragment) (xs : List Fragment) (out : List ℕ) → Bytes c → Bytes s → Bytes w → ByteFragments (x ∷ xs)
    → Accepted c (s, w) (x ∷ xs) → entry_bytes * whole_in (log_of w (joined (x ∷ xs))) ≤ length out
    → AsUncut c (s, w) (x ∷ xs) (uncut_of (x ∷ xs) out)

-- ---- the end

-- nothing waits before a log begins, so that the log is its fragments alone
abbrev pub start : List ℕ
start = replicate entry_bytes 0

abbrev pub StartHoldsNothing : Type 0
StartHoldsNothing = (f : List ℕ) → log_of start f ≡ f

-- the end is accepted exactly if the log is a multiple of 24 bytes
abbrev pub end_after : List ℕ → List ℕ × List ℕ → Outcome
end_after c p = end_of c p.0 p.1

abbrev pub EndOfWholeLog : Type 0
EndOfWholeLog =
    (c s w : List ℕ) (x : Fragment) (xs : List Fragment) → Bytes c → Bytes s → Bytes w → ByteFragments (x ∷ xs) → Accepted c (s, w) (x ∷ xs)
    → ((end_after c (left_by c (s, w) (x ∷ xs))).refusal ≡ 0) ↔ (length (log_of w (joined (x ∷ xs))) % entry_bytes ≡ 0)

-- ---- the examples

abbrev pub LogExamplesHold : Type 0
LogExamplesHold = Each Holds examples
