-- Bytes and the numbers that they are, and runs of bytes in a list, each fact for every offset.
use mathlib.Core.Path.{◌≡◌, refl, sym, ap, ap₂, ◌∙◌}
use mathlib.Core.Bool.{Bool, true, false, true≢false, ◌&&◌}
use mathlib.Core.Logic.{◌⊎◌, inl, inr, ⊎_elim}
use mathlib.Core.List.{List, [], ◌∷◌, ◌++◌, append_assoc, append-nil}
use Prim.Native.Nat.{ℕ, zero, suc, ◌+◌, ◌/◌, ◌^◌, ◌≤◌, ◌<◌}
use native.Mathlib.Nat.{zero-add, div-div-eq-div-mul}
use native.Mathlib.Omega.{arith}
use lib.Dec.{eqb}
use lib.ListN.{length, get_or, set, take, drop, get_or-append}
use lib.Seq.{get_or-append-add, get_or-set_other, set-get_or, paste, sets, sets-eq, length-sets, length-take-le, drop-cons, drop-length, take_at, drop_at, drop-drop}
use borrow.Author.Tests.{eqb-true}
use mir.Syntax.{w64}
use borrow.Rule.Slice.PartMut.{put_mid}
use Rattle.std.specs.Int.{to_le_bytes, from_le_bytes}
use Rattle.std.proofs.lemmas.List.Edits.{paste_all}
use Rattle.std.proofs.lemmas.Nat.{le_bytes_8, from_le_bytes-to_le_bytes_8}
use Rattle.image.specs.Word.{same, le, bytes, from}
use Rattle.image.specs.Inner.{Bytes}

-- ---- bytes and numbers

pub length_bytes : (n v : ℕ) → length (bytes n v) ≡ n
length_bytes zero v = refl
length_bytes (suc n) v = ap suc (length_bytes n (v / 256))

-- the library's words for both
pub bytes_of : (v : ℕ) → to_le_bytes w64 v ≡ bytes 8 v
bytes_of v = simp div-div-eq-div-mul

pub le_of : (bs : List ℕ) → from_le_bytes w64 bs ≡ le (from bs 0 8)
le_of bs = omega arith

-- the bytes of a word give the word ..
pub le_bytes : (v : ℕ) → v < 2 ^ 64 → le (bytes 8 v) ≡ v
le_bytes v f =
    sym (le_of (bytes 8 v)) ∙ ap (from_le_bytes w64) (sym (bytes_of v)) ∙ from_le_bytes-to_le_bytes_8 v f

-- ---- runs of bytes in a list

pub length_from : (s : List ℕ) (at n : ℕ) → length (from s at n) ≡ n
length_from s at zero = refl
length_from s at (suc n) = ap suc (length_from s (suc at) n)

pub bytes_from : (s : List ℕ) (at n : ℕ) → Bytes s → Bytes (from s at n)
bytes_from s at zero h i = omega arith
bytes_from s at (suc n) h zero = h at
bytes_from s at (suc n) h (suc i) = bytes_from s (suc at) n h i

-- .. and eight bytes are those of their word
pub bytes_le : (s : List ℕ) (at : ℕ) → Bytes s → bytes 8 (le (from s at 8)) ≡ from s at 8
bytes_le s at b =
    sym (bytes_of (le (from s at 8))) ∙ le_bytes_8 (from s at 8) _ (length_from s at 8) (bytes_from s at 8 b) (sym (le_of (from s at 8)))

pub from_part : (s : List ℕ) (at n : ℕ) → at + n ≤ length s → from s at n ≡ take n (drop at s)
from_part s at zero h = refl
from_part s at (suc n) h =
    let r : from s (suc at) n ≡ take n (drop (suc at) s) = from_part s (suc at) n (omega arith) in
    rw (r, drop-cons s at 0 (omega arith))

-- a run is its first bytes and those behind them
pub from_more : (s : List ℕ) (at m n : ℕ) → from s at (m + n) ≡ from s at m ++ from s (at + m) n
from_more s at zero n =
    let e : at + 0 ≡ at = omega arith in
    let z : 0 + n ≡ n = omega arith in
    rw (e, z)
from_more s at (suc m) n =
    let e : at + suc m ≡ suc at + m = omega arith in
    let z : suc m + n ≡ suc (m + n) = omega arith in
    rw (e, z, from_more s (suc at) m n)

-- a run in the first of two lists ..
pub from_front : (l m : List ℕ) (at n : ℕ) → at + n ≤ length l → from (l ++ m) at n ≡ from l at n
from_front l m at zero h = refl
from_front l m at (suc n) h = ap₂ ◌∷◌ (get_or-append l m 0 at (omega arith)) (from_front l m (suc at) n (omega arith))

-- .. and in the second
pub from_behind : (l m : List ℕ) (at n : ℕ) → from (l ++ m) (length l + at) n ≡ from m at n
from_behind l m at zero = refl
from_behind l m at (suc n) =
    let e : suc (length l + at) ≡ length l + suc at = omega arith in
    ap₂ ◌∷◌ (get_or-append-add l m at 0) (ap (λ (k : ℕ). from (l ++ m) k n) e ∙ from_behind l m (suc at) n)

-- storing what stands there changes nothing
pub sets_from : (s : List ℕ) (at n : ℕ) → sets s at (from s at n) ≡ s
sets_from s at zero = refl
sets_from s at (suc n) =
    ap (λ (l : List ℕ). sets l (suc at) (from s (suc at) n)) (set-get_or s at 0) ∙ sets_from s (suc at) n

-- an element that a run of stores does not reach is as it was
pub get_d_sets_other : (vs l : List ℕ) (i j : ℕ) → (j < i) ⊎ (i + length vs ≤ j) → get_or (sets l i vs) j 0 ≡ get_or l j 0
get_d_sets_other [] l i j h = refl
get_d_sets_other (v ∷ vs) l i j h =
    get_d_sets_other vs (set l i v) (suc i) j (⊎_elim (λ w. inl (omega arith)) (λ w. inr (omega arith)) h)
    ∙ get_or-set_other l i j v 0 (λ e. ⊎_elim (λ w. omega arith) (λ w. omega arith) h)

pub from_sets_other : (vs l : List ℕ) (at i n : ℕ) → (i + n ≤ at) ⊎ (at + length vs ≤ i) → from (sets l at vs) i n ≡ from l i n
from_sets_other vs l at i zero h = refl
from_sets_other vs l at i (suc n) h =
    let e : get_or (sets l at vs) i 0 ≡ get_or l i 0 = get_d_sets_other vs l at i (⊎_elim (λ w. inl (omega arith)) (λ w. inr (omega arith)) h) in
    let r : from (sets l at vs) (suc i) n ≡ from l (suc i) n =
    from_sets_other vs l at (suc i) n (⊎_elim (λ w. inl (omega arith)) (λ w. inr (omega arith)) h) in
    rw (e, r)

pub from_sets_same : (vs l : List ℕ) (at : ℕ) → at + length vs ≤ length l → from (sets l at vs) at (length vs) ≡ vs
from_sets_same vs l at h =
    let t : length (take at l) ≡ at = length-take-le at l (omega arith) in
    from_part (sets l at vs) at (length vs) (omega (arith, length-sets l at vs))
    ∙ rw (sets-eq vs l at h, append_assoc, drop_at (take at l) (vs ++ drop (at + length vs) l) at t)
    (take_at vs (drop (at + length vs) l) (length vs) refl)

-- a run of stores that fills the list
pub sets_all : (vs l : List ℕ) → length vs ≡ length l → sets l 0 vs ≡ vs
sets_all vs l e =
    sets-eq vs l 0 (omega arith)
    ∙ ap (λ (n : ℕ). vs ++ drop n l) (zero-add (length vs) ∙ e)
    ∙ ap (λ (t : List ℕ). vs ++ t) (drop-length l)
    ∙ append-nil vs

-- two runs of stores, one behind the other, are one
pub sets_append : (a b l : List ℕ) (at : ℕ) → sets (sets l at a) (at + length a) b ≡ sets l at (a ++ b)
sets_append [] b l at =
    let e : at + 0 ≡ at = omega arith in
    rw e
sets_append (x ∷ a) b l at =
    let e : at + suc (length a) ≡ suc at + length a = omega arith in
    rw e (sets_append a b (set l at x) (suc at))

-- what a loop that stores bytes leaves at its end ..
pub pasted : (s : List ℕ) (at : ℕ) (b : List ℕ) (n : ℕ) → n ≡ length b → at + length b ≤ length s → paste s at b n ≡ sets s at b
pasted s at b n e h = rw (paste_all s at b n e, sets-eq b s at h, e, append_assoc)

-- .. and what a copy into a part does
pub sets_part : (at k : ℕ) (s part b : List ℕ) → part ≡ b → k ≡ length b → at + length b ≤ length s → put_mid at k s part ≡ sets s at b
sets_part at k s part b e n h = rw (sets-eq b s at h, e, n, drop-drop, append_assoc)

-- ---- lists that hold the same bytes

pub same_is : (a b : List ℕ) → same a b ≡ true → a ≡ b
same_is [] [] e = refl
same_is [] (y ∷ ys) e = absurd (true≢false (sym e))
same_is (x ∷ xs) [] e = absurd (true≢false (sym e))
same_is (x ∷ xs) (y ∷ ys) e = go (eqb x y) refl e (same_is xs ys)
  where
    go : (t : Bool) → eqb x y ≡ t → (t && same xs ys) ≡ true → (same xs ys ≡ true → xs ≡ ys) → x ∷ xs ≡ y ∷ ys
    go true q r next = ap₂ ◌∷◌ (eqb-true x y q) (next r)
    go false q r next = absurd (true≢false (sym r))
