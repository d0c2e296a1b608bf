-- The words that registers show: each of the record by its place, and when two are the same.
use Prim.Native.Nat.{ℕ, ◌-◌}
use mathlib.Core.Bool.{Bool, true, false}
use mathlib.Core.Path.{◌≡◌, refl, sym, ap, subst}
use lib.Dec.{eqb, T}
use lib.ListN.{get_or, set}
use borrow.Author.Tests.{eqb-true}
use Rattle.hart.specs.Words.{place_of, get, put, words_of}
use Rattle.hart.specs.declared.record.Hart.{Hart}
use Rattle.hart.specs.declared.record.Word.{Word}
use Rattle.hart.proofs.EveryWord.{by_words}
use Rattle.hart.proofs.Put.{place_same}
use Rattle.lent.specs.Inner.{hart_from}
use Rattle.plain.specs.declared.words.Source.{Source}
use Rattle.plain.specs.declared.words.Source.TheVariants.{Record, Misa, Interrupts, Highest, Flags, Mhartid, Mvendorid, Marchid, Mimpid, Mconfigptr, Time, Seed, Zero}

pub read_at_place : (w : Word) (h : Hart) → get_or (words_of h) (place_of w - 32) 0 ≡ get w h
read_at_place w h = by_words (λ u. get_or (words_of h) (place_of u - 32) 0) (λ u. get u h) refl w

pub put_at_place : (w : Word) (v : ℕ) (h : Hart) → hart_from h.x (set (words_of h) (place_of w - 32) v) ≡ put w v h
unfolding put
put_at_place w v h = by_words (λ u. hart_from h.x (set (words_of h) (place_of u - 32) v)) (λ u. put u v h) refl w

abbrev pub same : Source → Source → Bool
same (Record u) (Record w) = eqb (place_of u) (place_of w)
same Misa Misa = true
same Interrupts Interrupts = true
same Highest Highest = true
same Flags Flags = true
same Mhartid Mhartid = true
same Mvendorid Mvendorid = true
same Marchid Marchid = true
same Mimpid Mimpid = true
same Mconfigptr Mconfigptr = true
same Time Time = true
same Seed Seed = true
same Zero Zero = true
same _ _ = false

pub same_is : (x y : Source) → same x y ≡ true → x ≡ y
same_is (Record u) (Record w) e = ap Record (place_same u w (eqb-true (place_of u) (place_of w) e))
same_is Misa Misa e = refl
same_is Interrupts Interrupts e = refl
same_is Highest Highest e = refl
same_is Flags Flags e = refl
same_is Mhartid Mhartid e = refl
same_is Mvendorid Mvendorid e = refl
same_is Marchid Marchid e = refl
same_is Mimpid Mimpid e = refl
same_is Mconfigptr Mconfigptr e = refl
same_is Time Time e = refl
same_is Seed Seed e = refl
same_is Zero Zero e = refl
same_is _ _ e = absurd (subst T (sym e) tt)
