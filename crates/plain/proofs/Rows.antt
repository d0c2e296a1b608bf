-- What the code sums up of a table's rows is what is joined of them.
use Prim.Native.Nat.{ℕ}
use mathlib.Core.Bool.{Bool, true, false, cond}
use mathlib.Core.List.{List, [], ◌∷◌}
use mathlib.Core.Path.{◌≡◌, refl, ap, ◌∙◌}
use lib.Bits.{bit_or}
use Rattle.std.specs.List.{fold}
use Rattle.bits.specs.Alg.{plain}
use Rattle.bits.specs.Masks.{only_if}
use Rattle.plain.specs.Row.{is_at, asked, applies_to, shows_of, takes_of}
use Rattle.plain.specs.Engine.{joined, present_at, shows_at, takes_at}
use Rattle.plain.specs.Inner.{with_row, with_rows}
use Rattle.plain.specs.declared.row.Row.{Row}
use Rattle.plain.specs.declared.row.Asked as declared
use Rattle.plain.specs.declared.engine.Sum.{Sum}

module _ (q : declared.Asked) (a : ℕ) where
  -- a part of the sum, for any part that takes each row as it should
  part_joined : (part : Sum → ℕ) (f : Row → ℕ)
      → ((s : Sum) (r : Row) → part (with_row q a s r) ≡ cond (is_at r a) (bit_or (part s) (only_if (applies_to q.has r) (f r))) (part s))
      → (t : List Row) (s : Sum) → part (fold (with_row q a) s t) ≡ joined plain q.has f a t (part s)
  part_joined part f one [] s = refl
  part_joined part f one (r ∷ rs) s = part_joined part f one rs (with_row q a s r) ∙ ap (joined plain q.has f a rs) (one s r)

  by_row : {x y : ℕ} (part : Sum → ℕ) (s u : Sum) (b : Bool) → part u ≡ x → part s ≡ y → part (cond b u s) ≡ cond b x y
  by_row part s u true p e = p
  by_row part s u false p e = e

  module _ (t : List Row) where
    pub present_sum : (with_rows q a t).present ≡ present_at plain (asked q) a t
    present_sum = part_joined (λ s. s.present) (λ r. 1) (λ s r. by_row (λ s. s.present) s _ (is_at r a) refl refl) t _

    pub shows_sum : (with_rows q a t).shows ≡ shows_at plain (asked q) a t
    unfolding shows_of
    shows_sum = part_joined (λ s. s.shows) (shows_of q) (λ s r. by_row (λ s. s.shows) s _ (is_at r a) refl refl) t _

    pub takes_sum : (with_rows q a t).takes ≡ takes_at plain (asked q) a t
    unfolding takes_of
    takes_sum = part_joined (λ s. s.takes) (takes_of q) (λ s r. by_row (λ s. s.takes) s _ (is_at r a) refl refl) t _
