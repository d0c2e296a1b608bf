-- What `commit` leaves, of the steps that it takes: the word that it reads, what is left of it, the
-- one of both that it stores, and the bytes that it leaves.
use Rattle.std.proofs.Common.{◌≡◌, ℕ, ◌*◌, Bool, cond, List, length, sym, ap, ap₂, ◌∙◌, subst}
use native.Mathlib.Omega.{arith}
use Rattle.bits.specs.Word.{Fits}
use Rattle.image.specs.Inner.{Bytes, put_at}
use Rattle.image.specs.Word.{word_at}
use Rattle.hart.specs.declared.caps.Caps.{Caps}
use Rattle.hart.specs.declared.record.Hart.{Hart}
use Rattle.hart.specs.declared.answer.Effect.{Effect}
use Rattle.hart.specs.declared.answer.Effect.TheVariants.{Nothing}
use Rattle.csr.specs.Access.{Change, stored_of, left_by, apply, seip_change}
use Rattle.csr.specs.declared.address.Csr.{Csr}
use Rattle.lent.specs.Images.{hart_bytes, hart_at}
use Rattle.registers.specs.Inner.{changed_to}
use Rattle.registers.specs.Table.{place_at}
use Rattle.registers.proofs.Places.{hart_if, of_mip, of_other}

module _ (c : Caps) (s : List ℕ) (l : length s ≡ hart_bytes) (b : Bytes s) (r : Csr) (v : ℕ) (writes : Bool) where
  abbrev pub change : Change
  change = stored_of c (hart_at s) r v

  abbrev pub next : Hart
  next = cond writes (apply change (hart_at s)) (hart_at s)

  module _ (n old left new : ℕ) (exit : List ℕ) (place : 8 * n ≡ place_at r) (reads : old ≡ word_at s (8 * n)) (leaves : left ≡ left_by change old)
      (chosen : new ≡ cond writes left old) (puts : exit ≡ put_at s (8 * n) new) (f : Fits left) (g : Fits new) where
    there : old ≡ word_at s (place_at r)
    there = reads ∙ ap (word_at s) place

    left_there : left ≡ left_by change (word_at s (place_at r))
    left_there = leaves ∙ ap (left_by change) there

    put_there : hart_at (put_at s (place_at r) new) ≡ next
    put_there =
        ap (λ (x : ℕ). hart_at (put_at s (place_at r) x)) (chosen ∙ ap₂ (λ (x y : ℕ). cond writes x y) left_there there)
        ∙ hart_if r s l b c v writes (subst Fits left_there f)

    exit_is : hart_at exit ≡ next
    exit_is = ap hart_at (puts ∙ ap (λ (m : ℕ). put_at s m new) place) ∙ put_there

    pub mip_left : n ≡ 37 → (seip_change old new, hart_at exit) ≡ changed_to (hart_at s) next
    mip_left e =
        ap₂ (λ (k : Effect) (h : Hart). (k, h)) (ap (λ (o : ℕ). seip_change o new) there) exit_is
        ∙ of_mip r s l b new g next put_there (sym place ∙ ap (λ (m : ℕ). 8 * m) e)

    pub other_left : (n ≡ 37 → ⊥) → (Nothing, hart_at exit) ≡ changed_to (hart_at s) next
    other_left apart =
        ap (λ (h : Hart). (Nothing, h)) exit_is
        ∙ of_other r s l b new g next put_there (λ e. apart (omega (arith, place, e)))
