-- No two of the CSRs that stand alone share a slot: so an address is that of the CSR in its slot,
-- or of none of them.
use mathlib.Core.Path.{◌≡◌, refl, ap}
use mathlib.Core.Bool.{Bool, true, false, cond, not, ◌&&◌}
use mathlib.Core.List.{List, [], ◌∷◌}
use Prim.Native.Nat.{ℕ}
use lib.Dec.{eqb}
use borrow.Author.Tests.{eqb-true, eqb-false, ne_eqb, not-true}
use Rattle.std.specs.Prelude.{Option, Some}
use Rattle.bits.proofs.Bools.{left, right, every}
use Rattle.first.specs.First.{first_of}
use Rattle.first.proofs.Missed.{Absent, missed}
use Rattle.csr.specs.Address.{address_of, csrs, find, counter_at, csr_at}
use Rattle.csr.specs.Slots.{slot_of, csr_in}
use Rattle.csr.specs.declared.address.Csr.{Csr}
use Rattle.csr.specs.declared.address.Csr.TheVariants.{Mstatus}

module _ (slot : ℕ → ℕ) where
  abbrev has : ℕ → Csr → Bool
  has n r = eqb n (slot (address_of r))

  -- none of these has the slot
  abbrev free : ℕ → List Csr → Bool
  free n = every (λ r. not (has n r))

  -- no two of these have the same
  abbrev apart : List Csr → Bool
  apart [] = true
  apart (r ∷ rs) = free (slot (address_of r)) rs && apart rs

  module _ (a : ℕ) (other : Option Csr) where
    elsewhere : (rs : List Csr) → free (slot a) rs ≡ true → find a rs other ≡ other
    elsewhere [] p = refl
    elsewhere (r ∷ rs) p = rw (ne_eqb a (address_of r) differs) (elsewhere rs (right (not (has (slot a) r)) (free (slot a) rs) p))
      where
        differs : a ≡ address_of r → ⊥
        differs e = eqb-false (slot a) (slot (address_of r)) (not-true (has (slot a) r) (left (not (has (slot a) r)) (free (slot a) rs) p)) (ap slot e)

    -- the first of these in the slot of the address
    abbrev there : List Csr → Csr
    there = first_of Mstatus (λ r. r) (has (slot a))

    -- that one, if the address is its own
    abbrev found : Csr → Option Csr
    found r = cond (eqb a (address_of r)) (Some r) other

    in_slot : (rs : List Csr) → apart rs ≡ true → (a ≡ address_of Mstatus → ⊥) → find a rs other ≡ found (there rs)
    in_slot [] p apart_from = rw (ne_eqb a (address_of Mstatus) apart_from)
    in_slot (r ∷ rs) p apart_from =
        go (eqb a (address_of r)) (has (slot a) r) refl refl (in_slot rs (right (free (slot (address_of r)) rs) (apart rs) p) apart_from)
      where
        go : (b d : Bool) → eqb a (address_of r) ≡ b → has (slot a) r ≡ d → find a rs other ≡ found (there rs)
            → cond b (Some r) (find a rs other) ≡ found (cond d r (there rs))
        go true true e f later = rw e
        go true false e f later = absurd (eqb-false (slot a) (slot (address_of r)) f (ap slot (eqb-true a (address_of r) e)))
        go false true e f later =
            rw e (elsewhere rs (rw (eqb-true (slot a) (slot (address_of r)) f) (left (free (slot (address_of r)) rs) (apart rs) p)))
        go false false e f later = later

pub by_slot : (a : ℕ) → csr_at a ≡ found slot_of a (counter_at a) (csr_in (slot_of a))
unfolding csr_at csr_in
by_slot a = go (eqb a (address_of Mstatus)) refl
  where
    go : (b : Bool) → eqb a (address_of Mstatus) ≡ b → find a csrs (counter_at a) ≡ found slot_of a (counter_at a) (there slot_of a (counter_at a) csrs)
    go true e = rw (eqb-true a (address_of Mstatus) e)
    go false e = in_slot slot_of a (counter_at a) csrs refl (eqb-false a (address_of Mstatus) e)

-- a slot that none of them has
pub in_empty : (n : ℕ) → Absent (λ r. slot_of (address_of r)) (λ r. r) Mstatus n (Unit {0}) csrs → csr_in n ≡ Mstatus
unfolding csr_in
in_empty n rest = missed (λ r. slot_of (address_of r)) (λ r. r) Mstatus n (Unit {0}) csrs rest
