-- `explain::listing::Listing::of` meets its contract.
use borrow.Author.Rules.{rules}
use native.Mathlib.Omega.{arith}
use Rattle.explain.proofs.Listed.{room, turn_more, turn_same, whole}
use Rattle.explain.proofs.listing.Listing.of.Goals as goal
use Rattle.explain.proofs.listing.Listing.of.Goals.{then-bit, else-bit}

pub bounds-bits-n : goal.bounds-bits-n
bounds-bits-n c = room c.loop-i.invariant (omega arith)

pub bounds-reasons-n : goal.bounds-reasons-n
bounds-reasons-n c = room c.loop-i.invariant (omega arith)

pub overflow_add-n : goal.overflow_add-n
overflow_add-n c = let place = room c.loop-i.invariant (omega arith) in record { fits = omega (arith, place) }

pub loop-i-preserved : goal.loop-i-preserved
loop-i-preserved c =
    let so = c.loop-i.invariant in
    elim c.if-bit.branch [
      | then-bit w ↦ rw (w.bits-is, w.reasons-is, w.n-is) (turn_more so _ (search rules) (omega arith) (search rules))
      | else-bit w ↦ rw (w.bits-is, w.reasons-is, w.n-is) (turn_same so (search rules))
    ]

pub returns : goal.returns
returns c = whole c.args.loss.bits c.args.loss.why (search rules) c.loop-i.invariant (omega arith)
