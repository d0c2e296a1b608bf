-- The loop's invariant: the entries so far are the bits below i.
use Rattle.explain.specs.Reason.{reason_at}
use Rattle.explain.proofs.Listed.{Turn}
use Rattle.explain.proofs.listing.Listing.of.Given as goal

abbrev pub invariant-loop-i : goal.invariant-loop-i
invariant-loop-i l = Turn l.loss.bits (reason_at l.loss.why) l.bits l.reasons l.i l.n
