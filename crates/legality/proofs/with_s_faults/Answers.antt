-- `legality::with_s_faults` meets its contract.
use mathlib.Core.Bool.{and-true}
use Rattle.bits.proofs.Zero.{joined}
use Rattle.hart.specs.Caps.{has_sstc}
use Rattle.hart.specs.Legal.{legal_word}
use Rattle.hart.proofs.Legal.{is_counteren}
use Rattle.legality.proofs.Faults.{with_stimecmp, legal_with_s}
use Rattle.legality.proofs.with_s_faults.Goals as goal

pub returns : goal.returns
unfolding legal_word
returns c =
    let caps = c.args.c in
    let h = c.args.h in
    let s = c.requires.has_s in
    rw (← legal_with_s caps s h) (simp (joined, s, and-true) (cc (is_counteren h.scounteren, with_stimecmp caps s (has_sstc caps) h.stimecmp)))
