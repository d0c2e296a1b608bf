-- `legality::without_s_faults` meets its contract.
use mathlib.Core.Path.{refl}
use lib.Dec.{eqb, leb}
use Rattle.bits.proofs.Zero.{joined}
use Rattle.rules.specs.Addresses.{is_aligned, is_tvec_mode, is_satp_mode}
use Rattle.rules.specs.Interrupts.{legal_medeleg}
use Rattle.hart.specs.Caps.{has_c, has_zicbom, has_zicboz, senvcfg_of}
use Rattle.hart.specs.Legal.{legal_word}
use Rattle.hart.proofs.Fresh.{zero_senvcfg, zero_aligned}
use Rattle.legality.proofs.Faults.{zero_meets, zero_alone, legal_without_s}
use Rattle.legality.proofs.without_s_faults.Goals as goal

pub returns : goal.returns
unfolding legal_word legal_medeleg is_tvec_mode is_satp_mode
returns c =
    let caps = c.args.c in
    let h = c.args.h in
    let s = c.requires.has_s in
    rw (← legal_without_s caps s h) (simp (joined, s, zero_alone)
    (cc (
      zero_meets (λ v. eqb (legal_medeleg v) v) refl h.medeleg,
      zero_meets is_tvec_mode refl h.stvec,
      zero_meets (λ v. leb v 7) refl h.scounteren,
      zero_meets (λ v. eqb (senvcfg_of caps v) v) (zero_senvcfg (has_zicbom caps) (has_zicboz caps)) h.senvcfg,
      zero_meets (is_aligned (has_c caps)) (zero_aligned (has_c caps)) h.sepc,
      zero_meets is_satp_mode refl h.satp,
    )))
