-- The laws of the rules, over words, gathered from the registers' files.
use mathlib.Core.Path.{refl}
use Rattle.rules.specs.Addresses.{written_tvec, written_epc, written_satp}
use Rattle.rules.specs.Laws.{Idempotent, FirstShows}
use Rattle.rules.proofs.StatusLaws.{mstatus_again}
use Rattle.rules.proofs.InterruptLaws.{mie_again, mideleg_again, medeleg_again}
use Rattle.rules.proofs.ConfigLaws.{counteren_again, countinhibit_again, menvcfg_again, senvcfg_again}
pub use Rattle.rules.proofs.StatusLaws.{fields_free, mpp_is_mode}
pub use Rattle.rules.proofs.InterruptLaws.{legal_levels}
pub use Rattle.rules.proofs.AddressLaws.{fours_aligned}

pub idempotent : Idempotent
idempotent =
    record {
      mstatus = mstatus_again;
      mie = mie_again;
      mideleg = mideleg_again;
      medeleg = medeleg_again;
      counteren = counteren_again;
      countinhibit = countinhibit_again;
      menvcfg = menvcfg_again;
      senvcfg = senvcfg_again;
    }

pub first_shows : FirstShows
unfolding written_tvec written_epc written_satp
first_shows = record { tvec = (refl, refl); epc = (refl, refl); satp = (refl, refl) }
