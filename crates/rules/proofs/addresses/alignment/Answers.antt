-- `rules::addresses::alignment` meets its contract.
use mathlib.Core.List.{[], ◌∷◌}
use Rattle.bits.proofs.Decide.{lit, flag, ◌∣◌, isnt, env0, by_bits}
use Rattle.bits.proofs.Shown.{shown}
use Rattle.rules.specs.Addresses.{alignment}
use Rattle.rules.proofs.addresses.alignment.Goals as goal
open shown use {when}

pub returns : goal.returns
returns c =
    rw c.only.ensures
    (by_bits (when (isnt (flag 0)) (lit _) ∣ lit _) (alignment shown (flag 0)) tt
    (env0 (c.args.has_c ∷ [])))
