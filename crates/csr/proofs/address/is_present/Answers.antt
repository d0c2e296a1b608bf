-- `csr::address::is_present` meets its contract.
use mathlib.Core.List.{[], ◌∷◌}
use Rattle.bits.proofs.Decide.{W, B, lit, flag, ite, ◌&◌, ◌∣◌, inv, ◌≐◌, both, either, isnt, env0, by_tests}
use Rattle.csr.specs.Address.{address_of, needs_s, needs_sstc}
use Rattle.csr.proofs.address.is_present.Goals as goal

-- a bit for each of two
abbrev two : B → B → W
two s sstc = ite s (lit 1) (lit 0) ∣ ite sstc (lit 2) (lit 0)

pub returns : goal.returns
returns c =
    let given = c.args in
    let a = address_of given.csr in
    rw (c.only-2.ensures, c.only.ensures, c.needs.ensures)
    (by_tests (two (flag 0) (flag 1) & inv (two (flag 2) (flag 3)) ≐ lit 0)
    (both (either (isnt (flag 0)) (flag 2)) (either (isnt (flag 1)) (flag 3))) tt
    (env0 (needs_s a ∷ needs_sstc a ∷ given.has_s ∷ given.has_sstc ∷ [])))
