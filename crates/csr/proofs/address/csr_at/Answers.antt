-- `csr::address::csr_at` meets its contract.
use mathlib.Core.Path.{◌≡◌}
use borrow.Author.Tests.{eq-eqb, ne_eqb}
use Rattle.csr.specs.Address.{address_of}
use Rattle.csr.specs.Slots.{slot_of, csr_in}
use Rattle.csr.proofs.Slots.{by_slot}
use Rattle.csr.proofs.address.csr_at.Goals as goal

pub returns-then-address_in-address : goal.returns-then-address_in-address
returns-then-address_in-address c =
    let a = c.args.address in
    let its : a ≡ address_of (csr_in (slot_of a)) = cc in
    rw (by_slot a, eq-eqb a (address_of (csr_in (slot_of a))) its, c.csr_in.ensures, c.slot-n.ensures)

pub returns-else-address_in-address : goal.returns-else-address_in-address
returns-else-address_in-address c =
    let a = c.args.address in
    rw (by_slot a, ne_eqb a (address_of (csr_in (slot_of a))) (λ e. c.if-address_in-address.false (cc)), c.counter_at.ensures)
