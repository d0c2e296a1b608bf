-- The code's own notion of the slot of an address, and of the CSR in a slot: no entry's contract
-- rests on it.
use Rattle.std.specs.Prelude.{ℕ, ◌*◌, ◌/◌, ◌%◌, ◌^◌, eqb}
use Rattle.first.specs.First.{first_of}
use Rattle.csr.specs.Address.{address_of, csrs}
use Rattle.csr.specs.declared.address.Csr.{Csr}
use Rattle.csr.specs.declared.address.Csr.TheVariants.{Mstatus}

-- a perfect hash of the addresses of those that stand alone
abbrev pub slot_of : ℕ → ℕ
slot_of a = a % 2 ^ 12 * 0x128D / 2 ^ 9 % 64

-- the one whose address has the slot, or mstatus
unfoldable pub csr_in : ℕ → Csr
csr_in s = first_of Mstatus (λ r. r) (λ r. eqb s (slot_of (address_of r))) csrs
