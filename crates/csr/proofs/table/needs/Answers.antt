-- `csr::table::needs` meets its contract: a CSR that none of the arms names needs nothing.
use mathlib.Core.Path.{◌≡◌, refl}
use mathlib.Core.Bool.{Bool, true}
use lib.Dec.{eqb}
use borrow.Author.Tests.{eqb-true}
use Rattle.std.specs.Prelude.{Some}
use Rattle.csr.specs.Address.{address_of, csr_at}
use Rattle.csr.specs.Inner.{needs_of}
use Rattle.csr.specs.declared.address.Csr.{Csr}
use Rattle.csr.specs.declared.address.Csr.TheVariants.{Medeleg, Mideleg, Sstatus, Sie, Stvec, Scounteren, Senvcfg, Sscratch, Sepc, Scause, Stval, Sip, Stimecmp, Satp, Scontext, Mhpmcounter, Mhpmevent}
use Rattle.csr.proofs.Found.{every_found}
use Rattle.csr.proofs.table.needs.Goals as goal

-- a counter needs nothing
abbrev needless : Csr → Bool
needless (Mhpmcounter n) = eqb 0 (needs_of (address_of (Mhpmcounter n)))
needless (Mhpmevent n) = eqb 0 (needs_of (address_of (Mhpmevent n)))
needless r = true

others : (r : Csr) → csr_at (address_of r) ≡ Some r → (r ≡ Medeleg → ⊥) → (r ≡ Mideleg → ⊥) → (r ≡ Sstatus → ⊥) → (r ≡ Sie → ⊥) → (r ≡ Stvec → ⊥) → (r ≡ Scounteren → ⊥)
    → (r ≡ Senvcfg → ⊥) → (r ≡ Sscratch → ⊥) → (r ≡ Sepc → ⊥) → (r ≡ Scause → ⊥) → (r ≡ Stval → ⊥) → (r ≡ Sip → ⊥) → (r ≡ Stimecmp → ⊥)
    → (r ≡ Satp → ⊥) → (r ≡ Scontext → ⊥) → 0 ≡ needs_of (address_of r)
others Medeleg q n a b d e f g h i j k l m o p = absurd (n refl)
others Mideleg q n a b d e f g h i j k l m o p = absurd (a refl)
others Sstatus q n a b d e f g h i j k l m o p = absurd (b refl)
others Sie q n a b d e f g h i j k l m o p = absurd (d refl)
others Stvec q n a b d e f g h i j k l m o p = absurd (e refl)
others Scounteren q n a b d e f g h i j k l m o p = absurd (f refl)
others Senvcfg q n a b d e f g h i j k l m o p = absurd (g refl)
others Sscratch q n a b d e f g h i j k l m o p = absurd (h refl)
others Sepc q n a b d e f g h i j k l m o p = absurd (i refl)
others Scause q n a b d e f g h i j k l m o p = absurd (j refl)
others Stval q n a b d e f g h i j k l m o p = absurd (k refl)
others Sip q n a b d e f g h i j k l m o p = absurd (l refl)
others Stimecmp q n a b d e f g h i j k l m o p = absurd (m refl)
others Satp q n a b d e f g h i j k l m o p = absurd (o refl)
others Scontext q n a b d e f g h i j k l m o p = absurd (p refl)
others (Mhpmcounter x) q n a b d e f g h i j k l m o p = eqb-true 0 _ (every_found needless refl _ (Mhpmcounter x) q)
others (Mhpmevent x) q n a b d e f g h i j k l m o p = eqb-true 0 _ (every_found needless refl _ (Mhpmevent x) q)
others r q n a b d e f g h i j k l m o p = refl

pub returns-in_default : goal.returns-in_default
returns-in_default c =
    let w = c.in_default in
    others _ c.requires w.not-Medeleg w.not-Mideleg w.not-Sstatus w.not-Sie w.not-Stvec w.not-Scounteren w.not-Senvcfg w.not-Sscratch w.not-Sepc w.not-Scause w.not-Stval w.not-Sip w.not-Stimecmp w.not-Satp w.not-Scontext
