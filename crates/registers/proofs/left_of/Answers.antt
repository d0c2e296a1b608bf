-- `registers::left_of` meets its contract: by the rule of each CSR that has one, else by its row.
use mathlib.Core.Bool.{false}
use mathlib.Core.Path.{◌≡◌, refl, ◌∙◌}
use Rattle.csr.specs.declared.address.Csr.{Csr}
use Rattle.csr.specs.declared.address.Csr.TheVariants.{Mstatus, Mideleg, Mie, Mtvec, Menvcfg, Mepc, Mip, Sstatus, Sie, Stvec, Senvcfg, Sepc, Sip, Satp}
use Rattle.lent.specs.Images.{caps_at, hart_at}
use Rattle.registers.specs.Table.{ruled}
use Rattle.registers.proofs.Rows.{taken_is}
use Rattle.registers.proofs.left_of.Goals as goal

-- a CSR that no arm names has no rule
unruled : (r : Csr) → (r ≡ Mstatus → ⊥) → (r ≡ Mideleg → ⊥) → (r ≡ Mie → ⊥) → (r ≡ Mtvec → ⊥) → (r ≡ Menvcfg → ⊥) → (r ≡ Mepc → ⊥)
    → (r ≡ Mip → ⊥) → (r ≡ Sstatus → ⊥) → (r ≡ Sie → ⊥) → (r ≡ Stvec → ⊥) → (r ≡ Senvcfg → ⊥) → (r ≡ Sepc → ⊥) → (r ≡ Sip → ⊥) → (r ≡ Satp → ⊥) → ruled r ≡ false
unruled Mstatus a b d e f g h i j k l m n o = absurd (a refl)
unruled Mideleg a b d e f g h i j k l m n o = absurd (b refl)
unruled Mie a b d e f g h i j k l m n o = absurd (d refl)
unruled Mtvec a b d e f g h i j k l m n o = absurd (e refl)
unruled Menvcfg a b d e f g h i j k l m n o = absurd (f refl)
unruled Mepc a b d e f g h i j k l m n o = absurd (g refl)
unruled Mip a b d e f g h i j k l m n o = absurd (h refl)
unruled Sstatus a b d e f g h i j k l m n o = absurd (i refl)
unruled Sie a b d e f g h i j k l m n o = absurd (j refl)
unruled Stvec a b d e f g h i j k l m n o = absurd (k refl)
unruled Senvcfg a b d e f g h i j k l m n o = absurd (l refl)
unruled Sepc a b d e f g h i j k l m n o = absurd (m refl)
unruled Sip a b d e f g h i j k l m n o = absurd (n refl)
unruled Satp a b d e f g h i j k l m n o = absurd (o refl)
unruled r a b d e f g h i j k l m n o = refl

pub returns-in_default : goal.returns-in_default
returns-in_default c =
    let a = c.args in
    let w = c.in_default in
    let none = unruled a.csr w.not-Mstatus w.not-Mideleg w.not-Mie w.not-Mtvec w.not-Menvcfg w.not-Mepc w.not-Mip w.not-Sstatus w.not-Sie w.not-Stvec w.not-Senvcfg w.not-Sepc w.not-Sip w.not-Satp in
    c.taken_of.ensures ∙ taken_is (caps_at a.caps.now) (hart_at a.hart.now) a.old a.v c.ranges.v.fits a.csr none
