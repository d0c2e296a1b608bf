-- An instruction on a CSR that was found is refused by one of four tests, or goes. No contract
-- needs it: the code's own tests are those of `accepted` of registers and of `Found::on` of csr.
use mathlib.Core.Path.{◌≡◌, refl, ap, ◌∙◌}
use mathlib.Core.Bool.{Bool, true, false, cond, ◌||◌}
use Prim.Native.Nat.{ℕ}
use lib.Dec.{eqb, ltb}
use Rattle.std.specs.Prelude.{Some, Ok, Err}
use Rattle.hart.specs.Modes.{mode_m}
use Rattle.hart.specs.declared.caps.Caps.{Caps}
use Rattle.hart.specs.declared.answer.Refusal.TheVariants.{CsrAbsent, BadOperand, NotMachine, BadLine}
use Rattle.csr.specs.Address.{csr_at, is_present, Decoded}
use Rattle.csr.specs.Line.{is_line, line_to}
use Rattle.csr.proofs.Decoded.{absent, present}
use Rattle.csr.specs.declared.address.Csr.{Csr}
use Rattle.instr.specs.Instructions.{accepted_to, accepted_of}

module _ (c : Caps) (a : ℕ) (r : Csr) (e : csr_at a ≡ Some r) where
  -- by the tests of an instruction: presence, operand, mode, line
  abbrev pub tested : (p q m l : Bool) → Decoded
  tested p q m l = cond p (cond q (Err BadOperand) (cond m (cond l (Ok r) (Err BadLine)) (Err NotMachine))) (Err CsrAbsent)

  pub accepted_by : (mode rd field line : ℕ) (p q m l : Bool) → is_present c r ≡ p → (ltb 31 rd || ltb 31 field) ≡ q → eqb mode mode_m ≡ m → is_line line ≡ l
      → accepted_of c mode a rd field line ≡ tested p q m l
  accepted_by mode rd field line false q m l s t u v = ap (λ (d : Decoded). line_to line (accepted_to mode rd field d)) (absent c a r e s)
  accepted_by mode rd field line true q m l s t u v = ap (λ (d : Decoded). line_to line (accepted_to mode rd field d)) (present c a r e s) ∙ rw (t, u) (go q m)
    where
      go : (q m : Bool) → line_to line (cond q (Err BadOperand) (cond m (Ok r) (Err NotMachine))) ≡ tested true q m l
      go true m = refl
      go false true = rw v
      go false false = refl
