-- What an instruction is accepted for: the CSR that its address gives.
use mathlib.Core.Path.{◌≡◌}
use mathlib.Core.Bool.{Bool, true, false, cond, ◌||◌}
use Prim.Native.Nat.{ℕ}
use native.Mathlib.Omega.{arith}
use lib.Dec.{eqb, ltb}
use Rattle.std.specs.Prelude.{Some, Ok, Err}
use Rattle.hart.specs.Modes.{mode_m}
use Rattle.hart.specs.declared.caps.Caps.{Caps}
use Rattle.hart.specs.declared.answer.Refusal.TheVariants.{BadOperand, NotMachine, BadLine}
use Rattle.csr.specs.Address.{csr_at, Decoded, decode_of}
use Rattle.csr.specs.Line.{is_line, line_to}
use Rattle.csr.proofs.Decoded.{found_there}
use Rattle.csr.specs.declared.address.Csr.{Csr}
use Rattle.instr.specs.Instructions.{accepted_to, accepted_of}

module _ (c : Caps) (mode rd field line a : ℕ) (r : Csr) where
  decoded : accepted_of c mode a rd field line ≡ Ok r → decode_of c a ≡ Ok r
  decoded = go (decode_of c a)
    where
      tests : (s : Csr) (q m l : Bool) → cond q (Err BadOperand) (cond m (cond l (Ok s) (Err BadLine)) (Err NotMachine)) ≡ Ok r → ◌≡◌ {A = Decoded} (Ok s) (Ok r)
      tests s false true true e = e
      tests s false true false e = let z : ◌≡◌ {A = ℕ} 0 1 = cc in absurd (omega arith)
      tests s false false l e = let z : ◌≡◌ {A = ℕ} 0 1 = cc in absurd (omega arith)
      tests s true m l e = let z : ◌≡◌ {A = ℕ} 0 1 = cc in absurd (omega arith)

      by_line : (s : Csr) (q m : Bool) → line_to line (cond q (Err BadOperand) (cond m (Ok s) (Err NotMachine))) ≡ Ok r → ◌≡◌ {A = Decoded} (Ok s) (Ok r)
      by_line s false true = tests s false true (is_line line)
      by_line s false false = tests s false false true
      by_line s true m = tests s true m true

      go : (d : Decoded) → line_to line (accepted_to mode rd field d) ≡ Ok r → d ≡ Ok r
      go (Ok s) e = by_line s (ltb 31 rd || ltb 31 field) (eqb mode mode_m) e
      go (Err why) e = e

  -- it was found there
  pub found : accepted_of c mode a rd field line ≡ Ok r → csr_at a ≡ Some r
  found e = found_there c a r (decoded e)
