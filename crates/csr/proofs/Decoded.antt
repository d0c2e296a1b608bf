-- What an address gives, by the CSR that is found there and whether the hart has it.
use mathlib.Core.Path.{◌≡◌, refl, sym, ap, ◌∙◌}
use mathlib.Core.Bool.{Bool, true, false, cond}
use Prim.Native.Nat.{ℕ}
use native.Mathlib.Omega.{arith}
use Rattle.std.specs.Prelude.{Option, Some, None, Ok, Err}
use Rattle.hart.specs.Caps.{has_s, has_sstc}
use Rattle.hart.specs.declared.caps.Caps.{Caps}
use Rattle.hart.specs.declared.answer.Refusal.TheVariants.{NoSuchCsr, CsrAbsent}
use Rattle.csr.specs.Address.{address_of, csr_at, is_present_at, is_present, decode_found, decode_of}
use Rattle.csr.specs.declared.address.Csr.{Csr}
use Rattle.csr.proofs.Found.{stands, present_there}

module _ (c : Caps) (a : ℕ) where
  pub unknown : csr_at a ≡ None → decode_of c a ≡ Err NoSuchCsr
  unknown e = ap (decode_found c a) e

  module _ (r : Csr) (e : csr_at a ≡ Some r) where
    by_presence : (b : Bool) → is_present c r ≡ b → decode_of c a ≡ cond b (Ok r) (Err CsrAbsent)
    by_presence b p =
        ap (decode_found c a) e
        ∙ ap (λ (t : Bool). cond t (Ok r) (Err CsrAbsent)) (sym (present_there (has_s c) (has_sstc c) a r e) ∙ p)

    pub absent : is_present c r ≡ false → decode_of c a ≡ Err CsrAbsent
    absent = by_presence false

    pub present : is_present c r ≡ true → decode_of c a ≡ Ok r
    present = by_presence true

  -- what is decoded was found there ..
  pub found_there : (r : Csr) → decode_of c a ≡ Ok r → csr_at a ≡ Some r
  found_there r = go (csr_at a) refl
    where
      here : (s : Csr) (b : Bool) → csr_at a ≡ Some s → cond b (Ok s) (Err CsrAbsent) ≡ Ok r → csr_at a ≡ Some r
      here s true q e = let same : s ≡ r = cc in q ∙ ap (λ (k : Csr). Some k) same
      here s false q e = let z : ◌≡◌ {A = ℕ} 0 1 = cc in absurd (omega arith)

      go : (f : Option Csr) → csr_at a ≡ f → decode_found c a f ≡ Ok r → csr_at a ≡ Some r
      go (Some s) q e = here s (is_present_at c a) q e
      go None q e = let z : ◌≡◌ {A = ℕ} 0 1 = cc in absurd (omega arith)

  -- .. and stands at its own address
  pub stands_there : (r : Csr) → decode_of c a ≡ Ok r → csr_at (address_of r) ≡ Some r
  stands_there r e = stands a r (found_there r e)
