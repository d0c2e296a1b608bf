-- Reason 3 as it is read: there are other legal capabilities under which the write stores the bit.
-- No entry's contract rests on it; that the words of specs/Reasons.antt say the same is a law.
-- Source: docs/RULES.md, "Lost bits".
use Rattle.std.specs.Prelude.{ℕ, Bool, true, false, ◌≡◌, Some, None}
use Rattle.std.specs.Bool.{beq}
use Rattle.bits.specs.Word.{bit}
use Rattle.hart.specs.Caps.{legal_caps}
use Rattle.hart.specs.Laws.{FitsCaps}
use Rattle.hart.specs.declared.caps.Caps.{Caps}
use Rattle.hart.specs.declared.record.Hart.{Hart}
use Rattle.csr.specs.Address.{is_present}
use Rattle.csr.specs.Access.{stored_of}
use Rattle.csr.specs.declared.address.Csr.{Csr}
use Rattle.csr.specs.Access.{Change}
use Rattle.explain.specs.Reasons.{otherwise}

-- legal capabilities that differ from c at most in misa, interrupts and flags
pub record Other (c d : Caps) : Type 0 where
  pub legal : legal_caps d ≡ true
  pub fits : FitsCaps d
  pub same : d ≡ otherwise d.misa d.interrupts d.flags c

-- a change stores bit i of v
abbrev pub keeps_bit : Change → ℕ → ℕ → Bool
keeps_bit None v i = false
keeps_bit (Some (w, x)) v i = beq (bit i x) (bit i v)

-- there are such, with the register, under which a write of v stores v's bit i. They needn't make
-- the record legal
pub record Elsewhere (c : Caps) (h : Hart) (r : Csr) (v i : ℕ) : Type 0 where
  pub caps : Caps
  pub other : Other c caps
  pub present : is_present caps r ≡ true
  pub keeps : keeps_bit (stored_of caps h r v) v i ≡ true
