-- Which bits of a written value are lost: those in which the value differs from the word that a
-- write of it leaves, within the bits that are compared; and these as a list, lowest first.
-- Source: docs/RULES.md, "Lost bits".
use Rattle.std.specs.Prelude.{ℕ, zero, suc, cond, ◌||◌, List, [], ◌∷◌, ◌++◌, eqb}
use Rattle.std.specs.Int.Bits.{bit_and, bit_xor}
use Rattle.bits.specs.Alg.{Alg, plain}
use Rattle.bits.specs.Word.{bit}
use Rattle.rules.specs.Status.{sstatus_bits}
use Rattle.rules.specs.Interrupts.{supervisor}
use Rattle.hart.specs.declared.caps.Caps.{Caps}
use Rattle.hart.specs.declared.record.Hart.{Hart}
use Rattle.hart.specs.declared.record.Host.{Host}
use Rattle.csr.specs.Address.{address_of}
use Rattle.csr.specs.Line.{line_down}
use Rattle.csr.specs.Access.{read_of, stored_of, left_by}
use Rattle.csr.specs.declared.address.Csr.{Csr}

-- what a written v is compared with: the word that is stored, or where none is what is read
abbrev pub compared_word : Caps → Hart → Host → Csr → ℕ → ℕ
compared_word c h o r v = left_by (stored_of c h r v) (read_of c h (line_down o) r)

module _ (A : Alg) where
  open A use {Word, ◌&◌, ones}

  abbrev pub all : Word
  all = ones 0 64

  -- of a view the bits that it shows. The address, mideleg
  abbrev pub compared_bits : ℕ → Word → Word
  compared_bits a mideleg =
      cond (eqb a 0x100) (sstatus_bits A)  -- sstatus
      (cond (eqb a 0x104 || eqb a 0x144) (mideleg & supervisor A)  -- sie, sip
      all)

-- the compared bits in which v isn't the word that is left. The word, the address, mideleg, v
abbrev pub lost_from : ℕ → ℕ → ℕ → ℕ → ℕ
lost_from word a mideleg v = bit_and (bit_xor v word) (compared_bits plain a mideleg)

unfoldable pub lost_of : Caps → Hart → Host → Csr → ℕ → ℕ
lost_of c h o r v = lost_from (compared_word c h o r v) (address_of r) h.mideleg v

-- the bits of w below n that are 1, lowest first
abbrev pub bits_below : ℕ → ℕ → List ℕ
bits_below w zero = []
bits_below w (suc n) = cond (bit n w) (bits_below w n ++ (n ∷ [])) (bits_below w n)
