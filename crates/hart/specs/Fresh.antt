-- A fresh record: mode M, the given pc, mstatus legalized from 0, mideleg 0x222 with S, and zeros.
-- Source: docs/RULES.md, "The fresh record".
use Rattle.std.specs.Prelude.{List, [], ◌∷◌, ℕ, replicate, cond}
use Rattle.hart.specs.Words.{hart_of, puts}
use Rattle.hart.specs.Caps.{has_s, mstatus_of}
use Rattle.hart.specs.declared.caps.Caps.{Caps}
use Rattle.hart.specs.declared.record.Hart.{Hart}
use Rattle.hart.specs.declared.record.Word.{Word}
use Rattle.hart.specs.declared.record.Word.TheVariants.{Pc, Mode, Mstatus, Mideleg}

abbrev pub zeros : Hart
zeros = hart_of (replicate 32 0) (λ w. 0)

-- the words that needn't be 0, for the capabilities, the number of mode M and the pc
abbrev pub fresh_changes : Caps → ℕ → ℕ → List (Word × ℕ)
fresh_changes c mode pc =
    (Pc, pc) ∷
    (Mode, mode) ∷
    (Mstatus, mstatus_of c 0) ∷
    (Mideleg, cond (has_s c) 0x222 0) ∷
    []

abbrev pub fresh_of : Caps → ℕ → ℕ → Hart
fresh_of c mode pc = puts (fresh_changes c mode pc) zeros
