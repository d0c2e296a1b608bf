-- The code's own notions of a step taken in place: no entry's contract rests on them.
use Rattle.std.specs.Prelude.{List, [], ◌∷◌, ◌≡◌, ℕ, Err}
use Rattle.hart.specs.Words.{puts}
use Rattle.hart.specs.declared.record.Hart.{Hart}
use Rattle.hart.specs.declared.record.Word.TheVariants.{Pc, Mode, Mstatus, Mip, Mepc, Mcause, Mtval}
use Rattle.hart.specs.declared.answer.Refusal.{Refusal}
use Rattle.hart.specs.declared.answer.Step.{Step}
use Rattle.trap.specs.declared.context.VirtContext.{VirtContext}
use Rattle.lent.specs.Images.{caps_at, hart_at}

-- the words that a trap or a return can change, taken from one record into another
abbrev pub carried : Hart → Hart → Hart
carried next h =
    puts
    ((Pc, next.pc) ∷
    (Mode, next.mode) ∷
    (Mstatus, next.mstatus) ∷
    (Mip, next.mip) ∷
    (Mepc, next.mepc) ∷
    (Mcause, next.mcause) ∷
    (Mtval, next.mtval) ∷
    [])
    h

-- a step that leaves the record h where it is refused
abbrev pub Leaves : Hart → Step → Type 0
Leaves h t = (why : Refusal) → t.answer ≡ Err why → t.hart ≡ h

-- what the trap part's steps are taken on
abbrev pub context_at : List ℕ → List ℕ → VirtContext
context_at c s = record { caps = caps_at c; hart = hart_at s }
