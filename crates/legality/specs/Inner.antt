-- The code's own notion of legality: no entry's contract rests on it.
use Rattle.std.specs.Prelude.{List, [], ◌∷◌}
use Rattle.hart.specs.declared.record.Word.{Word}
use Rattle.hart.specs.declared.record.Word.TheVariants.{Pc, Mode, Waiting, Mstatus, Mie, Mip, Mtvec, Mcounteren, Mcountinhibit, Menvcfg, Mepc}

-- the words that are tested alike with S and without
abbrev pub alike : List Word
alike = Mode ∷ Waiting ∷ Mstatus ∷ Mie ∷ Mip ∷ Mcountinhibit ∷ Menvcfg ∷ Mcounteren ∷ Mtvec ∷ Pc ∷ Mepc ∷ []
