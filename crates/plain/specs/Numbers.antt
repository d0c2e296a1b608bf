-- A row's rule and word by numbers, for a table that has these. A number without a rule copies, and
-- one without a word is 0.
use Rattle.std.specs.Prelude.{ℕ, cond, eqb, ltb, get_or}
use Rattle.hart.specs.Words.{words}
use Rattle.hart.specs.declared.record.Word.TheVariants.{Pc}
use Rattle.plain.specs.declared.row.Rule.{Rule}
use Rattle.plain.specs.declared.row.Rule.TheVariants.{Copied, Mpp, Cbie, Dirty, Interrupts, Tvec, Epc, Translation, Pending, Sstatus, Sie, Sip, Inverted, ReadOnly}
use Rattle.plain.specs.declared.words.Source as source
use Rattle.plain.specs.declared.words.Source.TheVariants as word

abbrev pub rule_numbered : ℕ → Rule
rule_numbered n =
    cond (eqb n 1) Mpp
    (cond (eqb n 2) Cbie
    (cond (eqb n 3) Dirty
    (cond (eqb n 4) Interrupts
    (cond (eqb n 5) Tvec
    (cond (eqb n 6) Epc
    (cond (eqb n 7) Translation
    (cond (eqb n 8) Pending
    (cond (eqb n 9) Sstatus
    (cond (eqb n 10) Sie
    (cond (eqb n 11) Sip
    (cond (eqb n 12) Inverted
    (cond (eqb n 13) ReadOnly
    Copied))))))))))))

-- the record's words behind x31 come first, and then those of the capabilities and of the host
abbrev pub source_numbered : ℕ → source.Source
source_numbered n =
    cond (ltb n 28) (word.Record (get_or words n Pc))
    (cond (eqb n 28) word.Misa
    (cond (eqb n 29) word.Interrupts
    (cond (eqb n 30) word.Highest
    (cond (eqb n 31) word.Flags
    (cond (eqb n 32) word.Mhartid
    (cond (eqb n 33) word.Mvendorid
    (cond (eqb n 34) word.Marchid
    (cond (eqb n 35) word.Mimpid
    (cond (eqb n 36) word.Mconfigptr
    (cond (eqb n 37) word.Time
    (cond (eqb n 38) word.Seed
    word.Zero)))))))))))
