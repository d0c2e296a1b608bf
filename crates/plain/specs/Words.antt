-- The words that registers show: those of the record, those of the capabilities, time and seed, and
-- 0.
use Rattle.std.specs.Prelude.{ℕ}
use Rattle.hart.specs.Words.{get, put}
use Rattle.hart.specs.declared.caps.Caps.{Caps}
use Rattle.hart.specs.declared.record.Hart.{Hart}
use Rattle.hart.specs.declared.record.Host.{Host}
use Rattle.plain.specs.declared.words.Source.{Source}
use Rattle.plain.specs.declared.words.Source.TheVariants.{Record, Misa, Interrupts, Highest, Flags, Mhartid, Mvendorid, Marchid, Mimpid, Mconfigptr, Time, Seed, Zero}

abbrev pub word_of : Caps → Hart → Host → Source → ℕ
word_of c h o (Record w) = get w h
word_of c h o Misa = c.misa
word_of c h o Interrupts = c.interrupts
word_of c h o Highest = c.highest
word_of c h o Flags = c.flags
word_of c h o Mhartid = c.mhartid
word_of c h o Mvendorid = c.mvendorid
word_of c h o Marchid = c.marchid
word_of c h o Mimpid = c.mimpid
word_of c h o Mconfigptr = c.mconfigptr
word_of c h o Time = o.time
word_of c h o Seed = o.seed
word_of c h o Zero = 0

-- the record with a word changed; one that isn't the record's stays
abbrev pub put_word : Source → ℕ → Hart → Hart
put_word (Record w) v h = put w v h
put_word _ v h = h
