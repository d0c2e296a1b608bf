-- `registers::word_in` meets its contract.
use borrow.Author.Tests.{lt-ltb, le-ltb}
use Rattle.registers.proofs.word_in.Goals as goal

pub returns-then-n-lt-RECORD : goal.returns-then-n-lt-RECORD
returns-then-n-lt-RECORD c =
    rw (lt-ltb _ 32 c.if-n-lt-RECORD.true) c.word.ensures

pub returns-else-n-lt-RECORD : goal.returns-else-n-lt-RECORD
returns-else-n-lt-RECORD c =
    rw (le-ltb _ 32 c.if-n-lt-RECORD.false) c.word-else-n-lt-RECORD.ensures
