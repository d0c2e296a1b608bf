-- `calls::steps::store` meets its contract.
use Rattle.calls.proofs.steps.store.Goals as goal

pub returns : goal.returns
returns c =
    rw (c.put_word-7.ensures, c.put_word-6.ensures, c.put_word-5.ensures, c.put_word-4.ensures, c.put_word-3.ensures, c.put_word-2.ensures, c.put_word.ensures) c.requires.differs
