-- `lent::images::store_words` meets its contract.
use Rattle.lent.proofs.Views.{hart_stored}
use Rattle.lent.proofs.images.store_words.Goals as goal

pub returns : goal.returns
returns c =
    let a = c.args in
    hart_stored a.s.now _ a.h _ c.requires c.words_of-w.ensures c.store.ensures.stored c.store.ensures.read
