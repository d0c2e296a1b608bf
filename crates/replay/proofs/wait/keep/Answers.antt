-- `replay::wait::keep` meets its contract.
use borrow.Author.Rules.{rules}
use Rattle.replay.proofs.Waits.{kept}
use Rattle.replay.proofs.wait.keep.Goals as goal

pub returns : goal.returns
returns c =
    let a = c.args in
    kept a.rest.now a.n c.requires a.w.now _ _ (search rules) c.put.ensures c.clear.ensures
