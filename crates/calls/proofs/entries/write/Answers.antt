-- `calls::entries::write` meets its contract.
use borrow.Author.Rules.{rules}
use mathlib.Core.Path.{refl}
use Rattle.calls.specs.Calls.{Write}
use Rattle.calls.proofs.Goes.{entry_goes}
use Rattle.calls.proofs.entries.write.Goals as goal

pub returns : goal.returns
returns c =
    let a = c.args in
    entry_goes (Write a.address a.value) a.caps.now a.hart.now refl (search rules) _ (search rules) (λ j. search rules) (λ j. search rules) (search rules)
