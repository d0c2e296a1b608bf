-- `replay::entries::replay_end` meets its contract.
use borrow.Author.Rules.{rules}
use borrow.Author.Tests.{eq-eqb, ne_eqb}
use mathlib.Core.Path.{◌≡◌, sym, ap, ◌∙◌}
use mathlib.Core.Bool.{Bool, true, false, cond}
use lib.Dec.{eqb}
use Rattle.std.specs.Prelude.{Ok, Err}
use Rattle.hart.specs.declared.answer.Refusal.TheVariants.{EntryWaits}
use Rattle.hart.specs.declared.answer.Effect.TheVariants.{Nothing}
use Rattle.lent.specs.Outcome.{outcome_of}
use Rattle.lent.specs.declared.outcome.Outcome.{Outcome}
use Rattle.replay.specs.Replay.{held_in, end_of}
use Rattle.replay.proofs.Tested.{goes}
use Rattle.replay.proofs.entries.replay_end.Goals as goal

-- what the end gives where everything lent is accepted
abbrev ended : Bool → Outcome
ended t = cond t (outcome_of (Ok (0, Nothing))) (outcome_of (Err EntryWaits))

pub returns-then-held-ne0 : goal.returns-then-held-ne0
unfolding end_of
returns-then-held-ne0 c =
    let a = c.args in
    let some : eqb (held_in a.wait.now) 0 ≡ false = ne_eqb _ _ (search rules) in
    sym (ap ended some) ∙ goes (λ (o : Outcome). o) (ended (eqb (held_in a.wait.now) 0)) a.caps.now a.hart.now a.wait.now (search rules) (search rules)

pub returns : goal.returns
unfolding end_of
returns c =
    let a = c.args in
    let none : eqb (held_in a.wait.now) 0 ≡ true = eq-eqb _ _ (search rules) in
    sym (ap ended none) ∙ goes (λ (o : Outcome). o) (ended (eqb (held_in a.wait.now) 0)) a.caps.now a.hart.now a.wait.now (search rules) (search rules)
