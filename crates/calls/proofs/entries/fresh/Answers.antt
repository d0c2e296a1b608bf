-- `calls::entries::fresh` meets its contract.
use borrow.Author.Rules.{rules}
use borrow.Author.Tests.{eq-eqb}
use mathlib.Core.Bool.{true}
use mathlib.Core.List.{List}
use mathlib.Core.Path.{◌≡◌, sym, ap, ◌∙◌}
use Prim.Native.Nat.{ℕ}
use lib.ListN.{length}
use Rattle.std.specs.Prelude.{Ok}
use Rattle.rules.specs.Addresses.{is_aligned}
use Rattle.hart.specs.Caps.{has_c}
use Rattle.hart.specs.Fresh.{fresh_of}
use Rattle.hart.specs.Modes.{mode_m}
use Rattle.hart.specs.declared.answer.Effect.TheVariants.{Nothing}
use Rattle.lent.specs.Images.{hart_bytes, caps_at, hart_at, bytes_of, is_caps}
use Rattle.lent.specs.Outcome.{outcome_of}
use Rattle.lent.proofs.Views.{bytes_hart}
use Rattle.calls.specs.Entries.{entry_of, given}
use Rattle.calls.proofs.entries.fresh.Goals as goal

pub returns : goal.returns
unfolding entry_of given
returns c =
    let a = c.args in
    let l = c.start.new.s in
    let legal : is_caps a.caps.now ≡ true = search rules in
    let sized : length a.hart.now ≡ hart_bytes = search rules in
    let aligned : is_aligned (has_c (caps_at a.caps.now)) a.pc ≡ true = search rules in
    let long : length l ≡ hart_bytes = search rules in
    let holds : hart_at l ≡ fresh_of (caps_at a.caps.now) mode_m a.pc = search rules in
    rw (legal, eq-eqb _ _ sized, aligned)
    (ap (λ (k : List ℕ). (outcome_of (Ok (0, Nothing)), k)) (sym (bytes_hart l long (λ j. search rules)) ∙ ap bytes_of holds))
