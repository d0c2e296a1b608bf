-- `image::word` meets its contract.
use mathlib.Core.Path.{ap, ◌∙◌}
use Prim.Native.Nat.{ℕ, ◌+◌, ◌-◌}
use mathlib.Core.List.{List}
use native.Mathlib.Omega.{arith}
use Rattle.std.proofs.lemmas.Option.{MatchOption-at_some}
use Rattle.image.specs.Word.{word_at}
use Rattle.image.proofs.Words.{word_part, word_of}
use Rattle.image.proofs.word.Goals as goal

pub returns : goal.returns
returns c =
    let a = c.args in
    let part = MatchOption-at_some _ _ _ c.unwrap.ensures c.as_array.ensures.cases in
    c.from_le_bytes.ensures ∙ word_of _ ∙ ap (λ (t : List ℕ). word_at t 0) part.same
    ∙ word_part a.s.now a.at (a.at + 8 - a.at) (omega arith) (omega arith)
