-- `explain::reasons::Reasons::reason` meets its contract.
use borrow.Author.Rules.{rules}
use mathlib.Core.Path.{◌≡◌, ap, ◌∙◌}
use Rattle.bits.specs.Word.{bit}
use Rattle.explain.specs.Reason.{number_of, reasons, word_of}
use Rattle.explain.proofs.Given.{number_first}
use Rattle.explain.proofs.reasons.Reasons.reason.Goals as goal

pub returns : goal.returns
returns c =
    let is : c.map_or.result ≡ number_of c.first.result = search rules in
    is ∙ ap number_of c.first.ensures ∙ number_first (λ k. bit c.args.i (word_of c.args.self k)) reasons
