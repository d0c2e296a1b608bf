-- The code's own notions of the images: no entry's contract rests on them.
use Rattle.std.specs.Prelude.{ℕ, ◌-◌, cond, List, eqb, length, get_or, Result, Ok, Err}
use Rattle.hart.specs.Words.{place_of, hart_of}
use Rattle.hart.specs.Caps.{legal_caps}
use Rattle.hart.specs.declared.answer.Refusal.{Refusal}
use Rattle.hart.specs.declared.answer.Refusal.TheVariants.{BadCaps, BadHart}
use Rattle.hart.specs.declared.caps.Caps.{Caps}
use Rattle.hart.specs.declared.record.Hart.{Hart}
use Rattle.lent.specs.Images.{caps_bytes, caps_at, is_hart}

-- the record of x0 to x31 and the words behind them
abbrev pub hart_from : List ℕ → List ℕ → Hart
hart_from xs ws = hart_of xs (λ w. get_or ws (place_of w - 32) 0)

-- whether two images are refused, and why
unfoldable pub judged_under : Caps → List ℕ → Result (Unit {0}) Refusal
judged_under c s = cond (legal_caps c) (cond (is_hart c s) (Ok tt) (Err BadHart)) (Err BadCaps)

unfoldable pub judged : List ℕ → List ℕ → Result (Unit {0}) Refusal
judged c s = cond (eqb (length c) caps_bytes) (judged_under (caps_at c) s) (Err BadCaps)
