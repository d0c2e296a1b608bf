-- What is found of a write, by the judge's answer and by what its address gives.
use Prim.Native.Nat.{ℕ}
use mathlib.Core.List.{List}
use mathlib.Core.Path.{◌≡◌, refl, sym, ◌∙◌}
use Rattle.std.specs.Prelude.{Result, Ok, Err}
use Rattle.hart.specs.declared.caps.Caps.{Caps}
use Rattle.hart.specs.declared.record.Host.{Host}
use Rattle.hart.specs.declared.answer.Refusal.{Refusal}
use Rattle.csr.specs.Address.{address_of, decode_of}
use Rattle.csr.specs.declared.address.Csr.{Csr}
use Rattle.csr.proofs.Laws.{decoded_is_present}
use Rattle.lent.specs.Images.{caps_at, hart_at}
use Rattle.lent.specs.Inner.{judged}
use Rattle.lent.proofs.Judged.{is_bad, is_good}
use Rattle.explain.specs.Explain.{Explanation, found_at, found_of}

-- what is decoded stands at its address
pub own : (c : Caps) (a : ℕ) (r : Csr) → decode_of c a ≡ Ok r → address_of r ≡ a
own c a r e = (decoded_is_present c a r e).0

-- what the judge refuses is refused, and the rest is x
abbrev pub after : Result (Unit {0}) Refusal → Explanation → Explanation
after (Ok u) x = x
after (Err why) x = Err why

pub found_by : (o : Host) (a v : ℕ) (c s : List ℕ) (x : Explanation) → x ≡ after (judged c s) (found_at (caps_at c) (hart_at s) o a v) → x ≡ found_of o a v c s
unfolding found_of
found_by o a v c s x = go (judged c s) refl
  where
    good : Explanation
    good = found_at (caps_at c) (hart_at s) o a v

    go : (j : Result (Unit {0}) Refusal) → judged c s ≡ j → x ≡ after j good → x ≡ found_of o a v c s
    go (Ok tt) e t = t ∙ sym (is_good c s (λ why. Err why) good e)
    go (Err why) e t = t ∙ sym (is_bad c s (λ why. Err why) good e)
