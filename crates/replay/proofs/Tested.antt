-- What is lent is refused, or a call goes: by the judge's answer, and the waiting bytes.
use mathlib.Core.Path.{◌≡◌, refl, sym, ap, ◌∙◌}
use mathlib.Core.Bool.{Bool, true, false, cond, ◌&&◌}
use mathlib.Core.List.{List}
use Prim.Native.Nat.{ℕ, ◌<◌}
use lib.Dec.{eqb}
use lib.ListN.{length}
use borrow.Author.Tests.{eqb-true, ltb-true}
use Rattle.std.specs.Prelude.{Ok, Err}
use Rattle.bits.proofs.Bools.{left, right}
use Rattle.hart.specs.declared.answer.Refusal.{Refusal}
use Rattle.hart.specs.declared.answer.Refusal.TheVariants.{BadCaps, BadHart}
use Rattle.lent.specs.Images.{caps_at, is_caps, is_hart}
use Rattle.lent.specs.Inner.{judged}
use Rattle.lent.specs.Outcome.{outcome_of}
use Rattle.lent.specs.declared.outcome.Outcome.{Outcome}
use Rattle.lent.proofs.Judged.{tested, is_bad, is_good}
use Rattle.replay.specs.Log.{entry_bytes}
use Rattle.replay.specs.Replay.{held_in, is_wait, lent, Given, replay_of, end_of}

-- waiting bytes that are accepted
pub is_wait_lem : (w : List ℕ) → is_wait w ≡ true → (length w ≡ entry_bytes) × (held_in w < entry_bytes)
unfolding is_wait
is_wait_lem w e = (eqb-true (length w) entry_bytes (left (eqb (length w) entry_bytes) _ e), ltb-true (held_in w) entry_bytes (right (eqb (length w) entry_bytes) _ e))

-- a call that gives f of its answer where it is refused, and else `go`
module _ {A : Type 0} (f : Outcome → A) (go : A) (c s w : List ℕ) where
  abbrev refuse : Refusal → A
  refuse why = f (outcome_of (Err why))

  abbrev good : A
  good = cond (is_wait w) go (refuse BadHart)

  by_images : lent c s w refuse go ≡ tested c s refuse good
  by_images = both (is_caps c) (is_hart (caps_at c) s) (is_wait w)
    where
      both : (a b t : Bool) → cond a (cond (b && t) go (refuse BadHart)) (refuse BadCaps) ≡ cond a (cond b (cond t go (refuse BadHart)) (refuse BadHart)) (refuse BadCaps)
      both true true t = refl
      both true false t = refl
      both false b t = refl

  images_refused : {why : Refusal} → judged c s ≡ Err why → f (outcome_of (Err why)) ≡ lent c s w refuse go
  images_refused e = sym (by_images ∙ is_bad c s refuse good e)

  module _ (z : judged c s ≡ Ok tt) where
    wait_refused : is_wait w ≡ false → f (outcome_of (Err BadHart)) ≡ lent c s w refuse go
    wait_refused e = sym (by_images ∙ is_good c s refuse good z ∙ ap (λ (t : Bool). cond t go (refuse BadHart)) e)

    pub goes : is_wait w ≡ true → go ≡ lent c s w refuse go
    goes e = sym (by_images ∙ is_good c s refuse good z ∙ ap (λ (t : Bool). cond t go (refuse BadHart)) e)

-- the two calls, where the judge refuses, and where the waiting bytes are refused
module _ (c s w : List ℕ) where
  module _ (f out : List ℕ) where
    pub replay_refused : {why : Refusal} → judged c s ≡ Err why → ◌≡◌ {A = Given} (outcome_of (Err why), s, w, out) (replay_of c s w f out)
    unfolding replay_of
    replay_refused = images_refused (λ (o : Outcome). (o, s, w, out)) _ c s w

    pub replay_unread : judged c s ≡ Ok tt → is_wait w ≡ false → ◌≡◌ {A = Given} (outcome_of (Err BadHart), s, w, out) (replay_of c s w f out)
    unfolding replay_of
    replay_unread = wait_refused (λ (o : Outcome). (o, s, w, out)) _ c s w

  pub end_refused : {why : Refusal} → judged c s ≡ Err why → outcome_of (Err why) ≡ end_of c s w
  unfolding end_of
  end_refused = images_refused (λ (o : Outcome). o) _ c s w

  pub end_unread : judged c s ≡ Ok tt → is_wait w ≡ false → outcome_of (Err BadHart) ≡ end_of c s w
  unfolding end_of
  end_unread = wait_refused (λ (o : Outcome). o) _ c s w
